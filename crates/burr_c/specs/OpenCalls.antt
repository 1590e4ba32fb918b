-- What the calls that open a run leave in their handle.
use Rattle.std.specs.Prelude.{◌≡◌, ◌≢◌, ◌⊎◌, ℕ, List, [], Option, None, Some}
use Rattle.burr_judge.specs.OpenEnds.{Beginnings, IsOpened}
use Rattle.burr_judge.specs.PlanEnds.{Ends}
use Rattle.burr_judge.specs.declared.status.Status.{Status}
use Rattle.burr_judge.specs.declared.status.Status.TheVariants.{Done, Refused}
use Rattle.burr_c.specs.declared.handle.KeptRun.{KeptRun}

-- nothing is printed
abbrev pub NothingEnds : Ends
NothingEnds output status = (output ≡ []) × (status ≡ Done)

-- a run of the accepted plan is kept, and begins
abbrev pub Keeps : {Run : Type 0} → Beginnings Run → List ℕ → List ℕ → Option Run → Type 0
Keeps {Run} Begins text bytes place =
    (run : Run) × (place ≡ Some run) × IsOpened Begins text bytes run

-- a run is kept if the status is `Done`, and none if something is refused
abbrev pub Opens : {Run : Type 0} → Beginnings Run → List ℕ → List ℕ → Status → Option Run → Type 0
Opens Begins text bytes status place =
    ((status ≡ Refused) × (place ≡ None)) ⊎ ((status ≡ Done) × Keeps Begins text bytes place)

-- a run is kept if the call returns 0, and none if it returns another number
abbrev pub OpensAs : Beginnings KeptRun → List ℕ → List ℕ → ℕ → Option KeptRun → Type 0
OpensAs Begins text bytes code place =
    ((code ≡ 0) × Keeps Begins text bytes place) ⊎ ((code ≢ 0) × (place ≡ None))
