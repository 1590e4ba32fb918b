-- What the parts of a draft promise each other.
use Rattle.std.specs.Prelude.{◌≡◌, ◌≢◌, ◌<◌, ◌++◌, List, ℕ, [], codes}
use Rattle.burr_code.specs.declared.limits.TheConstants.{TRAYS}
use Rattle.burr_container.specs.Rules.Plans.{Plan}
use Rattle.burr_container.specs.Views.Containers.{IsContainer}
use Rattle.burr_runs.specs.declared.text_runs.Outcome.TheVariants.{Apart}
use Rattle.burr_runs.specs.Rules.Headline.{IsSafeSheetOf}
use Rattle.burr_state.specs.declared.effect.Motion.{Motion}
use Rattle.burr_verify.specs.Rules.Accepting.{Judged}
use Rattle.burr_from_sheet.specs.declared.check.SheetFault.{SheetFault}
use Rattle.burr_from_sheet.specs.declared.check.SheetFault.TheVariants.{Line, TooLong, Refused, Differs, Memory}

-- the group of a motion may be gripped, and its tray is one of the bench
pub record MayBeMade (m : Motion) : Type 0 where
  pub some : m.group ≢ 0
  pub tray : m.tray < TRAYS

-- a fault of what was drafted, and not of the move lines
abbrev pub IsOfDraft : SheetFault → Type 0
IsOfDraft (Line n) = ⊥
IsOfDraft (TooLong n) = Unit {0}
IsOfDraft (Refused draft) = Unit {0}
IsOfDraft (Differs n) = Unit {0}
IsOfDraft Memory = Unit {0}

-- the sheet is these lines, and then its levels
abbrev pub IsSheetWith : List ℕ → List ℕ → Type 0
IsSheetWith lines sheet = (closing : List ℕ) × (sheet ≡ lines ++ (codes "levels " ++ closing))

-- Without answers the container's plan takes all pieces apart, and the sheet of that run is these
-- lines, and then its levels.
abbrev pub RunsAs : Judged → List ℕ → Type 0
RunsAs j lines =
    (p : Plan) × IsContainer j.container p × (sheet : List ℕ)
    × IsSafeSheetOf j.assembly p [] sheet Apart × IsSheetWith lines sheet
