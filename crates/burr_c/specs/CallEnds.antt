-- What the calls print for lines of commands and for a plan text, and with which status.
use Rattle.std.specs.Prelude.{◌≡◌, ℕ, List, Some}
use Rattle.burr_judge.specs.PlanEnds.{Ends, PlanTextEnds}
use Rattle.burr_judge.specs.StepEnds.{Left, StepTextEnds}
use Rattle.burr_judge.specs.declared.status.Status.TheVariants.{Done}

-- lines of commands are given: as a source of them ends, which is read up to `quit` or to its end
abbrev pub StepsEnd : List ℕ → List ℕ → List ℕ → Ends
StepsEnd commands text bytes output status =
    (left : Left) × (left.old ≡ Some commands) × StepTextEnds left text bytes output status

-- a plan text is assembled: its first fault is refused, or what is given is the container of its plan
abbrev pub AssemblingEnds : List ℕ → Ends
AssemblingEnds text = PlanTextEnds text (λ bytes output status. (output ≡ bytes) × (status ≡ Done))
