-- In which trays pieces lie, and which motions they make, along each run.
use Rattle.std.specs.Prelude.{◌≤◌, ◌<◌, ◌+◌, ◌^◌, ℕ, ℤ, List, length, Option, Some, Ok}
use Rattle.burr_code.specs.Places.{LiesIn}
use Rattle.burr_state.specs.declared.effect.Motion.{Motion}
use Rattle.burr_state.specs.declared.effect.Closing.{Closing}
use Rattle.burr_state.specs.declared.effect.Progress.TheVariants as progress
use Rattle.burr_state.specs.Rules.Bench.{BenchState, Setup}
use Rattle.burr_state.specs.Rules.Motions.{IsMotionOf}
use Rattle.burr_state.specs.Rules.Run.{Run}
use Rattle.burr_state.specs.Rules.Step.{Called}
use Rattle.burr_state.specs.Laws.RunLaws.{IsUnderWay}
use Rattle.burr_state.specs.Laws.SpaceLaws.{IsReached}

-- the current tray is one of the 32, and so is that of each piece that is not apart
pub record IsInTrays (s : BenchState) : Type 0 where
  pub current : s.tray < 32
  pub pieces : (p tray : ℕ) → LiesIn s.places p tray → tray < 32

-- it is so in each state that a run from the start comes to
abbrev pub TraysAreFew : Type 0
TraysAreFew = (setup : Setup) (s : BenchState) → IsReached setup s → IsInTrays s

-- a motion that a call tells of there is one that the pieces can make
abbrev pub MotionsAreOfPieces : Type 0
MotionsAreOfPieces =
    (setup : Setup) (s new : BenchState) (answer : Option ℤ) (motion : Motion)
    → IsReached setup s → Called setup s answer (Ok (progress.Went (Some motion))) new
    → IsMotionOf (length setup.homes) motion

-- a run makes a motion a step at most, and no more steps than its budget
abbrev pub MotionsAreWithinBudget : Type 0
MotionsAreWithinBudget =
    (setup : Setup) (budget : ℕ) (s : BenchState) (answers : List ℤ) (motions : List Motion)
    (steps : ℕ) (closing : Closing)
    → budget < 2 ^ 64 → IsUnderWay budget s → Run setup budget s answers motions steps closing
    → (s.steps + length motions ≤ steps) × (steps ≤ budget)
