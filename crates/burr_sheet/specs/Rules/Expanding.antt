-- Texts that are the lines of motions, and those motions.
use Rattle.std.specs.Prelude.{◌≡◌, ◌≤◌, ℕ, List, length, All}
use Rattle.burr_code.specs.declared.limits.TheConstants.{MOST_BUDGET}
use Rattle.burr_state.specs.declared.effect.Motion.{Motion}
use Rattle.burr_state.specs.Rules.Motions.{IsMotionOf}
use Rattle.burr_sheet.specs.Rules.SheetText.{motion_lines}

-- The text is the lines of these motions, of pieces with these names; they are no more than a run
-- makes.
pub record AreLinesOf (names : List (List ℕ)) (text : List ℕ)
    (motions : List Motion) : Type 0 where
  pub lines : text ≡ motion_lines names motions
  pub each : All (IsMotionOf (length names)) motions
  pub few : length motions ≤ MOST_BUDGET
