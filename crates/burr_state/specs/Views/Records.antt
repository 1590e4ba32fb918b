-- What the code's records of steps stand for, and which states a bench goes back to.
use Rattle.std.specs.Prelude.{◌<◌, ℕ, List, length, reverse}
use Rattle.burr_code.specs.declared.limits.TheConstants.{MOST_PROCEDURES}
use Rattle.burr_state.specs.declared.undo.Change.{Change as ChangeIn}
use Rattle.burr_state.specs.declared.undo.Change.TheVariants as changes
use Rattle.burr_state.specs.Rules.Bench.{BenchProcedure, BenchState}
use Rattle.burr_state.specs.Rules.Undo.{Change, Nothing, Numbers, Choice, Places, Deeper, Higher, Undo}
use Rattle.burr_state.specs.Views.Programs.{FitsProgram}
use Rattle.burr_state.specs.Views.StateViews.{IsOrderly}

-- what the code keeps of a change; its operands are the bottom first
abbrev pub kept_change : ChangeIn → Change
kept_change changes.Nothing = Nothing
kept_change (changes.Numbers slots operands) = Numbers slots (reverse operands.items)
kept_change (changes.Choice tray grip) = Choice tray grip
kept_change (changes.Places places grip) = Places places.items grip
kept_change (changes.Deeper operands) = Deeper (reverse operands.items)
kept_change (changes.Higher ended results) = Higher ended results

-- a record with these parts
abbrev pub undo : ℕ → Change → Undo
undo pc change = record { pc = pc; change = change }

-- what holds of each state of a bench that runs these procedures
pub record IsWorkState (procedures : List BenchProcedure) (s : BenchState) : Type 0 where
  pub orderly : IsOrderly s
  pub fits : FitsProgram procedures s
  -- each of them waits once at most, and one runs
  pub few : length s.callers < MOST_PROCEDURES
