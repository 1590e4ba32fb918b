-- A run as calls of the bench, one after the other, and where it comes to an end.
use Rattle.std.specs.Prelude.{◌≡◌, ℕ, ℤ, List, [], ◌∷◌, ◌++◌, Option, Some, None, Ok, Err}
use Rattle.std.specs.Option.{option_to_list}
use Rattle.burr_state.specs.declared.effect.Mode.TheVariants.{Running, Ended}
use Rattle.burr_state.specs.declared.effect.Motion.{Motion}
use Rattle.burr_state.specs.declared.effect.Progress.{Progress}
use Rattle.burr_state.specs.declared.effect.Progress.TheVariants as progress
use Rattle.burr_state.specs.declared.effect.Closing.{Closing}
use Rattle.burr_state.specs.declared.effect.Closing.TheVariants as closings
use Rattle.burr_state.specs.Rules.Bench.{BenchState, Setup}
use Rattle.burr_state.specs.Rules.Step.{Called}
use Rattle.burr_state.specs.Rules.Run.{IsGoing}

-- Calls of the bench while it is going, each without an answer, and again with the next answer
-- where it asks: from a state with these answers left they make these motions, and come to a state
-- with those left.
pub data Calls (setup : Setup) (budget : ℕ)
    : BenchState → List ℤ → List Motion → BenchState → List ℤ → Type 0 where
  begun : (s : BenchState) (answers : List ℤ) → Calls setup budget s answers [] s answers
  went : (s new last : BenchState) (motion : Option Motion) (answers left : List ℤ)
      (motions : List Motion)
      → IsGoing budget s → Called setup s None (Ok (progress.Went motion)) new
      → Calls setup budget new answers motions last left
      → Calls setup budget s answers (option_to_list motion ++ motions) last left
  answered : (s new last : BenchState) (low high answer : ℤ) (told : Progress)
      (answers left : List ℤ) (motions : List Motion)
      → IsGoing budget s → Called setup s None (Ok (progress.Asks low high)) s
      → Called setup s (Some answer) (Ok told) new
      → Calls setup budget new answers motions last left
      → Calls setup budget s (answer ∷ answers) motions last left

-- How a run closes that has come to a state, with these answers left: it has ended, or a call asks
-- and no answer is left, or a call tells of a trap at the instruction where it stands, or the
-- budget is used up.
abbrev pub ClosesAt : Setup → ℕ → BenchState → List ℤ → Closing → Type 0
ClosesAt setup budget last left closings.Apart = last.mode ≡ Ended
ClosesAt setup budget last left (closings.Waiting low high) =
    IsGoing budget last × Called setup last None (Ok (progress.Asks low high)) last × (left ≡ [])
ClosesAt setup budget last left (closings.Trapped trap procedure pc) =
    IsGoing budget last × ((new : BenchState) × Called setup last None (Err trap) new)
    × (procedure ≡ last.running.procedure) × (pc ≡ last.running.pc)
ClosesAt setup budget last left closings.Stopped = (last.mode ≡ Running) × (last.steps ≡ budget)

-- Calls that make these motions, and come to a state with this many steps made, at which a run
-- closes in this way.
pub record CallsTo (setup : Setup) (budget : ℕ) (s : BenchState) (answers : List ℤ)
    (motions : List Motion) (steps : ℕ) (closing : Closing) : Type 0 where
  pub last : BenchState
  pub left : List ℤ
  pub calls : Calls setup budget s answers motions last left
  pub counted : steps ≡ last.steps
  pub closes : ClosesAt setup budget last left closing
