-- A run of the bench with a budget and a list of answers.
use Rattle.std.specs.Prelude.{◌≡◌, ◌≢◌, ℕ, ℤ, List, [], ◌∷◌, ◌++◌, Option}
use Rattle.std.specs.Option.{option_to_list}
use Rattle.burr_state.specs.declared.effect.Trap.{Trap}
use Rattle.burr_state.specs.declared.effect.Motion.{Motion}
use Rattle.burr_state.specs.declared.effect.Closing.{Closing}
use Rattle.burr_state.specs.declared.effect.Closing.TheVariants as closings
use Rattle.burr_state.specs.declared.effect.Mode.TheVariants.{Running, Ended}
use Rattle.burr_state.specs.Rules.Bench.{BenchState, Setup}
use Rattle.burr_state.specs.Rules.Next.{Goes, Asks, Traps}
use Rattle.burr_state.specs.Rules.Step.{NextIs, TakesAnswer}
use Rattle.burr_state.specs.Rules.Questions.{Fits}

-- the state runs, and its budget is not used up
pub record IsGoing (budget : ℕ) (s : BenchState) : Type 0 where
  pub running : s.mode ≡ Running
  pub within : s.steps ≢ budget

-- From a state, with these answers left, a run makes these motions and closes in this way, with
-- this many steps made in all.
pub data Run (setup : Setup) (budget : ℕ) : BenchState → List ℤ → List Motion → ℕ → Closing
    → Type 0 where
  ends : (s : BenchState) (answers : List ℤ) → s.mode ≡ Ended
      → Run setup budget s answers [] s.steps closings.Apart
  stops : (s : BenchState) (answers : List ℤ) → s.mode ≡ Running → s.steps ≡ budget
      → Run setup budget s answers [] s.steps closings.Stopped
  traps : (s : BenchState) (answers : List ℤ) (trap : Trap)
      → IsGoing budget s → NextIs setup s (Traps trap)
      → Run setup budget s answers [] s.steps
      (closings.Trapped trap s.running.procedure s.running.pc)
  waits : (s : BenchState) (low high : ℤ)
      → IsGoing budget s → NextIs setup s (Asks low high)
      → Run setup budget s [] [] s.steps (closings.Waiting low high)
  passes : (s : BenchState) (low high answer : ℤ) (answers : List ℤ)
      (motions : List Motion) (steps : ℕ) (closing : Closing)
      → IsGoing budget s → NextIs setup s (Asks low high) → (¬ Fits low high answer)
      → Run setup budget s answers motions steps closing
      → Run setup budget s (answer ∷ answers) motions steps closing
  takes : (s new : BenchState) (answer : ℤ) (answers : List ℤ)
      (motions : List Motion) (steps : ℕ) (closing : Closing)
      → IsGoing budget s → TakesAnswer setup s answer new
      → Run setup budget new answers motions steps closing
      → Run setup budget s (answer ∷ answers) motions steps closing
  goes : (s new : BenchState) (motion : Option Motion) (answers : List ℤ)
      (motions : List Motion) (steps : ℕ) (closing : Closing)
      → IsGoing budget s → NextIs setup s (Goes new motion)
      → Run setup budget new answers motions steps closing
      → Run setup budget s answers (option_to_list motion ++ motions) steps closing
