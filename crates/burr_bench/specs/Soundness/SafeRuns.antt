-- Runs that close well: apart within the budget, or waiting for an answer before it.
use Rattle.std.specs.Prelude.{◌≡◌, ℕ, ◌≤◌, ◌<◌, ℤ, List, []}
use Rattle.burr_code.specs.Places.{AllApart}
use Rattle.burr_state.specs.declared.effect.Closing.{Closing}
use Rattle.burr_state.specs.declared.effect.Closing.TheVariants as closings
use Rattle.burr_state.specs.declared.effect.Mode.TheVariants.{Running, Ended}
use Rattle.burr_state.specs.declared.effect.Motion.{Motion}
use Rattle.burr_state.specs.Rules.Bench.{BenchState, Setup}
use Rattle.burr_state.specs.Rules.Calls.{Calls}
use Rattle.burr_state.specs.Rules.Step.{AsksFor}

-- The run has ended within its budget, with every piece apart.
pub record HasEnded (budget : ℕ) (s : BenchState) : Type 0 where
  pub mode : s.mode ≡ Ended
  pub apart : AllApart s.places
  pub within : s.steps ≤ budget

-- Where a run closes well, with these answers left: apart, it has ended with every piece apart,
-- within the budget; waiting, it has used all answers, stands at a question, and has made fewer
-- steps than the budget. It is never trapped, and never stopped.
abbrev pub ClosesWell : Setup → ℕ → BenchState → List ℤ → Closing → Type 0
ClosesWell setup budget last left closings.Apart =
    (last.mode ≡ Ended) × AllApart last.places × (last.steps ≤ budget)
ClosesWell setup budget last left (closings.Waiting low high) =
    (last.mode ≡ Running) × (left ≡ []) × AsksFor setup last low high × (last.steps < budget)
ClosesWell setup budget last left (closings.Trapped trap procedure pc) = ⊥
ClosesWell setup budget last left closings.Stopped = ⊥

-- A run from a state with these answers, which makes these motions, has made this many steps at its
-- end and closes in this way, is safe: its calls come to a last state, where it closes well.
pub record IsSafeRun (setup : Setup) (budget : ℕ) (s : BenchState) (answers : List ℤ)
    (motions : List Motion) (steps : ℕ) (closing : Closing) : Type 0 where
  pub last : BenchState
  pub left : List ℤ
  pub calls : Calls setup budget s answers motions last left
  pub counted : steps ≡ last.steps
  pub closes : ClosesWell setup budget last left closing
