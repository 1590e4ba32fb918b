-- Where a bench stands after its run was put on a sink.
use Rattle.std.specs.Prelude.{◌≡◌, ◌⊎◌, ℤ, List}
use Rattle.std.specs.Borrow.{Bor}
use Rattle.burr_state.specs.declared.effect.Motion.{Motion}
use Rattle.burr_state.specs.declared.effect.Mode.TheVariants.{Trapped}
use Rattle.burr_state.specs.declared.effect.Closing.{Closing}
use Rattle.burr_state.specs.declared.effect.Closing.TheVariants as closings
use Rattle.burr_state.specs.Rules.Bench.{BenchState}
use Rattle.burr_state.specs.Rules.Calls.{Calls, ClosesAt}
use Rattle.burr_state.specs.Views.Benches.{Benched, setup_of, IsSameRun}
use Rattle.burr_runs.specs.declared.text_runs.Outcome.{Outcome}
use Rattle.std.specs.declared.ops.ControlFlow.{ControlFlow}
use Rattle.std.specs.declared.ops.ControlFlow.TheVariants as turns
use Rattle.burr_runs.specs.Rules.Output.{outcome_of}

-- calls of the run with these answers have led the bench to where it stands, and those are left
pub record HasComeOn (old : Benched) (answers : List ℤ) (new : Benched) (left : List ℤ)
    : Type 0 where
  pub same : IsSameRun old new
  pub motions : List Motion
  pub calls : Calls (setup_of old) old.program.budget old.state answers motions new.state left

-- the state in which a run is left that closes in this way at a state: a trap changes only the mode
abbrev pub closed_state : Closing → BenchState → BenchState
closed_state closings.Apart s = s
closed_state (closings.Waiting low high) s = s
closed_state (closings.Trapped trap procedure pc) s = record s { mode = Trapped trap }
closed_state closings.Stopped s = s

-- the bench stands at the last state of the run with these answers, which closes with this outcome
pub record IsAtRunEnd (old : Benched) (answers : List ℤ) (new : Benched) (outcome : Outcome)
    : Type 0 where
  pub same : IsSameRun old new
  pub motions : List Motion
  pub last : BenchState
  pub left : List ℤ
  pub closing : Closing
  pub calls : Calls (setup_of old) old.program.budget old.state answers motions last left
  pub closes : ClosesAt (setup_of old) old.program.budget last left closing
  pub stands : new.state ≡ closed_state closing last
  pub is : outcome ≡ outcome_of closing

-- the bench stands at some state of the run with these answers: on its way, or at its end
abbrev pub IsInRun : Benched → List ℤ → Benched → Type 0
IsInRun old answers new =
    ((left : List ℤ) × HasComeOn old answers new left)
    ⊎ ((outcome : Outcome) × IsAtRunEnd old answers new outcome)

-- Where a turn leaves the bench: calls have led there, and the run goes on with those answers left;
-- or the run closes in this way, and the bench stands at its end.
abbrev pub TurnStands : Benched → List ℤ → Benched
    → ControlFlow Closing (Bor (List ℤ)) → Type 0
TurnStands old answers new (turns.Continue left) = HasComeOn old answers new left.now
TurnStands old answers new (turns.Break closing) =
    IsAtRunEnd old answers new (outcome_of closing)
