-- A bench that runs an accepted plan can take back each of its steps.
use Rattle.std.specs.Prelude.{◌≡◌, ℤ, Option, Ok}
use Rattle.burr_state.specs.declared.effect.Motion.{Motion}
use Rattle.burr_state.specs.declared.effect.Progress.TheVariants as progress
use Rattle.burr_state.specs.Rules.Bench.{BenchState}
use Rattle.burr_state.specs.Views.Benches.{Benched, setup_of, in_state}
use Rattle.burr_state.specs.Rules.Step.{Called}
use Rattle.burr_state.specs.Rules.Undo.{Undo, laid_over, IsRecordOf}
use Rattle.burr_bench.specs.Soundness.Machine.{IsSafeBench}

-- The record's old values laid over the bench give a safe one whose step, with some answer or
-- none, gives this bench and this record.
pub record IsUndoOf (b : Benched) (u : Undo) : Type 0 where
  pub safe : IsSafeBench (in_state (laid_over u b.state) b)
  pub answer : Option ℤ
  pub motion : Option Motion
  pub steps : Called (setup_of b) (laid_over u b.state) answer (Ok (progress.Went motion)) b.state
  pub is_record : IsRecordOf (setup_of b) (laid_over u b.state) u

-- a safe bench that makes a step has a record, and after the step it is one that undoes it
abbrev pub StepIsRecorded : Type 0
StepIsRecorded =
    (b : Benched) (answer : Option ℤ) (motion : Option Motion) (new : BenchState)
    → IsSafeBench b → Called (setup_of b) b.state answer (Ok (progress.Went motion)) new
    → (u : Undo) × IsUndoOf (in_state new b) u × (laid_over u new ≡ b.state)

-- and any record of that step is one
abbrev pub EachRecordUndoes : Type 0
EachRecordUndoes =
    (b : Benched) (answer : Option ℤ) (motion : Option Motion) (new : BenchState) (u : Undo)
    → IsSafeBench b → Called (setup_of b) b.state answer (Ok (progress.Went motion)) new
    → IsRecordOf (setup_of b) b.state u
    → IsUndoOf (in_state new b) u × (laid_over u new ≡ b.state)
