-- The soundness of the verifier.
use Rattle.std.proofs.Common.{ℕ, List, ◌<◌, ◌^◌, ◌-◌, refl, arith, inl}
use Rattle.burr_voxels.specs.declared.cell.Cell.{Cell}
use Rattle.burr_frames.specs.Rules.FramedPlans.{FramedPlan}
use Rattle.burr_frames.proofs.Common.Tidy.{frame_is_tidy}
use Rattle.burr_verify.specs.Rules.WellFramed.{IsWellFramed}
use Rattle.burr_verify.specs.Views.FromContainers.{IsFromContainer}
use Rattle.burr_state.specs.Rules.Bench.{start}
use Rattle.burr_bench.specs.Soundness.Framing.{framed_setup}
use Rattle.burr_bench.specs.Soundness.Invariant.{IsSafeState}
use Rattle.burr_bench.specs.Soundness.Laws.{VerifierIsSound, AcceptedHasRuns}
use Rattle.burr_state.proofs.Common.SomeRun.{some_result}
use Rattle.burr_bench.proofs.Soundness.Carried.{carries}
use Rattle.burr_bench.proofs.Soundness.Start.{has_framing, start_is_safe}
use Rattle.burr_bench.proofs.Soundness.StepOutcomes.{Carries}
use Rattle.burr_bench.proofs.Soundness.Runs.{safe_run}

-- what steps of a well framed plan carry on
pub framed_carries : (name : List ℕ) (homes : List (List Cell)) (plan : FramedPlan) → IsFromContainer plan
    → IsWellFramed name homes plan → Carries (framed_setup plan homes) plan.budget (IsSafeState homes plan)
framed_carries name homes plan given framed =
    carries homes plan (has_framing name homes plan given framed)
    (λ n here is pc f labelled. frame_is_tidy f (given.eight n here is pc f labelled) (given.own n here is pc f labelled))

-- Each run of a plan of a container that is well framed is safe.
pub verifier_is_sound : VerifierIsSound
verifier_is_sound name homes plan given framed disjoint two few answers motions steps closing run =
    safe_run (framed_setup plan homes) plan.budget (IsSafeState homes plan) (framed_carries name homes plan given framed)
    (start (framed_setup plan homes)) answers motions steps closing (start_is_safe name homes plan given framed disjoint two) run

countable : (budget : ℕ) → budget < 2 ^ 64 - 1 → budget < 2 ^ 64
countable budget below = omega arith

-- With any answers it has a run.
pub accepted_has_runs : AcceptedHasRuns
accepted_has_runs name homes plan given framed disjoint two few answers =
    some_result (framed_setup plan homes) plan.budget (start (framed_setup plan homes)) answers
    (countable plan.budget given.budget) (record { mode = inl refl; within = omega arith })
