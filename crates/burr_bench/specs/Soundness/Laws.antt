-- The soundness of the verifier: a plan that it accepts runs safely.
use Rattle.std.specs.Prelude.{ℕ, ◌≤◌, ℤ, List, length}
use Rattle.burr_voxels.specs.declared.cell.Cell.{Cell}
use Rattle.burr_frames.specs.Rules.FramedPlans.{FramedPlan}
use Rattle.burr_verify.specs.Views.FromContainers.{IsFromContainer}
use Rattle.burr_verify.specs.Rules.WellFramed.{IsWellFramed}
use Rattle.burr_state.specs.declared.effect.Closing.{Closing}
use Rattle.burr_state.specs.declared.effect.Motion.{Motion}
use Rattle.burr_state.specs.Rules.Bench.{start}
use Rattle.burr_bench.specs.Soundness.Framing.{framed_setup}
use Rattle.burr_state.specs.Rules.Run.{Run}
use Rattle.burr_state.specs.Laws.RunLaws.{RunOf}
use Rattle.burr_bench.specs.Soundness.SafeRuns.{IsSafeRun}
use Rattle.burr_state.specs.Laws.SpaceLaws.{AreDisjoint}

-- with whatever answers, each run of the plan from the start is safe
abbrev pub RunsSafely : List (List Cell) → FramedPlan → Type 0
RunsSafely homes plan =
    (answers : List ℤ) (motions : List Motion) (steps : ℕ) (closing : Closing)
    → Run (framed_setup plan homes) plan.budget (start (framed_setup plan homes)) answers motions
    steps closing
    → IsSafeRun (framed_setup plan homes) plan.budget (start (framed_setup plan homes)) answers
    motions steps closing

-- with whatever answers, the plan has a run from the start
abbrev pub HasRuns : List (List Cell) → FramedPlan → Type 0
HasRuns homes plan =
    (answers : List ℤ)
    → RunOf (framed_setup plan homes) plan.budget (start (framed_setup plan homes)) answers

-- Of 2 to 32 pieces whose homes do not overlap: each run of a plan that is from a container and is
-- well framed for them is safe.
abbrev pub VerifierIsSound : Type 0
VerifierIsSound =
    (name : List ℕ) (homes : List (List Cell)) (plan : FramedPlan)
    → IsFromContainer plan → IsWellFramed name homes plan
    → AreDisjoint homes → 2 ≤ length homes → length homes ≤ 32
    → RunsSafely homes plan

-- And runs there are.
abbrev pub AcceptedHasRuns : Type 0
AcceptedHasRuns =
    (name : List ℕ) (homes : List (List Cell)) (plan : FramedPlan)
    → IsFromContainer plan → IsWellFramed name homes plan
    → AreDisjoint homes → 2 ≤ length homes → length homes ≤ 32
    → HasRuns homes plan
