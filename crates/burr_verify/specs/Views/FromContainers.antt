-- What containers promise of a plan.
use Rattle.std.specs.Prelude.{◌≡◌, ℕ, suc, ◌<◌, ◌≤◌, ◌-◌, ◌^◌, length, None, Some, slice_get}
use Rattle.burr_container.specs.Rules.Plans.{Frame}
use Rattle.burr_frames.specs.Rules.FramedPlans.{FramedExit, FramedProcedure, FramedPlan}
use Rattle.burr_frames.specs.Views.Over.{IsWellScopedFrame}
use Rattle.burr_verify.specs.Rules.Pass.{AllLaidOut}
use Rattle.burr_verify.specs.Rules.WellFramed.{IsLabelled}

pub record IsFromContainer (plan : FramedPlan) : Type 0 where
  -- labels stand at rising places of the code, the first at 0
  pub laid_out : AllLaidOut plan
  pub first : (n : ℕ) (here : FramedProcedure) (label : ℕ × Frame)
      → slice_get plan.procedures n ≡ Some here → slice_get here.labels 0 ≡ Some label → label.0 ≡ 0
  pub eight : (n : ℕ) (here : FramedProcedure) → slice_get plan.procedures n ≡ Some here
      → (pc : ℕ) (f : Frame) → IsLabelled here pc f → length f.slots ≡ 8
  -- forms have a coefficient for each live slot of their frame
  pub own : (n : ℕ) (here : FramedProcedure) → slice_get plan.procedures n ≡ Some here
      → (pc : ℕ) (f : Frame) → IsLabelled here pc f → IsWellScopedFrame f
  pub main : (here : FramedProcedure) → slice_get plan.procedures 0 ≡ Some here → here.exit ≡ None
  pub budget : plan.budget < 2 ^ 64 - 1

-- there are 1 to 16 procedures, each with a label, and all but main with an exit frame
pub record HasProcedures (plan : FramedPlan) : Type 0 where
  pub some : 1 ≤ length plan.procedures
  pub few : length plan.procedures ≤ 16
  pub labels : (n : ℕ) (here : FramedProcedure) → slice_get plan.procedures n ≡ Some here
      → 1 ≤ length here.labels
  pub exits : (n : ℕ) (here : FramedProcedure) → slice_get plan.procedures (suc n) ≡ Some here
      → (f : FramedExit) × (here.exit ≡ Some f)
