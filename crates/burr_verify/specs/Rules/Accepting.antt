-- What an accepted plan is.
use Rattle.std.specs.Prelude.{◌≡◌, ℕ, pos, ◌≤◌, [], Some, slice_get, IsTrue}
use Rattle.burr_assembly.specs.Rules.Text.{Assembly, IsAssembly}
use Rattle.burr_assembly.specs.Rules.Homes.{homes_of}
use Rattle.burr_forms.specs.Rules.Forms.{value}
use Rattle.burr_container.specs.Rules.Plans.{Plan, Frame}
use Rattle.burr_container.specs.Rules.Fitting.{is_fitting}
use Rattle.burr_container.specs.Views.Containers.{ContainerView, IsContainer}
use Rattle.burr_frames.specs.Rules.FramedPlans.{FramedProcedure, framed_plan}
use Rattle.burr_frames.specs.Rules.ControlRules.{entry_of}
use Rattle.burr_verify.specs.Rules.WellFramed.{IsWellFramed}

-- a container, and the assembly that its plan is for
pub record Judged : Type 0 where
  pub container : ContainerView
  pub assembly : Assembly

abbrev pub judged : ContainerView → Assembly → Judged
judged container assembly = record { container = container; assembly = assembly }

-- what was accepted, and what answered for the assembly's pieces
pub record AcceptedWith (B : Type 0) : Type 0 where
  pub judged : Judged
  pub blocking : B

-- the container is that of a plan within the format, which is well framed for the assembly
pub record IsAccepted (j : Judged) : Type 0 where
  pub plan : Plan
  pub fits : IsTrue (is_fitting plan)
  pub is_container : IsContainer j.container plan
  pub is_assembly : IsAssembly j.assembly
  pub framed : IsWellFramed j.assembly.name (homes_of j.assembly) (framed_plan plan)

-- the cost at main's entry frame is this
abbrev pub MainCosts : Judged → ℕ → Type 0
MainCosts j cost =
    (p : Plan) (main : FramedProcedure) (f : Frame) → IsContainer j.container p
    → slice_get (framed_plan p).procedures 0 ≡ Some main → entry_of main ≡ Some f
    → (value [] f.cost ≡ pos cost) × (cost ≤ p.budget)
