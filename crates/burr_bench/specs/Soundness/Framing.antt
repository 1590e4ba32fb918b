-- What the bench runs of a framed plan, and what framing its procedures have.
use Rattle.std.specs.Prelude.{◌≡◌, ℕ, ◌≤◌, ◌<◌, ◌-◌, ◌^◌, List, length, map, Some, None, slice_get}
use Rattle.burr_voxels.specs.declared.cell.Cell.{Cell}
use Rattle.burr_container.specs.Rules.Plans.{Frame}
use Rattle.burr_frames.specs.Rules.ControlRules.{entry_of}
use Rattle.burr_frames.specs.Rules.FramedPlans.{FramedProcedure, FramedPlan}
use Rattle.burr_verify.specs.Rules.WellFramed.{IsCut, IsLabelled, Annotated}
use Rattle.burr_state.specs.Rules.Bench.{BenchProcedure, Setup}
use Rattle.burr_state.specs.Views.Programs.{positions_of}

-- a procedure without its frames, as the bench runs it
abbrev pub bench_part : FramedProcedure → BenchProcedure
bench_part p = record {
  parameters = p.parameters;
  results = p.results;
  labels = positions_of p.labels;
  code = p.code;
}

-- the run of a framed plan on pieces with these home cells
abbrev pub framed_setup : FramedPlan → List (List Cell) → Setup
framed_setup plan homes = record { homes = homes; procedures = map bench_part plan.procedures }

-- Each procedure has a cut, frames of eight slots, and its entry frame at the first place; main is
-- not returned from, and all steps within the budget can be counted.
pub record HasFraming (homes : List (List Cell)) (plan : FramedPlan) : Type 0 where
  pub cut : (n : ℕ) (here : FramedProcedure) → slice_get plan.procedures n ≡ Some here
      → (rows : List Annotated) × IsCut homes plan n here rows
  pub eight : (n : ℕ) (here : FramedProcedure) → slice_get plan.procedures n ≡ Some here
      → (pc : ℕ) (f : Frame) → IsLabelled here pc f → length f.slots ≡ 8
  pub entry : (n : ℕ) (here : FramedProcedure) (f : Frame)
      → slice_get plan.procedures n ≡ Some here → entry_of here ≡ Some f
      → IsLabelled here 0 f × (here.parameters ≤ 8)
  pub main : (here : FramedProcedure) → slice_get plan.procedures 0 ≡ Some here
      → here.exit ≡ None
  pub budget : plan.budget < 2 ^ 64 - 1
