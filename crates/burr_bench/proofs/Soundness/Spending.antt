-- A run spends no more than the cost at main's entry frame: a plan whose budget is that cost is framed
-- as well.
use Rattle.std.proofs.Common.{◌≡◌, ◌⊎◌, ℕ, ◌≤◌, List, [], ◌∷◌, Option, None, sym, subst, inl, inr, arith}
use Rattle.std.specs.Prelude.{ℤ, pos, ◌≤ℤ◌}
use Rattle.std.proofs.lemmas.Int.{ints}
use Rattle.burr_voxels.specs.declared.cell.Cell.{Cell}
use Rattle.burr_assembly.specs.Rules.Homes.{homes_of}
use Rattle.burr_code.specs.Instruction.{Instruction, Halt}
use Rattle.burr_forms.specs.Rules.Forms.{value}
use Rattle.burr_frames.specs.Rules.FramedPlans.{FramedProcedure, FramedPlan, framed_plan}
use Rattle.burr_frames.specs.Rules.States.{AbstractState}
use Rattle.burr_frames.specs.Rules.Transfer.{Transfer}
use Rattle.burr_frames.specs.Rules.Verdicts.{Verdict}
use Rattle.burr_verify.specs.Laws.VerifyLaws.{FittingIsFromContainer}
use Rattle.burr_verify.specs.Rules.WellFramed.{Annotated, after, IsCutFrom, IsFramedProcedure, IsWellFramed}
use Rattle.burr_verify.specs.Views.FromContainers.{IsFromContainer}
use Rattle.burr_state.specs.Laws.SpaceLaws.{HomesAreDisjoint}
use Rattle.burr_state.specs.Rules.Bench.{BenchState, Setup, start, running}
use Rattle.burr_state.specs.Rules.Calls.{Calls}
use Rattle.burr_state.specs.Views.Programs.{plan_program}
use Rattle.burr_bench.specs.Soundness.Framing.{framed_setup}
use Rattle.burr_bench.specs.Soundness.Invariant.{IsSafeState}
use Rattle.burr_bench.specs.Soundness.Machine.{CostBoundsSteps}
use Rattle.burr_bench.specs.Soundness.SafeRuns.{HasEnded}
use Rattle.burr_bench.proofs.Common.FramedSetup.{same_setup}
use Rattle.burr_bench.proofs.Soundness.Runs.{along}
use Rattle.burr_bench.proofs.Soundness.Sound.{framed_carries}
use Rattle.burr_bench.proofs.Soundness.Start.{assembled_start}
use Rattle.burr_bench.proofs.Soundness.StepOutcomes.{Carries}

-- The same plan with another budget

abbrev with_budget : FramedPlan → ℕ → FramedPlan
with_budget plan budget = record plan { budget = budget }

same_rule : (homes : List (List Cell)) (plan : FramedPlan) (budget n : ℕ) (here : FramedProcedure)
    (s : AbstractState) (i : Instruction) (v : Verdict) → Transfer homes plan n here s i v
    → Transfer homes (with_budget plan budget) n here s i v
same_rule homes plan budget n here s Halt v t = t
same_rule homes plan budget n here s i v t = t

same_cut : (homes : List (List Cell)) (plan : FramedPlan) (budget n : ℕ) (here : FramedProcedure)
    (rows : List Annotated) (pc : ℕ) (falling : Option AbstractState)
    → IsCutFrom homes plan n here pc falling rows
    → IsCutFrom homes (with_budget plan budget) n here pc falling rows
same_cut homes plan budget n here [] pc falling h = h
same_cut homes plan budget n here (row ∷ rows) pc falling h = (
  h.0,
  h.1,
  h.2,
  h.3,
  h.4,
  same_rule homes plan budget n here row.state row.instruction h.3 h.5,
  h.6,
  same_cut homes plan budget n here rows (after row) h.4 h.7,
)

same_procedure : (homes : List (List Cell)) (plan : FramedPlan) (budget n : ℕ) (here : FramedProcedure)
    → IsFramedProcedure homes plan n here
    → IsFramedProcedure homes (with_budget plan budget) n here
same_procedure homes plan budget n here p = record {
  exit = p.exit;
  entry = p.entry;
  frames = p.frames;
  cut = (
    p.cut.0,
    record {
      passes = same_cut homes plan budget n here p.cut.0 0 None p.cut.1.passes;
      labels = p.cut.1.labels;
    },
  );
}

framed_for : (name : List ℕ) (homes : List (List Cell)) (plan : FramedPlan) (budget : ℕ)
    (framed : IsWellFramed name homes plan) → value [] framed.start.frame.cost ≤ℤ pos budget
    → IsWellFramed name homes (with_budget plan budget)
framed_for name homes plan budget framed enough = record {
  same_name = framed.same_name;
  same_count = framed.same_count;
  each = λ n here is. same_procedure homes plan budget n here (framed.each n here is);
  start = record {
    main = framed.start.main;
    frame = framed.start.frame;
    is_main = framed.start.is_main;
    is_entry = framed.start.is_entry;
    meets = framed.start.meets;
    cost = enough;
  };
}

container_for : (plan : FramedPlan) (budget : ℕ) → budget ≤ plan.budget → IsFromContainer plan
    → IsFromContainer (with_budget plan budget)
container_for plan budget less given = record {
  laid_out = given.laid_out;
  first = given.first;
  eight = given.eight;
  own = given.own;
  main = given.main;
  budget = let few = given.budget in omega arith;
}

at_most : (budget : ℕ) (setup : Setup) (Fact : BenchState → Type 0) (s : BenchState)
    → Carries setup budget Fact → Fact s ⊎ HasEnded budget s → s.steps ≤ budget
at_most budget setup Fact s carry (inl fact) = let few = (carry.running s fact).1 in omega arith
at_most budget setup Fact s carry (inr ended) = ended.within

pub cost_bounds_steps : FittingIsFromContainer → HomesAreDisjoint → CostBoundsSteps
cost_bounds_steps from_container disjoint j a cost s costs (most, answers, left, motions, calls) =
    let homes = homes_of j.assembly in
    let framed = a.framed in
    let is = costs a.plan framed.start.main framed.start.frame a.is_container framed.start.is_main
    framed.start.is_entry in
    let plan : FramedPlan = with_budget (framed_plan a.plan) cost in
    let given : IsFromContainer plan =
    container_for (framed_plan a.plan) cost is.1 (from_container a.plan a.fits) in
    let well : IsWellFramed j.assembly.name homes plan =
    framed_for j.assembly.name homes (framed_plan a.plan) cost framed (spends _ _ is.0) in
    let carry = framed_carries j.assembly.name homes plan given well in
    let setup : Setup = framed_setup plan homes in
    let same : running homes (plan_program a.plan) ≡ setup = sym (same_setup a.plan homes) in
    at_most cost setup (IsSafeState homes plan) s carry
    (along setup cost (IsSafeState homes plan) carry most (start setup) s answers left motions
    (inl (assembled_start disjoint j.assembly a.is_assembly plan given well))
    (subst (λ (t : Setup). Calls t most (start t) answers motions s left) same calls))
  where
    spends : (x : ℤ) (cost : ℕ) → x ≡ pos cost → x ≤ℤ pos cost
    spends x cost e = omega (arith, ints)
