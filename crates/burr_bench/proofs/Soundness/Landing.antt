-- Where the bench lands after a step, the invariant holds.
use Rattle.std.proofs.Common.{◌≡◌, ◌⊎◌, ℕ, suc, ◌+◌, ◌<◌, List, [], ◌∷◌, length, Some, None, refl, sym, subst, ap, ◌∙◌, inl, inr, arith}
use Rattle.std.specs.Prelude.{pos, ◌+ℤ◌, ◌≤ℤ◌, slice_get}
use Rattle.burr_voxels.specs.declared.cell.Cell.{Cell}
use Rattle.burr_code.specs.Instruction.{Instruction, Call, spelled}
use Rattle.burr_code.specs.Places.{AllApart}
use Rattle.burr_forms.specs.Rules.Forms.{value}
use Rattle.burr_container.specs.Rules.Plans.{Frame}
use Rattle.burr_frames.specs.Rules.FramedPlans.{FramedProcedure, FramedPlan}
use Rattle.burr_frames.specs.Rules.States.{AbstractState, state_of}
use Rattle.burr_frames.specs.Rules.Transfer.{Transfer}
use Rattle.burr_frames.specs.Rules.Verdicts.{Verdict}
use Rattle.burr_frames.specs.Views.Over.{IsTidy}
use Rattle.burr_verify.specs.Rules.WellFramed.{Annotated, after, Enters, IsLabelled}
use Rattle.burr_verify.proofs.Common.Costs.{costs}
use Rattle.burr_state.specs.declared.effect.Mode.TheVariants.{Ended}
use Rattle.burr_state.specs.Rules.Bench.{BenchState, Activation}
use Rattle.burr_state.specs.Rules.Next.{Next, Goes, Asks, Traps, stepped}
use Rattle.burr_bench.specs.Soundness.Framing.{HasFraming}
use Rattle.burr_bench.specs.Soundness.Standing.{Stands}
use Rattle.burr_bench.specs.Soundness.Invariant.{IsGood, Waits, AllWait, IsSafeState}
use Rattle.burr_bench.specs.Soundness.SafeRuns.{HasEnded}
use Rattle.burr_bench.proofs.Soundness.StepOutcomes.{GoesOnAs, FallsOn, SentOn}
use Rattle.burr_bench.proofs.Soundness.Returns.{Entered, entered, same_entered, ReturnsTo}
use Rattle.burr_bench.proofs.Soundness.CallSteps.{CallsOn, caller_of}
use Rattle.burr_bench.proofs.Soundness.Judged.{Judged, judged}
use Rattle.burr_bench.proofs.Soundness.Costs.{sent_cost, call_cost, ret_cost, within_cost, waiting}

-- each frame is over its own symbols
abbrev pub AreTidy : FramedPlan → Type 0
AreTidy plan =
    (n : ℕ) (here : FramedProcedure) → slice_get plan.procedures n ≡ Some here
    → (pc : ℕ) (f : Frame) → IsLabelled here pc f → IsTidy (state_of f)

-- No trap stands next, and where the run goes on it has ended well, or the invariant holds if it does of
-- the pieces.
abbrev pub Lands : List (List Cell) → FramedPlan → Next → Type 0
Lands homes plan (Goes new motion) =
    (IsGood homes new.places new.tray new.grip → IsSafeState homes plan new) ⊎ HasEnded plan.budget new
Lands homes plan (Asks low high) = Unit {0}
Lands homes plan (Traps trap) = ⊥

module _ (homes : List (List Cell)) (plan : FramedPlan) (ok : HasFraming homes plan) (tidy : AreTidy plan)
    (b : BenchState) (safe : IsSafeState homes plan b) where
  pub judged_here : Judged homes plan b.running.procedure safe.here safe.row (slice_get safe.rows (suc safe.k))
  judged_here =
      judged homes plan b.running.procedure safe.here (tidy b.running.procedure safe.here safe.here_is) safe.rows 0 None
      safe.k safe.row tt safe.cut.passes safe.row_is

  -- the cost of the running instruction is at least one
  running_cost : pos 1 ≤ℤ value safe.point safe.row.state.cost
  running_cost =
      costs homes plan ok.cut (length plan.procedures) b.running.procedure safe.here safe.here_is
      (omega arith) safe.row.instruction safe.row.state judged_here.verdict judged_here.fine judged_here.transfer
      safe.point safe.stands.running.is_point

  pub within_budget : b.steps < plan.budget
  within_budget =
      within_cost _ _ b.steps plan.budget safe.budgeted running_cost
      (waiting homes plan b.running.procedure safe.here safe.parameters b.callers safe.waiting_cost safe.callers)

  -- within the running procedure
  land : (next : Next) (t : AbstractState) (pc : ℕ) (g : GoesOnAs safe.here safe.row.state safe.point b t pc next)
      (k : ℕ) (row : Annotated) → slice_get safe.rows k ≡ Some row → row.pc ≡ pc → Entered t g.there row.state g.new
      → Lands homes plan next
  land next t pc g k row row_is at e =
      subst (Lands homes plan) (sym g.next_is) (inl (λ good. subst (IsSafeState homes plan) (sym g.control) (record {
        mode = safe.mode;
        here = safe.here;
        here_is = safe.here_is;
        rows = safe.rows;
        cut = safe.cut;
        k = k;
        row = row;
        row_is = row_is;
        pc = sym at;
        point = e.point;
        stands = subst (λ (x : BenchState). Stands row.state e.point x) g.control e.stands;
        good = good;
        parameters = safe.parameters;
        parameters_are = record {
          as_many = safe.parameters_are.as_many;
          each = λ v below. g.kept v below ∙ safe.parameters_are.each v below;
        };
        waiting_cost = safe.waiting_cost;
        callers = safe.callers;
        budgeted = sent_cost _ safe.waiting_cost b.steps plan.budget safe.budgeted _ _ g.paid e.cost;
      })))

  -- where the next instruction stands
  after_here : (i : Instruction) → safe.row.instruction ≡ i → b.running.pc + length (spelled i) ≡ after safe.row
  after_here i is =
      ap (λ (i : Instruction). b.running.pc + length (spelled i)) (sym is)
      ∙ ap (λ m. m + length (spelled safe.row.instruction)) safe.pc

  pub land_after : (i : Instruction) (next : Next) → safe.row.instruction ≡ i
      → FallsOn safe.here i safe.row.state safe.point b judged_here.verdict next → Lands homes plan next
  land_after i next is (t, falls, g) =
      let n = judged_here.next t falls in
      land next t _ g (suc safe.k) n.0 n.1 (n.2 ∙ sym (after_here i is))
      (entered safe.here (after safe.row) t n.0.state g.there g.new (ok.eight b.running.procedure safe.here safe.here_is)
      (judged_here.tidy_after t falls).eight n.3 g.stands)

  pub land_at_label : (next : Next) → SentOn safe.here safe.row.state safe.point b next → Lands homes plan next
  land_at_label next (pc, f, labelled, g) =
      let at = safe.cut.labels pc f labelled in
      land next (state_of f) pc g at.0 at.1 at.2 at.3 (same_entered at.4 g.stands)

  pub land_apart : (next : Next) → AllApart b.places → next ≡ Goes (stepped (record b { mode = Ended })) None → Lands homes plan next
  land_apart next apart is =
      let few = within_budget in
      subst (Lands homes plan) (sym is) (inr (record { mode = refl; apart = apart; within = omega arith }))

  pub land_in_callee : (q : ℕ) (next : Next) → safe.row.instruction ≡ Call q
      → CallsOn plan b.running.procedure q safe.row.state safe.point b judged_here.verdict next → Lands homes plan next
  land_in_callee q next calls f =
      let n = judged_here.next f.state f.verdict_is in
      let rows = ok.cut q f.there f.there_is in
      let at = rows.1.labels 0 f.entry (ok.entry q f.there f.entry f.there_is f.entry_is).0 in
      let pc_is = after_here (Call q) calls in
      let w : Waits homes plan f.there f.parameters (caller_of b q f.below) = record {
        here = safe.here;
        here_is = safe.here_is;
        rows = safe.rows;
        cut = safe.cut;
        k = safe.k;
        call = safe.row;
        call_is = safe.row_is;
        next = n.0;
        next_is = n.1;
        pc = pc_is ∙ sym n.2;
        number = q;
        calls = calls;
        callee_is = f.there_is;
        state = f.state;
        falls_out =
            subst (λ (v : Verdict). Transfer homes plan b.running.procedure safe.here safe.row.state
            safe.row.instruction v) f.verdict_is judged_here.transfer;
        enters = subst (λ m. Enters safe.here m (Some f.state) n.0.state) (sym pc_is) n.3;
        slots_eight = (judged_here.tidy_after f.state f.verdict_is).eight;
        exit = f.exit;
        exit_is = f.exit_is;
        tray = f.tray;
        grip = f.grip;
        point = safe.point;
        given = f.given;
        cost = value safe.point f.state.cost;
        enough = f.enough;
        returns = f.returns;
        own = safe.parameters;
        own_are = safe.parameters_are;
      } in
      subst (Lands homes plan) (sym f.next_is) (inl (λ good. record {
        mode = safe.mode;
        here = f.there;
        here_is = f.there_is;
        rows = rows.0;
        cut = rows.1;
        k = at.0;
        row = at.1;
        row_is = at.2;
        pc = sym at.3;
        point = f.at;
        stands = rw at.4 f.stands;
        good = good;
        parameters = f.parameters;
        parameters_are = f.parameters_are;
        waiting_cost = value safe.point f.state.cost +ℤ safe.waiting_cost;
        callers = (f.higher, w, safe.waiting_cost, safe.callers, refl);
        budgeted = rw at.4 (call_cost _ safe.waiting_cost b.steps plan.budget safe.budgeted _ _ f.costs);
      }))

  -- the caller of a procedure with an exit frame
  pub has_caller : (callers : List Activation)
      → AllWait homes plan b.running.procedure safe.here safe.parameters callers safe.waiting_cost → ¬ (safe.here.exit ≡ None)
      → (a : Activation) × (rest : List Activation) × (callers ≡ a ∷ rest)
      × AllWait homes plan b.running.procedure safe.here safe.parameters (a ∷ rest) safe.waiting_cost
  has_caller [] w exit = absurd (exit (ok.main safe.here (ap (λ k. slice_get plan.procedures k) (sym w.0) ∙ safe.here_is)))
  has_caller (a ∷ rest) w exit = (a, rest, refl, w)

  pub land_in_caller : (next : Next) (a : Activation) (rest : List Activation)
      (w : AllWait homes plan b.running.procedure safe.here safe.parameters (a ∷ rest) safe.waiting_cost)
      → ReturnsTo homes plan safe.here safe.parameters a rest w.1 b next → Lands homes plan next
  land_in_caller next a rest w f =
      let e =
      entered w.1.here a.pc w.1.state w.1.next.state f.point _ (ok.eight a.procedure w.1.here w.1.here_is)
      w.1.slots_eight w.1.enters f.stands in
      subst (Lands homes plan) (sym f.next_is) (inl (λ good. record {
        mode = safe.mode;
        here = w.1.here;
        here_is = w.1.here_is;
        rows = w.1.rows;
        cut = w.1.cut;
        k = suc w.1.k;
        row = w.1.next;
        row_is = w.1.next_is;
        pc = w.1.pc;
        point = e.point;
        stands = e.stands;
        good = good;
        parameters = w.1.own;
        parameters_are = w.1.own_are;
        waiting_cost = w.2;
        callers = w.3;
        budgeted =
            ret_cost _ safe.waiting_cost b.steps plan.budget safe.budgeted _ _ w.1.cost w.2 w.4 running_cost f.cost e.cost;
      }))
