-- A call: the callee stands for its entry frame, and the caller waits.
use Rattle.std.proofs.Common.{◌≡◌, ℕ, zero, suc, ◌+◌, ◌-◌, ◌<◌, ◌≤◌, List, [], ◌∷◌, ◌++◌, length, Option, Some, None, Bool, true, false, refl, sym, subst, ap, ◌∙◌, arith, length-append}
use Rattle.std.specs.Prelude.{ℤ, pos, ◌+ℤ◌, ◌-ℤ◌, ◌≤ℤ◌, map, reverse, replicate, slice_get, get_or, nat_le, nat_lt, if◌then◌else◌}
use Rattle.std.specs.Option.{option_map}
use Rattle.std.proofs.lemmas.Bool.{leb-true, ltb-true}
use Rattle.std.proofs.lemmas.Int.{ints}
use Rattle.std.proofs.lemmas.List.{length-map, map-append, length-replicate, length-reverse, length-take-le}
use Rattle.std.proofs.Math.ListN.{get_or-map}
use Rattle.std.proofs.lemmas.Option.{none-some, same_Some}
use Rattle.std.proofs.lemmas.List.Elements.{All-append}
use Rattle.burr_voxels.specs.declared.cell.Cell.{Cell}
use Rattle.burr_code.specs.Instruction.{Call, spelled}
use Rattle.burr_code.specs.Stacks.{top_many, split_at}
use Rattle.burr_code.specs.Labels.{callee_of, argument_slots}
use Rattle.burr_forms.specs.Rules.Forms.{Form, Point, value, values, one_less, substituted}
use Rattle.burr_forms.specs.Rules.Points.{GuardsHold}
use Rattle.burr_container.specs.Rules.Plans.{Frame}
use Rattle.burr_frames.specs.Rules.FramedPlans.{FramedExit, FramedProcedure, FramedPlan}
use Rattle.burr_frames.specs.Rules.States.{AbstractState, state_of, places_at}
use Rattle.burr_frames.specs.Rules.Verdicts.{Verdict, FallsThrough}
use Rattle.burr_frames.specs.Rules.ControlRules.{called_with, call_rule, entry_of, result_symbols, after_call}
use Rattle.burr_frames.specs.Views.Over.{IsTidy, IsWellScoped, AllOver}
use Rattle.burr_state.specs.Rules.Bench.{BenchState, Activation}
use Rattle.burr_state.specs.Rules.Next.{Next, Goes}
use Rattle.burr_state.specs.Rules.Control.{called, calling}
use Rattle.burr_bench.specs.Soundness.Framing.{bench_part, framed_setup}
use Rattle.burr_bench.specs.Soundness.Standing.{Stands}
use Rattle.burr_bench.specs.Soundness.Invariant.{HasParameters, IsAdmitted, IsGiven, ReturnsAs}
use Rattle.burr_verify.proofs.Common.CallRule.{call_holds}
use Rattle.burr_verify.proofs.Common.Costs.{cost_after}
use Rattle.burr_frames.proofs.Common.FineVerdicts.{IsFine}
use Rattle.burr_frames.proofs.Common.Over.{arguments_over, over_minus, over_substituted}
use Rattle.burr_bench.proofs.Soundness.Failing.{goes_past, goes_with}
use Rattle.burr_bench.proofs.Soundness.Values.{box_length, box_more, value_more, values_more, guards_more, places_substituted, guards_substituted, symbols_are}
use Rattle.burr_bench.proofs.Soundness.Arrival.{stands_at_frame}
use Rattle.burr_bench.proofs.Soundness.Returns.{top_many_map, map_reverse}
use Rattle.burr_bench.proofs.Soundness.Mapped.{map_at}

callee_is : (ps : List FramedProcedure) (n q : ℕ) (there : FramedProcedure) → callee_of ps n q
    ≡ Some there → (n < q) × (slice_get ps q ≡ Some there)
    × (callee_of (map bench_part ps) n q ≡ Some (bench_part there))
callee_is ps n q there = by_test (nat_lt n q) refl
  where
    by_test : (c : Bool) → nat_lt n q ≡ c → (if c then slice_get ps q else None) ≡ Some there
        → (n < q) × (slice_get ps q ≡ Some there)
        × ((if c then slice_get (map bench_part ps) q else None) ≡ Some (bench_part there))
    by_test true is e = (ltb-true n q is, e, map_at bench_part ps q there e)
    by_test false is e = absurd (none-some _ e)

top_many_length : {A : Type 0} (n : ℕ) (xs : List A) (x : List A × List A)
    → top_many n xs ≡ Some x → length x.0 ≡ n
top_many_length {A = A} n xs x = by_test (nat_le n (length xs)) refl
  where
    by_test : (c : Bool) → nat_le n (length xs) ≡ c → (if c then Some (split_at n xs) else None)
        ≡ Some x → length x.0 ≡ n
    by_test true is e =
        ap (λ (p : List A × List A). length p.0) (sym (same_Some _ _ e)) ∙ length-take-le n xs
        (leb-true n (length xs) is)
    by_test false is e = absurd (none-some _ e)

-- Slots of arguments

slots_mapped : {A B : Type 0} (h : A → B) (xs : List A) (k : ℕ)
    → map (option_map h) (map Some xs ++ replicate k None) ≡ map Some (map h xs) ++ replicate k None
slots_mapped h [] zero = refl
slots_mapped {B = B} h [] (suc k) = ap (λ (ys : List (Option B)). None ∷ ys) (slots_mapped h [] k)
slots_mapped {B = B} h (x ∷ xs) k =
    ap (λ (ys : List (Option B)). Some (h x) ∷ ys) (slots_mapped h xs k)

arguments_mapped : {A B : Type 0} (h : A → B) (xs : List A) → map (option_map h) (argument_slots xs)
    ≡ argument_slots (map h xs)
arguments_mapped {B = B} h xs =
    slots_mapped h (reverse xs) (8 - length xs)
    ∙ ap (λ (ys : List B). map Some ys ++ replicate (8 - length xs) None) (map_reverse h xs)
    ∙ ap (λ n. map Some (reverse (map h xs)) ++ replicate (8 - n) None) (sym (length-map xs h))

arguments_eight : {A : Type 0} (xs : List A) → length xs ≤ 8 → length (argument_slots xs) ≡ 8
arguments_eight xs h = simp (length-append, length-map, length-reverse, length-replicate) (omega arith)

first_slots : {A : Type 0} (ys : List A) (rest : List (Option A)) (v : ℕ) → v < length ys
    → get_or (map Some ys ++ rest) v None ≡ slice_get ys v
first_slots [] rest v h = absurd (omega arith)
first_slots (y ∷ ys) rest zero h = refl
first_slots (y ∷ ys) rest (suc v) h = first_slots ys rest v (omega arith)

-- What the caller stands for when it is returned to

returns_as : (s : AbstractState) (point : Point) (b : BenchState) (exit : FramedExit)
    (arguments below : List Form) (cost : Form) (caller : Activation) (results : List ℤ) → IsTidy s
    → Stands s point b
    → AllOver (length s.ranges) arguments → AllOver (length s.ranges) below → IsWellScoped (length s.ranges) cost
    → caller.slots ≡ b.running.slots → caller.operands ≡ values point below
    → IsAdmitted exit (values point arguments) results
    → ReturnsAs (record (after_call s arguments below exit) { cost = cost }) point exit
    (values point arguments) results caller (value point cost)
returns_as s point b exit arguments below cost caller results tidy st over_arguments over_below
    over_cost slots operands admitted =
    let is = st.running.is_point in
    let n : length point ≡ length s.ranges = box_length s.ranges point is.0 in
    let new : List Form = result_symbols s exit in
    let new_are : values (point ++ results) new ≡ results =
    symbols_are (length s.ranges) (length exit.results) point results n (box_length exit.results results admitted.in_box) in
    let all_are : values (point ++ results) (arguments ++ new)
    ≡ (values point arguments ++ results) =
    map-append (value (point ++ results)) arguments new
    ∙ ap (λ xs. xs ++ values (point ++ results) new) (values_more point results _ n arguments over_arguments)
    ∙ ap (λ xs. values point arguments ++ xs) new_are in
    record {
      stands = record {
        is_point = (
          box_more s.ranges exit.results point results is.0 admitted.in_box,
          All-append (λ (f : Form). pos 0 ≤ℤ value (point ++ results) f) s.guards _
              (guards_more point results _ n s.guards tidy.guards is.1)
              (guards_substituted (arguments ++ new) exit.guards (point ++ results)
              (subst (λ q. GuardsHold exit.guards q) (sym all_are) admitted.guards)),
        );
        slots_known =
            λ v f e. ap (λ xs. get_or xs v None) slots ∙ st.running.slots_known v f e
            ∙ ap Some (sym (value_more point results _ n f (tidy.slots v f e)));
        slots_as_many = ap length slots ∙ st.running.slots_as_many;
        operands_are =
            ap (λ xs. reverse results ++ xs) (operands ∙ sym (values_more point results _ n below over_below))
            ∙ ap (λ xs. xs ++ values (point ++ results) below) (ap reverse (sym new_are)
            ∙ sym (map_reverse (value (point ++ results)) new))
            ∙ sym (map-append (value (point ++ results)) (reverse new) below);
      };
      places =
          ap (λ q. places_at q exit.places) (sym all_are)
          ∙ sym (places_substituted (arguments ++ new) exit.places (point ++ results));
      cost_is = value_more point results _ n cost over_cost;
    }

-- the caller, after its call
abbrev pub caller_of : BenchState → ℕ → List ℤ → Activation
caller_of b q below =
    record b.running { pc = b.running.pc + length (spelled (Call q)); operands = below }

-- the bench stands for the callee's entry, and the caller can be returned to
pub record CallsOn (plan : FramedPlan) (n q : ℕ) (s : AbstractState)
    (point : Point) (b : BenchState) (verdict : Verdict) (next : Next) : Type 0 where
  pub there : FramedProcedure
  pub there_is : slice_get plan.procedures q ≡ Some there
  pub higher : n < q
  pub exit : FramedExit
  pub exit_is : there.exit ≡ Some exit
  pub entry : Frame
  pub entry_is : entry_of there ≡ Some entry
  pub arguments : List ℤ
  pub below : List ℤ
  pub next_is : next ≡ Goes (called q arguments below (Call q) b) None
  pub parameters : List ℤ
  pub parameters_are : HasParameters there parameters (argument_slots arguments)
  pub at : Point
  pub stands : Stands (state_of entry) at (called q arguments below (Call q) b)
  pub state : AbstractState
  pub verdict_is : verdict ≡ FallsThrough state
  pub given : IsGiven s point there parameters
  pub returns : (results : List ℤ) → IsAdmitted exit parameters results
      → ReturnsAs state point exit parameters results (caller_of b q below) (value point state.cost)
  pub tray : exit.tray ≡ state.tray
  pub grip : exit.grip ≡ state.grip
  pub costs : (value at entry.cost +ℤ value point state.cost) ≡ (value point s.cost -ℤ pos 1)
  pub enough : pos 0 ≤ℤ value point state.cost

split_cost : (a b c : ℤ) → c ≡ ((a -ℤ pos 1) -ℤ b) → (b +ℤ c) ≡ (a -ℤ pos 1)
split_cost a b c e = omega (arith, ints)

pub sound_call : (homes : List (List Cell)) (plan : FramedPlan) (q : ℕ) (s : AbstractState) (point : Point) (b : BenchState) (v : Verdict) (next : Next)
    → ((there : FramedProcedure) (entry : Frame) → slice_get plan.procedures q ≡ Some there
    → entry_of there ≡ Some entry → (there.parameters ≤ 8) × (length entry.slots ≡ 8)) → IsTidy s
    → IsFine v → call_rule plan b.running.procedure s q v
    → Stands s point b → calling (framed_setup plan homes) b q next
    → CallsOn plan b.running.procedure q s point b v next
sound_call homes plan q s point b v next limits tidy fine t st rule =
    let c = call_holds plan b.running.procedure q s v fine t in
    let is = st.running.is_point in
    let callee = callee_is plan.procedures b.running.procedure q c.there c.there_is in
    let limit = limits c.there c.entry callee.1 c.entry_is in
    let count : length c.arguments ≡ c.there.parameters =
    top_many_length c.there.parameters s.operands (c.arguments, c.below) c.taken in
    let vs : List ℤ = values point c.arguments in
    let vs_count : length (reverse vs) ≡ c.there.parameters =
    length-reverse vs ∙ length-map c.arguments (value point) ∙ count in
    let below : List ℤ = values point c.below in
    let bench_args : top_many c.there.parameters b.running.operands ≡ Some (vs, below) =
    ap (λ xs. top_many c.there.parameters xs) st.running.operands_are
    ∙ top_many_map (value point) c.there.parameters s.operands (c.arguments, c.below) c.taken in
    let bench_room : length below + c.there.results ≤ 8 =
    subst (λ k. k + c.there.results ≤ 8) (sym (length-map c.below (value point))) c.room in
    let over =
    arguments_over (length s.ranges) c.there.parameters s.operands (c.arguments, c.below) c.entry.slots
    c.meets.forms tidy.operands c.taken c.meets.known in
    let slots_are : map (option_map (value point)) (argument_slots c.arguments)
    ≡ argument_slots vs =
    arguments_mapped (value point) c.arguments in
    let slots_eight : length (argument_slots c.arguments) ≡ 8 =
    arguments_eight c.arguments (subst (λ k. k ≤ 8) (sym count) limit.0) in
    let standing : Stands (called_with c.arguments s) point
    (called q vs below (Call q) b) =
    record {
      running = record {
        is_point = is;
        slots_known =
            λ j f e. ap (λ xs. get_or xs j None) (sym slots_are)
            ∙ get_or-map (option_map (value point)) (argument_slots c.arguments) j None
            ∙ ap (option_map (value point)) e;
        slots_as_many =
            ap length (sym slots_are) ∙ length-map (argument_slots c.arguments)
            (option_map (value point));
        operands_are = refl;
      };
      lie = record { places = st.lie.places; tray = st.lie.tray; grip = st.lie.grip };
    } in
    record {
      there = c.there;
      there_is = callee.1;
      higher = callee.0;
      exit = c.exit;
      exit_is = c.exit_is;
      entry = c.entry;
      entry_is = c.entry_is;
      arguments = vs;
      below = below;
      next_is = goes_past bench_room (goes_with bench_args (goes_with callee.2 rule));
      parameters = values point (reverse c.arguments);
      parameters_are = record {
        as_many =
            length-map (reverse c.arguments) (value point) ∙ length-reverse c.arguments ∙ count;
        each =
            λ j lt. first_slots (reverse vs) (replicate (8 - length vs) None) j (subst (λ k. j < k) (sym vs_count) lt)
            ∙ ap (λ xs. slice_get xs j) (sym (map_reverse (value point) c.arguments));
      };
      at = values point c.meets.forms;
      stands =
          stands_at_frame (called_with c.arguments s) c.entry
          point (called q vs below (Call q) b) c.meets (limit.1 ∙ sym slots_eight) standing;
      state = _;
      verdict_is = c.falls_through;
      given = record {
        is_point = is;
        arguments = c.arguments;
        below = c.below;
        taken = c.taken;
        values_are = refl;
      };
      returns =
          λ results admitted. returns_as s point b c.exit (reverse c.arguments) c.below _
          (caller_of b q below) results tidy st over.0 over.1
          (over_minus _ (one_less s.cost) (substituted c.meets.forms c.entry.cost) tidy.cost (over_substituted _ c.meets.forms c.entry.cost over.2))
          refl refl admitted;
      tray = refl;
      grip = refl;
      costs = split_cost (value point s.cost) _ _ (cost_after s.cost c.meets.forms c.entry.cost point);
      enough = c.enough point is;
    }
