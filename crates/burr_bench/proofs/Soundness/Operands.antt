-- The instructions on operands and slots: no trap, and the bench stands for what falls out.
use Rattle.std.proofs.Common.{◌≡◌, ℕ, ◌<◌, ◌≤◌, List, [], ◌∷◌, length, Option, Some, None, refl, sym, subst, ap, ◌∙◌, arith}
use Rattle.std.specs.Prelude.{ℤ, pos, neg_ℤ, ◌-ℤ◌, ◌≤ℤ◌, set, get_or}
use Rattle.std.proofs.lemmas.List.{length-map, get_or-set_same, get_or-set_other, length-set}
use Rattle.std.proofs.lemmas.Int.{ints}
use Rattle.std.proofs.lemmas.Option.{none-some, same_Some}
use native.Mathlib.Decide.{ℕ_discrete}
use Rattle.burr_voxels.specs.declared.cell.Cell.{Cell}
use Rattle.burr_code.specs.declared.placement.Placement.{Placement}
use Rattle.burr_code.specs.Instruction.{IsInNumberRange, Instruction, Push, Load, Store, Add, Sub, Drop}
use Rattle.burr_code.specs.Stacks.{top, top_two}
use Rattle.burr_forms.specs.Rules.Forms.{Form, Point, value, values, number, one_less}
use Rattle.burr_forms.specs.Rules.Points.{GuardsHold}
use Rattle.burr_container.specs.Rules.Plans.{FormCell}
use Rattle.burr_frames.specs.Rules.FramedPlans.{FramedProcedure}
use Rattle.burr_frames.specs.Rules.NumberRules.{push_rule, load_rule, store_rule, add_rule, sub_rule, drop_rule, result_rule, paid_with}
use Rattle.burr_frames.specs.Rules.States.{AbstractState, places_at}
use Rattle.burr_frames.specs.Rules.Verdicts.{Verdict, FallsThrough}
use Rattle.burr_state.specs.declared.effect.Motion.{Motion}
use Rattle.burr_state.specs.Rules.Bench.{BenchState}
use Rattle.burr_state.specs.Rules.Next.{Next, Goes, after}
use Rattle.burr_state.specs.Rules.Numbers.{HasRoom, with_operands, pushing, loading, storing, adding, subtracting, dropping}
use Rattle.burr_bench.specs.Soundness.Framing.{bench_part}
use Rattle.burr_bench.specs.Soundness.Standing.{StandsFor, Stands}
use Rattle.burr_bench.proofs.Soundness.StepOutcomes.{FallsOn}
use Rattle.burr_frames.proofs.Common.FineVerdicts.{IsFine, held, found, held_everywhere, paid}
use Rattle.burr_bench.proofs.Soundness.Failing.{goes_past, goes_with}
use Rattle.burr_frames.proofs.Common.FormValues.{value_number, value_raised, value_plus, value_minus}

-- a step is paid for by one
pub pays : (cost : Form) (point : Point) → value point (one_less cost) ≤ℤ (value point cost -ℤ pos 1)
pays cost point = let r = value_raised (neg_ℤ (pos 1)) cost point in omega (arith, ints)

-- an activation with the same slots, where no symbol comes
pub same_slots : {s : AbstractState} {point : Point} {slots : List (Option ℤ)} {old new : List ℤ} {guards forms : List Form}
    {places : List (Placement FormCell)} {tray grip : ℕ} {cost : Form} → StandsFor s point slots old
    → GuardsHold guards point → new ≡ values point forms
    → StandsFor (record s { guards = guards; operands = forms; places = places; tray = tray; grip = grip; cost = cost }) point slots new
same_slots st hold e = record {
  is_point = (st.is_point.0, hold);
  slots_known = st.slots_known;
  slots_as_many = st.slots_as_many;
  operands_are = e;
}

-- a slot of both is set to a form and its value
slot_known : (point : Point) (forms : List (Option Form)) (slots : List (Option ℤ)) (k : ℕ)
    (f : Form) → length slots ≡ length forms → k < length forms
    → ((j : ℕ) (g : Form) → get_or forms j None ≡ Some g → get_or slots j None
    ≡ Some (value point g))
    → (j : ℕ) (g : Form) → get_or (set forms k (Some f)) j None ≡ Some g
    → get_or (set slots k (Some (value point f))) j None ≡ Some (value point g)
slot_known point forms slots k f same lt known j g e =
    let within : k < length slots = omega arith in
    elim (ℕ_discrete j k) [
      | yes is ↦
          let at : get_or (set forms k (Some f)) k None ≡ Some g =
          subst (λ i. get_or (set forms k (Some f)) i None ≡ Some g) is e in
          let eq : f ≡ g = same_Some _ _ (sym (get_or-set_same forms k (Some f) None lt) ∙ at) in
          subst (λ i. get_or (set slots k (Some (value point f))) i None ≡ Some (value point g))
          (sym is) (get_or-set_same slots k (Some (value point f)) None within
          ∙ ap (λ h. Some (value point h)) eq)
      | no other ↦
          get_or-set_other slots k j (Some (value point f)) None other
          ∙ known j g (sym (get_or-set_other forms k j (Some f) None other) ∙ e)
    ]

pub new_slot : {s : AbstractState} {point : Point} {slots : List (Option ℤ)} {old new : List ℤ} {guards forms : List Form}
    {cost : Form} (k : ℕ) (f : Form) → k < length s.slots → StandsFor s point slots old
    → GuardsHold guards point → new ≡ values point forms
    → StandsFor (record s { guards = guards; slots = set s.slots k (Some f); operands = forms; cost = cost }) point
    (set slots k (Some (value point f))) new
new_slot {s} {point} {slots} k f within st hold e = record {
  is_point = (st.is_point.0, hold);
  slots_known = slot_known point s.slots slots k f st.slots_as_many within st.slots_known;
  slots_as_many = length-set slots k _ ∙ st.slots_as_many ∙ sym (length-set s.slots k _);
  operands_are = e;
}

-- a parameter's slot is not set
pub other_slot : {parameters k : ℕ} (slots : List (Option ℤ)) (x : Option ℤ) → parameters ≤ k → (j : ℕ) → j < parameters
    → get_or (set slots k x) j None ≡ get_or slots j None
other_slot {parameters} {k} slots x le j lt = get_or-set_other slots k j x None (apart j parameters k lt le)
  where
    apart : (j m k : ℕ) → j < m → m ≤ k → ¬ (j ≡ k)
    apart j m k lt le is = omega arith

top_values : (point : Point) (forms : List Form) (x : Form × List Form) → top forms ≡ Some x
    → top (values point forms) ≡ Some (value point x.0, values point x.1)
top_values point [] x e = absurd (none-some _ e)
top_values point (f ∷ forms) x e =
    ap (λ (y : Form × List Form). Some (value point y.0, values point y.1)) (same_Some (f, forms) x e)

top_two_values : (point : Point) (forms : List Form) (x : Form × Form × List Form) → top_two forms ≡ Some x
    → top_two (values point forms) ≡ Some (value point x.0, value point x.1, values point x.2)
top_two_values point [] x e = absurd (none-some _ e)
top_two_values point (f ∷ []) x e = absurd (none-some _ e)
top_two_values point (f ∷ g ∷ forms) x e =
    ap (λ (y : Form × Form × List Form). Some (value point y.0, value point y.1, values point y.2)) (same_Some (f, g, forms) x e)

module _ (here : FramedProcedure) (s : AbstractState) (point : Point) (b : BenchState) (v : Verdict) (next : Next)
    (fine : IsFine v) (st : Stands s point b) where
  -- what falls through at the same point, over the same slots
  pub falls_on : (i : Instruction) {guards forms : List Form} {places : List (Placement FormCell)} {tray grip : ℕ}
      {operands : List ℤ} {lie : List (Placement Cell)} {at held : ℕ} {motion : Option Motion}
      → v ≡ FallsThrough (record s { guards = guards; operands = forms; places = places; tray = tray; grip = grip; cost = one_less s.cost })
      → next ≡ Goes (after i (with_operands operands b.running) (record b { places = lie; tray = at; grip = held })) motion
      → GuardsHold guards point → operands ≡ values point forms → lie ≡ places_at point places → at ≡ tray → held ≡ grip
      → FallsOn here i s point b v next
  falls_on i falls goes hold e places tray grip = (
    _,
    falls,
    record {
      new = _;
      motion = _;
      next_is = goes;
      there = point;
      stands = record { running = same_slots st.running hold e; lie = record { places = places; tray = tray; grip = grip } };
      paid = pays s.cost point;
      control = refl;
      kept = λ j below. refl;
    },
  )

  -- an instruction that changes operands alone
  with_top : (i : Instruction) (forms : List Form) (operands : List ℤ) → paid_with s forms v
      → next ≡ Goes (after i (with_operands operands b.running) b) None → operands ≡ values point forms
      → FallsOn here i s point b v next
  with_top i forms operands rule goes e =
      falls_on i (paid s fine rule).1 goes st.running.is_point.1 e st.lie.places st.lie.tray st.lie.grip

  -- room for one more operand
  pub room_for : length s.operands < 8 → HasRoom b.running
  room_for h = subst (λ k. k < 8) (sym (ap length st.running.operands_are ∙ length-map s.operands (value point))) h

  bench_top : (x : Form × List Form) → top s.operands ≡ Some x → top b.running.operands ≡ Some (value point x.0, values point x.1)
  bench_top x e = ap top st.running.operands_are ∙ top_values point s.operands x e

  pub sound_push : (x : ℤ) → push_rule s x v → pushing b x next → FallsOn here (Push x) s point b v next
  sound_push x t rule =
      let h = held fine t in
      with_top (Push x) _ _ h.1 (goes_past (room_for h.0) rule)
      (ap (λ z. z ∷ b.running.operands) (sym (value_number x point)) ∙ ap (λ r. value point (number x) ∷ r) st.running.operands_are)

  pub sound_load : (k : ℕ) → load_rule s k v → loading b k next → FallsOn here (Load k) s point b v next
  sound_load k t rule =
      let f = found fine t in
      let h = held fine f.2 in
      with_top (Load k) _ _ h.1 (goes_past (room_for h.0) (goes_with (st.running.slots_known k f.0 f.1) rule))
      (ap (λ r. value point f.0 ∷ r) st.running.operands_are)

  pub sound_drop : drop_rule s v → dropping b next → FallsOn here Drop s point b v next
  sound_drop t rule =
      let f = found fine t in with_top Drop _ _ f.2 (goes_with (bench_top f.0 f.1) rule) refl

  -- the two topmost give their place to a form that has this value
  result : (i : Instruction) (f : Form) (below : List Form) (x : ℤ) → value point f ≡ x → result_rule s f below v
      → (IsInNumberRange x → next ≡ Goes (after i (with_operands (x ∷ values point below) b.running) b) None) → FallsOn here i s point b v next
  result i f below x e t goes =
      let r = held_everywhere s fine (held fine t).1 in
      with_top i _ _ r.1 (goes (subst IsInNumberRange e (r.0 point st.running.is_point))) (ap (λ z. z ∷ values point below) (sym e))

  bench_top_two : (x : Form × Form × List Form) → top_two s.operands ≡ Some x
      → top_two b.running.operands ≡ Some (value point x.0, value point x.1, values point x.2)
  bench_top_two x e = ap top_two st.running.operands_are ∙ top_two_values point s.operands x e

  pub sound_add : add_rule s v → adding b next → FallsOn here Add s point b v next
  sound_add t rule =
      let f = found fine t in
      result Add _ f.0.2 _ (value_plus f.0.1 f.0.0 point) f.2 (λ number. goes_past number (goes_with (bench_top_two f.0 f.1) rule))

  pub sound_sub : sub_rule s v → subtracting b next → FallsOn here Sub s point b v next
  sound_sub t rule =
      let f = found fine t in
      result Sub _ f.0.2 _ (value_minus f.0.1 f.0.0 point) f.2 (λ number. goes_past number (goes_with (bench_top_two f.0 f.1) rule))

  pub sound_store : (k : ℕ) → k < length s.slots → store_rule here s k v → storing (bench_part here) b k next
      → FallsOn here (Store k) s point b v next
  sound_store k within t rule =
      let h = held fine t in
      let f = found fine h.1 in (
        _,
        (paid s fine f.2).1,
        record {
          new = _;
          motion = _;
          next_is = goes_with (bench_top f.0 f.1) (goes_past h.0 rule);
          there = point;
          stands = record {
            running = new_slot k f.0.0 within st.running st.running.is_point.1 refl;
            lie = record { places = st.lie.places; tray = st.lie.tray; grip = st.lie.grip };
          };
          paid = pays s.cost point;
          control = refl;
          kept = other_slot b.running.slots _ h.0;
        },
      )
