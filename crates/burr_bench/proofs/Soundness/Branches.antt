-- Instructions that send control to a label: `jump`, `down` and `pick`.
use Rattle.std.proofs.Common.{◌≡◌, ℕ, zero, suc, ◌<◌, ◌⊎◌, List, [], ◌∷◌, ◌++◌, length, Option, Some, None, refl, sym, subst, ap, ◌∙◌, arith, inl, inr}
use Rattle.std.specs.Prelude.{ℤ, pos, negsuc, neg_ℤ, ◌-ℤ◌, ◌≤ℤ◌, map, slice_get, get_or}
use Rattle.std.proofs.lemmas.Int.{ints}
use Rattle.std.proofs.lemmas.List.{length-set}
use Rattle.std.proofs.lemmas.List.Elements.{All-nil, All-cons, All-append}
use Rattle.std.proofs.lemmas.Option.{none-some, same_Some}
use Rattle.burr_code.specs.Instruction.{Down, Pick}
use Rattle.burr_code.specs.Labels.{labelled, with_first}
use Rattle.burr_code.proofs.Common.Labels.{with_first_is}
use Rattle.burr_forms.specs.Rules.Forms.{Form, Point, value, values, one_less, times}
use Rattle.burr_forms.specs.Rules.Points.{GuardsHold}
use Rattle.burr_container.specs.Rules.Plans.{Frame}
use Rattle.burr_frames.specs.Rules.FramedPlans.{FramedProcedure}
use Rattle.burr_frames.specs.Rules.States.{AbstractState}
use Rattle.burr_frames.specs.Rules.Arrival.{Arrives}
use Rattle.burr_frames.specs.Rules.ControlRules.{jump_rule, down_rule}
use Rattle.burr_frames.specs.Rules.QuestionRules.{pick_rule}
use Rattle.burr_frames.specs.Rules.Verdicts.{Verdict, NoSuccessor, arriving, arriving_at_all}
use Rattle.burr_verify.specs.Rules.WellFramed.{IsLabelled}
use Rattle.burr_state.specs.Rules.Bench.{BenchState}
use Rattle.burr_state.specs.Rules.Next.{Next, Goes, at_label, after}
use Rattle.burr_state.specs.Rules.Control.{by_count, jumping, counting_down}
use Rattle.burr_state.specs.Rules.Numbers.{with_slot}
use Rattle.burr_state.specs.Rules.Questions.{Takes}
use Rattle.burr_bench.specs.Soundness.Framing.{bench_part}
use Rattle.burr_bench.specs.Soundness.Standing.{StandsFor, Stands}
use Rattle.burr_bench.proofs.Soundness.StepOutcomes.{FallsOn, SentOn}
use Rattle.burr_frames.proofs.Common.FineVerdicts.{IsFine, held, found, held_everywhere, paid}
use Rattle.burr_bench.proofs.Soundness.Failing.{goes_past, goes_with}
use Rattle.burr_frames.proofs.Common.FormValues.{value_raised, value_negated}
use Rattle.burr_bench.proofs.Soundness.Operands.{falls_on, new_slot, other_slot, pays, same_slots}
use Rattle.burr_bench.proofs.Soundness.Arrival.{stands_at_frame}
use Rattle.burr_bench.proofs.Soundness.Mapped.{map_at}

-- a state that arrives
arrived : (s : AbstractState) (f : Frame) {Q : Type 0} {v : Verdict} → IsFine v
    → arriving s f (λ _. Q) v → Arrives s f × Q
arrived s f fine p =
    let known = found fine p in
    let alike = held fine known.2 in
    let at = held_everywhere s fine alike.1 in (
      record {
        meets = record {
          forms = known.0;
          known = known.1;
          alike = alike.0;
          agrees = λ q is. (at.0 q is).0;
        };
        cost = λ q is. (at.0 q is).1;
      },
      at.1,
    )

arrived_all : (s : AbstractState) (to : List (ℕ × Frame)) (v : Verdict) → IsFine v
    → arriving_at_all s to (λ v. v ≡ NoSuccessor) v → (i : ℕ) (l : ℕ × Frame) → slice_get to i ≡ Some l
    → Arrives s l.1
arrived_all s [] v fine p i l e = absurd (none-some _ e)
arrived_all s (first ∷ to) v fine p zero l e =
    subst (λ (l : ℕ × Frame). Arrives s l.1) (same_Some _ _ e) (arrived s first.1 fine p).0
arrived_all s (first ∷ to) v fine p (suc i) l e =
    arrived_all s to v fine (arrived s first.1 fine p).1 i l e

-- Labels that are all there

labelled_at : (all : List (ℕ × Frame)) (labels : List ℕ) (to : List (ℕ × Frame)) (i label : ℕ)
    → labelled all labels ≡ Some to → slice_get labels i ≡ Some label → (l : ℕ × Frame)
    × (slice_get to i ≡ Some l) × (slice_get all label ≡ Some l)
labelled_at all [] to i label h e = absurd (none-some _ e)
labelled_at all (first ∷ labels) to zero label h e =
    let f = with_first_is (slice_get all first) (labelled all labels) to h in (
      f.0,
      subst (λ ts. slice_get ts 0 ≡ Some f.0) f.4 refl,
      subst (λ k. slice_get all k ≡ Some f.0) (same_Some _ _ e) f.2,
    )
labelled_at all (first ∷ labels) to (suc i) label h e =
    let f = with_first_is (slice_get all first) (labelled all labels) to h in
    let r = labelled_at all labels f.1 i label f.3 e in
    (r.0, subst (λ ts. slice_get ts (suc i) ≡ Some r.0) f.4 r.1, r.2)

pub labelled_bare : (all : List (ℕ × Frame)) (labels : List ℕ) (to : List (ℕ × Frame))
    → labelled all labels ≡ Some to → labelled (map (λ (l : ℕ × Frame). l.0) all) labels
    ≡ Some (map (λ (l : ℕ × Frame). l.0) to)
labelled_bare all [] to h =
    ap (λ (ts : List (ℕ × Frame)). Some (map (λ (l : ℕ × Frame). l.0) ts)) (same_Some _ _ h)
labelled_bare all (first ∷ labels) to h =
    let f = with_first_is (slice_get all first) (labelled all labels) to h in
    ap (λ o. with_first o (labelled (map (λ (l : ℕ × Frame). l.0) all) labels))
    (map_at (λ (l : ℕ × Frame). l.0) all first f.0 f.2)
    ∙ ap (λ (o : Option (List ℕ)). with_first (Some f.0.0) o) (labelled_bare all labels f.1 f.3)
    ∙ ap (λ (ts : List (ℕ × Frame)). Some (map (λ (l : ℕ × Frame). l.0) ts)) f.4

one_more_guard : (guards : List Form) (g : Form) (point : Point) → GuardsHold guards point
    → pos 0 ≤ℤ value point g → GuardsHold (guards ++ g ∷ []) point
one_more_guard guards g point h k =
    All-append (λ (f : Form). pos 0 ≤ℤ value point f) guards (g ∷ []) h
    (All-cons (λ (f : Form). pos 0 ≤ℤ value point f) g [] k
    (All-nil (λ (f : Form). pos 0 ≤ℤ value point f)))

count_cases : {A : Type 0} (x : ℤ) (a b : A) → pos 0 ≤ℤ x → ((x ≡ pos 0) × (by_count x a b ≡ a))
    ⊎ ((pos 1 ≤ℤ x) × (by_count x a b ≡ b))
count_cases (pos zero) a b h = inl (refl, refl)
count_cases (pos (suc n)) a b h = inr (omega (arith, ints), refl)
count_cases (negsuc n) a b h = absurd (omega (arith, ints))

module _ (here : FramedProcedure) (s : AbstractState) (point : Point) (b : BenchState) (v : Verdict) (next : Next)
    (fine : IsFine v) (st : Stands s point b)
    (as_many : (pc : ℕ) (f : Frame) → IsLabelled here pc f → length f.slots ≡ length s.slots) where
  -- the bench at a label at whose frame the state arrives
  sent_on : (t : AbstractState) (slots : List (Option ℤ)) (label pc : ℕ) (f : Frame) → length t.slots ≡ length s.slots
      → slice_get here.labels label ≡ Some (pc, f) → Arrives t f → StandsFor t point slots b.running.operands
      → (t.places ≡ s.places) × (t.tray ≡ s.tray) × (t.grip ≡ s.grip) × (t.cost ≡ one_less s.cost)
      → ((j : ℕ) → j < here.parameters → get_or slots j None ≡ get_or b.running.slots j None)
      → next ≡ Goes (at_label pc (record b.running { slots = slots }) b) None → SentOn here s point b next
  sent_on t slots label pc f long at arrives stands same kept next_is = (
    pc,
    f,
    (label, at),
    record {
      new = _;
      motion = _;
      next_is = next_is;
      there = values point arrives.meets.forms;
      stands =
          stands_at_frame t f point _ arrives.meets (as_many pc f (label, at) ∙ sym long) (record {
            running = stands;
            lie = record { places = rw same.0 st.lie.places; tray = rw same.1 st.lie.tray; grip = rw same.2 st.lie.grip };
          });
      paid = less _ _ _ _ (arrives.cost point stands.is_point) (ap (value point) same.3) (pays s.cost point);
      control = refl;
      kept = kept;
    },
  )
    where
      less : (a b c d : ℤ) → a ≤ℤ b → b ≡ c → c ≤ℤ d → a ≤ℤ d
      less a b c d h e k = omega (arith, ints)

  pub sound_jump : (label : ℕ) → jump_rule here s label v → jumping (bench_part here) b label next → SentOn here s point b next
  sound_jump label t rule =
      let to = found fine t in
      let a = arrived _ to.0.1 fine (paid s fine to.2).1 in
      sent_on _ _ label to.0.0 to.0.1 refl to.1 a.0 (same_slots st.running st.running.is_point.1 st.running.operands_are)
      (refl, refl, refl, refl) (λ j below. refl)
      (goes_with (map_at (λ (l : ℕ × Frame). l.0) here.labels label to.0 to.1) rule)

  pub sound_pick : (labels : List ℕ) → pick_rule here s labels v → (x : ℤ) (new : BenchState)
      → Takes (bench_part here) b (Pick labels) x new → next ≡ Goes new None → SentOn here s point b next
  sound_pick labels t x new takes goes =
      let to = found fine t in
      let l = labelled_at here.labels labels to.0 takes.0 takes.1 to.1 takes.4 in
      let a = arrived_all _ to.0 v fine (paid s fine to.2).1 takes.0 l.0 l.1 in
      let at : takes.2 ≡ l.0.0 =
      same_Some _ _ (sym takes.5 ∙ map_at (λ (l : ℕ × Frame). l.0) here.labels takes.1 l.0 l.2) in
      sent_on _ _ takes.1 l.0.0 l.0.1 refl l.2 a (same_slots st.running st.running.is_point.1 st.running.operands_are)
      (refl, refl, refl, refl) (λ j below. refl)
      (goes ∙ ap (λ (y : BenchState). Goes y None) (takes.6 ∙ ap (λ k. at_label k b.running b) at))

  pub sound_down : (k label : ℕ) → k < length s.slots → down_rule here s k label v
      → counting_down (bench_part here) b k label next
      → FallsOn here (Down k label) s point b v next ⊎ SentOn here s point b next
  sound_down k label within t rule =
      let to = found fine t in
      let param = held fine to.2 in
      let f = found fine param.1 in
      let count = held_everywhere s fine (held fine f.2).1 in
      let room = held fine count.1 in
      let a = arrived _ to.0.1 fine (paid s fine room.1).1 in
      let is = st.running.is_point in
      let above : pos 0 ≤ℤ value point f.0 = count.0 point is in
      let went =
      goes_past above
      (goes_with (st.running.slots_known k f.0 f.1)
      (goes_past param.0 (goes_with (map_at (λ (l : ℕ × Frame). l.0) here.labels label to.0 to.1) rule))) in
      elim (count_cases (value point f.0) (after (Down k label) b.running b)
      (at_label to.0.0 (with_slot k (value point f.0 -ℤ pos 1) b.running) b) above) [
        | inl zero_now ↦
            let e = value_negated f.0 point in
            let z : value point f.0 ≡ pos 0 = zero_now.0 in
            inl (falls_on here s point b v next fine st (Down k label) a.1
            (went ∙ ap (λ (x : BenchState). Goes x None) zero_now.1)
            (one_more_guard s.guards (times (neg_ℤ (pos 1)) f.0) point is.1 (omega (arith, ints)))
            st.running.operands_are st.lie.places st.lie.tray st.lie.grip)
        | inr more ↦
            let less : value point (one_less f.0) ≡ (value point f.0 -ℤ pos 1) =
            (let e = value_raised (neg_ℤ (pos 1)) f.0 point in omega (arith, ints)) in
            let m : pos 1 ≤ℤ value point f.0 = more.0 in
            inr (sent_on _ _ label to.0.0 to.0.1 (length-set s.slots k _) to.1 a.0
            (new_slot k (one_less f.0) within st.running
            (one_more_guard s.guards (one_less f.0) point is.1 (omega (arith, ints))) st.running.operands_are)
            (refl, refl, refl, refl) (other_slot b.running.slots _ param.0)
            (went ∙ ap (λ (x : BenchState). Goes x None) (rw less more.1)))
      ]
