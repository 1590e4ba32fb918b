-- A return: the caller stands for its state after the call.
use Rattle.std.proofs.Common.{◌≡◌, ℕ, zero, suc, ◌<◌, List, [], ◌∷◌, ◌++◌, length, Option, Some, None, Bool, true, false, refl, sym, subst, ap, ◌∙◌, arith, inl, inr}
use Rattle.std.specs.Prelude.{ℤ, pos, ◌≤ℤ◌, map, take, drop, reverse, replicate, slice_get, get_or, nat_le, if◌then◌else◌}
use Rattle.std.proofs.lemmas.Int.{ints}
use Rattle.std.proofs.lemmas.List.{length-map, map-append, reverse-reverse, take-map, drop-map}
use Rattle.std.proofs.lemmas.Option.{none-some, same_Some}
use mathlib.Core.List.{reverse_aux}
use Rattle.burr_voxels.specs.declared.cell.Cell.{Cell}
use Rattle.burr_code.specs.Stacks.{top, top_many, split_at}
use Rattle.burr_code.proofs.Common.Labels.{with_first_is}
use Rattle.burr_forms.specs.Rules.Forms.{Form, Point, value, values, one_less}
use Rattle.burr_forms.specs.Rules.Points.{GuardsHold}
use Rattle.burr_container.specs.Rules.Plans.{Frame}
use Rattle.burr_frames.specs.Rules.FramedPlans.{FramedExit, FramedProcedure, FramedPlan}
use Rattle.burr_frames.specs.Rules.States.{AbstractState, places_at}
use Rattle.burr_frames.specs.Rules.Arrival.{live_forms}
use Rattle.burr_frames.specs.Rules.Verdicts.{Verdict}
use Rattle.burr_frames.specs.Rules.ControlRules.{first_forms, ret_rule}
use Rattle.burr_verify.specs.Rules.WellFramed.{IsLabelled, Enters}
use Rattle.burr_state.specs.Rules.Bench.{BenchState, Activation}
use Rattle.burr_state.specs.Rules.Next.{Next, Goes}
use Rattle.burr_state.specs.Rules.Control.{returned, returning}
use Rattle.burr_bench.specs.Soundness.Framing.{bench_part}
use Rattle.burr_bench.specs.Soundness.Standing.{StandsFor, Stands}
use Rattle.burr_bench.specs.Soundness.Invariant.{HasParameters, IsAdmitted, Waits}
use Rattle.burr_frames.proofs.Common.FineVerdicts.{IsFine, held, found, held_everywhere, paid}
use Rattle.burr_bench.proofs.Soundness.Failing.{goes_with}
use Rattle.burr_bench.proofs.Soundness.Arrival.{stands_at_frame}

-- where a state falls in, the bench stands for the state that goes on
pub record Entered (s : AbstractState) (there : Point) (t : AbstractState)
    (b : BenchState) : Type 0 where
  pub point : Point
  pub stands : Stands t point b
  pub cost : value point t.cost ≤ℤ value there s.cost

-- it is the same state
pub same_entered : {s t : AbstractState} {there : Point} {b : BenchState} → t ≡ s → Stands s there b → Entered s there t b
same_entered {s} {t} {there} {b} is st =
    subst (λ (u : AbstractState). Entered s there u b) (sym is) (record { point = there; stands = st; cost = omega (arith, ints) })

pub entered : (here : FramedProcedure) (pc : ℕ) (s t : AbstractState) (there : Point) (b : BenchState)
    → ((pc : ℕ) (f : Frame) → IsLabelled here pc f → length f.slots ≡ 8) → length s.slots ≡ 8
    → Enters here pc (Some s) t → Stands s there b → Entered s there t b
entered here pc s t there b eight as_many (inl l) st =
    subst (λ (u : AbstractState). Entered s there u b) (sym l.3) (record {
      point = values there l.2.meets.forms;
      stands = stands_at_frame s l.0 there b l.2.meets (eight pc l.0 l.1 ∙ sym as_many) st;
      cost = l.2.cost there st.running.is_point;
    })
entered here pc s t there b eight as_many (inr u) st = same_entered u.1 st

-- Lists

pub top_many_map : {A B : Type 0} (h : A → B) (n : ℕ) (xs : List A) (x : List A × List A)
    → top_many n xs ≡ Some x → top_many n (map h xs) ≡ Some (map h x.0, map h x.1)
top_many_map {A = A} {B = B} h n xs x e =
    rw (length-map xs h, take-map h n xs, drop-map h n xs) (by_test (nat_le n (length xs)) e)
  where
    by_test : (c : Bool) → (if c then Some (split_at n xs) else None) ≡ Some x
        → if◌then◌else◌ {A = Option (List B × List B)} c (Some (map h (take n xs), map h (drop n xs))) None
        ≡ Some (map h x.0, map h x.1)
    by_test true e = ap (λ (p : List A × List A). Some (map h p.0, map h p.1)) (same_Some _ _ e)
    by_test false e = absurd (none-some _ e)

reversed_map : {A B : Type 0} (h : A → B) (xs onto : List A) → map h (reverse_aux xs onto)
    ≡ reverse_aux (map h xs) (map h onto)
reversed_map h [] onto = refl
reversed_map h (x ∷ xs) onto = reversed_map h xs (x ∷ onto)

pub map_reverse : {A B : Type 0} (h : A → B) (xs : List A) → map h (reverse xs) ≡ reverse (map h xs)
map_reverse h xs = reversed_map h xs []

-- the forms in the first slots have the values of the parameters
parameters_from : (m : ℕ) (forms : List (Option Form)) (fs : List Form) (point : Point)
    (slots : List (Option ℤ)) (parameters : List ℤ) → first_forms m forms ≡ Some fs
    → ((v : ℕ) (f : Form) → get_or forms v None ≡ Some f → get_or slots v None
    ≡ Some (value point f)) → length parameters ≡ m
    → ((v : ℕ) → v < m → get_or slots v None ≡ slice_get parameters v) → values point fs
    ≡ parameters
parameters_from zero forms fs point slots [] e known len each =
    ap (λ (f : List Form). values point f) (sym (same_Some _ _ e))
parameters_from zero forms fs point slots (p ∷ parameters) e known len each = absurd (omega arith)
parameters_from (suc m) [] fs point slots parameters e known len each = absurd (none-some _ e)
parameters_from (suc m) (form ∷ forms) fs point [] parameters e known len each =
    let f = with_first_is form (live_forms (replicate m (Some (pos 0, pos 0))) forms) fs e in
    absurd (none-some _ (known 0 f.0 f.2))
parameters_from (suc m) (form ∷ forms) fs point (slot ∷ slots) [] e known len each =
    absurd (omega arith)
parameters_from (suc m) (form ∷ forms) fs point (slot ∷ slots) (p ∷ parameters) e known len each =
    let f = with_first_is form (live_forms (replicate m (Some (pos 0, pos 0))) forms) fs e in
    let first : value point f.0 ≡ p =
    same_Some _ _ (sym (known 0 f.0 f.2) ∙ each 0 (omega arith)) in
    let ih =
    parameters_from m forms f.1 point slots parameters f.3 (λ v g h. known (suc v) g h)
    (omega arith) (λ v lt. each (suc v) (omega arith)) in
    ap (λ (xs : List Form). values point xs) (sym f.4) ∙ ap (λ x. x ∷ values point f.1) first
    ∙ ap (λ xs. p ∷ xs) ih

-- Returning to the caller

-- the bench returns to its caller, and stands for the caller's state after the call
pub record ReturnsTo (homes : List (List Cell)) (plan : FramedPlan) (here : FramedProcedure)
    (parameters : List ℤ) (caller : Activation) (callers : List Activation)
    (waits : Waits homes plan here parameters caller) (b : BenchState) (next : Next) : Type 0 where
  pub results : List ℤ
  pub next_is : next ≡ Goes (returned results caller callers b) None
  pub point : Point
  pub stands : Stands waits.state point (returned results caller callers b)
  pub cost : value point waits.state.cost ≡ waits.cost

pub sound_ret : (homes : List (List Cell)) (plan : FramedPlan) (here : FramedProcedure)
    (parameters : List ℤ) (s : AbstractState) (point : Point) (b : BenchState) (v : Verdict)
    (next : Next) (caller : Activation) (callers : List Activation)
    → b.callers ≡ caller ∷ callers → (waits : Waits homes plan here parameters caller)
    → HasParameters here parameters b.running.slots → IsFine v → ret_rule here s v
    → Stands s point b → returning (bench_part here) b next
    → ReturnsTo homes plan here parameters caller callers waits b next
sound_ret homes plan here parameters s point b v next caller callers up waits own fine t st rule =
    let exit = found fine t in
    let fp = found fine exit.2 in
    let rs = found fine fp.2 in
    let alike = held fine (paid s fine rs.2).1 in
    let at = held_everywhere (record s { cost = one_less s.cost }) fine alike.1 in
    let same : exit.0 ≡ waits.exit = same_Some _ _ (sym exit.1 ∙ waits.exit_is) in
    let bench : top_many here.results b.running.operands ≡ Some
    (values point rs.0.0, values point rs.0.1) =
    ap (λ xs. top_many here.results xs) st.running.operands_are
    ∙ top_many_map (value point) here.results s.operands rs.0 rs.1 in
    let results : List ℤ = values point (reverse rs.0.0) in
    let here_at = at.0 point st.running.is_point in
    let ps : values point fp.0 ≡ parameters =
    parameters_from here.parameters s.slots fp.0 point b.running.slots parameters fp.1
    st.running.slots_known own.as_many own.each in
    let there : values point (fp.0 ++ reverse rs.0.0) ≡ (parameters ++ results) =
    map-append (value point) fp.0 (reverse rs.0.0) ∙ ap (λ xs. xs ++ results) ps in
    let admitted : IsAdmitted waits.exit parameters results =
    subst (λ (x : FramedExit). IsAdmitted x parameters results) same
    record {
      in_box = here_at.0;
      guards = subst (λ q. GuardsHold exit.0.guards q) there here_at.1;
    } in
    let r = waits.returns results admitted in
    let operands : reverse results ≡ values point rs.0.0 =
    ap reverse (map_reverse (value point) rs.0.0) ∙ reverse-reverse (values point rs.0.0) in
    record {
      results = values point rs.0.0;
      next_is = goes_with bench (goes_with (ap top up) rule);
      point = waits.point ++ results;
      stands = record {
        running = subst (λ xs. StandsFor waits.state (waits.point ++ results) caller.slots (xs ++ caller.operands)) operands r.stands;
        lie = record {
          places =
              st.lie.places ∙ here_at.2 ∙ ap (λ q. places_at q exit.0.places) there
              ∙ ap (λ (x : FramedExit). places_at (parameters ++ results) x.places) same ∙ r.places;
          tray = st.lie.tray ∙ alike.0.0 ∙ ap (λ (x : FramedExit). x.tray) same ∙ waits.tray;
          grip = st.lie.grip ∙ alike.0.1 ∙ ap (λ (x : FramedExit). x.grip) same ∙ waits.grip;
        };
      };
      cost = r.cost_is;
    }
