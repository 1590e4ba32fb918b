-- What a container has of its plan: procedures, labels and frames within the format.
use Rattle.std.proofs.Common.{◌≡◌, ℕ, zero, suc, ◌+◌, ◌<◌, ◌≤◌, ◌&&◌, ◌==◌, nat_le, nat_lt, Bool, true, false, IsTrue, Option, Some, None, List, [], ◌∷◌, ◌++◌, length, refl, sym, ap, ◌∙◌, subst, arith, append-nil, eqb-true, ltb-true, leb-true, slice_get}
use Rattle.std.specs.List.{list_all}
use Rattle.std.proofs.lemmas.Bool.{and_parts, false≢true}
use Rattle.burr_code.specs.declared.limits.TheConstants.{MOST_LABELS, SLOTS, MOST_GUARDS, MOST_OPERANDS}
use Rattle.burr_container.specs.Rules.Plans.{Frame, ExitFrame, PlanProcedure, Plan, live_slots, exit_symbols}
use Rattle.burr_container.specs.Views.Refs.{exit_frame_of}
use Rattle.burr_plantext.specs.Views.Parts.{exit_text}
use Rattle.burr_plantext.specs.Views.Symbols.{IsOverLive, IsOverFirst}
use Rattle.std.proofs.lemmas.Option.{same_Some, none-some}
use Rattle.burr_container.specs.Rules.Fitting.{is_procedure, is_exit, is_frame, is_form, is_fitting, are_procedures, are_parameters, are_results, is_exit_frame, is_exit_rest, most_exit_guards, are_labels, is_code, rise_from, is_tray, is_set_of, is_range, are_forms, are_places, is_place, are_ranges}
use Rattle.burr_container.specs.declared.frame_ref.ExitRef.{ExitRef}
use Rattle.burr_container.specs.Views.InPlace.{AreFor, IsProcedure, IsExit, IsExitFrame}
use Rattle.burr_container.specs.Views.Containers.{ContainerView, IsContainer, HasPlan, OfProcedure}
use Rattle.burr_container.proofs.Common.Containers.{plan_fits}
use Rattle.burr_plantext.proofs.FrameSteps.{all_at, first_symbols}
use Rattle.burr_plantext.proofs.Steps.{got_at}
use Rattle.burr_plantext.proofs.Texts.Tests.{and_five, and_four, and_three}
use Rattle.burr_plantext.proofs.Texts.Exits.{most_by, results_most}
use Rattle.burr_plantext.proofs.Texts.Frames.{fits_of}

pub as_many : {A B : Type 0} (Is : A → B → Type 0) (xs : List A) (ys : List B) → AreFor Is xs ys
    → length xs ≡ length ys
as_many Is [] [] are = refl
as_many Is (x ∷ xs) (y ∷ ys) are = ap suc (as_many Is xs ys are.1)
as_many Is _ _ are = absurd are

pub for_at : {A B : Type 0} (Is : A → B → Type 0) (xs : List A) (ys : List B) (n : ℕ) (y : B)
    → AreFor Is xs ys → slice_get ys n ≡ Some y → (x : A) × (slice_get xs n ≡ Some x) × Is x y
for_at Is [] [] n y are here = absurd (none-some y here)
for_at Is (x ∷ xs) (z ∷ ys) zero y are here =
    (x, refl, subst (λ y. Is x y) (same_Some z y here) are.0)
for_at Is (x ∷ xs) (z ∷ ys) (suc n) y are here = for_at Is xs ys n y are.1 here
for_at Is _ _ n y are here = absurd are

-- a procedure of the plan of a container
pub record OfPlan (kept : ContainerView) (i : ℕ) : Type 0 where
  pub plan : Plan
  pub fits : IsTrue (is_fitting plan)
  pub is : IsContainer kept plan
  pub procedure : PlanProcedure
  pub here : slice_get plan.procedures i ≡ Some procedure

pub of_plan : (kept : ContainerView) (i : ℕ) → HasPlan kept → i < length kept.procedures
    → OfPlan kept i
of_plan kept i (p, fits, is) inside =
    let many = as_many (IsProcedure p.pieces) kept.procedures p.procedures is.procedures in
    let (q, here) = got_at p.procedures i (omega (arith, inside, many)) in
    record { plan = p; fits = fits; is = is; procedure = q; here = here }

-- a procedure within the format: main, or another one
abbrev pub FitsProcedure : ℕ → ℕ → PlanProcedure → Type 0
FitsProcedure version pieces q =
    (main : Bool) × IsTrue (are_parameters main q.parameters)
    × IsTrue (are_results version main q.results)
    × IsTrue (is_exit version main pieces q.parameters q.results q.exit)
    × IsTrue (are_labels pieces (length q.code) q.labels) × IsTrue (is_code q.code)

by_place : (version pieces : ℕ) (main : PlanProcedure) (others : List PlanProcedure) (i : ℕ)
    (q : PlanProcedure) → IsTrue (is_procedure version pieces true main)
    → IsTrue (list_all (is_procedure version pieces false) others)
    → slice_get (main ∷ others) i ≡ Some q → FitsProcedure version pieces q
by_place version pieces main others zero q first rest here =
    let tests = and_five first in
    subst (λ (q : PlanProcedure). FitsProcedure version pieces q) (same_Some main q here)
    (true, tests.0, tests.1, tests.2, tests.3, tests.4)
by_place version pieces main others (suc i) q first rest here =
    let tests = and_five (all_at (is_procedure version pieces false) others i q rest here) in
    (false, tests.0, tests.1, tests.2, tests.3, tests.4)

procedure_in : (version pieces : ℕ) (ps : List PlanProcedure) (i : ℕ) (q : PlanProcedure)
    → IsTrue (are_procedures version pieces ps) → slice_get ps i ≡ Some q
    → FitsProcedure version pieces q
procedure_in version pieces [] i q h here = absurd (none-some q here)
procedure_in version pieces (main ∷ others) i q h here =
    let tests = and_three h in
    by_place version pieces main others i q tests.0 tests.1 here

pub procedure_fits : (p : Plan) (i : ℕ) (q : PlanProcedure) → IsTrue (is_fitting p)
    → slice_get p.procedures i ≡ Some q → FitsProcedure p.version p.pieces q
procedure_fits p i q fits here =
    procedure_in p.version p.pieces p.procedures i q (plan_fits p fits).procedures here

-- Labels

-- labels within the format
pub record FitsLabels (pieces end : ℕ) (labels : List (ℕ × Frame)) : Type 0 where
  pub rise : IsTrue (rise_from 0 end labels)
  pub frames : IsTrue (list_all (λ (label : ℕ × Frame). is_frame pieces label.1) labels)
  pub first : (l : ℕ × Frame) → slice_get labels 0 ≡ Some l → l.0 ≡ 0
  pub some : 0 < length labels

pub labels_fit : (pieces end : ℕ) (labels : List (ℕ × Frame))
    → IsTrue (are_labels pieces end labels) → FitsLabels pieces end labels
labels_fit pieces end [] h = absurd (false≢true h)
labels_fit pieces end (l ∷ labels) h =
    let tests = and_four h in
    record {
      rise = tests.1;
      frames = tests.3;
      first = λ k here. ap (λ (m : ℕ × Frame). m.0) (sym (same_Some l k here)) ∙ eqb-true l.0 0 tests.0;
      some = omega arith;
    }

-- where the first of labels that rise stands
rises_first : (least end : ℕ) (m : ℕ × Frame) (labels : List (ℕ × Frame)) → IsTrue (rise_from least end (m ∷ labels)) → (least ≤ m.0) × (m.0 < end) × IsTrue (rise_from (suc m.0) end labels)
rises_first least end m labels h =
    let a = and_parts (nat_le least m.0 && nat_lt m.0 end) (rise_from (suc m.0) end labels) h in
    let b = and_parts (nat_le least m.0) (nat_lt m.0 end) a.0 in
    (leb-true least m.0 b.0, ltb-true m.0 end b.1, a.1)

-- where a label stands among those that rise
pub rises_at : (least end : ℕ) (labels : List (ℕ × Frame)) (n : ℕ) (l : ℕ × Frame)
    → IsTrue (rise_from least end labels) → slice_get labels n ≡ Some l
    → (least ≤ l.0) × (l.0 < end)
rises_at least end [] n l h here = absurd (none-some l here)
rises_at least end (m ∷ labels) zero l h here =
    let a = rises_first least end m labels h in
    let same = ap (λ (k : ℕ × Frame). k.0) (same_Some m l here) in
    (omega (arith, a.0, same), omega (arith, a.1, same))
rises_at least end (m ∷ labels) (suc n) l h here =
    let a = rises_first least end m labels h in
    let both = rises_at (suc m.0) end labels n l a.2 here in
    (omega (arith, a.0, both.0), both.1)

pub rises_next : (least end : ℕ) (labels : List (ℕ × Frame)) (n : ℕ) (l m : ℕ × Frame)
    → IsTrue (rise_from least end labels) → slice_get labels n ≡ Some l
    → slice_get labels (suc n) ≡ Some m → l.0 < m.0
rises_next least end [] n l m h here there = absurd (none-some l here)
rises_next least end (k ∷ labels) zero l m h here there =
    let both = rises_at (suc k.0) end labels 0 m (rises_first least end k labels h).2 there in
    let same = ap (λ (k : ℕ × Frame). k.0) (same_Some k l here) in
    omega (arith, both.0, same)
rises_next least end (k ∷ labels) (suc n) l m h here there =
    rises_next (suc k.0) end labels n l m (rises_first least end k labels h).2 here there

-- Frames

pub frame_over : (pieces : ℕ) (f : Frame) → IsTrue (is_frame pieces f) → IsOverLive f
frame_over pieces f h =
    let live = live_slots f.slots in
    let fit = fits_of pieces f h in
    record {
      slots = eqb-true (length f.slots) SLOTS (and_parts (length f.slots == SLOTS) (list_all is_range f.slots) fit.slots).0;
      guards = (and_parts (nat_le (length f.guards) MOST_GUARDS) (list_all (is_form live) f.guards) fit.guards).1;
      stack = (and_parts (nat_le (length f.stack) MOST_OPERANDS) (list_all (is_form live) f.stack) fit.stack).1;
      cost = fit.cost;
      places = (and_parts (length f.places == pieces) (list_all (is_place live) f.places) fit.places).1;
    }

pub exit_over : (version pieces parameters results : ℕ) (f : ExitFrame)
    → parameters + results ≤ 6 → IsTrue (is_exit_frame version pieces parameters results f)
    → IsOverFirst (exit_symbols parameters results) f
exit_over version pieces parameters results f few h =
    let live = exit_symbols parameters results in
    let a = and_parts (is_tray f.tray && is_set_of pieces f.grip) (is_exit_rest version pieces results live f) h in
    let guards = are_forms (most_exit_guards version) live f.guards in
    let c = and_parts (are_ranges results f.results && guards) (are_places pieces live f.places) a.1 in
    let b = and_parts (are_ranges results f.results) guards c.0 in
    record {
      first = first_symbols (parameters + results) few;
      guards =
          (and_parts (nat_le (length f.guards) (most_exit_guards version)) (list_all (is_form live) f.guards) b.1).1;
      places = (and_parts (length f.places == pieces) (list_all (is_place live) f.places) c.1).1;
    }

exit_by : (version : ℕ) (main : Bool) (pieces parameters results : ℕ) (f : ExitFrame)
    → IsTrue (is_exit version main pieces parameters results (Some f))
    → IsTrue (is_exit_frame version pieces parameters results f)
exit_by version true pieces parameters results f h = absurd (false≢true h)
exit_by version false pieces parameters results f h = h

-- the exit frame that is read is that of the plan
pub exit_same : (pieces parameters results : ℕ) (found : Option ExitRef) (exit : ExitRef)
    (is : Option ExitFrame) → IsExit pieces parameters results found is → found ≡ Some exit
    → (f : ExitFrame) × (is ≡ Some f) × IsExitFrame pieces parameters results exit f
exit_same pieces parameters results None exit is h e = absurd (none-some exit e)
exit_same pieces parameters results (Some kept) exit None h e = absurd h
exit_same pieces parameters results (Some kept) exit (Some f) h e =
    (f, refl, subst (λ (kept : ExitRef). IsExitFrame pieces parameters results kept f) (same_Some kept exit e) h)

pub no_exit : (pieces parameters results : ℕ) (found : Option ExitRef) (is : Option ExitFrame)
    (text : List ℕ) → IsExit pieces parameters results found is
    → ((exit : ExitRef) → found ≡ Some exit → ⊥) → text ≡ text ++ exit_text is
no_exit pieces parameters results None None text h none = sym (append-nil text)
no_exit pieces parameters results None (Some f) text h none = absurd h
no_exit pieces parameters results (Some kept) is text h none = absurd (none kept refl)

pub exit_of_procedure : (kept : ContainerView) (i : ℕ) (found : Option ExitRef) (exit : ExitRef)
    → HasPlan kept → i < length kept.procedures
    → OfProcedure kept i (λ p q. IsExit p.pieces q.parameters q.results found q.exit)
    → found ≡ Some exit → IsOverFirst exit.places.live (exit_frame_of exit)
exit_of_procedure kept i found exit has inside are e =
    let o = of_plan kept i has inside in
    let q = o.procedure in
    let (main, parameters, results, fits, labels, code) = procedure_fits o.plan i q o.fits o.here in
    let (f, same, is) = exit_same o.plan.pieces q.parameters q.results found exit q.exit (are o.plan q o.is o.here) e in
    let frame_fits =
    exit_by o.plan.version main o.plan.pieces q.parameters q.results f
    (subst (λ (exit : Option ExitFrame). IsTrue (is_exit o.plan.version main o.plan.pieces q.parameters q.results exit)) same fits) in
    let few = most_by main q.parameters 4 parameters in
    let least = (results_most main (o.plan.version == 2) q.results results).0 in
    subst (λ (live : List Bool). IsOverFirst live (exit_frame_of exit)) (sym is.live)
    (subst (λ (f : ExitFrame). IsOverFirst (exit_symbols q.parameters q.results) f) (sym is.frame)
    (exit_over o.plan.version o.plan.pieces q.parameters q.results f (omega (arith, few, least)) frame_fits))

pub exit_added : (pieces parameters results : ℕ) (found : Option ExitRef) (exit : ExitRef)
    (is : Option ExitFrame) (old new : List ℕ) → IsExit pieces parameters results found is
    → found ≡ Some exit → new ≡ old ++ exit_text (Some (exit_frame_of exit))
    → new ≡ old ++ exit_text is
exit_added pieces parameters results found exit is old new h e says =
    let (f, same, of) = exit_same pieces parameters results found exit is h e in
    says ∙ ap (λ (f : ExitFrame). old ++ exit_text (Some f)) of.frame
    ∙ ap (λ (is : Option ExitFrame). old ++ exit_text is) (sym same)
