-- A plan within the format, with its forms over symbols, has what containers promise.
use Rattle.std.proofs.Common.{◌≡◌, ℕ, zero, suc, ◌-◌, ◌^◌, ◌<◌, ◌≤◌, ◌&&◌, ◌==◌, Bool, true, false, IsTrue, nat_lt, nat_le, Option, Some, None, List, [], ◌∷◌, ◌++◌, length, map, refl, sym, ap, ◌∙◌, subst, arith, ltb-true, leb-true, eqb-true}
use Rattle.std.specs.Prelude.{ℤ, pos, replicate, slice_get, option_map}
use Rattle.std.specs.List.{list_all}
use Rattle.std.proofs.lemmas.Bool.{and_parts, false≢true}
use Rattle.std.proofs.lemmas.Option.{none-some, same_Some}
use Rattle.std.proofs.lemmas.List.{length-map}
use Rattle.burr_code.specs.declared.placement.Placement.{Placement}
use Rattle.burr_code.specs.declared.placement.Placement.TheVariants.{Apart, On}
use Rattle.burr_code.specs.declared.limits.TheConstants.{SLOTS, MOST_BUDGET, MOST_LABELS, MOST_PROCEDURES}
use Rattle.burr_forms.specs.Rules.Forms.{Form}
use Rattle.burr_container.specs.Rules.Plans.{FormCell, Range, Frame, ExitFrame, PlanProcedure, Plan, live_slots, exit_symbols, of_live, over_symbols, place_over_symbols}
use Rattle.burr_container.specs.Rules.Fitting.{is_tray, is_set_of, are_slots, is_range, is_frame, is_frame_rest, is_exit, rise_from, are_labels, is_procedure, are_procedures, is_fitting}
use Rattle.burr_container.proofs.Common.Procedures.{procedure_fits}
use Rattle.burr_container.proofs.Common.Containers.{plan_fits}
use Rattle.burr_frames.specs.Rules.States.{live_ranges}
use Rattle.burr_frames.specs.Views.Over.{AllZero, ZeroFrom, IsWellScoped, AllOver, AllPlacesOver, IsWellScopedFrame}
use Rattle.burr_frames.specs.Rules.FramedPlans.{FramedExit, FramedProcedure, framed, framed_exit, framed_label, framed_procedure, framed_plan}
use Rattle.burr_verify.specs.Rules.Pass.{IsLaidOut}
use Rattle.burr_verify.specs.Rules.WellFramed.{IsLabelled}
use Rattle.burr_verify.specs.Views.FromContainers.{IsFromContainer, HasProcedures}

-- Lists

-- where all elements of a list pass a test, each one passes it
all_at : {A : Type 0} (test : A → Bool) (xs : List A) (k : ℕ) (x : A) → IsTrue (list_all test xs)
    → slice_get xs k ≡ Some x → IsTrue (test x)
all_at test [] k x all e = absurd (none-some x e)
all_at test (y ∷ xs) zero x all e =
    subst (λ z. IsTrue (test z)) (same_Some y x e) (and_parts (test y) (list_all test xs) all).0
all_at test (y ∷ xs) (suc k) x all e = all_at test xs k x (and_parts (test y) (list_all test xs) all).1 e

-- an element of a list that is made from another is made from the one there
pub made_from : {A B : Type 0} (f : A → B) (xs : List A) (k : ℕ) (y : B) → slice_get (map f xs) k ≡ Some y
    → (x : A) × (slice_get xs k ≡ Some x) × (f x ≡ y)
made_from f [] k y e = absurd (none-some y e)
made_from f (x ∷ xs) zero y e = (x, refl, same_Some (f x) y e)
made_from f (x ∷ xs) (suc k) y e = made_from f xs k y e

-- Forms over symbols

all_zero : (k : ℕ) → AllZero (replicate k (pos 0))
all_zero zero = tt
all_zero (suc k) = (refl, all_zero k)

zeros_from : (n : ℕ) (coefs : List ℤ) → AllZero coefs → ZeroFrom n coefs
zeros_from zero coefs h = h
zeros_from (suc n) [] h = tt
zeros_from (suc n) (c ∷ coefs) h = zeros_from n coefs h.1

zeros_after : (n k : ℕ) (coefs : List ℤ) → length coefs ≤ n → ZeroFrom n (coefs ++ replicate k (pos 0))
zeros_after n k [] few = zeros_from n (replicate k (pos 0)) (all_zero k)
zeros_after zero k (c ∷ coefs) few = absurd (omega arith)
zeros_after (suc n) k (c ∷ coefs) few = zeros_after n k coefs (omega arith)

-- of the live slots there are no more than ranges
few_live : (slots : List (Option Range)) (coefs : List ℤ)
    → length (of_live (live_slots slots) coefs) ≤ length (live_ranges slots)
few_live [] coefs = omega arith
few_live (slot ∷ slots) [] = omega arith
few_live (None ∷ slots) (c ∷ coefs) = few_live slots coefs
few_live (Some range ∷ slots) (c ∷ coefs) = let more = few_live slots coefs in omega (arith, more)

form_over : (slots : List (Option Range)) (f : Form)
    → IsWellScoped (length (live_ranges slots)) (over_symbols (live_slots slots) f)
form_over slots f =
    let live : List ℤ = of_live (live_slots slots) f.coefs in
    zeros_after (length (live_ranges slots)) (SLOTS - length live) live (few_live slots f.coefs)

forms_over : (slots : List (Option Range)) (forms : List Form)
    → AllOver (length (live_ranges slots)) (map (over_symbols (live_slots slots)) forms)
forms_over slots [] = tt
forms_over slots (f ∷ forms) = (form_over slots f, forms_over slots forms)

places_over : (slots : List (Option Range)) (places : List (Placement FormCell))
    → AllPlacesOver (length (live_ranges slots)) (map (place_over_symbols (live_slots slots)) places)
places_over slots [] = tt
places_over slots (Apart ∷ places) = places_over slots places
places_over slots (On tray c ∷ places) =
    (form_over slots c.x, form_over slots c.y, form_over slots c.z, places_over slots places)

over_its_own : (f : Frame) → IsWellScopedFrame (framed f)
over_its_own f = record {
  guards = forms_over f.slots f.guards;
  stack = forms_over f.slots f.stack;
  places = places_over f.slots f.places;
  cost = form_over f.slots f.cost;
}

-- Frames

eight_slots : (pieces : ℕ) (f : Frame) → IsTrue (is_frame pieces f) → length f.slots ≡ 8
eight_slots pieces f fits =
    let head = is_tray f.tray && is_set_of pieces f.grip in
    let front = (and_parts (head && are_slots f.slots) (is_frame_rest pieces (live_slots f.slots) f) fits).0 in
    let slots = (and_parts head (are_slots f.slots) front).1 in
    eqb-true (length f.slots) 8 (and_parts (length f.slots == SLOTS) (list_all is_range f.slots) slots).0

-- Labels

-- a position of rising ones is within their bounds
between : (least end : ℕ) (labels : List (ℕ × Frame)) (k : ℕ) (a : ℕ × Frame)
    → IsTrue (rise_from least end labels) → slice_get labels k ≡ Some a → (least ≤ a.0) × (a.0 < end)
between least end [] k a rise e = absurd (none-some a e)
between least end (label ∷ labels) zero a rise e =
    let here = (and_parts _ (rise_from (suc label.0) end labels) rise).0 in
    let bounds = and_parts (nat_le least label.0) (nat_lt label.0 end) here in
    subst (λ (l : ℕ × Frame). (least ≤ l.0) × (l.0 < end)) (same_Some label a e)
    (leb-true least label.0 bounds.0, ltb-true label.0 end bounds.1)
between least end (label ∷ labels) (suc k) a rise e =
    let parts = and_parts (nat_le least label.0 && nat_lt label.0 end) (rise_from (suc label.0) end labels) rise in
    let low = leb-true least label.0 (and_parts (nat_le least label.0) (nat_lt label.0 end) parts.0).0 in
    let more = between (suc label.0) end labels k a parts.1 e in
    (omega (arith, low, more.0), more.1)

rising : (least end : ℕ) (labels : List (ℕ × Frame)) (j k : ℕ) (a b : ℕ × Frame)
    → IsTrue (rise_from least end labels) → j < k → slice_get labels j ≡ Some a → slice_get labels k ≡ Some b
    → a.0 < b.0
rising least end [] j k a b rise l e f = absurd (none-some a e)
rising least end (label ∷ labels) j zero a b rise l e f = absurd (omega arith)
rising least end (label ∷ labels) zero (suc k) a b rise l e f =
    let more = (and_parts _ (rise_from (suc label.0) end labels) rise).1 in
    let low = (between (suc label.0) end labels k b more f).0 in
    let same : label.0 ≡ a.0 = ap (λ (x : ℕ × Frame). x.0) (same_Some label a e) in
    omega (arith, low, same)
rising least end (label ∷ labels) (suc j) (suc k) a b rise l e f =
    rising (suc label.0) end labels j k a b (and_parts _ (rise_from (suc label.0) end labels) rise).1
    (omega arith) e f

-- what the format promises of the labels of a code of this length
record AreLaid (pieces end : ℕ) (labels : List (ℕ × Frame)) : Type 0 where
  some : 1 ≤ length labels
  rise : IsTrue (rise_from 0 end labels)
  first : (label : ℕ × Frame) → slice_get labels 0 ≡ Some label → label.0 ≡ 0
  frames : IsTrue (list_all (λ label. is_frame pieces label.1) labels)

laid : (pieces end : ℕ) (labels : List (ℕ × Frame)) → IsTrue (are_labels pieces end labels)
    → AreLaid pieces end labels
laid pieces end [] are = absurd (false≢true are)
laid pieces end (first ∷ labels) are =
    let a = and_parts _ (list_all (λ label. is_frame pieces label.1) (first ∷ labels)) are in
    let b = and_parts _ (nat_le (length (first ∷ labels)) MOST_LABELS) a.0 in
    let c = and_parts (first.0 == 0) (rise_from 0 end (first ∷ labels)) b.0 in record {
      some = omega arith;
      rise = c.1;
      first = λ label e. subst (λ (l : ℕ × Frame). l.0 ≡ 0) (same_Some first label e) (eqb-true first.0 0 c.0);
      frames = a.1;
    }

-- Procedures

-- main has no exit frame, each other procedure has one
abbrev HasExit : Bool → Option FramedExit → Type 0
HasExit true exit = exit ≡ None
HasExit false exit = (f : FramedExit) × (exit ≡ Some f)

has_exit : (version pieces : ℕ) (main : Bool) (parameters results : ℕ) (exit : Option ExitFrame)
    → IsTrue (is_exit version main pieces parameters results exit)
    → HasExit main (option_map (framed_exit (exit_symbols parameters results)) exit)
has_exit version pieces true parameters results None is = refl
has_exit version pieces true parameters results (Some f) is = absurd (false≢true is)
has_exit version pieces false parameters results None is = absurd (false≢true is)
has_exit version pieces false parameters results (Some f) is = (framed_exit (exit_symbols parameters results) f, refl)

-- what the format promises of a frame, and of a procedure
abbrev IsKept : Frame → Type 0
IsKept f = (length f.slots ≡ 8) × IsWellScopedFrame f

record IsPromised (main : Bool) (here : FramedProcedure) : Type 0 where
  exit : HasExit main here.exit
  some : 1 ≤ length here.labels
  laid_out : IsLaidOut here
  first : (label : ℕ × Frame) → slice_get here.labels 0 ≡ Some label → label.0 ≡ 0
  frames : (pc : ℕ) (f : Frame) → IsLabelled here pc f → IsKept f

promised : (version pieces : ℕ) (main : Bool) (q : PlanProcedure) → IsTrue (is_procedure version pieces main q)
    → IsPromised main (framed_procedure q)
promised version pieces main q is =
    let fits = procedure_fits version pieces main q is in
    let t = laid pieces (length q.code) q.labels fits.labels in record {
      exit = has_exit version pieces main q.parameters q.results q.exit fits.exit;
      some = subst (λ (m : ℕ). 1 ≤ m) (sym (length-map q.labels framed_label)) t.some;
      laid_out = record {
        rising =
            λ j k a b l e f.
            (let one = made_from framed_label q.labels j a e in
            let two = made_from framed_label q.labels k b f in
            subst (λ (x : ℕ × Frame). x.0 < b.0) one.2
            (subst (λ (y : ℕ × Frame). one.0.0 < y.0) two.2
            (rising 0 (length q.code) q.labels j k one.0 two.0 t.rise l one.1 two.1)));
        within =
            λ pc f labelled.
            (let one = made_from framed_label q.labels labelled.0 (pc, f) labelled.1 in
            subst (λ (x : ℕ × Frame). x.0 < length q.code) one.2
            (between 0 (length q.code) q.labels labelled.0 one.0 t.rise one.1).1);
      };
      first =
          λ label e.
          (let one = made_from framed_label q.labels 0 label e in
          sym (ap (λ (l : ℕ × Frame). l.0) one.2) ∙ t.first one.0 one.1);
      frames =
          λ pc f labelled.
          (let one = made_from framed_label q.labels labelled.0 (pc, f) labelled.1 in
          let fit = all_at (λ (l : ℕ × Frame). is_frame pieces l.1) q.labels labelled.0 one.0 t.frames one.1 in
          subst (λ (l : ℕ × Frame). IsKept l.1) one.2 (eight_slots pieces one.0.1 fit, over_its_own one.0.1));
    }

-- Plans

abbrev is_first : ℕ → Bool
is_first zero = true
is_first (suc n) = false

each_promised : (version pieces : ℕ) (qs : List PlanProcedure) (n : ℕ) (q : PlanProcedure)
    → IsTrue (are_procedures version pieces qs) → slice_get qs n ≡ Some q → IsPromised (is_first n) (framed_procedure q)
each_promised version pieces [] n q fits e = absurd (none-some q e)
each_promised version pieces (main ∷ others) zero q fits e =
    let rest = list_all (is_procedure version pieces false) others in
    let both = (and_parts (is_procedure version pieces true main && rest) _ fits).0 in
    subst (λ (x : PlanProcedure). IsPromised true (framed_procedure x)) (same_Some main q e)
    (promised version pieces true main (and_parts (is_procedure version pieces true main) rest both).0)
each_promised version pieces (main ∷ others) (suc n) q fits e =
    let rest = list_all (is_procedure version pieces false) others in
    let both = (and_parts (is_procedure version pieces true main && rest) _ fits).0 in
    promised version pieces false q
    (all_at (is_procedure version pieces false) others n q
    (and_parts (is_procedure version pieces true main) rest both).1 e)

how_many : (version pieces : ℕ) (qs : List PlanProcedure) → IsTrue (are_procedures version pieces qs)
    → (1 ≤ length qs) × (length qs ≤ 16)
how_many version pieces [] fits = absurd (false≢true fits)
how_many version pieces (main ∷ others) fits =
    let few = (and_parts _ (nat_le (length (main ∷ others)) MOST_PROCEDURES) fits).1 in
    (omega arith, leb-true (length (main ∷ others)) 16 few)

here_promised : (p : Plan) → IsTrue (is_fitting p) → (n : ℕ) (here : FramedProcedure)
    → slice_get (framed_plan p).procedures n ≡ Some here → IsPromised (is_first n) here
here_promised p fits n here e =
    let there = made_from framed_procedure p.procedures n here e in
    subst (λ (x : FramedProcedure). IsPromised (is_first n) x) there.2
    (each_promised p.version p.pieces p.procedures n there.0 (plan_fits p fits).procedures there.1)

-- Its budget is at most 1,000,000.
pub fitting_budget : (p : Plan) → IsTrue (is_fitting p) → p.budget ≤ 1000000
fitting_budget p fits =
    leb-true p.budget 1000000 (and_parts (nat_le 1 p.budget) (nat_le p.budget MOST_BUDGET) (plan_fits p fits).budget).1

small : (budget : ℕ) → budget ≤ 1000000 → budget < 2 ^ 64 - 1
small budget le = omega (arith, le)

-- A plan within the format has what containers promise.
pub fitting_is_from_container : (p : Plan) → IsTrue (is_fitting p) → IsFromContainer (framed_plan p)
fitting_is_from_container p fits = record {
  laid_out = λ n here e. (here_promised p fits n here e).laid_out;
  first = λ n here label e at. (here_promised p fits n here e).first label at;
  eight = λ n here e pc f labelled. ((here_promised p fits n here e).frames pc f labelled).0;
  own = λ n here e pc f labelled. ((here_promised p fits n here e).frames pc f labelled).1;
  main = λ here e. (here_promised p fits 0 here e).exit;
  budget = small p.budget (fitting_budget p fits);
}

-- It has 1 to 16 procedures, each with a label, and all but main with an exit frame.
pub fitting_procedures : (p : Plan) → IsTrue (is_fitting p) → HasProcedures (framed_plan p)
fitting_procedures p fits =
    let many = how_many p.version p.pieces p.procedures (plan_fits p fits).procedures in
    let same = length-map p.procedures framed_procedure in record {
      some = subst (λ (m : ℕ). 1 ≤ m) (sym same) many.0;
      few = subst (λ (m : ℕ). m ≤ 16) (sym same) many.1;
      labels = λ n here e. (here_promised p fits n here e).some;
      exits = λ n here e. (here_promised p fits (suc n) here e).exit;
    }
