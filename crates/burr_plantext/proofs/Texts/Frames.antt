-- Frames as they are listed are right, and are read back.
use Rattle.std.proofs.Common.{◌≡◌, ℕ, suc, ◌+◌, ◌^◌, ◌<◌, ◌≤◌, ◌==◌, List, [], ◌∷◌, ◌++◌, length, map, Bool, true, false, not, IsTrue, ℤ, pos, negsuc, neg_ℤ, refl, sym, ap, subst, ◌∙◌, arith, lt-ltb, ltb-true, le-leb, eqb-true, eq-eqb, leb-true, length-append, Option, Some, None, is_none, ◌&&◌, nat_le, nat_lt, int_le, if◌then◌else◌, is_some, ne_eqb, pow_mono}
use Rattle.std.specs.List.{list_all}
use Rattle.std.specs.Str.Parse.{starts_with_minus}
use Rattle.std.specs.Fmt.{decimal, signed_decimal}
use Rattle.std.proofs.lemmas.Bool.{and_from, and_parts}
use Rattle.burr_code.specs.declared.placement.Placement.{Placement}
use Rattle.burr_code.specs.declared.limits.TheConstants.{TRAYS, SLOTS, MOST_OPERANDS, MOST_GUARDS}
use Rattle.burr_forms.specs.Rules.Forms.{Form}
use Rattle.burr_container.specs.Rules.Plans.{FormCell, Range, Frame, live_slots}
use Rattle.burr_plantext.specs.Rules.Written.{natural_in, number_in, is_within, is_below, is_operand, are_ends, set_numbers, are_members, is_form_over, form_in, slot_numbers}
use Rattle.burr_plantext.specs.Rules.Lines.{GripWords, SlotWords, PieceWords}
use Rattle.burr_plantext.specs.Rules.Sources.{Conditions}
use Rattle.burr_plantext.specs.Rules.Meaning.{range_in, slot_in, slots_in, place_in, places_in, frame_in}
use Rattle.burr_plantext.specs.Rules.Checks.{FaultKind, P1, P3, P4, unless, grip_check, is_spot, piece_check, slot_check, live_in, guard_check, stack_check}
use Rattle.burr_container.specs.Rules.Fitting.{are_slots, is_tray, is_set_of, is_place, are_places, are_forms}
use Rattle.burr_plantext.specs.Rules.Listing.{set_word, form_word, ends_of, slots_of, spot_of, spots_of, grip_of, frame_listed}
use Rattle.std.proofs.lemmas.List.{length-map}
use Rattle.std.proofs.lemmas.Int.{ints}
use Rattle.burr_code.specs.declared.placement.Placement.TheVariants as places
use Rattle.burr_plantext.specs.Rules.Right.{is_frame, each_after, all_right, conditions, are_conditions}
use Rattle.burr_container.specs.Rules.Fitting as fitting
use Rattle.burr_plantext.proofs.Common.Numbers.{IsSmall, natural_back, decimal_no_minus, number_back}
use Rattle.burr_plantext.proofs.Texts.Sets.{below_decimal, set_back, set_rises}
use Rattle.burr_plantext.proofs.Common.Forms.{spelled_form, form_fits, form_back, le_of_test}
use Rattle.burr_plantext.proofs.Texts.Tests.{and_four, and_three, passes, all_back}

-- Numbers

pub within_decimal : (low high n : ℕ) → low ≤ n → n ≤ high → n < 2 ^ 64 → IsTrue (is_within low high (decimal n))
within_decimal low high n above below small =
    let back = natural_back n small in
    and_from _ (nat_le (natural_in (decimal n)) high)
    (and_from (not (starts_with_minus (decimal n))) (nat_le low (natural_in (decimal n))) (ap not (decimal_no_minus n small)) (subst (λ (m : ℕ). IsTrue (nat_le low m)) (sym back) (le-leb low n above)))
    (subst (λ (m : ℕ). IsTrue (nat_le m high)) (sym back) (le-leb n high below))

-- Grips

pub tray_back : (tray : ℕ) → IsTrue (is_tray tray) → natural_in (decimal tray) ≡ tray
tray_back tray h = let below = ltb-true tray 32 h in natural_back tray (omega arith)

pub set_few : (pieces set : ℕ) → pieces ≤ 32 → IsTrue (is_set_of pieces set) → set < 2 ^ 32
set_few pieces set few h = let below = ltb-true set (2 ^ pieces) h in omega (arith, below, pow_mono few)

pub grip_right : (pieces tray set : ℕ) → IsTrue (is_tray tray) → IsTrue (is_set_of pieces set) → IsTrue (is_none (grip_check pieces (grip_of tray set)))
grip_right pieces tray set t s =
    let below = ltb-true tray 32 t in
    passes (is_below TRAYS (decimal tray) && are_members 0 pieces (set_numbers (set_word set))) P3 None
    (and_from (is_below TRAYS (decimal tray)) (are_members 0 pieces (set_numbers (set_word set))) (below_decimal 32 tray below (omega arith)) (set_rises set pieces (ltb-true set (2 ^ pieces) s))) refl

-- Ranges

pub end_small : (z : ℤ) → IsTrue (fitting.is_number z) → IsSmall z
end_small (pos n) h = let parts = and_parts (int_le (neg_ℤ (pos 32767)) (pos n)) (int_le (pos n) (pos 32767)) h in let high = le_of_test (pos n) (pos 32767) parts.1 in omega (arith, ints, high)
end_small (negsuc n) h = let parts = and_parts (int_le (neg_ℤ (pos 32767)) (negsuc n)) (int_le (negsuc n) (pos 32767)) h in let low = le_of_test (neg_ℤ (pos 32767)) (negsuc n) parts.0 in omega (arith, ints, low)

pub end_back : (z : ℤ) → IsTrue (fitting.is_number z) → number_in (signed_decimal z) ≡ z
end_back z h = number_back z (end_small z h)

pub end_right : (z : ℤ) → IsTrue (fitting.is_number z) → IsTrue (is_operand (signed_decimal z))
end_right z h = subst (λ (y : ℤ). IsTrue (fitting.is_number y)) (sym (end_back z h)) h

pub ends_right : (r : Range) → IsTrue (fitting.is_range (Some r)) → IsTrue (are_ends (ends_of r).low (ends_of r).high)
ends_right r h =
    let parts = and_three h in
    and_from _ (int_le (number_in (signed_decimal r.0)) (number_in (signed_decimal r.1)))
    (and_from (is_operand (signed_decimal r.0)) (is_operand (signed_decimal r.1)) (end_right r.0 parts.0) (end_right r.1 parts.1))
    (subst (λ (y : ℤ). IsTrue (int_le y (number_in (signed_decimal r.1)))) (sym (end_back r.0 parts.0))
    (subst (λ (y : ℤ). IsTrue (int_le r.0 y)) (sym (end_back r.1 parts.1)) parts.2))

pub ends_back : (r : Range) → IsTrue (fitting.is_range (Some r)) → range_in (ends_of r) ≡ r
ends_back r h =
    let two = and_parts (fitting.is_number r.0) (fitting.is_number r.1) (and_parts (fitting.is_number r.0 && fitting.is_number r.1) (int_le r.0 r.1) h).0 in
    λ i. (end_back r.0 two.0 i, end_back r.1 two.1 i)

-- Slots

-- each slot so far is below this one
abbrev pub AreBelow : ℕ → List SlotWords → Type 0
AreBelow k [] = Unit {0}
AreBelow k (s ∷ slots) = (natural_in s.slot < k) × AreBelow k slots

below_more : (k : ℕ) (slots : List SlotWords) → AreBelow k slots → AreBelow (suc k) slots
below_more k [] h = tt
below_more k (s ∷ slots) h = (omega (arith, h.0), below_more k slots h.1)

below_last : (k : ℕ) (slots : List SlotWords) (s : SlotWords) → AreBelow k slots → natural_in s.slot < k → AreBelow k (slots ++ s ∷ [])
below_last k [] s h low = (low, tt)
below_last k (t ∷ slots) s h low = (h.0, below_last k slots s h.1 low)

below_test : (k : ℕ) (slots : List SlotWords) (word : List ℕ) → natural_in word ≡ k → AreBelow k slots → IsTrue (list_all (λ (t : SlotWords). nat_lt (natural_in t.slot) (natural_in word)) slots)
below_test k [] word e h = refl
below_test k (s ∷ slots) word e h =
    and_from (nat_lt (natural_in s.slot) (natural_in word)) (list_all (λ (t : SlotWords). nat_lt (natural_in t.slot) (natural_in word)) slots)
    (lt-ltb (natural_in s.slot) (natural_in word) (omega (arith, e, h.0))) (below_test k slots word e h.1)

module _ (grip : GripWords) where
  abbrev checked : List SlotWords → SlotWords → Bool
  checked before s = is_none (slot_check (conditions grip before [] []) s)

  slot_right : (k : ℕ) (r : Range) (before : List SlotWords) → k < 8 → IsTrue (fitting.is_range (Some r)) → AreBelow k before → IsTrue (checked before (record { slot = decimal k; ends = ends_of r }))
  slot_right k r before few h below =
      let above = list_all (λ (t : SlotWords). nat_lt (natural_in t.slot) (natural_in (decimal k))) before in
      passes (is_below SLOTS (decimal k) && are_ends (ends_of r).low (ends_of r).high && above) P3 None
      (and_from (is_below SLOTS (decimal k) && are_ends (ends_of r).low (ends_of r).high) above
      (and_from (is_below SLOTS (decimal k)) (are_ends (ends_of r).low (ends_of r).high) (below_decimal 8 k few (omega arith)) (ends_right r h))
      (below_test k before (decimal k) (natural_back k (omega arith)) below)) refl

  slots_right : (k : ℕ) (slots : List (Option Range)) (before : List SlotWords) → k + length slots ≤ 8 → IsTrue (list_all fitting.is_range slots) → AreBelow k before
      → IsTrue (each_after checked before (slots_of k slots))
  slots_right k [] before few h below = refl
  slots_right k (None ∷ slots) before few h below = slots_right (suc k) slots before (omega arith) (and_parts true (list_all fitting.is_range slots) h).1 (below_more k before below)
  slots_right k (Some r ∷ slots) before few h below =
      let parts = and_parts (fitting.is_range (Some r)) (list_all fitting.is_range slots) h in
      let s : SlotWords = record { slot = decimal k; ends = ends_of r } in
      let back = natural_back k (omega arith) in
      and_from (checked before s) (each_after checked (before ++ s ∷ []) (slots_of (suc k) slots)) (slot_right k r before (omega arith) parts.0 below)
      (slots_right (suc k) slots (before ++ s ∷ []) (omega arith) parts.1 (below_last (suc k) before s (below_more k before below) (omega (arith, back))))

-- the range of a slot, where the list begins with that of another
abbrev pub slot_from : ℕ → List (Option Range) → ℕ → Option Range
slot_from k [] v = None
slot_from k (s ∷ slots) v = if k == v then s else slot_from (suc k) slots v

slot_below : (k v : ℕ) (slots : List (Option Range)) → v < k → slot_from k slots v ≡ None
slot_below k v [] below = refl
slot_below k v (s ∷ slots) below = ap (λ (t : Bool). if t then s else slot_from (suc k) slots v) (ne_eqb k v (λ e. omega arith)) ∙ slot_below (suc k) v slots (omega arith)

none_first : (t : Bool) (k v : ℕ) (slots : List (Option Range)) → (k == v) ≡ t → slot_from (suc k) slots v ≡ (if t then None else slot_from (suc k) slots v)
none_first true k v slots e = let same : k ≡ v = eqb-true k v e in slot_below (suc k) v slots (omega arith)
none_first false k v slots e = refl

slot_back : (k v : ℕ) (slots : List (Option Range)) → k + length slots ≤ 8 → IsTrue (list_all fitting.is_range slots) → slot_in (slots_of k slots) v ≡ slot_from k slots v
slot_back k v [] few h = refl
slot_back k v (None ∷ slots) few h = slot_back (suc k) v slots (omega arith) (and_parts true (list_all fitting.is_range slots) h).1 ∙ none_first (k == v) k v slots refl
slot_back k v (Some r ∷ slots) few h =
    let parts = and_parts (fitting.is_range (Some r)) (list_all fitting.is_range slots) h in
    let more = slot_back (suc k) v slots (omega arith) parts.1 in
    let ends = ends_back r parts.0 in
    ap (λ (n : ℕ). if n == v then Some (range_in (ends_of r)) else slot_in (slots_of (suc k) slots) v) (natural_back k (omega arith))
    ∙ (λ i. if k == v then Some (ends i) else more i)

eight : (slots : List (Option Range)) → length slots ≡ 8 → map (slot_from 0 slots) slot_numbers ≡ slots
eight (a ∷ b ∷ c ∷ d ∷ e ∷ f ∷ g ∷ h ∷ []) few = refl
eight _ few = absurd (omega arith)

map_same : {A B : Type 0} (f g : A → B) → ((x : A) → f x ≡ g x) → (xs : List A) → map f xs ≡ map g xs
map_same f g e [] = refl
map_same f g e (x ∷ xs) = λ i. e x i ∷ map_same f g e xs i

pub slots_back : (slots : List (Option Range)) → IsTrue (are_slots slots) → slots_in (slots_of 0 slots) ≡ slots
slots_back slots h =
    let parts = and_parts (length slots == SLOTS) (list_all fitting.is_range slots) h in
    let few : length slots ≡ 8 = eqb-true (length slots) 8 parts.0 in
    map_same (slot_in (slots_of 0 slots)) (slot_from 0 slots) (λ v. slot_back 0 v slots (omega arith) parts.1) slot_numbers ∙ eight slots few

-- Forms

module _ (live : List Bool) (eight_live : length live ≡ 8) where
  pub forms_right : (most : ℕ) (check : List (List ℕ) → List ℕ → Option FaultKind)
      → ((before : List (List ℕ)) (x : List ℕ) → IsTrue (is_form_over live x) → length before < most → IsTrue (is_none (check before x)))
      → (forms : List Form) (before : List (List ℕ)) → length before + length forms ≤ most → IsTrue (list_all (fitting.is_form live) forms)
      → IsTrue (each_after (λ b x. is_none (check b x)) before (map form_word forms))
  forms_right most check passes_one [] before few h = refl
  forms_right most check passes_one (f ∷ forms) before few h =
      let parts = and_parts (fitting.is_form live f) (list_all (fitting.is_form live) forms) h in
      and_from (is_none (check before (form_word f))) (each_after (λ b x. is_none (check b x)) (before ++ form_word f ∷ []) (map form_word forms))
      (passes_one before (form_word f) (form_fits live f eight_live parts.0) (omega arith))
      (forms_right most check passes_one forms (before ++ form_word f ∷ []) (omega (arith, length-append before (form_word f ∷ []))) parts.1)

  pub forms_back : (forms : List Form) → IsTrue (list_all (fitting.is_form live) forms) → map form_in (map form_word forms) ≡ forms
  forms_back = all_back (fitting.is_form live) form_word form_in (λ f k. form_back f (spelled_form live f eight_live k))

  spot_right : (place : Placement FormCell) → IsTrue (is_place live place) → IsTrue (is_spot live (spot_of place))
  spot_right places.Apart h = refl
  spot_right (places.On tray at) h =
      let tests = and_four h in
      let below = ltb-true tray 32 tests.0 in
      and_from _ (is_form_over live (form_word at.z)) (and_from _ (is_form_over live (form_word at.y)) (and_from (is_below TRAYS (decimal tray)) (is_form_over live (form_word at.x))
      (below_decimal 32 tray below (omega arith)) (form_fits live at.x eight_live tests.1)) (form_fits live at.y eight_live tests.2)) (form_fits live at.z eight_live tests.3)

  place_back : (place : Placement FormCell) → IsTrue (is_place live place) → place_in (spot_of place) ≡ place
  place_back places.Apart h = refl
  place_back (places.On tray at) h =
      let tests = and_four h in
      let x = form_back at.x (spelled_form live at.x eight_live tests.1) in
      let y = form_back at.y (spelled_form live at.y eight_live tests.2) in
      let z = form_back at.z (spelled_form live at.z eight_live tests.3) in
      λ i. places.On (tray_back tray tests.0 i) (record { x = x i; y = y i; z = z i })

  pub spots_right : (check : List PieceWords → PieceWords → Option FaultKind)
      → ((before : List PieceWords) (p : PieceWords) → IsTrue (is_none (piece_check live before p)) → IsTrue (is_none (check before p)))
      → (k : ℕ) (all : List (Placement FormCell)) (before : List PieceWords) → length before ≡ k → k + length all < 2 ^ 64 → IsTrue (list_all (is_place live) all)
      → IsTrue (each_after (λ b p. is_none (check b p)) before (spots_of k all))
  spots_right check passes_one k [] before same few h = refl
  spots_right check passes_one k (place ∷ all) before same few h =
      let parts = and_parts (is_place live place) (list_all (is_place live) all) h in
      let p : PieceWords = record { piece = decimal k; spot = spot_of place } in
      and_from (is_none (check before p)) (each_after (λ b p. is_none (check b p)) (before ++ p ∷ []) (spots_of (suc k) all))
      (passes_one before p (passes (is_within (length before) (length before) (decimal k)) P1 (unless (is_spot live (spot_of place)) P3 None)
      (within_decimal (length before) (length before) k (omega (arith, same)) (omega (arith, same)) (omega arith))
      (passes (is_spot live (spot_of place)) P3 None (spot_right place parts.0) refl)))
      (spots_right check passes_one (suc k) all (before ++ p ∷ []) (omega (arith, length-append before (p ∷ []), same)) (omega arith) parts.1)

  pub places_back : (k : ℕ) (all : List (Placement FormCell)) → IsTrue (list_all (is_place live) all) → places_in (spots_of k all) ≡ all
  places_back k [] h = refl
  places_back k (place ∷ all) h =
      let parts = and_parts (is_place live place) (list_all (is_place live) all) h in
      λ i. place_back place parts.0 i ∷ places_back (suc k) all parts.1 i

pub spots_length : (k : ℕ) (all : List (Placement FormCell)) → length (spots_of k all) ≡ length all
spots_length k [] = refl
spots_length k (place ∷ all) = ap suc (spots_length (suc k) all)

-- Frames

-- the parts of a frame that fits
pub record Fitting (pieces : ℕ) (f : Frame) : Type 0 where
  pub tray : IsTrue (is_tray f.tray)
  pub grip : IsTrue (is_set_of pieces f.grip)
  pub slots : IsTrue (are_slots f.slots)
  pub guards : IsTrue (are_forms MOST_GUARDS (live_slots f.slots) f.guards)
  pub stack : IsTrue (are_forms MOST_OPERANDS (live_slots f.slots) f.stack)
  pub cost : IsTrue (fitting.is_form (live_slots f.slots) f.cost)
  pub places : IsTrue (are_places pieces (live_slots f.slots) f.places)

pub fits_of : (pieces : ℕ) (f : Frame) → IsTrue (fitting.is_frame pieces f) → Fitting pieces f
fits_of pieces f h =
    let tests = and_four h in
    let rest = and_four tests.3 in
    record { tray = tests.0; grip = tests.1; slots = tests.2; guards = rest.0; stack = rest.1; cost = rest.2; places = rest.3 }

module _ (pieces : ℕ) (few : pieces ≤ 32) (f : Frame) (h : IsTrue (fitting.is_frame pieces f)) where
  fit : Fitting pieces f
  fit = fits_of pieces f h

  abbrev live : List Bool
  live = live_slots f.slots

  eight_live : length live ≡ 8
  eight_live = length-map f.slots is_some ∙ eqb-true (length f.slots) 8 (and_parts (length f.slots == SLOTS) (list_all fitting.is_range f.slots) fit.slots).0

  abbrev listed : Conditions
  listed = (frame_listed f).conditions

  same_live : live_slots (slots_in (slots_of 0 f.slots)) ≡ live
  same_live = ap live_slots (slots_back f.slots fit.slots)

  over_live : (x : List ℕ) → IsTrue (is_form_over live x) → IsTrue (is_form_over (live_slots (slots_in (slots_of 0 f.slots))) x)
  over_live x k = subst (λ (l : List Bool). IsTrue (is_form_over l x)) (sym same_live) k

  conditions_right : IsTrue (are_conditions pieces listed)
  conditions_right =
      let g = grip_of f.tray f.grip in
      let ss = slots_of 0 f.slots in
      let gs = map form_word f.guards in
      let guards = and_parts (nat_le (length f.guards) MOST_GUARDS) (list_all (fitting.is_form live) f.guards) fit.guards in
      let stack = and_parts (nat_le (length f.stack) MOST_OPERANDS) (list_all (fitting.is_form live) f.stack) fit.stack in
      let slots = and_parts (length f.slots == SLOTS) (list_all fitting.is_range f.slots) fit.slots in
      let eight_slots : length f.slots ≡ 8 = eqb-true (length f.slots) 8 slots.0 in
      and_from _ _ (and_from _ _ (and_from _ _ (grip_right pieces f.tray f.grip fit.tray fit.grip)
      (slots_right g 0 f.slots [] (omega arith) slots.1 tt))
      (forms_right live eight_live 4 (λ before x. guard_check (conditions g ss before []) x)
      (λ before x over room. passes (is_form_over (live_in (conditions g ss before [])) x) P3 (unless (nat_lt (length before) MOST_GUARDS) P4 None) (over_live x over)
      (passes (nat_lt (length before) MOST_GUARDS) P4 None (lt-ltb (length before) 4 room) refl))
      f.guards [] (let k = leb-true (length f.guards) 4 guards.0 in omega arith) guards.1))
      (forms_right live eight_live 8 (λ before x. stack_check (conditions g ss gs before) x)
      (λ before x over room. passes (is_form_over (live_in (conditions g ss gs before)) x) P3 (unless (nat_lt (length before) MOST_OPERANDS) P4 None) (over_live x over)
      (passes (nat_lt (length before) MOST_OPERANDS) P4 None (lt-ltb (length before) 8 room) refl))
      f.stack [] (let k = leb-true (length f.stack) 8 stack.0 in omega arith) stack.1)

  pub frame_right : IsTrue (is_frame pieces (frame_listed f))
  frame_right =
      let parts = and_parts (length f.places == pieces) (list_all (is_place live) f.places) fit.places in
      let size : length f.places ≡ pieces = eqb-true (length f.places) pieces parts.0 in
      and_from _ _ (and_from _ _ (and_from _ _ conditions_right
      (passes (is_form_over (live_in listed) (form_word f.cost)) P3 None (over_live (form_word f.cost) (form_fits live f.cost eight_live fit.cost)) refl))
      (subst (λ (l : List Bool). IsTrue (all_right (piece_check l) (spots_of 0 f.places))) (sym same_live)
      (spots_right live eight_live (piece_check live) (λ before p k. k) 0 f.places [] refl (omega arith) parts.1)))
      (eq-eqb (length (spots_of 0 f.places)) pieces (spots_length 0 f.places ∙ size))

  pub frame_back : frame_in (frame_listed f) ≡ f
  frame_back =
      let guards = and_parts (nat_le (length f.guards) MOST_GUARDS) (list_all (fitting.is_form live) f.guards) fit.guards in
      let stack = and_parts (nat_le (length f.stack) MOST_OPERANDS) (list_all (fitting.is_form live) f.stack) fit.stack in
      let places = and_parts (length f.places == pieces) (list_all (is_place live) f.places) fit.places in
      let tray = tray_back f.tray fit.tray in
      let grip = set_back f.grip (set_few pieces f.grip few fit.grip) in
      let slots = slots_back f.slots fit.slots in
      let guard = forms_back live eight_live f.guards guards.1 in
      let operands = forms_back live eight_live f.stack stack.1 in
      let cost = form_back f.cost (spelled_form live f.cost eight_live fit.cost) in
      let spots = places_back live eight_live 0 f.places places.1 in
      λ i. record { tray = tray i; grip = grip i; slots = slots i; guards = guard i; stack = operands i; cost = cost i; places = spots i }
