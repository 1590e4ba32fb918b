-- What is right as it is written fits the format: frames and exit frames.
use Rattle.std.proofs.Common.{◌≡◌, ℕ, suc, ◌+◌, ◌^◌, ◌<◌, ◌≤◌, ◌==◌, List, [], ◌∷◌, ◌++◌, length, map, Bool, true, false, not, IsTrue, ℤ, pos, neg_ℤ, refl, sym, ap, ◌∙◌, arith, lt-ltb, ltb-true, le-leb, leb-true, eqb-true, eq-eqb, length-append, ◌&&◌, is_none, nat_le, nat_lt, Option, Some, None, if◌then◌else◌, slice_index_or, pow_mono, subst}
use Rattle.std.specs.List.{list_all}
use Rattle.std.specs.Str.Parse.{starts_with_minus}
use Rattle.std.proofs.lemmas.Bool.{and_from, and_parts}
use Rattle.std.proofs.lemmas.List.{length-map}
use Rattle.burr_code.specs.declared.limits.TheConstants.{TRAYS, SLOTS, MOST_GUARDS}
use Rattle.burr_container.specs.Rules.Plans.{Range}
use Rattle.burr_plantext.specs.Rules.Written.{natural_in, number_in, is_within, is_below, are_ends, set_numbers, set_in, set_of, are_members, term_words, constant_word, coefficient_word, slot_word, are_terms, is_form_over, coefficient_of, slot_numbers, form_in}
use Rattle.burr_plantext.specs.Rules.Sources.{ExitSource, FrameSource}
use Rattle.burr_plantext.specs.Rules.Meaning.{range_in, slot_in, place_in, places_in, frame_in, exit_in, some_exit_in, result_count}
use Rattle.burr_plantext.specs.Rules.Checks.{P1, P3, P4, unless, is_spot, piece_check, slot_check, live_in, guard_check, stack_check, exit_live, result_check, exit_guard_check, exit_piece_check, FaultKind}
use Rattle.burr_container.specs.Rules.Fitting.{is_between, is_coefficient, are_coefficients, is_tray, is_set_of, is_place, are_forms, is_exit_frame}
use Rattle.std.proofs.Math.Nat.{two-pow-succ}
use Rattle.burr_plantext.specs.Rules.Lines.{Apart, On, ProcedureWords, RangeWords, SlotWords, PlaceWords, PieceWords}
use Rattle.burr_plantext.specs.Rules.Right.{is_frame, is_exit, each_after, all_right, conditions, exit_source, has_exit}
use Rattle.burr_container.specs.Rules.Fitting as fitting
use Rattle.burr_plantext.proofs.Texts.Tests.{and_five, and_four, and_three, unless_none, all_mapped}
use Rattle.burr_plantext.proofs.Common.Pieces.{not_both}
use Rattle.burr_plantext.proofs.Texts.Exits.{eight_symbols}

-- Tests

-- what holds of each element after those before it holds of all
pub each_all : {A : Type 0} (is_so : List A → A → Bool) (q : A → Bool) → ((before : List A) (x : A) → IsTrue (is_so before x) → IsTrue (q x)) → (before xs : List A)
    → IsTrue (each_after is_so before xs) → IsTrue (list_all q xs)
each_all is_so q gives before [] h = refl
each_all is_so q gives before (x ∷ xs) h =
    let parts = and_parts (is_so before x) (each_after is_so (before ++ x ∷ []) xs) h in
    and_from (q x) (list_all q xs) (gives before x parts.0) (each_all is_so q gives (before ++ x ∷ []) xs parts.1)

-- this many at most, where there is room for each after those before it
pub few_all : {A : Type 0} (is_so : List A → A → Bool) (most : ℕ) → ((before : List A) (x : A) → IsTrue (is_so before x) → length before < most) → (before xs : List A)
    → IsTrue (each_after is_so before xs) → length before ≤ most → length before + length xs ≤ most
few_all is_so most room before [] h few = omega arith
few_all is_so most room before (x ∷ xs) h few =
    let parts = and_parts (is_so before x) (each_after is_so (before ++ x ∷ []) xs) h in
    let here = room before x parts.0 in
    let size = length-append before (x ∷ []) in
    let more = few_all is_so most room (before ++ x ∷ []) xs parts.1 (omega (arith, size, here)) in
    omega (arith, more, size)

-- Numbers and sets

pub below : (bound : ℕ) (w : List ℕ) → IsTrue (is_below bound w) → natural_in w < bound
below bound w h = ltb-true (natural_in w) bound (and_parts (not (starts_with_minus w)) (nat_lt (natural_in w) bound) h).1

pub within : (low high : ℕ) (w : List ℕ) → IsTrue (is_within low high w) → (low ≤ natural_in w) × (natural_in w ≤ high)
within low high w h =
    let two = and_parts (not (starts_with_minus w) && nat_le low (natural_in w)) (nat_le (natural_in w) high) h in
    (leb-true low (natural_in w) (and_parts (not (starts_with_minus w)) (nat_le low (natural_in w)) two.0).1, leb-true (natural_in w) high two.1)

set_bound : (least bound : ℕ) (ws : List (List ℕ)) → least ≤ bound → IsTrue (are_members least bound ws) → set_of ws + 2 ^ least ≤ 2 ^ bound
set_bound least bound [] low h = omega (arith, pow_mono low)
set_bound least bound (w ∷ ws) low h =
    let n = natural_in w in
    let tests = and_three h in
    let high = below bound w tests.0 in
    let from : least ≤ n = leb-true least n tests.1 in
    let more = set_bound (suc n) bound ws high tests.2 in
    let rise : 2 ^ least ≤ 2 ^ n = pow_mono from in
    omega (arith, more, rise, two-pow-succ n)

pub set_fits : (pieces : ℕ) (w : List ℕ) → IsTrue (are_members 0 pieces (set_numbers w)) → IsTrue (is_set_of pieces (set_in w))
set_fits pieces w h = let bound = set_bound 0 pieces (set_numbers w) (omega arith) h in lt-ltb (set_in w) (2 ^ pieces) (omega (arith, bound))

-- Forms

zero_coefficient : (l : Bool) → IsTrue (is_coefficient l (pos 0))
zero_coefficient true = refl
zero_coefficient false = refl

live_coefficient : (l : Bool) (c : ℤ) → l ≡ true → IsTrue (is_between (neg_ℤ (pos 32768)) (pos 32767) c) → IsTrue (is_coefficient l c)
live_coefficient true c e h = h
live_coefficient false c e h = grind arith

choose_coefficient : (t : Bool) (l : Bool) (c d : ℤ) → (IsTrue t → IsTrue (is_coefficient l c)) → IsTrue (is_coefficient l d) → IsTrue (is_coefficient l (if t then c else d))
choose_coefficient true l c d f g = f refl
choose_coefficient false l c d f g = g

coefficient_fits : (live : List Bool) (least v : ℕ) (terms : List (List ℕ)) → IsTrue (are_terms live least terms) → IsTrue (is_coefficient (slice_index_or live v false) (coefficient_of v terms))
coefficient_fits live least v [] h = zero_coefficient (slice_index_or live v false)
coefficient_fits live least v (term ∷ terms) h =
    let slot = natural_in (slot_word term) in
    let tests = and_four h in
    choose_coefficient (slot == v) (slice_index_or live v false) (number_in (coefficient_word term)) (coefficient_of v terms)
    (λ same. live_coefficient (slice_index_or live v false) (number_in (coefficient_word term)) (ap (λ (n : ℕ). slice_index_or live n false) (sym (eqb-true slot v same)) ∙ tests.1) tests.2)
    (coefficient_fits live (suc slot) v terms tests.3)

eight_coefficients : (live : List Bool) (c : ℕ → ℤ) → length live ≡ 8 → ((v : ℕ) → IsTrue (is_coefficient (slice_index_or live v false) (c v))) → IsTrue (are_coefficients live (map c slot_numbers))
eight_coefficients (a ∷ b ∷ d ∷ e ∷ f ∷ g ∷ h ∷ i ∷ []) c few each =
    and_from (is_coefficient a (c 0)) _ (each 0) (and_from (is_coefficient b (c 1)) _ (each 1) (and_from (is_coefficient d (c 2)) _ (each 2) (and_from (is_coefficient e (c 3)) _ (each 3)
    (and_from (is_coefficient f (c 4)) _ (each 4) (and_from (is_coefficient g (c 5)) _ (each 5) (and_from (is_coefficient h (c 6)) _ (each 6) (and_from (is_coefficient i (c 7)) true (each 7) refl)))))))
eight_coefficients _ c few each = absurd (omega arith)

pub form_fits : (live : List Bool) (w : List ℕ) → length live ≡ 8 → IsTrue (is_form_over live w) → IsTrue (fitting.is_form live (form_in w))
form_fits live w eight h =
    let constant = is_between (neg_ℤ (pos 2147483648)) (pos 2147483647) (number_in (constant_word w)) in
    let parts = and_parts constant (are_terms live 0 (term_words w)) h in
    and_from constant (are_coefficients live (map (λ slot. coefficient_of slot (term_words w)) slot_numbers)) parts.0
    (eight_coefficients live (λ slot. coefficient_of slot (term_words w)) eight (λ v. coefficient_fits live 0 v (term_words w) parts.1))

-- a form after others
abbrev form_check : ℕ → List Bool → List (List ℕ) → List ℕ → Option FaultKind
form_check most live before g = unless (is_form_over live g) P3 (unless (nat_lt (length before) most) P4 None)

-- forms that are checked, each after those before it
checked_forms : (live : List Bool) (most : ℕ) (is_so : List (List ℕ) → List ℕ → Bool) → ((before : List (List ℕ)) (g : List ℕ) → IsTrue (is_so before g) → IsTrue (is_none (form_check most live before g)))
    → length live ≡ 8 → (ws : List (List ℕ)) → IsTrue (each_after is_so [] ws) → IsTrue (are_forms most live (map form_in ws))
checked_forms live most is_so gives eight ws h =
    let tests : (before : List (List ℕ)) (g : List ℕ) → IsTrue (is_so before g) → IsTrue (is_form_over live g) × IsTrue (is_none (unless (nat_lt (length before) most) P4 None)) =
    λ before g k. unless_none (is_form_over live g) P3 (unless (nat_lt (length before) most) P4 None) (gives before g k) in
    let few = few_all is_so most (λ before g k. ltb-true (length before) most (unless_none (nat_lt (length before) most) P4 None (tests before g k).1).0) [] ws h (omega arith) in
    let over = each_all is_so (is_form_over live) (λ before g k. (tests before g k).0) [] ws h in
    and_from (nat_le (length (map form_in ws)) most) (list_all (fitting.is_form live) (map form_in ws)) (le-leb (length (map form_in ws)) most (omega (arith, few, length-map ws form_in)))
    (all_mapped (is_form_over live) (fitting.is_form live) form_in (λ w. form_fits live w eight) ws over)

-- Pieces

spot_fits : (live : List Bool) (spot : PlaceWords) → length live ≡ 8 → IsTrue (is_spot live spot) → IsTrue (is_place live (place_in spot))
spot_fits live Apart eight h = refl
spot_fits live (On tray x y z) eight h =
    let tests = and_four h in
    and_from _ _ (and_from _ _ (and_from (is_tray (natural_in tray)) _ (lt-ltb (natural_in tray) 32 (below 32 tray tests.0)) (form_fits live x eight tests.1)) (form_fits live y eight tests.2)) (form_fits live z eight tests.3)

places_fit : (live : List Bool) (pieces : List PieceWords) → length live ≡ 8 → IsTrue (list_all (λ (p : PieceWords). is_spot live p.spot) pieces) → IsTrue (list_all (is_place live) (places_in pieces))
places_fit live pieces eight h = all_mapped (λ (p : PieceWords). is_spot live p.spot) (is_place live) (λ (p : PieceWords). place_in p.spot) (λ p. spot_fits live p.spot eight) pieces h

spot_of_check : (live : List Bool) (before : List PieceWords) (p : PieceWords) → IsTrue (is_none (piece_check live before p)) → IsTrue (is_spot live p.spot)
spot_of_check live before p h =
    let more = (unless_none (is_within (length before) (length before) p.piece) P1 (unless (is_spot live p.spot) P3 None) h).1 in
    (unless_none (is_spot live p.spot) P3 None more).0

-- Slots

range_slot : (t : Bool) (ends : RangeWords) (other : Option Range) → IsTrue (are_ends ends.low ends.high) → IsTrue (fitting.is_range other) → IsTrue (fitting.is_range (if t then Some (range_in ends) else other))
range_slot true ends other h k = h
range_slot false ends other h k = k

slot_fits : (v : ℕ) (slots : List SlotWords) → IsTrue (list_all (λ (s : SlotWords). are_ends s.ends.low s.ends.high) slots) → IsTrue (fitting.is_range (slot_in slots v))
slot_fits v [] h = refl
slot_fits v (s ∷ slots) h =
    let parts = and_parts (are_ends s.ends.low s.ends.high) (list_all (λ (s : SlotWords). are_ends s.ends.low s.ends.high) slots) h in
    range_slot (natural_in s.slot == v) s.ends (slot_in slots v) parts.0 (slot_fits v slots parts.1)

all_slots : (slots : List SlotWords) → IsTrue (list_all (λ (s : SlotWords). are_ends s.ends.low s.ends.high) slots) → (vs : List ℕ) → IsTrue (list_all fitting.is_range (map (slot_in slots) vs))
all_slots slots h [] = refl
all_slots slots h (v ∷ vs) = and_from (fitting.is_range (slot_in slots v)) (list_all fitting.is_range (map (slot_in slots) vs)) (slot_fits v slots h) (all_slots slots h vs)

-- Frames

pub frame_fits : (pieces : ℕ) (f : FrameSource) → IsTrue (is_frame pieces f) → IsTrue (fitting.is_frame pieces (frame_in f))
frame_fits pieces f h =
    let c = f.conditions in
    let live = live_in c in
    let tests = and_four h in
    let front = and_four tests.0 in
    let grip = and_parts (is_below TRAYS c.grip.tray) (are_members 0 pieces (set_numbers c.grip.set)) (unless_none (is_below TRAYS c.grip.tray && are_members 0 pieces (set_numbers c.grip.set)) P3 None front.0).0 in
    let ends = each_all (λ before s. is_none (slot_check (conditions c.grip before [] []) s)) (λ (s : SlotWords). are_ends s.ends.low s.ends.high) (ends_of_check c.grip) [] c.slots front.1 in
    let guards = checked_forms live 4 (λ before g. is_none (guard_check (conditions c.grip c.slots before []) g)) (λ before g k. k) refl c.guards front.2 in
    let stack = checked_forms live 8 (λ before g. is_none (stack_check (conditions c.grip c.slots c.guards before) g)) (λ before g k. k) refl c.stack front.3 in
    let cost_form = (unless_none (is_form_over live f.cost) P3 None tests.1).0 in
    let spot_tests = each_all (λ before p. is_none (piece_check live before p)) (λ (p : PieceWords). is_spot live p.spot) (spot_of_check live) [] f.pieces tests.2 in
    let size : length f.pieces ≡ pieces = eqb-true (length f.pieces) pieces tests.3 in
    let places = and_from (length (places_in f.pieces) == pieces) (list_all (is_place live) (places_in f.pieces)) (eq-eqb (length (places_in f.pieces)) pieces (length-map f.pieces (λ (p : PieceWords). place_in p.spot) ∙ size)) (places_fit live f.pieces refl spot_tests) in
    and_from _ _ (and_from _ _ (and_from (is_tray (natural_in c.grip.tray)) (is_set_of pieces (set_in c.grip.set)) (lt-ltb (natural_in c.grip.tray) 32 (below 32 c.grip.tray grip.0)) (set_fits pieces c.grip.set grip.1))
    (all_slots c.slots ends slot_numbers))
    (and_from _ _ (and_from _ _ (and_from _ _ guards stack) (form_fits live f.cost refl cost_form)) places)
  where
    ends_of_check : (g : _) (before : List SlotWords) (s : SlotWords) → IsTrue (is_none (slot_check (conditions g before [] []) s)) → IsTrue (are_ends s.ends.low s.ends.high)
    ends_of_check g before s h =
        let above = list_all (λ (t : SlotWords). nat_lt (natural_in t.slot) (natural_in s.slot)) before in
        let test = (unless_none (is_below SLOTS s.slot && are_ends s.ends.low s.ends.high && above) P3 None h).0 in
        (and_parts (is_below SLOTS s.slot) (are_ends s.ends.low s.ends.high) (and_parts (is_below SLOTS s.slot && are_ends s.ends.low s.ends.high) above test).0).1

-- Exit frames

pub record FitCounts (h : ProcedureWords) : Type 0 where
  pub parameters : natural_in h.parameters ≤ 4
  pub results : result_count h.results ≤ 2

-- guards in version 2 alone
guards_fit : (live : List Bool) (ws : List (List ℕ)) → IsTrue (are_forms 4 live (map form_in ws)) → (t : Bool) → (t ≡ false → ws ≡ []) → IsTrue (are_forms (if t then MOST_GUARDS else 0) live (map form_in ws))
guards_fit live ws h true none = h
guards_fit live ws h false none = subst (λ (ws : List (List ℕ)). IsTrue (are_forms 0 live (map form_in ws))) (sym (none refl)) refl

no_guards : (is_so : List (List ℕ) → List ℕ → Bool) (t : Bool) → ((before : List (List ℕ)) (g : List ℕ) → IsTrue (is_so before g) → IsTrue t) → (ws : List (List ℕ)) → IsTrue (each_after is_so [] ws) → t ≡ false → ws ≡ []
no_guards is_so t gives [] h e = refl
no_guards is_so t gives (w ∷ ws) h e = absurd (not_both t (gives [] w (and_parts (is_so [] w) (each_after is_so (w ∷ []) ws) h).0) e)

exit_fits : (version pieces : ℕ) (h : ProcedureWords) (e : ExitSource) → FitCounts h → 0 < pieces → IsTrue (is_exit version pieces h e) → IsTrue (is_exit_frame version pieces (natural_in h.parameters) (result_count h.results) (exit_in e))
exit_fits version pieces h e c some right =
    let live = exit_live h in
    let eight = eight_symbols (natural_in h.parameters) (result_count h.results) (let p = c.parameters in let r = c.results in omega arith) in
    let tests = and_five right in
    let grip = and_parts (is_below TRAYS e.grip.tray) (are_members 0 pieces (set_numbers e.grip.set)) (unless_none (is_below TRAYS e.grip.tray && are_members 0 pieces (set_numbers e.grip.set)) P3 None tests.0).0 in
    let all_given = length e.results == result_count h.results in
    let ranges = each_all (λ before r. is_none (result_check h (exit_source e.grip before [] []) r)) (λ (r : RangeWords). are_ends r.low r.high)
    (λ before r k. (unless_none (are_ends r.low r.high) P3 None (unless_none (nat_lt (length before) (result_count h.results)) P1 (unless (are_ends r.low r.high) P3 None) k).1).0) [] e.results tests.1 in
    let guard_check_of = λ (before : List (List ℕ)) (g : List ℕ). is_none (exit_guard_check version h (exit_source e.grip e.results before []) g) in
    let tests_of : (before : List (List ℕ)) (g : List ℕ) → IsTrue (guard_check_of before g) → IsTrue ((version == 2) && true && all_given) × IsTrue (is_none (form_check 4 live before g)) =
    λ before g k. unless_none ((version == 2) && true && all_given) P1 (form_check 4 live before g) k in
    let forms = checked_forms live 4 guard_check_of (λ before g k. (tests_of before g k).1) eight e.guards tests.2 in
    let only_two = no_guards guard_check_of (version == 2) (λ before g k. (and_parts (version == 2) true (and_parts ((version == 2) && true) all_given (tests_of before g k).0).0).0) e.guards tests.2 in
    let spot_tests = each_all (λ before p. is_none (exit_piece_check h (exit_source e.grip e.results e.guards before) p)) (λ (p : PieceWords). is_spot live p.spot)
    (λ before p k. spot_of_check live before p (unless_none all_given P1 (piece_check live before p) k).1) [] e.pieces tests.3 in
    let size : length e.pieces ≡ pieces = eqb-true (length e.pieces) pieces tests.4 in
    let given : IsTrue all_given = first_given e.pieces (omega (arith, size, some)) tests.3 in
    let places = and_from (length (places_in e.pieces) == pieces) (list_all (is_place live) (places_in e.pieces)) (eq-eqb (length (places_in e.pieces)) pieces (length-map e.pieces (λ (p : PieceWords). place_in p.spot) ∙ size)) (places_fit live e.pieces eight spot_tests) in
    and_from _ _ (and_from (is_tray (natural_in e.grip.tray)) (is_set_of pieces (set_in e.grip.set)) (lt-ltb (natural_in e.grip.tray) 32 (below 32 e.grip.tray grip.0)) (set_fits pieces e.grip.set grip.1))
    (and_from _ _ (and_from _ _ (and_from _ _ (eq-eqb (length (map range_in e.results)) (result_count h.results) (length-map e.results range_in ∙ eqb-true (length e.results) (result_count h.results) given))
    (all_mapped (λ (e : RangeWords). are_ends e.low e.high) (λ (r : Range). fitting.is_range (Some r)) range_in (λ e k. k) e.results ranges))
    (guards_fit live e.guards forms (version == 2) only_two))
    places)
  where
    first_given : (ps : List PieceWords) → 0 < length ps → IsTrue (all_right (λ before p. exit_piece_check h (exit_source e.grip e.results e.guards before) p) ps) → IsTrue (length e.results == result_count h.results)
    first_given [] some k = absurd (omega arith)
    first_given (p ∷ ps) some k =
        let all_given = length e.results == result_count h.results in
        (unless_none all_given P1 (piece_check (exit_live h) [] p)
        (and_parts (is_none (exit_piece_check h (exit_source e.grip e.results e.guards []) p)) (each_after (λ before p. is_none (exit_piece_check h (exit_source e.grip e.results e.guards before) p)) (p ∷ []) ps) k).0).0

pub some_exit_fits : (version pieces : ℕ) (main : Bool) (h : ProcedureWords) (exit : Option ExitSource) → FitCounts h → 0 < pieces → IsTrue (has_exit version pieces main h exit)
    → IsTrue (fitting.is_exit version main pieces (natural_in h.parameters) (result_count h.results) (some_exit_in exit))
some_exit_fits version pieces true h None c some right = refl
some_exit_fits version pieces true h (Some e) c some right = grind arith
some_exit_fits version pieces false h None c some right = grind arith
some_exit_fits version pieces false h (Some e) c some right = exit_fits version pieces h e c some right
