-- The ranges of the eight slots, with one slot more above those that are live.
use Rattle.std.proofs.Common.{◌≡◌, ℕ, zero, suc, ◌<◌, ◌==◌, List, [], ◌∷◌, ◌++◌, ◌-◌, length, map, take, drop, get_or, Bool, true, false, not, Option, Some, None, refl, sym, ap, ◌∙◌, arith, eqb-true, ltb-true}
use Rattle.std.specs.Prelude.{◌&&◌, ◌||◌, is_none, is_some, nat_lt, if◌then◌else◌, slice_set}
use Rattle.std.specs.Bool.{then_some}
use Rattle.std.specs.List.{list_all, list_any}
use Rattle.std.specs.Str.Parse.{starts_with_minus}
use Rattle.std.proofs.lemmas.Bool.{and_parts, agree_below_at}
use Rattle.std.proofs.lemmas.List.{drop-map, length-map, take_rest}
use Rattle.burr_code.specs.declared.limits.TheConstants.{SLOTS}
use Rattle.burr_container.specs.Rules.Plans.{Range, live_slots}
use Rattle.burr_plantext.specs.Rules.Written.{natural_in, is_below, are_ends, slot_numbers}
use Rattle.burr_plantext.specs.Rules.Lines.{SlotWords}
use Rattle.burr_plantext.specs.Rules.Meaning.{range_in, slot_in, slots_in}
use Rattle.burr_asm.specs.Views.Frames.{is_slot_above, IsSlotAbove}
use Rattle.burr_asm.proofs.Numbers.{found_if}

-- the slot is one of the eight
abbrev pub is_slot : SlotWords → Bool
is_slot s = is_below SLOTS s.slot

-- its number is below this
abbrev pub is_under : ℕ → SlotWords → Bool
is_under n t = nat_lt (natural_in t.slot) n

-- No slot from a number on is live

-- the number is one of these
abbrev is_one_of : ℕ → List ℕ → Bool
is_one_of a [] = false
is_one_of a (k ∷ ks) = (a == k) || is_one_of a ks

swapped_tests : (x y z : Bool) → (x && (y && z)) ≡ (y && (x && z))
swapped_tests true true z = refl
swapped_tests false true z = refl
swapped_tests _ _ z = refl

none_at_first : (ks : List ℕ) → list_all is_none (map (slot_in []) ks) ≡ true
none_at_first [] = refl
none_at_first (k ∷ ks) = none_at_first ks

one_used : (t : SlotWords) (slots : List SlotWords) (ks : List ℕ) → list_all is_none (map (slot_in (t ∷ slots)) ks)
    ≡ (not (is_one_of (natural_in t.slot) ks) && list_all is_none (map (slot_in slots) ks))
one_used t slots [] = refl
one_used t slots (k ∷ ks) = by (natural_in t.slot == k) (one_used t slots ks)
  where
    by : (b : Bool) → list_all is_none (map (slot_in (t ∷ slots)) ks) ≡ (not (is_one_of (natural_in t.slot) ks) && list_all is_none (map (slot_in slots) ks))
        → (is_none (if b then Some (range_in t.ends) else slot_in slots k) && list_all is_none (map (slot_in (t ∷ slots)) ks))
        ≡ (not (b || is_one_of (natural_in t.slot) ks) && (is_none (slot_in slots k) && list_all is_none (map (slot_in slots) ks)))
    by true e = refl
    by false e =
        ap (λ (w : Bool). is_none (slot_in slots k) && w) e
        ∙ swapped_tests (is_none (slot_in slots k)) (not (is_one_of (natural_in t.slot) ks)) (list_all is_none (map (slot_in slots) ks))

none_used : (slots : List SlotWords) (ks : List ℕ) → list_all is_none (map (slot_in slots) ks) ≡ list_all (λ (t : SlotWords). not (is_one_of (natural_in t.slot) ks)) slots
none_used [] ks = none_at_first ks
none_used (t ∷ slots) ks = one_used t slots ks ∙ ap (λ (w : Bool). not (is_one_of (natural_in t.slot) ks) && w) (none_used slots ks)

-- the number is not among the slots' numbers from n on; of the numbers below eight, those below n are such
abbrev is_before : ℕ → ℕ → Bool
is_before n m = not (is_one_of m (drop n slot_numbers))

before_is : (n m : ℕ) → n < 8 → m < 8 → is_before n m ≡ nat_lt m n
before_is (suc (suc (suc (suc (suc (suc (suc (suc n)))))))) m l few = absurd (omega arith)
before_is n m l few = agree_below_at (is_before n) (λ (k : ℕ). nat_lt k n) 8 m refl few

-- what is one of the eight slots has a number below eight
pub slot_below : (s : SlotWords) → is_slot s ≡ true → natural_in s.slot < 8
slot_below s e = ltb-true (natural_in s.slot) 8 (and_parts (not (starts_with_minus s.slot)) (nat_lt (natural_in s.slot) 8) e).1

all_before : (n : ℕ) (slots : List SlotWords) → n < 8 → list_all is_slot slots ≡ true → list_all (λ (t : SlotWords). is_before n (natural_in t.slot)) slots ≡ list_all (is_under n) slots
all_before n [] l few = refl
all_before n (t ∷ slots) l few =
    let p = and_parts (is_slot t) (list_all is_slot slots) few in
    λ i. before_is n (natural_in t.slot) l (slot_below t p.0) i && all_before n slots l p.1 i

-- No slot from this number on is live exactly where the numbers of all live slots are below it.
pub none_from : (n : ℕ) (slots : List SlotWords) → n < 8 → list_all is_slot slots ≡ true → list_all is_none (drop n (slots_in slots)) ≡ list_all (is_under n) slots
none_from n slots l few =
    ap (list_all is_none) (drop-map (slot_in slots) n slot_numbers) ∙ none_used slots (drop n slot_numbers) ∙ all_before n slots l few

-- One slot more

tests_apart : {A : Type 0} (x y z : A) (p q : Bool) → (p ≡ true → q ≡ true → ⊥) → (if p then x else (if q then y else z)) ≡ (if q then y else (if p then x else z))
tests_apart x y z true true h = absurd (h refl refl)
tests_apart x y z _ _ h = refl

-- the last slot, where it is above all others
last_slot : (slots : List SlotWords) (s : SlotWords) (v : ℕ) → list_all (is_under (natural_in s.slot)) slots ≡ true
    → slot_in (slots ++ s ∷ []) v ≡ (if natural_in s.slot == v then Some (range_in s.ends) else slot_in slots v)
last_slot [] s v h = refl
last_slot (t ∷ slots) s v h =
    let p = and_parts (is_under (natural_in s.slot) t) (list_all (is_under (natural_in s.slot)) slots) h in
    let under = ltb-true (natural_in t.slot) (natural_in s.slot) p.0 in
    ap (λ (o : Option Range). if natural_in t.slot == v then Some (range_in t.ends) else o) (last_slot slots s v p.1)
    ∙ tests_apart (Some (range_in t.ends)) (Some (range_in s.ends)) (slot_in slots v) (natural_in t.slot == v) (natural_in s.slot == v)
    (λ e f. omega (arith, under, eqb-true (natural_in t.slot) v e, eqb-true (natural_in s.slot) v f))

-- one of eight is put
put_one : {A : Type 0} (f : ℕ → A) (x : A) (n : ℕ) → n < 8 → map (λ (v : ℕ). if n == v then x else f v) slot_numbers ≡ slice_set (map f slot_numbers) n x
put_one f x (suc (suc (suc (suc (suc (suc (suc (suc n)))))))) l = absurd (omega arith)
put_one f x _ l = refl

-- The ranges with a slot above all live ones are those that were there, with its own put in its place.
pub slot_put : (slots : List SlotWords) (s : SlotWords) → natural_in s.slot < 8 → list_all (is_under (natural_in s.slot)) slots ≡ true
    → slots_in (slots ++ s ∷ []) ≡ slice_set (slots_in slots) (natural_in s.slot) (Some (range_in s.ends))
slot_put slots s l h = (λ i. map (λ (v : ℕ). last_slot slots s v h i) slot_numbers) ∙ put_one (slot_in slots) (Some (range_in s.ends)) (natural_in s.slot) l

-- Slots that the code reads

-- which of eight slots are live, one by one
pub eight : (xs : List (Option Range)) → length xs ≡ 8
    → map is_some xs ≡ is_some (get_or xs 0 None) ∷ is_some (get_or xs 1 None) ∷ is_some (get_or xs 2 None) ∷ is_some (get_or xs 3 None) ∷ is_some (get_or xs 4 None) ∷ is_some (get_or xs 5 None) ∷ is_some (get_or xs 6 None) ∷ is_some (get_or xs 7 None) ∷ []
eight (a ∷ b ∷ c ∷ d ∷ e ∷ f ∷ g ∷ h ∷ []) long = refl
eight xs long = absurd (omega arith)

-- A slot and a range that were read, by the test of the slots from there on.
pub found_above : (slots : List (Option Range)) (s : SlotWords) (test : Bool) (n : ℕ) (r : Range) → is_slot s ≡ true → n ≡ natural_in s.slot
    → are_ends s.ends.low s.ends.high ≡ true → r ≡ range_in s.ends → test ≡ list_all is_none (drop n slots) → IsSlotAbove slots s (then_some test (n, r))
found_above slots s test n r slot n_is ends r_is test_is =
    found_if test (is_slot_above slots s) (n, r) (λ f. f ≡ (natural_in s.slot, range_in s.ends))
    ((λ i. slot i && ends i && list_all is_none (drop (sym n_is i) slots)) ∙ sym test_is) (λ i. (n_is i, r_is i))

-- no slot is live where a test of liveness finds none
none_live : (is : Bool → Bool) → is true ≡ true → is false ≡ false → (xs : List (Option Range)) → not (list_any is (map is_some xs)) ≡ list_all is_none xs
none_live is live_so unused_so [] = refl
none_live is live_so unused_so (Some r ∷ xs) = ap (λ (t : Bool). not (t || list_any is (map is_some xs))) live_so
none_live is live_so unused_so (None ∷ xs) = ap (λ (t : Bool). not (t || list_any is (map is_some xs))) unused_so ∙ none_live is live_so unused_so xs

-- The slots from a number on, as the code asks for a live one.
pub rest_unused : (is : Bool → Bool) → is true ≡ true → is false ≡ false → (slots : List (Option Range)) (live : List Bool) (first n : ℕ) (found : Bool)
    → length slots ≡ 8 → live ≡ live_slots slots → first ≡ n → found ≡ list_any is (take (8 - first) (drop first live)) → not found ≡ list_all is_none (drop n slots)
rest_unused is live_so unused_so slots live first n found long live_is first_is e =
    ap not
    (e ∙ (λ i. list_any is (take (8 - first_is i) (drop (first_is i) (live_is i))))
    ∙ ap (λ (k : ℕ). list_any is (take (k - n) (drop n (live_slots slots)))) (sym (length-map slots is_some ∙ long))
    ∙ ap (list_any is) (take_rest (live_slots slots) n ∙ drop-map is_some n slots))
    ∙ none_live is live_so unused_so (drop n slots)
