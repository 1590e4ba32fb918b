-- Going over places, one by one.
use Rattle.std.proofs.Common.{◌≡◌, ℕ, zero, suc, ◌+◌, ◌*◌, ◌<◌, ◌≤◌, List, [], ◌∷◌, length, drop, slice_index, refl, sym, ap, subst, ◌∙◌, arith}
use Rattle.std.specs.Prelude.{Bool, true, false, IsTrue, Option, Some, map, slice_get, ◌==◌, nat_le}
use Rattle.std.specs.List.{list_all}
use Rattle.std.proofs.lemmas.Grind.{common_steps}
use Rattle.burr_code.specs.declared.placement.Placement.{Placement}
use Rattle.burr_code.specs.declared.placement.Placement.TheVariants.{On}
use Rattle.burr_forms.specs.Rules.Forms.{Form}
use Rattle.burr_container.specs.Rules.Plans.{FormCell, over_symbols, place_over_symbols}
use Rattle.burr_container.proofs.Written.{le_of, first_test, second_test, both_tests}
use Rattle.burr_container.specs.Rules.Fitting.{is_tray, is_form, are_forms}
use Rattle.burr_container.specs.Rules.Spelling.{form_size}
use Rattle.burr_container.specs.Views.Decoding.{form_in, forms_in, place_in, rest_by, place_rest, places_in, places_stand, stands_by, IsAfterPlace}

-- leaving out a + b bytes is leaving out a bytes, and then b more
pub after : (a b : ℕ) (bytes : List ℕ) → drop (a + b) bytes ≡ drop b (drop a bytes)
after a b bytes = grind (arith, common_steps)

-- form n of a run
pub nth_form : (live : List Bool) (count n : ℕ) (bytes : List ℕ) (value : Form) → n < count
    → value ≡ over_symbols live (form_in live (drop (n * form_size live) bytes))
    → slice_get (map (over_symbols live) (forms_in live count bytes)) n ≡ Some value
nth_form live zero n bytes value small is = absurd (omega arith)
nth_form live (suc count) zero bytes value small is =
    let none : 0 * form_size live ≡ 0 = omega arith in
    sym (ap Some (is ∙ ap (λ (k : ℕ). over_symbols live (form_in live (drop k bytes))) none))
nth_form live (suc count) (suc n) bytes value small is =
    let size = form_size live in
    let moved : suc n * size ≡ size + n * size = omega arith in
    let there : drop (suc n * size) bytes ≡ drop (n * size) (drop size bytes) = ap (λ (k : ℕ). drop k bytes) moved ∙ after size (n * size) bytes in
    nth_form live count n (drop size bytes) value (omega arith) (is ∙ ap (λ (b : List ℕ). over_symbols live (form_in live b)) there)

-- a place of three forms
pub place_parts : (live : List Bool) (bytes : List ℕ) (x y z : Form) → (slice_index bytes 0 == 255) ≡ false
    → x ≡ form_in live (drop 1 bytes) → y ≡ form_in live (drop (1 + form_size live) bytes)
    → z ≡ form_in live (drop (1 + form_size live + form_size live) bytes)
    → On (slice_index bytes 0) (record { x = x; y = y; z = z }) ≡ place_in live (slice_index bytes 0) (drop 1 bytes)
place_parts live bytes x y z lies first second third =
    let size = form_size live in
    let to_y : drop (1 + size) bytes ≡ drop size (drop 1 bytes) = after 1 size bytes in
    let to_z : drop (1 + size + size) bytes ≡ drop size (drop size (drop 1 bytes)) = after (1 + size) size bytes ∙ ap (drop size) to_y in
    rw (lies, first, second, third, to_y, to_z) refl

-- a place by forms over symbols
pub place_told : (live : List Bool) (bytes : List ℕ) (x y z : Form) → (slice_index bytes 0 == 255) ≡ false
    → x ≡ over_symbols live (form_in live (drop 1 bytes))
    → y ≡ over_symbols live (form_in live (drop (1 + form_size live) bytes))
    → z ≡ over_symbols live (form_in live (drop (1 + form_size live + form_size live) bytes))
    → On (slice_index bytes 0) (record { x = x; y = y; z = z }) ≡ place_over_symbols live (place_in live (slice_index bytes 0) (drop 1 bytes))
place_told live bytes x y z lies first second third =
    let size = form_size live in
    let parts =
    place_parts live bytes (form_in live (drop 1 bytes)) (form_in live (drop (1 + size) bytes)) (form_in live (drop (1 + size + size) bytes)) lies refl
    refl refl in
    (λ i. On (slice_index bytes 0) (record { x = first i; y = second i; z = third i })) ∙ ap (place_over_symbols live) parts

-- all that follows the first byte of a place is there
whole_by : (b : Bool) (live : List Bool) (first : ℕ) (bytes : List ℕ) → IsTrue (stands_by b live first bytes) → rest_by b live ≤ length bytes
whole_by true live first bytes stands = omega arith
whole_by false live first bytes stands = le_of (3 * form_size live) (length bytes) (second_test (is_tray first) _ stands)

-- the first of some places, and the others after it
pub record StepsOn (live : List Bool) (m : ℕ) (bytes : List ℕ) : Type 0 where
  pub there : 0 < length bytes
  pub whole : 1 + place_rest live (slice_index bytes 0) ≤ length bytes
  pub places : places_in live (suc m) bytes ≡ place_in live (slice_index bytes 0) (drop 1 bytes) ∷ places_in live m (drop (1 + place_rest live (slice_index bytes 0)) bytes)
  pub others : IsTrue (places_stand live m (drop (1 + place_rest live (slice_index bytes 0)) bytes))

pub steps_on : (live : List Bool) (m : ℕ) (bytes : List ℕ) → IsTrue (places_stand live (suc m) bytes) → StepsOn live m bytes
steps_on live m [] are = absurd (cc)
steps_on live m (first ∷ bytes) are =
    let here = first_test (stands_by (first == 255) live first bytes) _ are in
    let others = second_test (stands_by (first == 255) live first bytes) (places_stand live m (drop (place_rest live first) bytes)) are in
    let whole = whole_by (first == 255) live first bytes here in
    let same : drop (1 + place_rest live first) (first ∷ bytes) ≡ drop (place_rest live first) bytes = after 1 (place_rest live first) (first ∷ bytes) in
    record {
      there = omega arith;
      whole = omega (arith, whole);
      places = ap (λ (b : List ℕ). place_in live first bytes ∷ places_in live m b) (sym same);
      others = subst (λ (b : List ℕ). IsTrue (places_stand live m b)) (sym same) others;
    }

-- a place in front of places that stand
pub stands_before : (live : List Bool) (m : ℕ) (bytes next : List ℕ) → IsAfterPlace live bytes next → IsTrue (places_stand live m next) → IsTrue (places_stand live (suc m) bytes)
stands_before live m bytes next over stand =
    let after = subst (λ (b : List ℕ). IsTrue (places_stand live m b)) over.over stand in
    subst (λ (b : List ℕ). IsTrue (places_stand live (suc m) b)) (sym over.parts) (both_tests _ _ over.stands after)

-- where n places stand, n places are decoded
pub count_places : (live : List Bool) (n : ℕ) (bytes : List ℕ) → IsTrue (places_stand live n bytes) → length (places_in live n bytes) ≡ n
count_places live zero bytes stand = refl
count_places live (suc n) [] stand = absurd (cc)
count_places live (suc n) (first ∷ bytes) stand =
    let more = count_places live n (drop (place_rest live first) bytes) (second_test (stands_by (first == 255) live first bytes) _ stand) in
    omega (arith, more)

pub count_forms : (live : List Bool) (n : ℕ) (bytes : List ℕ) → length (forms_in live n bytes) ≡ n
count_forms live zero bytes = refl
count_forms live (suc n) bytes = omega (arith, count_forms live n (drop (form_size live) bytes))

-- as many as are allowed, where they fit
pub few_forms : (most : ℕ) (over live : List Bool) (n : ℕ) (bytes : List ℕ)
    → IsTrue (are_forms most over (forms_in live n bytes)) → n ≤ most
few_forms most over live n bytes fits =
    let forms = forms_in live n bytes in
    let few = first_test (nat_le (length forms) most) (list_all (is_form over) forms) fits in
    omega (arith, le_of (length forms) most few, count_forms live n bytes)

-- places still to go over; the place with number q is the answer
pub record IsWalk (live : List Bool) (k q : ℕ) (bytes : List ℕ) (answer : Option (Placement FormCell)) : Type 0 where
  pub are : IsTrue (places_stand live k bytes)
  pub answers : slice_get (map (place_over_symbols live) (places_in live k bytes)) q ≡ answer

-- what the first place asks of the bytes
pub record IsFirst (live : List Bool) (bytes : List ℕ) : Type 0 where
  pub there : 0 < length bytes
  pub whole : 1 + place_rest live (slice_index bytes 0) ≤ length bytes

pub first_there : (live : List Bool) (k : ℕ) (bytes : List ℕ) → 0 < k → IsTrue (places_stand live k bytes) → IsFirst live bytes
first_there live zero bytes some are = absurd (omega arith)
first_there live (suc m) bytes some are = let steps = steps_on live m bytes are in record { there = steps.there; whole = steps.whole }

walk_on_suc : (live : List Bool) (m q : ℕ) (bytes : List ℕ) (answer : Option (Placement FormCell)) → IsWalk live (suc m) (suc q) bytes answer → IsWalk live m q (drop (1 + place_rest live (slice_index bytes 0)) bytes) answer
walk_on_suc live m q bytes answer walk =
    let steps = steps_on live m bytes walk.are in
    let same : slice_get (map (place_over_symbols live) (places_in live (suc m) bytes)) (suc q) ≡ slice_get (map (place_over_symbols live) (places_in live m (drop (1 + place_rest live (slice_index bytes 0)) bytes))) q = ap (λ (ps : List (Placement FormCell)). slice_get (map (place_over_symbols live) ps) (suc q)) steps.places in
    record { are = steps.others; answers = sym same ∙ walk.answers }

pub walk_on : (live : List Bool) (k q m r : ℕ) (bytes : List ℕ) (answer : Option (Placement FormCell)) → k ≡ suc m → q ≡ suc r → IsWalk live k q bytes answer → IsWalk live m r (drop (1 + place_rest live (slice_index bytes 0)) bytes) answer
walk_on live k q m r bytes answer e f walk =
    walk_on_suc live m r bytes answer (subst (λ (j : ℕ). IsWalk live j (suc r) bytes answer) e (subst (λ (j : ℕ). IsWalk live k j bytes answer) f walk))

-- the answer is the first place
pub walk_ends : (live : List Bool) (k q : ℕ) (bytes : List ℕ) (answer : Option (Placement FormCell)) → 0 < k → q ≡ 0 → IsWalk live k q bytes answer → answer ≡ Some (place_over_symbols live (place_in live (slice_index bytes 0) (drop 1 bytes)))
walk_ends live zero q bytes answer some e walk = absurd (omega arith)
walk_ends live (suc m) q bytes answer some e walk =
    let steps = steps_on live m bytes walk.are in
    let same : slice_get (map (place_over_symbols live) (places_in live (suc m) bytes)) q ≡ Some (place_over_symbols live (place_in live (slice_index bytes 0) (drop 1 bytes))) = ap (λ (j : ℕ). slice_get (map (place_over_symbols live) (places_in live (suc m) bytes)) j) e ∙ ap (λ (ps : List (Placement FormCell)). slice_get (map (place_over_symbols live) ps) 0) steps.places in
    sym walk.answers ∙ same
