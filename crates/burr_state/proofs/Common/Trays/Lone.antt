-- Pieces that are alone in a tray.
use Rattle.std.proofs.Common.{◌≡◌, ◌≢◌, ℕ, zero, suc, List, [], ◌∷◌, Some, refl, ap, ◌∙◌, arith, Bool, true, false, ◌==◌, if◌then◌else◌}
use Rattle.std.specs.Prelude.{slice_get}
use Rattle.std.proofs.lemmas.Bool.Decides.{nat_tests}
use Rattle.std.proofs.lemmas.Option.{none-some, same_Some}
use native.Mathlib.Decide.{ℕ_discrete}
use Rattle.burr_code.specs.declared.placement.Placement.{Placement}
use Rattle.burr_code.specs.declared.placement.Placement.TheVariants.{Apart, On}
use Rattle.burr_code.specs.Places.{LiesAt, LiesIn, is_in, count_in, parted_in, parted}
use Rattle.burr_code.proofs.Common.Conditions.{apart-on}
use Rattle.burr_code.proofs.Common.Counts.{count_in-empty, count_in-some}
use Rattle.burr_state.proofs.Common.Trays.Counts.{count_in-same, count_in-other, count_in-parted_in}

-- A tray with exactly one piece

-- its pieces are one
pub one_where_lone : {Position : Type 0} (t p q : ℕ) (places : List (Placement Position)) → count_in t places ≡ 1 → LiesIn places p t → LiesIn places q t → q ≡ p
one_where_lone t p q [] lone here there = absurd (none-some _ here.1)
one_where_lone t zero zero (place ∷ places) lone here there = refl
one_where_lone t zero (suc q) (place ∷ places) lone here there =
    absurd (omega (arith, count_in-same t here.0 places, rw (same_Some _ _ here.1) at lone, count_in-some t q places there))
one_where_lone t (suc p) zero (place ∷ places) lone here there =
    absurd (omega (arith, count_in-same t there.0 places, rw (same_Some _ _ there.1) at lone, count_in-some t p places here))
one_where_lone t (suc p) (suc q) (place ∷ places) lone here there =
    ap suc (one_where_lone t p q places (omega (arith, count_in-some t p places here)) here there)

-- a tray whose pieces are one has exactly one
pub lone_where_one : {Position : Type 0} (t p : ℕ) (places : List (Placement Position)) → LiesIn places p t → ((q : ℕ) → LiesIn places q t → q ≡ p) → count_in t places ≡ 1
lone_where_one t p [] here one = absurd (none-some _ here.1)
lone_where_one t zero (place ∷ places) here one =
    let none = count_in-empty t places (λ q there. let same = one (suc q) there in omega arith) in
    rw (same_Some _ _ here.1) (omega (arith, count_in-same t here.0 places, none))
lone_where_one t (suc p) (Apart ∷ places) here one = let rest = lone_where_one t p places here (λ q there. let same = one (suc q) there in omega arith) in omega arith
lone_where_one t (suc p) (On u position ∷ places) here one = elim (ℕ_discrete u t) [
  | yes e ↦ let same = one 0 (position, ap (λ v. Some (On v position)) e) in absurd (omega arith)
  | no other ↦ count_in-other t u position places other ∙ lone_where_one t p places here (λ q there. let same = one (suc q) there in omega arith)
]

-- A piece that is alone in a tray is apart

-- where a piece is afterwards
abbrev pub parted_place : {Position : Type 0} → ℕ → List (Placement Position) → Placement Position → Placement Position
parted_place t places place = if count_in t places == 1 then (if is_in t place then Apart else place) else place

slice_get-parted_in : {Position : Type 0} (t p : ℕ) (places : List (Placement Position)) (place : Placement Position)
    → slice_get places p ≡ Some place → slice_get (parted_in t places) p ≡ Some (if is_in t place then Apart else place)
slice_get-parted_in t p [] place found = absurd (none-some _ found)
slice_get-parted_in t zero (first ∷ places) place found = ap (λ x. Some (if is_in t x then Apart else x)) (same_Some _ _ found)
slice_get-parted_in t (suc p) (first ∷ places) place found = slice_get-parted_in t p places place found

pub slice_get-parted : {Position : Type 0} (t p : ℕ) (places : List (Placement Position)) (place : Placement Position)
    → slice_get places p ≡ Some place → slice_get (parted t places) p ≡ Some (parted_place t places place)
slice_get-parted t p places place found = by_test (count_in t places == 1)
  where
    by_test : (b : Bool) → slice_get (if b then parted_in t places else places) p ≡ Some (if b then (if is_in t place then Apart else place) else place)
    by_test true = slice_get-parted_in t p places place found
    by_test false = found

parted_in_back : {Position : Type 0} (u p t : ℕ) (position : Position) (places : List (Placement Position)) → LiesAt (parted_in u places) p t position → LiesAt places p t position
parted_in_back u p t position [] lies = absurd (none-some _ lies)
parted_in_back u zero t position (place ∷ places) lies = by_test (is_in u place) (same_Some _ _ lies)
  where
    by_test : (b : Bool) → (if b then Apart else place) ≡ On t position → Some place ≡ Some (On t position)
    by_test true e = absurd (apart-on t position e)
    by_test false e = ap Some e
parted_in_back u (suc p) t position (place ∷ places) lies = parted_in_back u p t position places lies

-- what still lies in a tray lay there
pub parted_back : {Position : Type 0} (u p t : ℕ) (position : Position) (places : List (Placement Position)) → LiesAt (parted u places) p t position → LiesAt places p t position
parted_back u p t position places = by_test (count_in u places == 1)
  where
    by_test : (b : Bool) → LiesAt (if b then parted_in u places else places) p t position → LiesAt places p t position
    by_test true lies = parted_in_back u p t position places lies
    by_test false lies = lies

pub parted_place-apart : {Position : Type 0} (t : ℕ) (places : List (Placement Position)) → parted_place t places Apart ≡ Apart
parted_place-apart t places = by_test (count_in t places == 1)
  where
    by_test : {Position : Type 0} (b : Bool) → ◌≡◌ {A = Placement Position} (if b then Apart else Apart) Apart
    by_test true = refl
    by_test false = refl

pub parted_place-other : {Position : Type 0} (t u : ℕ) (position : Position) (places : List (Placement Position)) → u ≢ t → parted_place t places (On u position) ≡ On u position
parted_place-other t u position places other = grind (arith, nat_tests)

pub parted_place-lone : {Position : Type 0} (t : ℕ) (position : Position) (places : List (Placement Position)) → count_in t places ≡ 1 → parted_place t places (On t position) ≡ Apart
parted_place-lone t position places lone = grind (arith, nat_tests)

pub parted_place-kept : {Position : Type 0} (t : ℕ) (place : Placement Position) (places : List (Placement Position)) → count_in t places ≢ 1 → parted_place t places place ≡ place
parted_place-kept t place places several = grind (arith, nat_tests)

-- How many are left

none_parted_in : {Position : Type 0} (t : ℕ) (places : List (Placement Position)) → count_in t (parted_in t places) ≡ 0
none_parted_in t [] = refl
none_parted_in t (Apart ∷ places) = omega (arith, none_parted_in t places)
none_parted_in t (On u position ∷ places) = let rest = none_parted_in t places in grind (arith, nat_tests)

-- the tray has not exactly one piece any more
pub not_lone_parted : {Position : Type 0} (t : ℕ) (places : List (Placement Position)) → count_in t (parted t places) ≢ 1
not_lone_parted t places = let none = none_parted_in t places in grind (arith, nat_tests)

-- another tray has as many as before
pub count_in-parted : {Position : Type 0} (t u : ℕ) (places : List (Placement Position)) → t ≢ u → count_in t (parted u places) ≡ count_in t places
count_in-parted t u places other = let same = count_in-parted_in t u places other in grind (arith, nat_tests)
