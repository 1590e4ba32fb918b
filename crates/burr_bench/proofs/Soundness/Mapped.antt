-- Lists and places whose elements are all mapped: by forms, and by their values at a point.
use Rattle.std.proofs.Common.{◌≡◌, ℕ, zero, suc, ◌+◌, List, [], ◌∷◌, Some, Bool, true, false, refl, sym, ap, ◌∙◌}
use Rattle.std.specs.Prelude.{map, slice_get, if◌then◌else◌, ◌==◌}
use Rattle.std.specs.Option.{option_map}
use Rattle.std.proofs.lemmas.Option.{none-some, same_Some, slice_get-map}
use Rattle.burr_code.specs.PieceSets.{is_left_out}
use Rattle.burr_code.specs.declared.placement.Placement.{Placement}
use Rattle.burr_code.specs.declared.placement.Placement.TheVariants.{Apart, On}
use Rattle.burr_code.specs.Places.{LiesAt, at_position, changed, to_tray, is_in, count_in, parted_in, parted, aside_places}
use Rattle.burr_code.proofs.Common.Conditions.{same_tray, same_position, apart-on}

-- Lists

pub map_at : {A B : Type 0} (h : A → B) (xs : List A) (k : ℕ) (x : A) → slice_get xs k ≡ Some x
    → slice_get (map h xs) k ≡ Some (h x)
map_at h xs k x e = slice_get-map h xs k ∙ ap (option_map h) e

-- what stands in a mapped list
pub mapped_at : {A B : Type 0} (h : A → B) (xs : List A) (k : ℕ) (y : B) → slice_get (map h xs) k
    ≡ Some y → (x : A) × (slice_get xs k ≡ Some x) × (h x ≡ y)
mapped_at h [] k y e = absurd (none-some _ e)
mapped_at h (x ∷ xs) zero y e = (x, refl, same_Some _ _ e)
mapped_at h (x ∷ xs) (suc k) y e = mapped_at h xs k y e

-- a map that commutes with the change
pub changed_map : {A B : Type 0} (h : A → B) (f : A → A) (g : B → B) → ((x : A) → h (f x) ≡ g (h x))
    → (set p : ℕ) (xs : List A) → map h (changed f set p xs) ≡ changed g set p (map h xs)
changed_map h f g same set p [] = refl
changed_map {B = B} h f g same set p (x ∷ xs) =
    let both : (c : Bool) → h (if c then x else f x) ≡ (if c then h x else g (h x)) =
    elim [ true ↦ refl | false ↦ same x ] in
    ap (λ (y : B). y ∷ map h (changed f set (suc p) xs)) (both (is_left_out set p))
    ∙ ap (λ ys. (if is_left_out set p then h x else g (h x)) ∷ ys)
    (changed_map h f g same set (suc p) xs)

-- Places

-- a piece that lies in a mapped list of places lies in the list itself
pub lies_at_back : {A B : Type 0} (h : A → B) (places : List (Placement A)) (p tray : ℕ) (y : B)
    → LiesAt (map (at_position h) places) p tray y → (x : A) × LiesAt places p tray x × (h x ≡ y)
lies_at_back {A = A} {B = B} h places p tray y e =
    let found = mapped_at (at_position h) places p (On tray y) e in
    by_place found.0 found.1 found.2
  where
    by_place : (place : Placement A) → slice_get places p ≡ Some place → at_position h place
        ≡ On tray y → (x : A) × LiesAt places p tray x × (h x ≡ y)
    by_place Apart at is = absurd (apart-on _ _ is)
    by_place (On t x) at is = (
      x,
      at ∙ ap (λ u. Some (On u x)) (same_tray t tray (h x) y is),
      same_position t tray (h x) y is,
    )

pub lies_at_map : {A B : Type 0} (h : A → B) (places : List (Placement A)) (p tray : ℕ) (x : A)
    → LiesAt places p tray x → LiesAt (map (at_position h) places) p tray (h x)
lies_at_map h places p tray x e = map_at (at_position h) places p (On tray x) e

-- Trays

-- positions don't matter
pub is_in_mapped : {A B : Type 0} (h : A → B) (t : ℕ) (x : Placement A) → is_in t (at_position h x)
    ≡ is_in t x
is_in_mapped h t Apart = refl
is_in_mapped h t (On u p) = refl

pub count_mapped : {A B : Type 0} (h : A → B) (t : ℕ) (places : List (Placement A))
    → count_in t (map (at_position h) places) ≡ count_in t places
count_mapped h t [] = refl
count_mapped h t (x ∷ places) =
    ap (λ b. (if b then 1 else 0) + count_in t (map (at_position h) places)) (is_in_mapped h t x)
    ∙ ap (λ n. (if is_in t x then 1 else 0) + n) (count_mapped h t places)

parted_in_mapped : {A B : Type 0} (h : A → B) (u : ℕ) (places : List (Placement A))
    → map (at_position h) (parted_in u places) ≡ parted_in u (map (at_position h) places)
parted_in_mapped h u [] = refl
parted_in_mapped {B = B} h u (x ∷ places) =
    ap (λ (y : Placement B). y ∷ map (at_position h) (parted_in u places))
    (by_test (is_in u x) ∙ ap (λ b. if b then Apart else at_position h x)
    (sym (is_in_mapped h u x)))
    ∙ ap (λ ys. (if is_in u (at_position h x) then Apart else at_position h x) ∷ ys)
    (parted_in_mapped h u places)
  where
    by_test : (b : Bool) → at_position h (if b then Apart else x)
        ≡ (if b then Apart else at_position h x)
    by_test true = refl
    by_test false = refl

pub parted_mapped : {A B : Type 0} (h : A → B) (u : ℕ) (places : List (Placement A))
    → map (at_position h) (parted u places) ≡ parted u (map (at_position h) places)
parted_mapped h u places =
    by_test (count_in u places == 1)
    ∙ ap (λ n. if n == 1 then parted_in u (map (at_position h) places) else map
    (at_position h) places) (sym (count_mapped h u places))
  where
    by_test : (b : Bool) → map (at_position h) (if b then parted_in u places else places)
        ≡ (if b then parted_in u (map (at_position h) places) else map (at_position h) places)
    by_test true = parted_in_mapped h u places
    by_test false = refl

to_tray_mapped : {A B : Type 0} (h : A → B) (t : ℕ) (x : Placement A) → at_position h (to_tray t x)
    ≡ to_tray t (at_position h x)
to_tray_mapped h t Apart = refl
to_tray_mapped h t (On u p) = refl

pub aside_mapped : {A B : Type 0} (h : A → B) (grip here there : ℕ) (places : List (Placement A))
    → map (at_position h) (aside_places grip here there places) ≡ aside_places grip here there
    (map (at_position h) places)
aside_mapped h grip here there places =
    parted_mapped h there (parted here (changed (to_tray there) grip 0 places))
    ∙ ap (parted there) (parted_mapped h here (changed (to_tray there) grip 0 places))
    ∙ ap (λ ps. parted there (parted here ps)) (changed_map (at_position h) (to_tray there)
    (to_tray there) (to_tray_mapped h there) grip 0 places)
