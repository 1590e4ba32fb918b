-- For crates above: labels that are all there: each label picked from them stands somewhere.
use Rattle.std.proofs.Common.{◌≡◌, ℕ, zero, suc, ◌<◌, List, [], ◌∷◌, length, Option, Some, None, refl, ap, arith}
use Rattle.std.specs.Prelude.{slice_get}
use Rattle.std.proofs.lemmas.Option.{none-some, same_Some}
use Rattle.burr_code.specs.Labels.{with_first, labelled}

-- a list that is put together of a first and more has both
pub with_first_is : {A : Type 0} (first : Option A) (more : Option (List A)) (all : List A) → with_first first more ≡ Some all
    → (x : A) × (xs : List A) × (first ≡ Some x) × (more ≡ Some xs) × (x ∷ xs ≡ all)
with_first_is None more all e = absurd (none-some _ e)
with_first_is (Some x) None all e = absurd (none-some _ e)
with_first_is (Some x) (Some xs) all e = (x, xs, refl, refl, same_Some _ _ e)

-- where labels are all there, the one of each number is
pub picked : {A : Type 0} (all : List A) (labels : List ℕ) (to : List A) (n : ℕ) → labelled all labels ≡ Some to → n < length to
    → (label : ℕ) × (at : A) × (slice_get labels n ≡ Some label) × (slice_get all label ≡ Some at)
picked {A} all [] to n e below = let none : 0 ≡ length to = ap (λ (xs : List A). length xs) (same_Some _ _ e) in absurd (omega arith)
picked all (label ∷ labels) to zero e below = let parts = with_first_is (slice_get all label) (labelled all labels) to e in (label, parts.0, refl, parts.2)
picked {A} all (label ∷ labels) to (suc n) e below =
    let parts = with_first_is (slice_get all label) (labelled all labels) to e in
    let as_many : suc (length parts.1) ≡ length to = ap (λ (xs : List A). length xs) parts.4 in
    picked all labels parts.1 n parts.3 (omega arith)
