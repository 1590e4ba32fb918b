-- Multiples of numbers that are added, place by place.
use Rattle.std.proofs.Common.{◌≡◌, ℕ, zero, suc, ◌+◌, ◌^◌, ◌≤◌, ◌<◌, List, [], ◌∷◌, ◌++◌, length, take, drop, refl, ap, arith, slice_index_or, slice_set, FitsSigned, w64}
use Rattle.std.specs.Prelude.{ℤ, ◌+ℤ◌, ◌*ℤ◌, map}
use Rattle.std.specs.Int.{w128}
use Rattle.std.specs.Int.RustNames.{unsigned_abs}
use Rattle.std.proofs.lemmas.Int.{ints, unsigned_abs-mul, fits_signed_from_abs}
use Rattle.std.proofs.lemmas.Nat.{mul-le}
use Rattle.burr_forms.specs.Rules.Forms.{sum_of, IsSmall}
use Rattle.burr_forms.specs.Views.Wides.{AllWithin}
use Rattle.burr_forms.proofs.Values.{abs_small}

-- k times each of the numbers
abbrev pub multiples : ℤ → List ℤ → List ℤ
multiples k ys = map (λ c. k *ℤ c) ys

-- the first i multiples are added
abbrev pub added : ℤ → ℕ → List ℤ → List ℤ → List ℤ
added k i xs ys = sum_of (take i xs) (multiples k (take i ys)) ++ drop i xs

sum_at : (k : ℤ) (i : ℕ) (xs ys : List ℤ) (d d' : ℤ) → length xs ≡ length ys → i < length ys
    → slice_set (added k i xs ys) i (slice_index_or xs i d +ℤ (k *ℤ slice_index_or ys i d')) ≡ added k (suc i) xs ys
sum_at k i xs [] d d' e l = absurd (omega arith)
sum_at k i [] (y ∷ ys) d d' e l = absurd (omega arith)
sum_at k zero (x ∷ xs) (y ∷ ys) d d' e l = refl
sum_at k (suc i) (x ∷ xs) (y ∷ ys) d d' e l = ap (λ r. (x +ℤ (k *ℤ y)) ∷ r) (sum_at k i xs ys d d' (omega arith) (omega arith))

pub not_yet : (k : ℤ) (i : ℕ) (xs ys : List ℤ) (d : ℤ) → length xs ≡ length ys → i < length ys → slice_index_or (added k i xs ys) i d ≡ slice_index_or xs i d
not_yet k i xs [] d e l = absurd (omega arith)
not_yet k i [] (y ∷ ys) d e l = absurd (omega arith)
not_yet k zero (x ∷ xs) (y ∷ ys) d e l = refl
not_yet k (suc i) (x ∷ xs) (y ∷ ys) d e l = not_yet k i xs ys d (omega arith) (omega arith)

pub sum_next : (k : ℤ) (i : ℕ) (xs ys now : List ℤ) (d d' : ℤ) → length xs ≡ length ys → i < length ys → now ≡ added k i xs ys
    → slice_set now i (slice_index_or now i d +ℤ (k *ℤ slice_index_or ys i d')) ≡ added k (i + 1) xs ys
sum_next k i xs ys now d d' e l is =
    let more : i + 1 ≡ suc i = omega arith in
    rw (more, is, not_yet k i xs ys d e l) (sum_at k i xs ys d d' e l)

within_at : (most i : ℕ) (xs : List ℤ) (d : ℤ) → AllWithin most xs → i < length xs → unsigned_abs (slice_index_or xs i d) ≤ most
within_at most i xs d w l = w i d l

pub product_bound : (k y : ℤ) → IsSmall k → FitsSigned w64 y → unsigned_abs (k *ℤ y) ≤ 10141204801825835211973625643008
product_bound k y s f =
    let e = unsigned_abs-mul k y in
    let m = mul-le (unsigned_abs k) (unsigned_abs y) 1099511627776 9223372036854775808 (abs_small k s) (omega (arith, ints)) in
    omega arith

pub product_fits : (k y : ℤ) → IsSmall k → FitsSigned w64 y → FitsSigned w128 (k *ℤ y)
product_fits k y s f = let b = product_bound k y s f in fits_signed_from_abs w128 (k *ℤ y) (omega arith)

pub plus_fits : (x y : ℤ) → unsigned_abs x ≤ 1267650600228229401496703205376 → unsigned_abs y ≤ 10141204801825835211973625643008 → FitsSigned w128 (x +ℤ y)
plus_fits x y b c =
    let s : unsigned_abs (x +ℤ y) ≤ unsigned_abs x + unsigned_abs y = omega (arith, ints) in
    fits_signed_from_abs w128 (x +ℤ y) (omega arith)

pub sum_fits : (k : ℤ) (i : ℕ) (xs ys now : List ℤ) (d d' : ℤ) → length xs ≡ length ys → i < length ys → now ≡ added k i xs ys
    → AllWithin (2 ^ 100) xs → IsSmall k → FitsSigned w64 (slice_index_or ys i d') → FitsSigned w128 (slice_index_or now i d +ℤ (k *ℤ slice_index_or ys i d'))
sum_fits k i xs ys now d d' e l is w s f =
    rw (is, not_yet k i xs ys d e l) (plus_fits (slice_index_or xs i d) (k *ℤ slice_index_or ys i d') (within_at (2 ^ 100) i xs d w (omega arith)) (product_bound k (slice_index_or ys i d') s f))
