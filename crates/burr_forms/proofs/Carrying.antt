-- Values one step along the last symbol.
use Rattle.std.proofs.Common.{◌≡◌, ℕ, zero, suc, ◌+◌, ◌-◌, ◌≤◌, ◌<◌, List, [], ◌∷◌, ◌++◌, length, take, drop, None, refl, ap, sym, ◌∙◌, arith, slice_index_or, slice_set, FitsSigned, w64, true}
use Rattle.std.specs.Prelude.{ℤ, pos, negsuc, ◌+ℤ◌, ◌*ℤ◌, int_lt}
use Rattle.std.specs.Int.RustNames.{unsigned_abs}
use Rattle.std.proofs.lemmas.Int.{ints, fits_signed_from_abs}
use Rattle.std.proofs.lemmas.List.{take_all, drop_all, append-nil}
use Rattle.std.proofs.lemmas.List.Elements.{All-head, All-tail}
use Rattle.std.proofs.Math.IntN.{suc_ℤ, suc_ℤ-*ℤ, *ℤ_comm}
use Rattle.burr_forms.specs.Rules.Forms.{Form, Point, dot, value, values}
use Rattle.burr_forms.specs.Views.Searching.{IsBounded, AllBounded, step_of, steps_of, sums, IsRaised}
use Rattle.burr_forms.specs.Views.Rising.{lows, following}
use Rattle.burr_forms.proofs.Stepping.{advanced}

-- Sums

pub length-sums : (xs ys : List ℤ) → length (sums xs ys) ≡ length xs
length-sums [] ys = refl
length-sums (x ∷ xs) [] = refl
length-sums (x ∷ xs) (y ∷ ys) = ap (λ n. suc n) (length-sums xs ys)

sum_at : (i : ℕ) (xs ys : List ℤ) (d d' : ℤ) → length xs ≡ length ys → i < length ys → slice_set (sums (take i xs) ys ++ drop i xs) i (slice_index_or xs i d +ℤ slice_index_or ys i d') ≡ sums (take (suc i) xs) ys ++ drop (suc i) xs
sum_at i xs [] d d' e l = absurd (omega arith)
sum_at i [] (y ∷ ys) d d' e l = absurd (omega arith)
sum_at zero (x ∷ xs) (y ∷ ys) d d' e l = refl
sum_at (suc i) (x ∷ xs) (y ∷ ys) d d' e l = ap (λ r. (x +ℤ y) ∷ r) (sum_at i xs ys d d' (omega arith) (omega arith))

not_yet : (i : ℕ) (xs ys : List ℤ) (d : ℤ) → length xs ≡ length ys → i < length ys → slice_index_or (sums (take i xs) ys ++ drop i xs) i d ≡ slice_index_or xs i d
not_yet i xs [] d e l = absurd (omega arith)
not_yet i [] (y ∷ ys) d e l = absurd (omega arith)
not_yet zero (x ∷ xs) (y ∷ ys) d e l = refl
not_yet (suc i) (x ∷ xs) (y ∷ ys) d e l = not_yet i xs ys d (omega arith) (omega arith)

pub sum_next : (i : ℕ) (xs ys now : List ℤ) (d d' : ℤ) → length xs ≡ length ys → i < length ys → now ≡ sums (take i xs) ys ++ drop i xs → slice_set now i (slice_index_or now i d +ℤ slice_index_or ys i d') ≡ sums (take (i + 1) xs) ys ++ drop (i + 1) xs
sum_next i xs ys now d d' e l is =
    let more : i + 1 ≡ suc i = omega arith in
    rw (more, is, not_yet i xs ys d e l) (sum_at i xs ys d d' e l)

sum_bounded : (i : ℕ) (xs ys : List ℤ) (d d' : ℤ) → length xs ≡ length ys → i < length ys → AllBounded (sums xs ys) → unsigned_abs (slice_index_or xs i d +ℤ slice_index_or ys i d') ≤ 576460752303423488
sum_bounded i xs [] d d' e l b = absurd (omega arith)
sum_bounded i [] (y ∷ ys) d d' e l b = absurd (omega arith)
sum_bounded zero (x ∷ xs) (y ∷ ys) d d' e l b = All-head IsBounded (x +ℤ y) (sums xs ys) b
sum_bounded (suc i) (x ∷ xs) (y ∷ ys) d d' e l b = sum_bounded i xs ys d d' (omega arith) (omega arith) (All-tail IsBounded (x +ℤ y) (sums xs ys) b)

pub sum_fits : (i : ℕ) (xs ys now : List ℤ) (d d' : ℤ) → length xs ≡ length ys → i < length ys → now ≡ sums (take i xs) ys ++ drop i xs → AllBounded (sums xs ys) → FitsSigned w64 (slice_index_or now i d +ℤ slice_index_or ys i d')
sum_fits i xs ys now d d' e l is b =
    let n = sum_bounded i xs ys d d' e l b in
    rw (is, not_yet i xs ys d e l) (fits_signed_from_abs w64 (slice_index_or xs i d +ℤ slice_index_or ys i d') (omega arith))

-- Along a symbol

suc_is : (z : ℤ) → suc_ℤ z ≡ (z +ℤ pos 1)
suc_is (pos n) = omega (arith, ints)
suc_is (negsuc zero) = refl
suc_is (negsuc (suc n)) = omega (arith, ints)

pub times_more : (c x : ℤ) → (c *ℤ (x +ℤ pos 1)) ≡ ((c *ℤ x) +ℤ c)
times_more c x = *ℤ_comm c (x +ℤ pos 1) ∙ ap (λ k. k *ℤ c) (sym (suc_is x)) ∙ suc_ℤ-*ℤ x c ∙ ap (λ k. k +ℤ c) (*ℤ_comm x c)

first_more : (a b c d : ℤ) → a ≡ (b +ℤ c) → (a +ℤ d) ≡ ((b +ℤ d) +ℤ c)
first_more a b c d e = omega (arith, ints)

rest_more : (a b c d : ℤ) → b ≡ (c +ℤ d) → (a +ℤ b) ≡ ((a +ℤ c) +ℤ d)
rest_more a b c d e = omega (arith, ints)

nothing_more : (a : ℤ) → a ≡ (a +ℤ pos 0)
nothing_more a = omega (arith, ints)

dot_raised : (k : ℕ) (coefs : List ℤ) (point : Point) (d : ℤ) → k < length point → dot coefs (slice_set point k (slice_index_or point k d +ℤ pos 1)) ≡ (dot coefs point +ℤ slice_index_or coefs k (pos 0))
dot_raised k [] point d l = refl
dot_raised k (c ∷ coefs) [] d l = absurd (omega arith)
dot_raised zero (c ∷ coefs) (x ∷ point) d l = first_more (c *ℤ (x +ℤ pos 1)) (c *ℤ x) c (dot coefs point) (times_more c x)
dot_raised (suc k) (c ∷ coefs) (x ∷ point) d l = rest_more (c *ℤ x) _ (dot coefs point) _ (dot_raised k coefs point d (omega arith))

value_raised : (k : ℕ) (f : Form) (point : Point) (d : ℤ) → k < length point → value (slice_set point k (slice_index_or point k d +ℤ pos 1)) f ≡ (value point f +ℤ step_of k f)
value_raised k f point d l = rest_more f.constant _ (dot f.coefs point) _ (dot_raised k f.coefs point d l)

values_raised : (k : ℕ) (forms : List Form) (point : Point) (d : ℤ) → k < length point → values (slice_set point k (slice_index_or point k d +ℤ pos 1)) forms ≡ sums (values point forms) (steps_of k forms)
values_raised k [] point d l = refl
values_raised k (f ∷ forms) point d l = ap (λ v. v ∷ values (slice_set point k (slice_index_or point k d +ℤ pos 1)) forms) (value_raised k f point d l) ∙ ap (λ r. (value point f +ℤ step_of k f) ∷ r) (values_raised k forms point d l)

-- a number goes up, after which the numbers are the lowest
pub raised : (i : ℕ) (ranges : List (ℤ × ℤ)) (old now : Point) (s : ℤ × ℤ) (d : ℤ) → length old ≡ length ranges → 0 < i → i ≤ length old → following (drop i ranges) (drop i old) ≡ None → now ≡ take i old ++ lows (drop i ranges) → int_lt (slice_index_or now (i - 1) d) (slice_index_or ranges (i - 1) s).1 ≡ true → IsRaised ranges old (slice_set now (i - 1) (slice_index_or now (i - 1) d +ℤ pos 1)) (i - 1)
raised i ranges old now s d e some within none is less = record {
  follows = advanced i ranges old now s d e some within none is less;
  carries = λ last forms.
      let all : length ranges ≤ i = omega (arith, last) in
      let same : now ≡ old = is ∙ ap (λ rs. take i old ++ lows rs) (drop_all i ranges all) ∙ append-nil (take i old) ∙ take_all i old (omega arith) in
      rw same (values_raised (i - 1) forms old d (omega arith));
}
