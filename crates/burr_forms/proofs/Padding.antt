-- Ranges that are put in place, one after the other, before ranges of 0 alone.
use Rattle.std.proofs.Common.{◌≡◌, ℕ, zero, suc, ◌+◌, ◌-◌, ◌≤◌, ◌<◌, List, [], ◌∷◌, ◌++◌, length, take, refl, ap, ◌∙◌, arith, slice_index_or, slice_set}
use Rattle.std.specs.Prelude.{ℤ, pos, replicate}
use Rattle.std.proofs.lemmas.Int.{ints}
use Rattle.std.proofs.lemmas.List.{take_all}
use Rattle.burr_forms.specs.Rules.Points.{IsRange, padded}

-- the first i ranges, and after them ranges of 0 alone, n in all
abbrev pub padded_to : ℕ → ℕ → List (ℤ × ℤ) → List (ℤ × ℤ)
padded_to n i ranges = take i ranges ++ replicate (n - i) (pos 0, pos 0)

put_at : (n i : ℕ) (ranges : List (ℤ × ℤ)) (d : ℤ × ℤ) → i < length ranges → i < n
    → slice_set (padded_to n i ranges) i (slice_index_or ranges i d) ≡ padded_to n (suc i) ranges
put_at n i [] d l m = absurd (omega arith)
put_at zero i (r ∷ ranges) d l m = absurd (omega arith)
put_at (suc n) zero (r ∷ ranges) d l m =
    let all : suc n - 0 ≡ suc n = omega arith in
    let rest : suc n - 1 ≡ n = omega arith in
    rw (all, rest) refl
put_at (suc n) (suc i) (r ∷ ranges) d l m =
    let here : suc n - suc i ≡ n - i = omega arith in
    let next : suc n - suc (suc i) ≡ n - suc i = omega arith in
    rw (here, next) (ap (λ rest. r ∷ rest) (put_at n i ranges d (omega arith) (omega arith)))

pub put_next : (i : ℕ) (ranges now : List (ℤ × ℤ)) (d : ℤ × ℤ) → i < length ranges → length ranges ≤ 8
    → now ≡ padded_to 8 i ranges → slice_set now i (slice_index_or ranges i d) ≡ padded_to 8 (i + 1) ranges
put_next i ranges now d l few is =
    let more : i + 1 ≡ suc i = omega arith in
    rw (more, is) (put_at 8 i ranges d l (omega arith))

pub all_put : (i : ℕ) (ranges now : List (ℤ × ℤ)) → length ranges ≤ i → i ≤ length ranges
    → now ≡ padded_to 8 i ranges → now ≡ padded ranges
all_put i ranges now l m is =
    let all : i ≡ length ranges = omega arith in
    is ∙ ap (λ k. padded_to 8 k ranges) all ∙ ap (λ r. r ++ replicate (8 - length ranges) (pos 0, pos 0)) (take_all (length ranges) ranges (omega arith))

zero_alone : IsRange (pos 0, pos 0)
zero_alone = record { rising = omega (arith, ints); low = omega (arith, ints); high = omega (arith, ints) }
