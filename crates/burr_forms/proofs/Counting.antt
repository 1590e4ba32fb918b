-- The numbers of a range, counted from its lowest.
use Rattle.std.proofs.Common.{◌≡◌, ℕ, zero, suc, List, [], ◌∷◌, All, Contains, subst, arith, ◌≤ℤ◌, ◌<ℤ◌}
use Rattle.std.specs.Prelude.{ℤ, pos, negsuc, ◌+ℤ◌}
use Rattle.std.specs.Int.{int_gap}
use Rattle.std.proofs.lemmas.Int.{ints, by_lt_z}
use Rattle.std.proofs.lemmas.List.Elements.{All-nil, All-cons, All-weaker}
use Rattle.burr_forms.specs.Rules.Points.{InRange, count_from, above}
use Rattle.burr_forms.proofs.Containing.{contains_first, contains_after}

-- each number is below all after it
abbrev pub IsAscending : List ℤ → Type 0
IsAscending [] = Unit {0}
IsAscending (x ∷ xs) = All (λ y. x <ℤ y) xs × IsAscending xs

-- x is one of the n numbers from a on
abbrev IsAmong : ℤ → ℕ → ℤ → Type 0
IsAmong a n x = (a ≤ℤ x) × (x <ℤ (a +ℤ pos n))

among_more : (a : ℤ) (n : ℕ) (x : ℤ) → IsAmong (a +ℤ pos 1) n x → IsAmong a (suc n) x
among_more a n x h = let low = h.0 in let high = h.1 in (omega (arith, ints), omega (arith, ints))

among_after : (a : ℤ) (n : ℕ) (x : ℤ) → IsAmong a (suc n) x → a <ℤ x → IsAmong (a +ℤ pos 1) n x
among_after a n x h l = let high = h.1 in (omega (arith, ints), omega (arith, ints))

all_among : (a : ℤ) (n : ℕ) → All (IsAmong a n) (count_from a n)
all_among a zero = All-nil (IsAmong a 0)
all_among a (suc n) =
    All-cons (IsAmong a (suc n)) a (count_from (a +ℤ pos 1) n) (omega (arith, ints), omega (arith, ints))
    (All-weaker (IsAmong (a +ℤ pos 1) n) (IsAmong a (suc n)) (among_more a n) (count_from (a +ℤ pos 1) n)
    (all_among (a +ℤ pos 1) n))

contains_among : (a : ℤ) (n : ℕ) (x : ℤ) → IsAmong a n x → Contains (count_from a n) x
contains_among a zero x h = let low = h.0 in let high = h.1 in absurd (omega (arith, ints))
contains_among a (suc n) x h =
    by_lt_z a x
    (λ l. contains_after a x (count_from (a +ℤ pos 1) n)
    (contains_among (a +ℤ pos 1) n x (among_after a n x h l)))
    (λ l. let low = h.0 in let same : a ≡ x = omega (arith, ints) in
    subst (Contains (count_from a (suc n))) same (contains_first a (count_from (a +ℤ pos 1) n)))

one_more_below : (a : ℤ) (n : ℕ) (x : ℤ) → IsAmong (a +ℤ pos 1) n x → a <ℤ x
one_more_below a n x h = let low = h.0 in omega (arith, ints)

pub count_ascends : (a : ℤ) (n : ℕ) → IsAscending (count_from a n)
count_ascends a zero = tt
count_ascends a (suc n) = (
  All-weaker (IsAmong (a +ℤ pos 1) n) (λ y. a <ℤ y) (one_more_below a n) (count_from (a +ℤ pos 1) n)
      (all_among (a +ℤ pos 1) n),
  count_ascends (a +ℤ pos 1) n,
)

-- Those of a range

gap_spans : (low high : ℤ) → low ≤ℤ high → (low +ℤ pos (suc (int_gap low high))) ≡ (high +ℤ pos 1)
gap_spans (pos a) (pos b) l = omega (arith, ints)
gap_spans (pos a) (negsuc b) l = omega (arith, ints)
gap_spans (negsuc a) (pos b) l = omega (arith, ints)
gap_spans (negsuc a) (negsuc b) l = omega (arith, ints)

module _ (range : ℤ × ℤ) (r : range.0 ≤ℤ range.1) where
  in_range : (x : ℤ) → IsAmong range.0 (suc (int_gap range.0 range.1)) x → InRange range x
  in_range x h = let high = h.1 in let span = gap_spans range.0 range.1 r in (h.0, omega (arith, ints))

  pub all_in_range : All (InRange range) (range.0 ∷ above range.0 range.1)
  all_in_range =
      All-weaker (IsAmong range.0 (suc (int_gap range.0 range.1))) (InRange range) in_range
      (range.0 ∷ above range.0 range.1) (all_among range.0 (suc (int_gap range.0 range.1)))

  pub contains_in_range : (x : ℤ) → InRange range x → Contains (range.0 ∷ above range.0 range.1) x
  contains_in_range x h =
      let high = h.1 in
      let span = gap_spans range.0 range.1 r in
      contains_among range.0 (suc (int_gap range.0 range.1)) x (h.0, omega (arith, ints))
