-- The points from one on are that one and the points from the following one on.
use Rattle.std.proofs.Common.{◌≡◌, ℕ, zero, suc, Bool, true, false, cond, List, [], ◌∷◌, ◌++◌, length, Some, None, refl, ap, sym, ◌∙◌, arith}
use Rattle.std.specs.Prelude.{ℤ, pos, negsuc, ◌+ℤ◌, map, Option, int_lt}
use Rattle.std.specs.Int.{int_gap}
use Rattle.std.proofs.lemmas.Int.{ints}
use Rattle.burr_forms.specs.Rules.Forms.{Point}
use Rattle.burr_forms.specs.Rules.Points.{count_from, above, beginning_with, box_points}
use Rattle.burr_forms.specs.Views.Rising.{points_from, lows, carried, following, from_next}

-- Numbers above another

pub gap_more : (x h : ℤ) → int_lt x h ≡ true → int_gap x h ≡ suc (int_gap (x +ℤ pos 1) h)
gap_more (pos a) (pos b) e = omega (arith, ints)
gap_more (pos a) (negsuc b) e = omega (arith, ints)
gap_more (negsuc zero) (pos b) e = omega (arith, ints)
gap_more (negsuc zero) (negsuc b) e = omega (arith, ints)
gap_more (negsuc (suc a)) (pos b) e =
    let less : negsuc (suc a) +ℤ pos 1 ≡ negsuc a = omega (arith, ints) in
    rw less (omega arith)
gap_more (negsuc (suc a)) (negsuc b) e =
    let less : negsuc (suc a) +ℤ pos 1 ≡ negsuc a = omega (arith, ints) in
    rw less (omega (arith, ints))

pub gap_none : (x h : ℤ) → int_lt x h ≡ false → int_gap x h ≡ 0
gap_none (pos a) (pos b) e = omega (arith, ints)
gap_none (pos a) (negsuc b) e = refl
gap_none (negsuc a) (pos b) e = omega (arith, ints)
gap_none (negsuc a) (negsuc b) e = omega (arith, ints)

-- From the lowest point on

pub from_lows : (ranges : List (ℤ × ℤ)) → points_from ranges (lows ranges) ≡ box_points ranges
from_lows [] = refl
from_lows (range ∷ ranges) =
    ap (λ r. map (λ p. range.0 ∷ p) r ++ beginning_with (above range.0 range.1) (box_points ranges)) (from_lows ranges)

-- From another one on

module _ (range : ℤ × ℤ) (ranges : List (ℤ × ℤ)) (x : ℤ) where
  -- the points that begin with one of the first n numbers above x
  after : ℕ → List Point
  after n = beginning_with (count_from (x +ℤ pos 1) n) (box_points ranges)

  after_here : (b : Bool) → int_lt x range.1 ≡ b
      → after (int_gap x range.1) ≡ from_next (range ∷ ranges) (cond b (Some ((x +ℤ pos 1) ∷ lows ranges)) None)
  unfolding after
  after_here true e =
      ap after (gap_more x range.1 e)
      ∙ ap (λ r. map (λ p. (x +ℤ pos 1) ∷ p) r ++ beginning_with (above (x +ℤ pos 1) range.1) (box_points ranges)) (sym (from_lows ranges))
  after_here false e = ap after (gap_none x range.1 e)

  in_front : (point : Point) (next : Option Point) → points_from ranges point ≡ point ∷ from_next ranges next
      → points_from (range ∷ ranges) (x ∷ point) ≡ (x ∷ point) ∷ from_next (range ∷ ranges) (carried range ranges x next)
  unfolding after
  in_front point (Some p) e =
      ap (λ r. map (λ q. x ∷ q) r ++ beginning_with (above x range.1) (box_points ranges)) e
  in_front point None e =
      ap (λ r. map (λ q. x ∷ q) r ++ beginning_with (above x range.1) (box_points ranges)) e
      ∙ ap (λ r. (x ∷ point) ∷ r) (after_here (int_lt x range.1) refl)

pub from_first : (ranges : List (ℤ × ℤ)) (point : Point) → length point ≡ length ranges
    → points_from ranges point ≡ point ∷ from_next ranges (following ranges point)
from_first [] [] e = refl
from_first [] (x ∷ point) e = absurd (omega arith)
from_first (range ∷ ranges) [] e = absurd (omega arith)
from_first (range ∷ ranges) (x ∷ point) e =
    in_front range ranges x point (following ranges point) (from_first ranges point (omega arith))
