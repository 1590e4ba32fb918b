-- A box without guards has as many points as its size says.
use Rattle.std.proofs.Common.{◌≡◌, ℕ, zero, suc, ◌+◌, ◌*◌, List, [], ◌∷◌, length, map, filter, refl, sym, ap, ap₂, ◌∙◌, arith, ◌≤ℤ◌}
use Rattle.std.specs.Prelude.{ℤ, pos, negsuc, ◌+ℤ◌, ◌-ℤ◌, nat_abs}
use Rattle.std.specs.Int.{int_gap}
use Rattle.std.proofs.lemmas.Int.{ints}
use Rattle.std.proofs.lemmas.List.{length-append, length-map}
use Rattle.std.proofs.lemmas.List.Elements.{All-head, All-tail}
use Rattle.burr_forms.specs.Rules.Forms.{Point}
use Rattle.burr_forms.specs.Rules.Points.{IsRange, AreRanges, above, beginning_with, box_points, box_size, count_from, guards_hold, points_of}
use Rattle.burr_forms.specs.Laws.PointLaws.{SizeCountsPoints}
use Rattle.burr_forms.proofs.Listing.{the_points_are_given}
use Rattle.burr_forms.proofs.OneListing.{one_list_of_points}

length_count : (a : ℤ) (n : ℕ) → length (count_from a n) ≡ n
length_count a zero = refl
length_count a (suc n) = ap suc (length_count (a +ℤ pos 1) n)

gap_is : (low high : ℤ) → low ≤ℤ high → nat_abs (high -ℤ low) + 1 ≡ suc (int_gap low high)
gap_is (pos a) (pos b) l = omega (arith, ints)
gap_is (pos a) (negsuc b) l = omega (arith, ints)
gap_is (negsuc a) (pos b) l = omega (arith, ints)
gap_is (negsuc a) (negsuc b) l = omega (arith, ints)

one_more : (n first rest count : ℕ) → first ≡ n → rest ≡ count * n → first + rest ≡ suc count * n
one_more n first rest count e h = grind arith

length_beginning : (xs : List ℤ) (points : List Point)
    → length (beginning_with xs points) ≡ length xs * length points
length_beginning [] points = none (length points)
  where
    none : (n : ℕ) → 0 ≡ 0 * n
    none n = omega arith
length_beginning (x ∷ xs) points =
    length-append (map (λ p. x ∷ p) points) (beginning_with xs points)
    ∙ one_more (length points) (length (map (λ p. x ∷ p) points)) (length (beginning_with xs points)) (length xs)
    (length-map points (λ p. x ∷ p)) (length_beginning xs points)

length_box : (ranges : List (ℤ × ℤ)) → AreRanges ranges → box_size ranges ≡ length (box_points ranges)
length_box [] r = refl
length_box (range ∷ ranges) r =
    ap₂ (λ (n m : ℕ). n * m)
    (gap_is range.0 range.1 (All-head IsRange range ranges r).rising
    ∙ sym (length_count range.0 (suc (int_gap range.0 range.1))))
    (length_box ranges (All-tail IsRange range ranges r))
    ∙ sym (length_beginning (range.0 ∷ above range.0 range.1) (box_points ranges))

none_dropped : (points : List Point) → points ≡ filter (guards_hold []) points
none_dropped [] = refl
none_dropped (p ∷ points) = ap (λ (ps : List Point). p ∷ ps) (none_dropped points)

pub size_counts_points : SizeCountsPoints
size_counts_points ranges points r are =
    length_box ranges r
    ∙ ap length (none_dropped (box_points ranges)
    ∙ one_list_of_points ranges [] (points_of ranges []) points (the_points_are_given ranges [] r) are)
