-- How many points a box has, counted range by range, and ranges that are put after others.
use Rattle.std.proofs.Common.{◌≡◌, ◌∙◌, ℕ, ◌+◌, ◌*◌, ◌≤◌, ◌<◌, List, [], ◌∷◌, ◌++◌, length, drop, refl, sym, ap, arith, ℤ, slice_index_or, Fits, FitsSigned, w16, w32, to_z, of_z, to_z-of_z, mul_assoc}
use Rattle.std.specs.Prelude.{◌-ℤ◌, nat_abs}
use Rattle.std.specs.Int.RustNames.{unsigned_abs}
use Rattle.std.proofs.lemmas.Int.{ints, fits_signed_from_abs}
use Rattle.std.proofs.lemmas.Nat.{mul-le}
use Rattle.std.proofs.lemmas.List.{drop_more, drop_all}
use Rattle.std.proofs.lemmas.List.Elements.{All-push}
use Rattle.std.proofs.Math.Facts.{Fits-of_lt}
use Rattle.std.proofs.Math.Dec.{T}
use Rattle.std.specs.Int.Signed.{non_neg, yes_non_neg}
use Rattle.burr_container.specs.Rules.Plans.{Range}
use Rattle.burr_forms.specs.Rules.Points.{IsRange, AreRanges, box_size}

-- how many numbers a range has
abbrev pub range_size : Range → ℕ
range_size range = nat_abs (range.1 -ℤ range.0) + 1

-- the same, as the code counts
abbrev pub counted_size : Range → ℕ
counted_size range = nat_abs (to_z w32 (of_z w32 (to_z w32 (of_z w32 range.1) -ℤ to_z w32 (of_z w32 range.0)))) + 1

counted_right : (range : Range) → IsRange range → counted_size range ≡ range_size range
counted_right range is =
    let rising = is.rising in
    let low = is.low in
    let high = is.high in
    let low_fits : FitsSigned w32 range.0 = fits_signed_from_abs w32 range.0 (omega (arith, ints)) in
    let high_fits : FitsSigned w32 range.1 = fits_signed_from_abs w32 range.1 (omega (arith, ints)) in
    let fits : FitsSigned w32 (range.1 -ℤ range.0) = fits_signed_from_abs w32 (range.1 -ℤ range.0) (omega (arith, ints)) in
    let same : range_size range ≡ range_size range = refl in
    simp to_z-of_z same

size_bound : (range : Range) → IsRange range → range_size range ≤ 65535
size_bound range is =
    let rising = is.rising in
    let low = is.low in
    let high = is.high in
    omega (arith, ints)

-- the difference of a range's ends, as the code counts
abbrev pub counted_gap : Range → ℤ
counted_gap range = to_z w32 (of_z w32 range.1) -ℤ to_z w32 (of_z w32 range.0)

gap_right : (range : Range) → IsRange range → counted_gap range ≡ range.1 -ℤ range.0
gap_right range is =
    let rising = is.rising in
    let low = is.low in
    let high = is.high in
    let low_fits : FitsSigned w32 range.0 = fits_signed_from_abs w32 range.0 (omega (arith, ints)) in
    let high_fits : FitsSigned w32 range.1 = fits_signed_from_abs w32 range.1 (omega (arith, ints)) in
    λ i. to_z-of_z high_fits i -ℤ to_z-of_z low_fits i

-- the difference fits, and its count of numbers
pub gap_fits : (range : Range) → IsRange range → FitsSigned w32 (counted_gap range)
gap_fits range is =
    let rising = is.rising in
    let low = is.low in
    let high = is.high in
    rw (gap_right range is) (fits_signed_from_abs w32 (range.1 -ℤ range.0) (omega (arith, ints)))

pub gap_casts : (range : Range) → IsRange range
    → T (non_neg (to_z w32 (of_z w32 (counted_gap range)))) × Fits w32 (nat_abs (to_z w32 (of_z w32 (counted_gap range))))
gap_casts range is =
    let rising = is.rising in
    let size = size_bound range is in
    let e : to_z w32 (of_z w32 (counted_gap range)) ≡ range.1 -ℤ range.0 = to_z-of_z (gap_fits range is) ∙ gap_right range is in
    rw e (yes_non_neg (omega (arith, ints)), Fits-of_lt (omega arith))

pub size_fits : (range : Range) → IsRange range → Fits w32 (counted_size range)
size_fits range is =
    let size = size_bound range is in
    rw (counted_right range is) (Fits-of_lt (omega arith))

some_point : (ranges : List Range) → 1 ≤ box_size ranges
some_point [] = omega arith
some_point (range ∷ ranges) = mul-le 1 1 (range_size range) (box_size ranges) (omega arith) (some_point ranges)

-- the product with the next range still fits
pub product_fits : (count : ℕ) (range : Range) → IsRange range → count ≤ 4096 → Fits w32 (count * counted_size range)
product_fits count range is room =
    let bound = mul-le count (range_size range) 4096 65535 room (size_bound range is) in
    rw (counted_right range is) (Fits-of_lt (omega (arith, bound)))

-- what is counted with the next range, and what is still to be
pub counted_on : (ranges : List Range) (i count : ℕ) (d : Range) → AreRanges ranges → i < length ranges
    → count * box_size (drop i ranges) ≡ box_size ranges
    → count * counted_size (slice_index_or ranges i d) * box_size (drop (i + 1) ranges) ≡ box_size ranges
counted_on ranges i count d are inside e =
    let range = slice_index_or ranges i d in
    let rest = drop (i + 1) ranges in
    ap (λ size. count * size * box_size rest) (counted_right range (are i d inside))
    ∙ mul_assoc count (range_size range) (box_size rest)
    ∙ sym (ap (λ (left : List Range). count * box_size left) (drop_more ranges i d inside)) ∙ e

-- the product with all ranges is the box's size
pub all_counted : (most : ℕ) (ranges : List Range) (i count : ℕ) → length ranges ≤ i → count * box_size (drop i ranges) ≡ box_size ranges
    → count ≤ most → box_size ranges ≤ most
all_counted most ranges i count past e room =
    let whole : count * 1 ≡ box_size ranges = sym (ap (λ (left : List Range). count * box_size left) (drop_all i ranges past)) ∙ e in
    omega (arith, whole, room)

-- too many so far are too many
pub too_many : (most : ℕ) (ranges rest : List Range) (count : ℕ) → most < count → count * box_size rest ≡ box_size ranges
    → ¬ (box_size ranges ≤ most)
too_many most ranges rest count over e few =
    let more = mul-le count 1 count (box_size rest) (omega arith) (some_point rest) in
    omega (arith, more, e, over, few)

-- Ranges as the code hands them on

handed : (x given : ℤ) → unsigned_abs x ≤ 32767 → given ≡ to_z w16 (of_z w16 x) → to_z w32 (of_z w32 given) ≡ x
handed x given near e =
    let short : FitsSigned w16 x = fits_signed_from_abs w16 x (omega (arith, ints)) in
    let long : FitsSigned w32 x = fits_signed_from_abs w32 x (omega (arith, ints)) in
    let same : x ≡ x = refl in
    rw e (simp to_z-of_z same)

pub handed_range : (low high l h : ℤ) → IsRange (low, high) → l ≡ to_z w16 (of_z w16 low) → h ≡ to_z w16 (of_z w16 high)
    → ◌≡◌ {A = Range} (to_z w32 (of_z w32 l), to_z w32 (of_z w32 h)) (low, high)
handed_range low high l h is e f =
    let rising = is.rising in
    let lowest = is.low in
    let highest = is.high in
    let l_is = handed low l (omega (arith, ints)) e in
    let h_is = handed high h (omega (arith, ints)) f in
    λ i. (l_is i, h_is i)

pub one_range_more : (ranges : List Range) (low high : ℤ) → AreRanges ranges → IsRange (low, high) → AreRanges (ranges ++ (low, high) ∷ [])
one_range_more ranges low high are is = All-push IsRange ranges (low, high) are is
