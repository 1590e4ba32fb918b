-- The numbers of units that take a displacement into a box along a direction.
use Rattle.std.proofs.Common.{◌≡◌, ℕ, ◌+◌, ◌<◌, ◌≤◌, subst, sym, arith}
use Rattle.std.specs.Prelude.{ℤ, pos, negsuc, neg_ℤ, ◌+ℤ◌, ◌-ℤ◌, ◌≤ℤ◌, FitsSigned}
use Rattle.std.specs.Int.{w32, int_gap, int_min, int_max}
use Rattle.std.proofs.lemmas.Int.{ints, clamps}
use Rattle.burr_voxels.specs.declared.cell.Cell.{Cell}
use Rattle.burr_voxels.specs.declared.direction.Direction.{Direction}
use Rattle.burr_voxels.specs.declared.direction.Direction.TheVariants.{PlusX, MinusX, PlusY, MinusY, PlusZ, MinusZ}
use Rattle.burr_voxels.specs.Grid.{plus, minus, along, origin, FitsCell}
use Rattle.burr_voxels.specs.Near.{IsWithin}
use Rattle.burr_blocking.specs.Views.Corners.{IsBetween, AreCorners, units_of}

-- where k takes f into the range from l to g, it lies between the lesser and the greater of l - f and g - f
between : (l g f k : ℤ) → l ≤ℤ (f +ℤ k) → (f +ℤ k) ≤ℤ g → (int_min (l -ℤ f) (g -ℤ f) ≤ℤ k) × (k ≤ℤ int_max (l -ℤ f) (g -ℤ f))
between l g f k low high = (omega (arith, ints, clamps), omega (arith, ints, clamps))

between_back : (l g f k : ℤ) → l ≤ℤ (f +ℤ neg_ℤ k) → (f +ℤ neg_ℤ k) ≤ℤ g → (int_min (neg_ℤ (l -ℤ f)) (neg_ℤ (g -ℤ f)) ≤ℤ k) × (k ≤ℤ int_max (neg_ℤ (l -ℤ f)) (neg_ℤ (g -ℤ f)))
between_back l g f k low high = (omega (arith, ints, clamps), omega (arith, ints, clamps))

pub units_within : (direction : Direction) (least greatest from : Cell) (k : ℕ) → IsBetween least greatest (plus from (along direction (pos k))) → (int_min (units_of direction (minus least from)) (units_of direction (minus greatest from)) ≤ℤ pos k) × (pos k ≤ℤ int_max (units_of direction (minus least from)) (units_of direction (minus greatest from)))
units_within PlusX l g f k b = between l.x g.x f.x (pos k) b.x_from b.x_to
units_within MinusX l g f k b = between_back l.x g.x f.x (pos k) b.x_from b.x_to
units_within PlusY l g f k b = between l.y g.y f.y (pos k) b.y_from b.y_to
units_within MinusY l g f k b = between_back l.y g.y f.y (pos k) b.y_from b.y_to
units_within PlusZ l g f k b = between l.z g.z f.z (pos k) b.z_from b.z_to
units_within MinusZ l g f k b = between_back l.z g.z f.z (pos k) b.z_from b.z_to

-- no more units than the coordinates allow
pub record FewUnits (n : ℕ) (z : ℤ) : Type 0 where
  pub above : neg_ℤ (pos n) ≤ℤ z
  pub below : z ≤ℤ pos n

as_they_are : (n : ℕ) (z : ℤ) → neg_ℤ (pos n) ≤ℤ z → z ≤ℤ pos n → FewUnits n z
as_they_are n z a b = record { above = a; below = b }

turned_round : (n : ℕ) (z : ℤ) → neg_ℤ (pos n) ≤ℤ z → z ≤ℤ pos n → FewUnits n (neg_ℤ z)
turned_round n z a b = record { above = omega (arith, ints); below = omega (arith, ints) }

pub few_units : (n : ℕ) (direction : Direction) (c : Cell) → IsWithin n c → FewUnits n (units_of direction c)
few_units n PlusX c w = as_they_are n c.x w.x_above w.x_below
few_units n MinusX c w = turned_round n c.x w.x_above w.x_below
few_units n PlusY c w = as_they_are n c.y w.y_above w.y_below
few_units n MinusY c w = turned_round n c.y w.y_above w.y_below
few_units n PlusZ c w = as_they_are n c.z w.z_above w.z_below
few_units n MinusZ c w = turned_round n c.z w.z_above w.z_below

-- a number lies above another one by the gap
pub gap_value : (l d : ℤ) → l ≤ℤ d → l +ℤ pos (int_gap l d) ≡ d
gap_value (pos l) (pos d) h = omega (arith, ints)
gap_value (pos l) (negsuc d) h = absurd h.le
gap_value (negsuc l) (pos d) h = omega (arith, ints)
gap_value (negsuc l) (negsuc d) h = omega (arith, ints)

-- the gap to a number of a range is less than the range's size
pub gap_lt : (l d g : ℤ) (n : ℕ) → n ≡ int_gap l d → l ≤ℤ d → d ≤ℤ g → n < int_gap l g + 1
gap_lt l d g n is low high =
    let to_number = gap_value l d low in
    let to_end = gap_value l g (omega (arith, ints)) in
    omega (arith, ints)

-- a range that goes no farther than n has n + 1 numbers at most
pub gap_few : (l g : ℤ) (n : ℕ) → l ≤ℤ g → g ≤ℤ (l +ℤ pos n) → int_gap l g + 1 ≤ n + 1
gap_few l g n rises near =
    let to_end = gap_value l g rises in
    omega (arith, ints)

-- Distances of cells

pub farther_within : (n m : ℕ) (c : Cell) → n ≤ m → IsWithin n c → IsWithin m c
farther_within n m c le near = record {
  x_above = omega (arith, ints, near.x_above);
  x_below = omega (arith, ints, near.x_below);
  y_above = omega (arith, ints, near.y_above);
  y_below = omega (arith, ints, near.y_below);
  z_above = omega (arith, ints, near.z_above);
  z_below = omega (arith, ints, near.z_below);
}

pub plus_within : (n m : ℕ) (a b : Cell) → IsWithin n a → IsWithin m b → IsWithin (n + m) (plus a b)
plus_within n m a b near also = record {
  x_above = omega (arith, ints, near.x_above, also.x_above);
  x_below = omega (arith, ints, near.x_below, also.x_below);
  y_above = omega (arith, ints, near.y_above, also.y_above);
  y_below = omega (arith, ints, near.y_below, also.y_below);
  z_above = omega (arith, ints, near.z_above, also.z_above);
  z_below = omega (arith, ints, near.z_below, also.z_below);
}

pub minus_within : (n m : ℕ) (a b : Cell) → IsWithin n a → IsWithin m b → IsWithin (n + m) (minus a b)
minus_within n m a b near also = record {
  x_above = omega (arith, ints, near.x_above, also.x_below);
  x_below = omega (arith, ints, near.x_below, also.x_above);
  y_above = omega (arith, ints, near.y_above, also.y_below);
  y_below = omega (arith, ints, near.y_below, also.y_above);
  z_above = omega (arith, ints, near.z_above, also.z_below);
  z_below = omega (arith, ints, near.z_below, also.z_above);
}

-- the greatest corner lies as far out as the least one and the box's reach
pub greatest_within : (n m : ℕ) (least greatest : Cell) → IsWithin n least → AreCorners m least greatest → IsWithin (n + m) greatest
greatest_within n m least greatest near corners = record {
  x_above = omega (arith, ints, near.x_above, corners.x_rises);
  x_below = omega (arith, ints, near.x_below, corners.x_near);
  y_above = omega (arith, ints, near.y_above, corners.y_rises);
  y_below = omega (arith, ints, near.y_below, corners.y_near);
  z_above = omega (arith, ints, near.z_above, corners.z_rises);
  z_below = omega (arith, ints, near.z_below, corners.z_near);
}

-- no fewer than 1, and no more than k
pub first_units : (a b m : ℤ) (first k : ℕ) → 1 ≤ k → m ≡ int_min a b → int_min a b ≤ℤ pos k → pos first ≡ int_max m (pos 1) → first ≤ k
first_units a b m first k least is low one = omega (arith, ints, clamps)

pub one_first : (m : ℤ) (first : ℕ) → pos first ≡ int_max m (pos 1) → 1 ≤ first
one_first m first one = omega (arith, ints, clamps)

-- no fewer than 1, and no fewer than k
pub last_units : (a b m : ℤ) (last k : ℕ) → m ≡ int_max a b → pos k ≤ℤ int_max a b → pos last ≡ int_max m (pos 1) → k ≤ last
last_units a b m last k is high one = omega (arith, ints, clamps)

-- no more than 1016, where the two are no more than 1016
pub last_few : (a b m : ℤ) (last : ℕ) → m ≡ int_max a b → a ≤ℤ pos 1016 → b ≤ℤ pos 1016 → pos last ≡ int_max m (pos 1) → last ≤ 1016
last_few a b m last is low high one = omega (arith, ints, clamps)

-- the units to a corner
pub units_to : (direction : Direction) (n : ℕ) (corner from way : Cell) (u : ℤ) → u ≡ units_of direction way → way ≡ minus corner from → IsWithin n corner → IsWithin 828 from → n ≤ 188 → FewUnits 1016 u
units_to direction n corner from way u is way_is near from_near few =
    let far : IsWithin 1016 way = subst (IsWithin 1016) (sym way_is) (farther_within (n + 828) 1016 _ (omega arith) (minus_within n 828 corner from near from_near)) in
    subst (FewUnits 1016) (sym is) (few_units 1016 direction way far)

-- a displacement moved along a direction fits 32 bits
fits_moved : (z k : ℤ) → neg_ℤ (pos 828) ≤ℤ z → z ≤ℤ pos 828 → neg_ℤ (pos 1016) ≤ℤ k → k ≤ℤ pos 1016 → FitsSigned w32 (z +ℤ k)
fits_moved z k a b c d = omega (arith, ints)

fits_at : (from step : Cell) → IsWithin 828 from → IsWithin 1016 step → FitsCell (plus from step)
fits_at from step near few = record {
  x = fits_moved from.x step.x near.x_above near.x_below few.x_above few.x_below;
  y = fits_moved from.y step.y near.y_above near.y_below few.y_above few.y_below;
  z = fits_moved from.z step.z near.z_above near.z_below few.z_above few.z_below;
}

along_within : (direction : Direction) (k n : ℕ) → k ≤ n → IsWithin n (along direction (pos k))
along_within direction k n le = by_sign direction (omega (arith, ints)) (omega (arith, ints)) (omega (arith, ints)) (omega (arith, ints)) (omega (arith, ints)) (omega (arith, ints))
  where
    by_sign : (d : Direction) → neg_ℤ (pos n) ≤ℤ pos k → pos k ≤ℤ pos n → neg_ℤ (pos n) ≤ℤ neg_ℤ (pos k) → neg_ℤ (pos k) ≤ℤ pos n → neg_ℤ (pos n) ≤ℤ pos 0 → pos 0 ≤ℤ pos n → IsWithin n (along d (pos k))
    by_sign PlusX a b c d e f = record { x_above = a; x_below = b; y_above = e; y_below = f; z_above = e; z_below = f }
    by_sign MinusX a b c d e f = record { x_above = c; x_below = d; y_above = e; y_below = f; z_above = e; z_below = f }
    by_sign PlusY a b c d e f = record { x_above = e; x_below = f; y_above = a; y_below = b; z_above = e; z_below = f }
    by_sign MinusY a b c d e f = record { x_above = e; x_below = f; y_above = c; y_below = d; z_above = e; z_below = f }
    by_sign PlusZ a b c d e f = record { x_above = e; x_below = f; y_above = e; y_below = f; z_above = a; z_below = b }
    by_sign MinusZ a b c d e f = record { x_above = e; x_below = f; y_above = e; y_below = f; z_above = c; z_below = d }

pub fits_along : (direction : Direction) (from : Cell) (k : ℕ) → IsWithin 828 from → k ≤ 1016 → FitsCell (plus from (along direction (pos k)))
fits_along direction from k near few = fits_at from (along direction (pos k)) near (along_within direction k 1016 few)

pub back_within : (n : ℕ) (c : Cell) → IsWithin n c → IsWithin n (minus origin c)
back_within n c near = record {
  x_above = omega (arith, ints, near.x_below);
  x_below = omega (arith, ints, near.x_above);
  y_above = omega (arith, ints, near.y_below);
  y_below = omega (arith, ints, near.y_above);
  z_above = omega (arith, ints, near.z_below);
  z_below = omega (arith, ints, near.z_above);
}
