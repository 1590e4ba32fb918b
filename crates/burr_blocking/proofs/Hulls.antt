-- The least box round the cells that have been seen.
use Rattle.std.proofs.Common.{◌≡◌, ℕ, ◌+◌, ◌<◌, List, [], take, length, get_or, Contains, arith}
use Rattle.std.specs.Prelude.{ℤ, pos, neg_ℤ, ◌+ℤ◌, ◌-ℤ◌, ◌≤ℤ◌}
use Rattle.std.specs.List.{All}
use Rattle.std.specs.Int.{int_min, int_max}
use Rattle.std.proofs.lemmas.Int.{ints, clamps}
use Rattle.std.proofs.lemmas.List.Elements.{All-more, All-weaker, All-contains, Contains-get_or}
use Rattle.burr_voxels.specs.declared.cell.Cell.{Cell}
use Rattle.burr_voxels.specs.Grid.{minus, FitsCell}
use Rattle.burr_voxels.specs.Near.{IsWithin}
use Rattle.burr_assembly.specs.Rules.Homes.{DiameterAtMost}
use Rattle.burr_blocking.specs.Views.Corners.{IsBetween, AreCorners, lower_of, upper_of}

-- a coordinate of the two corners, that lies from the least to the greatest one and within 15
pub record IsReach (l g c : ℤ) : Type 0 where
  pub up : c ≤ℤ (l +ℤ pos 15)
  pub down : g ≤ℤ (c +ℤ pos 15)

-- the corners lie within 15 of a cell
pub record IsNear (l g c : Cell) : Type 0 where
  pub x : IsReach l.x g.x c.x
  pub y : IsReach l.y g.y c.y
  pub z : IsReach l.z g.z c.z

-- the corners of the box round those that have been seen of the cells
pub record IsHull (cells seen : List Cell) (least greatest : Cell) : Type 0 where
  pub holds : All (IsBetween least greatest) seen
  pub small : AreCorners 15 least greatest
  pub near_all : (c : Cell) → Contains cells c → IsNear least greatest c
  pub near : IsWithin 79 least
  pub far : IsWithin 79 greatest

-- Numbers

reach_more : (l g c d : ℤ) → IsReach l g c → (c -ℤ d) ≤ℤ pos 15 → (d -ℤ c) ≤ℤ pos 15 → IsReach (int_min l d) (int_max g d) c
reach_more l g c d r a b = record { up = omega (arith, ints, clamps, r.up); down = omega (arith, ints, clamps, r.down) }

-- a number between the ends, between ends that have moved apart
from_more : (l d c : ℤ) → l ≤ℤ c → int_min l d ≤ℤ c
from_more l d c h = omega (arith, ints, clamps)

to_more : (g d c : ℤ) → c ≤ℤ g → c ≤ℤ int_max g d
to_more g d c h = omega (arith, ints, clamps)

from_new : (l d : ℤ) → int_min l d ≤ℤ d
from_new l d = omega (arith, ints, clamps)

to_new : (g d : ℤ) → d ≤ℤ int_max g d
to_new g d = omega (arith, ints, clamps)

-- Two ends that have moved apart

rises_more : (l g d : ℤ) → l ≤ℤ g → int_min l d ≤ℤ int_max g d
rises_more l g d h = omega (arith, ints, clamps)

near_more : (l g d : ℤ) → l ≤ℤ g → g ≤ℤ (l +ℤ pos 15) → IsReach l g d → int_max g d ≤ℤ (int_min l d +ℤ pos 15)
near_more l g d rises near r = omega (arith, ints, clamps, r.up, r.down)

within_more : (n : ℕ) (l d : ℤ) → neg_ℤ (pos n) ≤ℤ l → neg_ℤ (pos n) ≤ℤ d → neg_ℤ (pos n) ≤ℤ int_min l d
within_more n l d a b = omega (arith, ints, clamps)

within_less : (n : ℕ) (l d : ℤ) → l ≤ℤ pos n → int_min l d ≤ℤ pos n
within_less n l d a = omega (arith, ints, clamps)

upper_more : (n : ℕ) (g d : ℤ) → g ≤ℤ pos n → d ≤ℤ pos n → int_max g d ≤ℤ pos n
upper_more n g d a b = omega (arith, ints, clamps)

upper_less : (n : ℕ) (g d : ℤ) → neg_ℤ (pos n) ≤ℤ g → neg_ℤ (pos n) ≤ℤ int_max g d
upper_less n g d a = omega (arith, ints, clamps)

-- Cells

still_between : (l g d c : Cell) → IsBetween l g c → IsBetween (lower_of l d) (upper_of g d) c
still_between l g d c b = record {
  x_from = from_more l.x d.x c.x b.x_from;
  x_to = to_more g.x d.x c.x b.x_to;
  y_from = from_more l.y d.y c.y b.y_from;
  y_to = to_more g.y d.y c.y b.y_to;
  z_from = from_more l.z d.z c.z b.z_from;
  z_to = to_more g.z d.z c.z b.z_to;
}

new_between : (l g d : Cell) → IsBetween (lower_of l d) (upper_of g d) d
new_between l g d = record {
  x_from = from_new l.x d.x;
  x_to = to_new g.x d.x;
  y_from = from_new l.y d.y;
  y_to = to_new g.y d.y;
  z_from = from_new l.z d.z;
  z_to = to_new g.z d.z;
}

still_corners : (l g d : Cell) → AreCorners 15 l g → IsNear l g d → AreCorners 15 (lower_of l d) (upper_of g d)
still_corners l g d corners near = record {
  x_rises = rises_more l.x g.x d.x corners.x_rises;
  x_near = near_more l.x g.x d.x corners.x_rises corners.x_near near.x;
  y_rises = rises_more l.y g.y d.y corners.y_rises;
  y_near = near_more l.y g.y d.y corners.y_rises corners.y_near near.y;
  z_rises = rises_more l.z g.z d.z corners.z_rises;
  z_near = near_more l.z g.z d.z corners.z_rises corners.z_near near.z;
}

still_within : (n : ℕ) (l d : Cell) → IsWithin n l → IsWithin n d → IsWithin n (lower_of l d)
still_within n l d near also = record {
  x_above = within_more n l.x d.x near.x_above also.x_above;
  x_below = within_less n l.x d.x near.x_below;
  y_above = within_more n l.y d.y near.y_above also.y_above;
  y_below = within_less n l.y d.y near.y_below;
  z_above = within_more n l.z d.z near.z_above also.z_above;
  z_below = within_less n l.z d.z near.z_below;
}

still_far : (n : ℕ) (g d : Cell) → IsWithin n g → IsWithin n d → IsWithin n (upper_of g d)
still_far n g d near also = record {
  x_above = upper_less n g.x d.x near.x_above;
  x_below = upper_more n g.x d.x near.x_below also.x_below;
  y_above = upper_less n g.y d.y near.y_above;
  y_below = upper_more n g.y d.y near.y_below also.y_below;
  z_above = upper_less n g.z d.z near.z_above;
  z_below = upper_more n g.z d.z near.z_below also.z_below;
}

still_near : (l g d c : Cell) → IsNear l g c → IsWithin 15 (minus c d) → IsWithin 15 (minus d c) → IsNear (lower_of l d) (upper_of g d) c
still_near l g d c near to from = record {
  x = reach_more l.x g.x c.x d.x near.x to.x_below from.x_below;
  y = reach_more l.y g.y c.y d.y near.y to.y_below from.y_below;
  z = reach_more l.z g.z c.z d.z near.z to.z_below from.z_below;
}

-- Hulls

one_reach : (d c : ℤ) → (c -ℤ d) ≤ℤ pos 15 → (d -ℤ c) ≤ℤ pos 15 → IsReach d d c
one_reach d c a b = record { up = omega (arith, ints); down = omega (arith, ints) }

one_corner : (d : ℤ) → (d ≤ℤ d) × (d ≤ℤ (d +ℤ pos 15))
one_corner d = (omega (arith, ints), omega (arith, ints))

-- before any cell has been seen, the corners are one cell
pub hull_none : (cells : List Cell) (first : Cell) → DiameterAtMost 15 cells → (0 < length cells → Contains cells first) → IsWithin 79 first → IsHull cells [] first first
hull_none cells first small is near = record {
  holds = λ k d h. absurd (omega arith);
  small = record {
    x_rises = (one_corner first.x).0;
    x_near = (one_corner first.x).1;
    y_rises = (one_corner first.y).0;
    y_near = (one_corner first.y).1;
    z_rises = (one_corner first.z).0;
    z_near = (one_corner first.z).1;
  };
  near_all = λ c in_cells.
      let there = is (omega (arith, in_cells.1)) in
      let to = small c first in_cells there in
      let from = small first c there in_cells in
      record {
        x = one_reach first.x c.x to.x_below from.x_below;
        y = one_reach first.y c.y to.y_below from.y_below;
        z = one_reach first.z c.z to.z_below from.z_below;
      };
  near = near;
  far = near;
}

-- one more cell has been seen
pub hull_more : (cells : List Cell) (i : ℕ) (l g x low high : Cell) → DiameterAtMost 15 cells → All (IsWithin 79) cells → i < length cells → low ≡ lower_of l (get_or cells i x) → high ≡ upper_of g (get_or cells i x) → IsHull cells (take i cells) l g → IsHull cells (take (i + 1) cells) low high
hull_more cells i l g x low high small near lt low_is high_is hull =
    let d : Cell = get_or cells i x in
    let there : Contains cells d = Contains-get_or cells i x lt in
    let new : IsHull cells (take (i + 1) cells) (lower_of l d) (upper_of g d) = record {
      holds = All-more (IsBetween (lower_of l d) (upper_of g d)) cells i x lt (All-weaker (IsBetween l g) (IsBetween (lower_of l d) (upper_of g d)) (λ c b. still_between l g d c b) (take i cells) hull.holds) (new_between l g d);
      small = still_corners l g d hull.small (hull.near_all d there);
      near_all = λ c in_cells. still_near l g d c (hull.near_all c in_cells) (small c d in_cells there) (small d c there in_cells);
      near = still_within 79 l d hull.near (All-contains (IsWithin 79) cells d near there);
      far = still_far 79 g d hull.far (All-contains (IsWithin 79) cells d near there);
    } in
    rw (low_is, high_is) new

-- corners of a smaller box
pub corners_more : (l g : Cell) → AreCorners 15 l g → AreCorners 30 l g
corners_more l g corners = record {
  x_rises = corners.x_rises;
  x_near = omega (arith, ints, corners.x_near);
  y_rises = corners.y_rises;
  y_near = omega (arith, ints, corners.y_near);
  z_rises = corners.z_rises;
  z_near = omega (arith, ints, corners.z_near);
}

-- Two hulls

-- the corners of the box of displacements from one hull to another
pub displaced_corners : (l g m h : Cell) → AreCorners 15 l g → AreCorners 15 m h → AreCorners 30 (minus m g) (minus h l)
displaced_corners l g m h one other = record {
  x_rises = omega (arith, ints, one.x_rises, other.x_rises);
  x_near = omega (arith, ints, one.x_near, other.x_near);
  y_rises = omega (arith, ints, one.y_rises, other.y_rises);
  y_near = omega (arith, ints, one.y_near, other.y_near);
  z_rises = omega (arith, ints, one.z_rises, other.z_rises);
  z_near = omega (arith, ints, one.z_near, other.z_near);
}

-- the displacement from a cell of the one to a cell of the other is of that box
pub displaced_between : (l g m h from to : Cell) → IsBetween l g from → IsBetween m h to → IsBetween (minus m g) (minus h l) (minus to from)
displaced_between l g m h from to one other = record {
  x_from = omega (arith, ints, one.x_to, other.x_from);
  x_to = omega (arith, ints, one.x_from, other.x_to);
  y_from = omega (arith, ints, one.y_to, other.y_from);
  y_to = omega (arith, ints, one.y_from, other.y_to);
  z_from = omega (arith, ints, one.z_to, other.z_from);
  z_to = omega (arith, ints, one.z_from, other.z_to);
}

-- a difference of near cells fits 32 bits
pub fits_minus : (a b : Cell) → IsWithin 79 a → IsWithin 79 b → FitsCell (minus a b)
fits_minus a b near also = record {
  x = omega (arith, ints, near.x_above, near.x_below, also.x_above, also.x_below);
  y = omega (arith, ints, near.y_above, near.y_below, also.y_above, also.y_below);
  z = omega (arith, ints, near.z_above, near.z_below, also.z_above, also.z_below);
}
