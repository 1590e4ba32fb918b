-- Two corners of a box of cells, each coordinate of the first at most that of the second.
use Rattle.std.specs.Prelude.{◌≡◌, ◌<◌, ℕ, ℤ, pos, neg_ℤ, ◌+ℤ◌, ◌≤ℤ◌}
use Rattle.std.specs.Int.{int_gap, int_min, int_max}
use Rattle.burr_voxels.specs.declared.cell.Cell.{Cell}
use Rattle.burr_voxels.specs.declared.direction.Direction.{Direction}
use Rattle.burr_voxels.specs.declared.direction.Direction.TheVariants.{PlusX, MinusX, PlusY, MinusY, PlusZ, MinusZ}
use Rattle.burr_voxels.specs.Grid.{at}

-- a cell lies in the box with these corners
pub record IsBetween (least greatest c : Cell) : Type 0 where
  pub x_from : least.x ≤ℤ c.x
  pub x_to : c.x ≤ℤ greatest.x
  pub y_from : least.y ≤ℤ c.y
  pub y_to : c.y ≤ℤ greatest.y
  pub z_from : least.z ≤ℤ c.z
  pub z_to : c.z ≤ℤ greatest.z

-- the corners of a box that reaches at most n beyond its least corner, a coordinate
pub record AreCorners (n : ℕ) (least greatest : Cell) : Type 0 where
  pub x_rises : least.x ≤ℤ greatest.x
  pub x_near : greatest.x ≤ℤ (least.x +ℤ pos n)
  pub y_rises : least.y ≤ℤ greatest.y
  pub y_near : greatest.y ≤ℤ (least.y +ℤ pos n)
  pub z_rises : least.z ≤ℤ greatest.z
  pub z_near : greatest.z ≤ℤ (least.z +ℤ pos n)

-- how far a number lies above a least one, which is near 0; 1,000 or more where it lies below it
pub record IsOffset (least number : ℤ) (n : ℕ) : Type 0 where
  pub above : least ≤ℤ number → n ≡ int_gap least number
  pub below : n < 1000 → least ≤ℤ number

-- the lesser of the two, each coordinate by itself
abbrev pub lower_of : Cell → Cell → Cell
lower_of a b = at (int_min a.x b.x) (int_min a.y b.y) (int_min a.z b.z)

-- the greater of the two, each coordinate by itself
abbrev pub upper_of : Cell → Cell → Cell
upper_of a b = at (int_max a.x b.x) (int_max a.y b.y) (int_max a.z b.z)

-- how many units a cell lies from the origin along a direction, below 0 the other way
abbrev pub units_of : Direction → Cell → ℤ
units_of PlusX c = c.x
units_of MinusX c = neg_ℤ c.x
units_of PlusY c = c.y
units_of MinusY c = neg_ℤ c.y
units_of PlusZ c = c.z
units_of MinusZ c = neg_ℤ c.z
