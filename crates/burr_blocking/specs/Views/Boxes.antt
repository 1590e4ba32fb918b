-- Boxes of cells or displacements, and where each one of a box stands in its table.
use Rattle.std.specs.Prelude.{◌≡◌, ℕ, ◌+◌, ◌*◌, ◌≤ℤ◌}
use Rattle.std.specs.Int.{int_gap}
use Rattle.burr_voxels.specs.declared.cell.Cell.{Cell}
use Rattle.burr_voxels.specs.Grid.{minus}
use Rattle.burr_voxels.specs.Near.{IsWithin}
use Rattle.burr_blocking.specs.declared.extent.Extent.{Extent}
use Rattle.burr_blocking.specs.Views.Corners.{AreCorners, IsBetween, IsOffset}

-- the displacement lies in the box
abbrev pub IsInBox : Extent → Cell → Type 0
IsInBox e d = IsBetween e.least e.greatest d

-- a box near the origin, which reaches at most 15 beyond its least corner, a coordinate
pub record IsHomeBox (e : Extent) : Type 0 where
  pub near : IsWithin 79 e.least
  pub far : IsWithin 79 e.greatest
  pub small : AreCorners 15 e.least e.greatest

-- the box of the displacements from what one box holds to what another one holds
pub record AreDisplacements (from to e : Extent) : Type 0 where
  pub corner : e.least ≡ minus to.least from.greatest
  pub holds : (c d : Cell) → IsInBox from c → IsInBox to d → IsInBox e (minus d c)

-- how many there are along each axis
abbrev pub wide_of : Extent → ℕ
wide_of e = int_gap e.least.x e.greatest.x + 1

abbrev pub deep_of : Extent → ℕ
deep_of e = int_gap e.least.y e.greatest.y + 1

abbrev pub high_of : Extent → ℕ
high_of e = int_gap e.least.z e.greatest.z + 1

-- how far a displacement lies from the least corner of the box, along each axis
pub record AreOffsets (e : Extent) (d : Cell) (x y z : ℕ) : Type 0 where
  pub along_x : IsOffset e.least.x d.x x
  pub along_y : IsOffset e.least.y d.y y
  pub along_z : IsOffset e.least.z d.z z

-- the displacement lies in a row of the box, or before or after one
pub record IsInRows (e : Extent) (d : Cell) : Type 0 where
  pub y_from : e.least.y ≤ℤ d.y
  pub y_to : d.y ≤ℤ e.greatest.y
  pub z_from : e.least.z ≤ℤ d.z
  pub z_to : d.z ≤ℤ e.greatest.z

-- how many rows along x there are
abbrev pub row_count_of : Extent → ℕ
row_count_of e = deep_of e * high_of e

-- how many there are in all
abbrev pub size_of : Extent → ℕ
size_of e = wide_of e * row_count_of e

-- the number of the row of a displacement: y first, then z
abbrev pub row_of : Extent → Cell → ℕ
row_of e d = int_gap e.least.z d.z * deep_of e + int_gap e.least.y d.y

-- where one of the box stands in its row
abbrev pub column_of : Extent → Cell → ℕ
column_of e d = int_gap e.least.x d.x

-- where one of the box stands in its table, row by row
abbrev pub place_of : Extent → Cell → ℕ
place_of e d = row_of e d * wide_of e + column_of e d
