-- Rows of bits of two pieces: at which displacements of the one against the other they overlap.
use Rattle.std.specs.Prelude.{◌≡◌, ◌↔◌, ◌⊎◌, ℕ, ◌+◌, ◌<◌, List, length, slice_index_or, Contains}
use Rattle.burr_voxels.specs.declared.cell.Cell.{Cell}
use Rattle.burr_voxels.specs.Grid.{minus, origin}
use Rattle.burr_blocking.specs.declared.extent.Extent.{Extent}
use Rattle.burr_blocking.specs.Views.Boxes.{IsInBox, IsInRows, wide_of, row_of, column_of}
use Rattle.burr_blocking.specs.Views.Bits.{HasBitAt}

-- the displacement is of the box, and its bit is set
pub record IsSet (e : Extent) (rows : List ℕ) (d : Cell) : Type 0 where
  pub inside : IsInBox e d
  pub set : HasBitAt rows (row_of e d) (column_of e d)

-- the displacement lies in a row of the box in which bit k is set
pub record HasBitIn (e : Extent) (rows : List ℕ) (d : Cell) (k : ℕ) : Type 0 where
  pub inside : IsInRows e d
  pub set : HasBitAt rows (row_of e d) k

-- no bit is set after the box
abbrev pub AreShort : Extent → List ℕ → Type 0
AreShort e rows = (n k : ℕ) → HasBitAt rows n k → k < wide_of e

-- a bit is set for each displacement from a cell to one of these, and no other bit
abbrev pub AreBitsFrom : Extent → List ℕ → Cell → List Cell → Type 0
AreBitsFrom e rows from tos = (n k : ℕ) → HasBitAt rows n k ↔ ((to : Cell) × Contains tos to
    × (n ≡ row_of e (minus to from)) × (k ≡ column_of e (minus to from)))

-- cell k is cell i or the next one, and has its y and its z
pub record IsInRowOf (cells : List Cell) (i k : ℕ) : Type 0 where
  pub inside : k < length cells
  pub which : (k ≡ i) ⊎ (k ≡ i + 1)
  pub y : (slice_index_or cells k origin).y ≡ (slice_index_or cells i origin).y
  pub z : (slice_index_or cells k origin).z ≡ (slice_index_or cells i origin).z
