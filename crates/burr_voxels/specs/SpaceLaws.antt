-- What holds of groups of cells.
use Rattle.std.specs.Prelude.{ℕ, pos, ◌≤◌, List}
use Rattle.burr_voxels.specs.declared.cell.Cell.{Cell}
use Rattle.burr_voxels.specs.declared.direction.Direction.{Direction}
use Rattle.burr_voxels.specs.Grid.{along, shifted}
use Rattle.burr_voxels.specs.CellSets.{Overlap, IsFree}

-- a group that overlaps the others after some whole number of units, at least 1, is not free of
-- them
abbrev pub OverlappingIsNotFree : Type 0
OverlappingIsNotFree = (group others : List Cell) (direction : Direction) (k : ℕ) → 1 ≤ k
    → Overlap (shifted (along direction (pos k)) group) others → ¬ IsFree group others direction
