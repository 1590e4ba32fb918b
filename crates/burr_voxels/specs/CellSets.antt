-- Sets of cells, as lists: overlap and freedom.
use Rattle.std.specs.Prelude.{ℕ, pos, ◌≤◌, List, Contains}
use Rattle.burr_voxels.specs.declared.cell.Cell.{Cell}
use Rattle.burr_voxels.specs.declared.direction.Direction.{Direction}
use Rattle.burr_voxels.specs.Grid.{IsAhead, along, shifted}

-- Two sets of cells overlap where one cell is in both.
abbrev pub Overlap : List Cell → List Cell → Type 0
Overlap ps qs = (c : Cell) × Contains ps c × Contains qs c

-- A group is free of the others along a direction where for every whole k of at least 1 the group,
-- shifted k units, overlaps none of them.
abbrev pub IsFree : List Cell → List Cell → Direction → Type 0
IsFree group others direction =
    (k : ℕ) → 1 ≤ k → ¬ Overlap (shifted (along direction (pos k)) group) others

-- a cell of the others lies ahead of one of the group
abbrev pub IsAheadOfSome : List Cell → List Cell → Direction → Type 0
IsAheadOfSome group others direction = (from : Cell) × (to : Cell) × Contains group from
    × Contains others to × IsAhead from to direction
