use Rattle.std.proofs.Common.{ℕ, ◌<◌, slice_index_or, [], ◌∷◌}
use Rattle.burr_voxels.specs.declared.cell.Cell.{Cell}
use Rattle.burr_voxels.specs.Grid.{plus}
use Rattle.burr_voxels.specs.CellSets.{IsAheadOfSome}
use Rattle.burr_voxels.proofs.cell.meets.Given as goal

-- none of the cells so far has one of the others ahead of it
abbrev pub invariant-loop-cell : goal.invariant-loop-cell
invariant-loop-cell l =
    (k : ℕ) (d : Cell) → k < l.cell-index → ¬ IsAheadOfSome (plus (slice_index_or l.cells k d) l.displacement ∷ []) l.others l.direction
