use Rattle.std.proofs.Common.{ℕ, ◌<◌, slice_index_or, Contains}
use Rattle.burr_voxels.specs.declared.cell.Cell.{Cell}
use Rattle.burr_voxels.specs.Grid.{plus}
use Rattle.burr_voxels.proofs.cell.overlap_at.Given as goal

-- none of the cells so far is, displaced, one of the others
abbrev pub invariant-loop-cell : goal.invariant-loop-cell
invariant-loop-cell l = (k : ℕ) (d : Cell) → k < l.cell-index → ¬ Contains l.others (plus (slice_index_or l.cells k d) l.displacement)
