use Rattle.std.proofs.Common.{ℕ, ◌<◌, slice_index_or}
use Rattle.burr_voxels.specs.declared.cell.Cell.{Cell}
use Rattle.burr_voxels.specs.Grid.{IsAhead}
use Rattle.burr_voxels.proofs.cell.is_met.Given as goal

-- none of the cells so far lies ahead
abbrev pub invariant-loop-cell : goal.invariant-loop-cell
invariant-loop-cell l = (k : ℕ) (d : Cell) → k < l.cell-index → ¬ IsAhead l.from (slice_index_or l.cells k d) l.direction
