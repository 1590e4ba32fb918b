use Rattle.std.proofs.Common.{◌≡◌, vec_len, take}
use Rattle.burr_blocking.specs.Views.PairBits.{AreBitsFrom}
use Rattle.burr_blocking.proofs.row_tables.rows_from.Given as goal

-- the bits of the cells so far have been set
abbrev pub invariant-loop-cell : goal.invariant-loop-cell
invariant-loop-cell l = (vec_len l.rows ≡ l.count) × AreBitsFrom l.extent l.rows.items l.corner (take l.cell-index l.cells)
