use Rattle.std.proofs.Common.{take}
use Rattle.burr_blocking.proofs.Hulls.{IsHull}
use Rattle.burr_blocking.proofs.extent.Extent.around.Given as goal

-- the corners are those of the cells so far
abbrev pub invariant-loop-cell : goal.invariant-loop-cell
invariant-loop-cell l = IsHull l.fn.cells (take l.cell-index l.cells) l.least l.greatest
