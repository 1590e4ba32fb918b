use Rattle.std.proofs.Common.{take}
use Rattle.burr_blocking.proofs.Marks.{IsSoFar}
use Rattle.burr_blocking.proofs.cell_tables.PairTablePairAnswers.build.Given as goal

-- the displacements from the cells so far have been marked
abbrev pub invariant-loop-cell : goal.invariant-loop-cell
invariant-loop-cell l = IsSoFar l.extent l.marks.items (take l.cell-index l.fn.cells) l.fn.others
