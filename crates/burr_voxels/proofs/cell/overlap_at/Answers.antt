use Rattle.std.proofs.Common.{arith, Contains}
use Rattle.burr_voxels.specs.declared.cell.Cell.{Cell}
use Rattle.burr_voxels.specs.Grid.{plus}
use Rattle.burr_text.proofs.Common.Tests.{yes_of, yes_iff, no_of, no_iff, one_more}
use Rattle.burr_voxels.proofs.MeetingCells.{overlap_none, overlap_some}
use Rattle.burr_voxels.proofs.cell.overlap_at.Goals as goal

pub returns-then-has_cell : goal.returns-then-has_cell
returns-then-has_cell c =
    yes_iff (overlap_some c.args.cells.now c.args.displacement c.args.others.now c.loop-cell.cell-index _ c.add.result c.loop-cell-test.true c.add.ensures (yes_of c.if-has_cell.ensures))

pub loop-cell-preserved : goal.loop-cell-preserved
loop-cell-preserved c =
    one_more (λ (cell : Cell). ¬ Contains c.args.others.now (plus cell c.args.displacement)) c.args.cells.now c.loop-cell.cell-index _ c.loop-cell-test.true
    c.loop-cell.invariant (λ has. no_of c.if-has_cell.ensures (rw c.add.ensures has))

pub returns : goal.returns
returns c = no_iff (overlap_none c.args.cells.now c.args.displacement c.args.others.now (λ k d inside. c.loop-cell.invariant k d (omega (arith, inside, c.loop-cell-test.false))))
