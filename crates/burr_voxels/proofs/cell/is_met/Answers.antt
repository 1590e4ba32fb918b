use Rattle.std.proofs.Common.{arith}
use Rattle.burr_voxels.specs.declared.cell.Cell.{Cell}
use Rattle.burr_voxels.specs.Grid.{IsAhead}
use Rattle.burr_text.proofs.Common.Tests.{no_of, no_iff, one_more}
use Rattle.burr_voxels.proofs.MeetingCells.{meets_none}
use Rattle.burr_voxels.proofs.cell.is_met.Goals as goal

pub loop-cell-preserved : goal.loop-cell-preserved
loop-cell-preserved c =
    one_more (λ (cell : Cell). ¬ IsAhead c.args.from cell c.args.direction) c.args.cells.now c.loop-cell.cell-index _ c.loop-cell-test.true
    c.loop-cell.invariant (no_of c.if-is_ahead_of.ensures)

pub returns : goal.returns
returns c = no_iff (meets_none c.args.from c.args.cells.now c.args.direction (λ k d inside. c.loop-cell.invariant k d (omega (arith, inside, c.loop-cell-test.false))))
