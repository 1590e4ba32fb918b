use Rattle.std.proofs.Common.{arith, [], ◌∷◌}
use Rattle.burr_voxels.specs.declared.cell.Cell.{Cell}
use Rattle.burr_voxels.specs.Grid.{plus}
use Rattle.burr_voxels.specs.CellSets.{IsAheadOfSome}
use Rattle.burr_text.proofs.Common.Tests.{no_of, no_iff, one_more}
use Rattle.burr_voxels.proofs.MeetingCells.{group_meets_none}
use Rattle.burr_voxels.proofs.cell.meets.Goals as goal

pub loop-cell-preserved : goal.loop-cell-preserved
loop-cell-preserved c =
    one_more (λ (cell : Cell). ¬ IsAheadOfSome (plus cell c.args.displacement ∷ []) c.args.others.now c.args.direction) c.args.cells.now c.loop-cell.cell-index _ c.loop-cell-test.true
    c.loop-cell.invariant (λ met. no_of c.if-is_met.ensures (rw c.add.ensures met))

pub returns : goal.returns
returns c = no_iff (group_meets_none c.args.cells.now c.args.displacement c.args.others.now c.args.direction (λ k d inside. c.loop-cell.invariant k d (omega (arith, inside, c.loop-cell-test.false))))
