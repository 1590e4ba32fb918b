use Rattle.std.proofs.Common.{rules}
use Rattle.std.specs.HashMap.{get}
use Rattle.burr_assembly.specs.Views.HomedPieces.{same_cell}
use Rattle.burr_assembly.proofs.Owners.{owned_more}
use Rattle.burr_assembly.proofs.occupancy.own.Goals as goal

pub loop-cell-preserved : goal.loop-cell-preserved
loop-cell-preserved c =
    owned_more (get same_cell c.args.owners.now) (get same_cell c.loop-cell.owners) (get same_cell c.insert.new.self) c.args.cells.now c.loop-cell.cell-index _ c.args.piece (search rules) (search rules) c.loop-cell.invariant c.in_ok-insert.ensures.updates.0
