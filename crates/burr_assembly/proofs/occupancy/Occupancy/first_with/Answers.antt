use Rattle.std.proofs.Common.{◌≡◌, rules, take, take_all}
use Rattle.std.specs.HashMap.{get}
use Rattle.burr_assembly.specs.Views.HomedPieces.{same_cell}
use Rattle.burr_assembly.proofs.Owners.{first_of_more}
use Rattle.burr_assembly.proofs.occupancy.Occupancy.first_with.Goals as goal

pub loop-cell-preserved : goal.loop-cell-preserved
loop-cell-preserved c =
    rw (c.lesser-first.ensures, c.copied.ensures, c.get.ensures.value)
    (first_of_more c.args.self.now (get same_cell c.self.inside.owners) c.args.cells.now c.loop-cell.cell-index _ c.loop-cell.first (rw (← c.self.view_is) c.self.invariant.1) (search rules) (search rules) c.loop-cell.invariant)

pub returns : goal.returns
returns c =
    let whole : take c.loop-cell.cell-index c.args.cells.now ≡ c.args.cells.now = take_all c.loop-cell.cell-index c.args.cells.now (search rules) in
    rw whole at c.loop-cell.invariant
