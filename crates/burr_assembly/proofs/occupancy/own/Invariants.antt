use Rattle.std.proofs.Common.{take}
use Rattle.std.specs.HashMap.{get}
use Rattle.burr_assembly.specs.Views.HomedPieces.{Owns, same_cell}
use Rattle.burr_assembly.proofs.occupancy.own.Given as goal

-- the piece owns the cells so far
abbrev pub invariant-loop-cell : goal.invariant-loop-cell
invariant-loop-cell l = Owns l.piece (take l.cell-index l.cells) (get same_cell l.fn.owners) (get same_cell l.owners)
