use Rattle.std.proofs.Common.{take}
use Rattle.burr_assembly.specs.Views.HomedPieces.{IsFirstMeeting}
use Rattle.burr_assembly.proofs.occupancy.Occupancy.first_with.Given as goal

-- the first piece that has one of the cells so far
abbrev pub invariant-loop-cell : goal.invariant-loop-cell
invariant-loop-cell l = IsFirstMeeting l.self (take l.cell-index l.cells) l.first
