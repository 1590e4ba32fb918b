use Rattle.std.proofs.Common.{◌≡◌, ◌++◌, drop}
use Rattle.burr_assembly.specs.Rules.Homes.{homes_of, names_of}
use Rattle.burr_program.specs.CellEnds.{cell_lines}
use Rattle.burr_program.proofs.commands.cells.cells_text.Given as goal

-- the lines so far and those of the pieces that are left
abbrev pub invariant-loop-piece : goal.invariant-loop-piece
invariant-loop-piece l =
    l.text.items ++ cell_lines (drop l.piece (names_of l.assembly)) (drop l.piece (homes_of l.assembly))
    ≡ cell_lines (names_of l.assembly) (homes_of l.assembly)
