use Rattle.std.proofs.Common.{◌≡◌, ◌++◌, drop}
use Rattle.std.specs.List.{flat_map}
use Rattle.burr_program.specs.CellEnds.{cell_line}
use Rattle.burr_program.proofs.commands.cells.add_cells.Given as goal

-- the lines so far and those of the cells that are left
abbrev pub invariant-loop-cell : goal.invariant-loop-cell
invariant-loop-cell l =
    l.text.items ++ flat_map (cell_line l.name) (drop l.cell-index l.cells)
    ≡ l.fn.text.items ++ flat_map (cell_line l.name) l.cells
