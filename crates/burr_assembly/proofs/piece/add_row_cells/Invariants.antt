use Rattle.std.proofs.Common.{◌≡◌, ◌++◌, drop}
use Rattle.std.specs.List.{All}
use Rattle.burr_voxels.specs.Near.{IsWithin}
use Rattle.burr_assembly.specs.Rules.Text.{row_cells}
use Rattle.burr_assembly.proofs.piece.add_row_cells.Given as goal

-- the cells of the marks so far, and those to come, are the row's
abbrev pub invariant-loop-x : goal.invariant-loop-x
invariant-loop-x l =
    (l.cells.items ++ row_cells l.x l.y l.z (drop l.x l.marks) ≡ l.fn.cells.items ++ row_cells 0 l.y l.z l.marks)
    × All (IsWithin 15) l.cells.items
