use Rattle.std.proofs.Common.{◌≡◌, ◌++◌, drop}
use Rattle.std.specs.List.{All}
use Rattle.burr_voxels.specs.Near.{IsWithin}
use Rattle.burr_assembly.specs.Rules.Text.{cells_from, drawn_cells}
use Rattle.burr_assembly.proofs.piece.DrawnShape.new.Given as goal

-- the cells of the layers so far, and those to come, are the drawing's
abbrev pub invariant-loop-z : goal.invariant-loop-z
invariant-loop-z l =
    (l.cells.items ++ cells_from l.z (drop l.z l.layer-items) ≡ drawn_cells l.layer-items)
    × All (IsWithin 15) l.cells.items
