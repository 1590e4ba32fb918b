use Rattle.std.proofs.Common.{◌≡◌, ◌++◌, drop}
use Rattle.std.specs.List.{All}
use Rattle.burr_voxels.specs.Near.{IsWithin}
use Rattle.burr_assembly.specs.Rules.Text.{layer_cells}
use Rattle.burr_assembly.proofs.piece.add_layer_cells.Given as goal

-- the cells of the rows so far, and those to come, are the layer's
abbrev pub invariant-loop-y : goal.invariant-loop-y
invariant-loop-y l =
    (l.cells.items ++ layer_cells l.y l.z (drop l.y l.rows) ≡ l.fn.cells.items ++ layer_cells 0 l.z l.rows)
    × All (IsWithin 15) l.cells.items
