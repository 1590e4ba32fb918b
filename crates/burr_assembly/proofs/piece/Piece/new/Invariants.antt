use Rattle.std.proofs.Common.{◌≡◌, take}
use Rattle.std.specs.List.{All}
use Rattle.burr_voxels.specs.Near.{IsWithin}
use Rattle.burr_assembly.specs.Rules.Text.{home_cells}
use Rattle.burr_assembly.specs.Views.HomedPieces.{turn_of}
use Rattle.burr_assembly.proofs.piece.Piece.new.Given as goal

abbrev pub invariant-loop-cell : goal.invariant-loop-cell
invariant-loop-cell l =
    (l.cells.items ≡ home_cells (turn_of l.orientation) l.position (take l.cell-index l.cell-items)) × All (IsWithin 79) l.cells.items
