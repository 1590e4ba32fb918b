use Rattle.std.proofs.Common.{◌≡◌, ◌++◌, drop}
use Rattle.std.specs.List.{flat_map}
use Rattle.burr_assembly.specs.Rules.Text.{piece_text}
use Rattle.burr_assembly.specs.Views.HomedPieces.{pieces_of}
use Rattle.burr_assembly.proofs.text.add_pieces.Given as goal

-- the pieces so far, and those to come, are all
abbrev pub invariant-loop-piece : goal.invariant-loop-piece
invariant-loop-piece l =
    l.text.items ++ flat_map piece_text (pieces_of (drop l.piece-index l.pieces)) ≡ l.initial.text.items ++ flat_map piece_text (pieces_of l.pieces)
