use Rattle.std.proofs.Common.{◌≡◌, ◌++◌, drop}
use Rattle.std.specs.Prelude.{map}
use Rattle.burr_frames.specs.Rules.Looks.{gripped_in, left_in, pieces_in}
use Rattle.burr_frames.specs.Views.Clearing.{number_in, piece_in, gripped_pieces, left_pieces}
use Rattle.burr_frames.proofs.clearing.put_pieces.Given as goal

-- the pieces so far, and those to come
abbrev pub invariant-loop-piece : goal.invariant-loop-piece
invariant-loop-piece l = record {
  gripped : l.gripped.items ++ map (piece_in l.tray l.places)
      (gripped_in l.grip (pieces_in l.tray l.piece (drop l.piece l.places)))
      ≡ gripped_pieces l.tray l.grip l.places;
  left : l.left.items ++ map (piece_in l.tray l.places)
      (left_in l.grip (pieces_in l.tray l.piece (drop l.piece l.places)))
      ≡ left_pieces l.tray l.grip l.places;
  number : l.number ≡ number_in l.tray l.places l.piece;
}
