use Rattle.burr_assembly.proofs.NamedPieces.{piece_line_is_told, piece_line_is_named, sharing_pieces_are_named}
use Rattle.burr_assembly.proofs.laws.a_piece_is_named_in_its_text.Goals as goal

pub returns : goal.returns
returns c = record { told = piece_line_is_told; named = piece_line_is_named; both = sharing_pieces_are_named }
