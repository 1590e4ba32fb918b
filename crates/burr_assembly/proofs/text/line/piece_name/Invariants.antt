use Rattle.std.proofs.Common.{◌≡◌, [], length}
use Rattle.std.specs.Prelude.{slice_index_or}
use Rattle.burr_assembly.specs.Rules.PieceNames.{names_in, name_at}
use Rattle.burr_assembly.proofs.text.line.piece_name.Given as goal

-- the name is still to come
abbrev pub invariant-loop-line : goal.invariant-loop-line
invariant-loop-line l = slice_index_or (names_in l.rest) l.left [] ≡ name_at l.text l.piece

abbrev pub decreases-loop-line : goal.decreases-loop-line
decreases-loop-line l = length l.rest
