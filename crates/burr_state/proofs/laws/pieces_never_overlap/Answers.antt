use Rattle.burr_state.proofs.Common.Reached.{homes_are_disjoint, grip_is_here, pieces_never_overlap, no_piece_is_lone}
use Rattle.burr_state.proofs.laws.pieces_never_overlap.Goals as goal

pub returns : goal.returns
returns c = record { homes = homes_are_disjoint; grip = grip_is_here; no_overlap = pieces_never_overlap; none_lone = no_piece_is_lone }
