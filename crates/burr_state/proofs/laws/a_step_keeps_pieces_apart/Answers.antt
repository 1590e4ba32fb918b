use Rattle.burr_state.proofs.Common.Pieces.{grip_stays, no_overlap_stays, none_lone_stays}
use Rattle.burr_state.proofs.laws.a_step_keeps_pieces_apart.Goals as goal

pub returns : goal.returns
returns c = record { grip = grip_stays; no_overlap = no_overlap_stays; none_lone = none_lone_stays }
