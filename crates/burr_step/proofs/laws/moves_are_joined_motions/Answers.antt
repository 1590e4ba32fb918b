use Rattle.burr_step.proofs.WholeMoves.{moves_are_joined, one_move, one_way}
use Rattle.burr_step.proofs.laws.moves_are_joined_motions.Goals as goal

pub returns : goal.returns
returns c = record { joined = moves_are_joined; one = one_move; way = one_way }
