use Rattle.burr_state.proofs.Common.Motions.{trays_are_few, motions_are_of_pieces}
use Rattle.burr_state.proofs.laws.motions_are_of_pieces_in_trays.Goals as goal

pub returns : goal.returns
returns c = record { trays = trays_are_few; motions = motions_are_of_pieces }
