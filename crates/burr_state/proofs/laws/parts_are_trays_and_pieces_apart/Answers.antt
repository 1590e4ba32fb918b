use Rattle.burr_state.proofs.Common.Trays.InPlay.{parts_are_counted}
use Rattle.burr_state.proofs.laws.parts_are_trays_and_pieces_apart.Goals as goal

pub returns : goal.returns
returns g c = parts_are_counted
