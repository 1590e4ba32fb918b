use Rattle.burr_state.proofs.Common.Trays.Asides.{group_goes_aside}
use Rattle.burr_state.proofs.laws.going_aside_parts_lone_pieces.Goals as goal

pub returns : goal.returns
returns g c = group_goes_aside
