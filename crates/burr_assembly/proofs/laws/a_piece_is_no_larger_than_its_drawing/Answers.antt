use Rattle.burr_assembly.proofs.Common.HomeSizes.{homes_are_small}
use Rattle.burr_assembly.proofs.laws.a_piece_is_no_larger_than_its_drawing.Goals as goal

pub returns : goal.returns
returns c = homes_are_small
