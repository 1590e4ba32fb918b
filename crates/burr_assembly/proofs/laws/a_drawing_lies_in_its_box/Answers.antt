use Rattle.burr_assembly.proofs.Boxes.{drawn_in_box}
use Rattle.burr_assembly.proofs.laws.a_drawing_lies_in_its_box.Goals as goal

pub returns : goal.returns
returns c = drawn_in_box
