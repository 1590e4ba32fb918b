use Rattle.burr_assembly.proofs.Common.TextLaws.{one_assembly}
use Rattle.burr_assembly.proofs.laws.a_text_has_one_assembly.Goals as goal

pub returns : goal.returns
returns c = one_assembly
