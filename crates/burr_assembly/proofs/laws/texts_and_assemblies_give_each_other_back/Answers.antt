use Rattle.burr_assembly.proofs.Common.TextLaws.{reads_back, writes_back}
use Rattle.burr_assembly.proofs.laws.texts_and_assemblies_give_each_other_back.Goals as goal

pub returns : goal.returns
returns c = record { reads = reads_back; writes = writes_back }
