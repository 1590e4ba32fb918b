use Rattle.burr_assembly.proofs.Common.TextLaws.{fault_or_assembly, no_fault_of_assembly, one_fault}
use Rattle.burr_assembly.proofs.laws.a_text_has_a_fault_or_an_assembly.Goals as goal

pub returns : goal.returns
returns c = record { some = fault_or_assembly; not_both = no_fault_of_assembly; one = one_fault }
