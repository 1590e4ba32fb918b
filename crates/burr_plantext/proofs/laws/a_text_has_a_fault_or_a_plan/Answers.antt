use Rattle.burr_plantext.proofs.Texts.TextLaws.{fault_or_plan, no_fault_of_plan, one_fault, fault_is_in_text}
use Rattle.burr_plantext.proofs.laws.a_text_has_a_fault_or_a_plan.Goals as goal

pub returns : goal.returns
returns c = record { some = fault_or_plan; not_both = no_fault_of_plan; one = one_fault; inside = fault_is_in_text }
