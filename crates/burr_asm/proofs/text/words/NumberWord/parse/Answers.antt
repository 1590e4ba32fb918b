use Rattle.std.proofs.Common.{sym, ◌∙◌}
use Rattle.burr_plantext.proofs.Common.WordTests.{number_result}
use Rattle.burr_asm.proofs.text.words.NumberWord.parse.Goals as goal

pub invariant_of-result : goal.invariant_of-result
invariant_of-result c = record { formed = sym (number_result _ _ c.is_number.ensures) ∙ c.if-is_number.true }

pub returns-else-is_number : goal.returns-else-is_number
returns-else-is_number c = sym (number_result _ _ c.is_number.ensures) ∙ c.if-is_number.false
