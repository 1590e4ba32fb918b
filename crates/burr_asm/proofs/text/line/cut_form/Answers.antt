use Rattle.std.proofs.Common.{◌∙◌}
use Rattle.burr_plantext.specs.Rules.Written.{is_form}
use Rattle.burr_asm.proofs.Words.{word_alone, word_failed, word_passed, front_is}
use Rattle.burr_asm.proofs.text.line.cut_form.Goals as goal

pub returns-in_err-form : goal.returns-in_err-form
returns-in_err-form c = rw c.from_residual.ensures (word_alone is_form _ c.in_err-form.ensures)

pub returns-in_err-parse : goal.returns-in_err-parse
returns-in_err-parse c = rw c.from_residual-in_err-parse.ensures (word_failed is_form _ _ _ c.in_ok-form.ensures c.in_err-parse.ensures)

pub returns : goal.returns
returns c = word_passed is_form _ _ _ c.in_ok-form.ensures c.in_ok-parse.ensures.0 ∙ front_is _ c.in_ok-parse.ensures.1
