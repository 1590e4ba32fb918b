use Rattle.std.proofs.Common.{◌∙◌}
use Rattle.burr_container.specs.Rules.Fitting.{is_name_text}
use Rattle.burr_asm.proofs.Words.{word_alone, word_failed, word_passed, front_is}
use Rattle.burr_asm.proofs.text.words.cut_name.Goals as goal

pub returns-in_err-word : goal.returns-in_err-word
returns-in_err-word c = rw c.from_residual.ensures (word_alone is_name_text _ c.in_err-word.ensures)

pub returns-in_err-name : goal.returns-in_err-name
returns-in_err-name c = rw c.from_residual-in_err-name.ensures (word_failed is_name_text _ _ _ c.in_ok-word.ensures c.in_err-name.ensures)

pub returns : goal.returns
returns c = word_passed is_name_text _ _ _ c.in_ok-word.ensures c.in_ok-name.ensures.0 ∙ front_is _ c.in_ok-name.ensures.1
