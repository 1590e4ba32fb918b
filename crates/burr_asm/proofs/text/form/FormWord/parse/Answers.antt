use Rattle.std.proofs.Common.{refl, ◌∙◌}
use Rattle.std.specs.List.{list_all}
use Rattle.std.proofs.lemmas.Bool.{and_left}
use Rattle.burr_plantext.specs.Rules.Written.{is_number, is_term, constant_word, term_words}
use Rattle.burr_asm.proofs.FormTerms.{form_tested}
use Rattle.burr_asm.proofs.text.form.FormWord.parse.Goals as goal

pub returns-in_err-constant : goal.returns-in_err-constant
returns-in_err-constant c =
    rw c.from_residual.ensures (and_left (is_number (constant_word c.args.bytes.now)) (list_all is_term (term_words c.args.bytes.now)) c.in_err-constant.ensures)

pub returns-then-are_terms : goal.returns-then-are_terms
returns-then-are_terms c = (
  form_tested c.args.bytes.now c.in_ok-constant.constant c.are_terms.result c.in_ok-constant.ensures.0 c.in_ok-constant.ensures.1 c.are_terms.ensures ∙ c.if-are_terms.true,
  refl,
)

pub returns-else-are_terms : goal.returns-else-are_terms
returns-else-are_terms c =
    form_tested c.args.bytes.now c.in_ok-constant.constant c.are_terms.result c.in_ok-constant.ensures.0 c.in_ok-constant.ensures.1 c.are_terms.ensures ∙ c.if-are_terms.false
