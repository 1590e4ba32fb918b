use Rattle.std.proofs.Common.{◌∙◌}
use Rattle.burr_plantext.specs.Rules.Written.{is_form}
use Rattle.burr_plantext.specs.Rules.Texts.{words_of}
use Rattle.burr_asm.specs.Views.Places.{three_words}
use Rattle.burr_asm.proofs.LineForms.{form_lacks}
use Rattle.burr_asm.proofs.Operands.{two_none, two_some, three_none, three_some, last_failed, last_passed}
use Rattle.burr_asm.proofs.text.line.three_forms.Goals as goal

pub returns-in_err-x : goal.returns-in_err-x
returns-in_err-x c = rw c.from_residual.ensures (three_none is_form is_form is_form three_words (words_of c.args.bytes.now) c.in_err-x.ensures)

pub returns-in_err-y : goal.returns-in_err-y
returns-in_err-y c = rw c.from_residual-in_err-y.ensures
    (three_some is_form is_form is_form three_words (words_of c.args.bytes.now) (words_of c.in_ok-x.rest.now) c.in_ok-x.x.bytes.now c.in_ok-x.ensures
    ∙ two_none is_form is_form (three_words c.in_ok-x.x.bytes.now) (words_of c.in_ok-x.rest.now) c.in_err-y.ensures)

pub returns-in_err-parse : goal.returns-in_err-parse
returns-in_err-parse c = rw c.from_residual-in_err-parse.ensures
    (three_some is_form is_form is_form three_words (words_of c.args.bytes.now) (words_of c.in_ok-x.rest.now) c.in_ok-x.x.bytes.now c.in_ok-x.ensures
    ∙ two_some is_form is_form (three_words c.in_ok-x.x.bytes.now) (words_of c.in_ok-x.rest.now) (words_of c.in_ok-y.rest.now) c.in_ok-y.y.bytes.now c.in_ok-y.ensures
    ∙ last_failed is_form form_lacks (three_words c.in_ok-x.x.bytes.now c.in_ok-y.y.bytes.now) c.in_ok-y.rest.now c.in_err-parse.ensures)

pub returns : goal.returns
returns c =
    three_some is_form is_form is_form three_words (words_of c.args.bytes.now) (words_of c.in_ok-x.rest.now) c.in_ok-x.x.bytes.now c.in_ok-x.ensures
    ∙ two_some is_form is_form (three_words c.in_ok-x.x.bytes.now) (words_of c.in_ok-x.rest.now) (words_of c.in_ok-y.rest.now) c.in_ok-y.y.bytes.now c.in_ok-y.ensures
    ∙ last_passed is_form form_lacks (three_words c.in_ok-x.x.bytes.now c.in_ok-y.y.bytes.now) c.in_ok-y.rest.now c.in_ok-parse.field-0.bytes.now c.in_ok-parse.ensures.0 c.in_ok-parse.ensures.1
