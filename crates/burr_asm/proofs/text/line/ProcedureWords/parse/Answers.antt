use Rattle.std.proofs.Common.{◌∙◌}
use Rattle.std.specs.Prelude.{Some, None}
use Rattle.burr_plantext.specs.Rules.Lines.{head_line}
use Rattle.burr_plantext.specs.Rules.Texts.{words_of}
use Rattle.burr_plantext.specs.Rules.Written.{is_number}
use Rattle.burr_plantext.proofs.Common.Blanks.{number_lacks}
use Rattle.burr_asm.proofs.LineForms.{procedure_named, procedure_none, numbers_one, numbers_both}
use Rattle.burr_asm.proofs.Operands.{last_failed, last_passed}
use Rattle.burr_asm.proofs.text.line.ProcedureWords.parse.Goals as goal

pub returns-in_err-parse-in-Some : goal.returns-in_err-parse-in-Some
returns-in_err-parse-in-Some c = rw c.from_residual-in_err-parse-in-Some.ensures
    (procedure_named (words_of c.args.bytes.now) c.in_ok-name.name.now (words_of c.in_ok-name.rest.now) c.in_ok-name.ensures
    ∙ numbers_both c.in_ok-name.name.now (words_of c.in_ok-name.rest.now) c.in-Some.parameters.bytes.now (words_of c.in-Some.results.now) c.in-Some.ensures
    ∙ last_failed is_number number_lacks (λ results. head_line c.in_ok-name.name.now c.in-Some.parameters.bytes.now (Some results)) c.in-Some.results.now c.in_err-parse-in-Some.ensures)

pub returns-in_err-parse-in-None : goal.returns-in_err-parse-in-None
returns-in_err-parse-in-None c = rw c.from_residual-in_err-parse-in-None.ensures
    (procedure_named (words_of c.args.bytes.now) c.in_ok-name.name.now (words_of c.in_ok-name.rest.now) c.in_ok-name.ensures
    ∙ numbers_one c.in_ok-name.name.now (words_of c.in_ok-name.rest.now) c.in-None.ensures
    ∙ last_failed is_number number_lacks (λ parameters. head_line c.in_ok-name.name.now parameters None) c.in_ok-name.rest.now c.in_err-parse-in-None.ensures)

pub returns-in_ok-parse-in-Some : goal.returns-in_ok-parse-in-Some
returns-in_ok-parse-in-Some c =
    procedure_named (words_of c.args.bytes.now) c.in_ok-name.name.now (words_of c.in_ok-name.rest.now) c.in_ok-name.ensures
    ∙ numbers_both c.in_ok-name.name.now (words_of c.in_ok-name.rest.now) c.in-Some.parameters.bytes.now (words_of c.in-Some.results.now) c.in-Some.ensures
    ∙ last_passed is_number number_lacks (λ results. head_line c.in_ok-name.name.now c.in-Some.parameters.bytes.now (Some results)) c.in-Some.results.now c.in_ok-parse-in-Some.field-0.bytes.now c.in_ok-parse-in-Some.ensures.0 c.in_ok-parse-in-Some.ensures.1

pub returns-in_ok-parse-in-None : goal.returns-in_ok-parse-in-None
returns-in_ok-parse-in-None c =
    procedure_named (words_of c.args.bytes.now) c.in_ok-name.name.now (words_of c.in_ok-name.rest.now) c.in_ok-name.ensures
    ∙ numbers_one c.in_ok-name.name.now (words_of c.in_ok-name.rest.now) c.in-None.ensures
    ∙ last_passed is_number number_lacks (λ parameters. head_line c.in_ok-name.name.now parameters None) c.in_ok-name.rest.now c.in_ok-parse-in-None.field-0.bytes.now c.in_ok-parse-in-None.ensures.0 c.in_ok-parse-in-None.ensures.1

pub returns-in_err-name : goal.returns-in_err-name
returns-in_err-name c = rw c.from_residual.ensures (procedure_none (words_of c.args.bytes.now) c.in_err-name.ensures)
