use Rattle.std.proofs.Common.{rules, ◌≡◌, ◌==◌, length}
use Rattle.burr_asm.specs.Views.LineWords.{procedure_words}
use Rattle.burr_asm.proofs.HeadRefusals.{counts_passed, parameters_refused, results_refused}
use Rattle.burr_asm.proofs.text.outline.Outline.signature.Goals as goal

pub returns-in_err-count_of : goal.returns-in_err-count_of
returns-in_err-count_of c =
    let main : c.is_empty-main.result ≡ (length c.args.self.now.ended == 0) = search rules in
    rw c.from_residual.ensures (parameters_refused c.args.self.now (procedure_words c.args.words) c.is_empty-main.result main c.in_err-count_of.ensures.value)

pub returns-in_err-result_count : goal.returns-in_err-result_count
returns-in_err-result_count c =
    let main : c.is_empty-main.result ≡ (length c.args.self.now.ended == 0) = search rules in
    rw c.from_residual-in_err-result_count.ensures (results_refused c.args.self.now (procedure_words c.args.words) c.is_empty-main.result main c.in_err-result_count.ensures.value)

pub returns : goal.returns
returns c =
    let main : c.is_empty-main.result ≡ (length c.args.self.now.ended == 0) = search rules in
    let parameters = c.in_ok-count_of.ensures.value in
    let results = c.in_ok-result_count.ensures.value in (
      counts_passed c.args.self.now (procedure_words c.args.words) c.is_empty-main.result main parameters.0 results.0,
      record {
        version_is = search rules;
        parameters = parameters.1;
        results = results.1;
      },
    )
