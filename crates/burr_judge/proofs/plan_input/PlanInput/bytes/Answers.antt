use Rattle.std.proofs.lemmas.Result.{err_from_is_err_and}
use Rattle.burr_judge.proofs.Common.Results.{plan_text_refuses}
use Rattle.burr_judge.proofs.plan_input.PlanInput.bytes.Goals as goal

pub returns-in_err-assemble-in-Text-clause-err : goal.returns-in_err-assemble-in-Text-clause-err
returns-in_err-assemble-in-Text-clause-err c =
    let p = err_from_is_err_and c.from_residual.result c.from_residual.ensures.1 in
    rw (p.1, c.in-Text.is) (plan_text_refuses c.in-Text.text.now _ p.0 c.in_err-assemble-in-Text.ensures p.2)
