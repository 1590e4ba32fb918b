use Rattle.burr_judge.proofs.Common.Results.{answers_refused, in_accepted, in_answers, safe_done, safe_fails}
use Rattle.burr_judge.proofs.tasks.run_accepted.Goals as goal

pub returns-in_err-answers : goal.returns-in_err-answers
returns-in_err-answers g c =
    in_accepted c.in_ok-accepted.ensures.ok c.in_ok-accepted.ensures.accepted (answers_refused _ c.in_err-answers.ensures.err c.from_residual-in_err-answers.ensures.1)

pub returns-in_err-outcome : goal.returns-in_err-outcome
returns-in_err-outcome g c =
    in_accepted c.in_ok-accepted.ensures.ok c.in_ok-accepted.ensures.accepted (in_answers _ _ c.in_ok-answers.ensures.ok c.deref.ensures.value
    (safe_fails _ _ c.in_err-outcome.ensures.err c.from_residual-in_err-outcome.ensures.1))

pub returns : goal.returns
returns g c =
    in_accepted c.in_ok-accepted.ensures.ok c.in_ok-accepted.ensures.accepted (in_answers _ _ c.in_ok-answers.ensures.ok c.deref.ensures.value
    (safe_done _ _ _ c.in_ok-outcome.ensures.ok c.from.ensures))
