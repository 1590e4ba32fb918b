use Rattle.burr_judge.proofs.Common.Results.{check_is, put_ends, put_fails}
use Rattle.burr_judge.proofs.tasks.check_plan.Goals as goal

pub returns-in_err-put_accepted : goal.returns-in_err-put_accepted
returns-in_err-put_accepted g c =
    put_fails _ (check_is c.in_ok-accepted.ensures.ok c.in_ok-accepted.ensures.accepted c.in_ok-accepted.ensures.passed c.cost.ensures c.header.ensures.header)
    c.in_err-put_accepted.ensures c.from_residual-in_err-put_accepted.ensures.1

pub returns : goal.returns
returns g c =
    put_ends (check_is c.in_ok-accepted.ensures.ok c.in_ok-accepted.ensures.accepted c.in_ok-accepted.ensures.passed c.cost.ensures c.header.ensures.header) c.in_ok-put_accepted.ensures
