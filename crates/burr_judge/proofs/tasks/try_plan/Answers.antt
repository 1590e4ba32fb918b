use Rattle.burr_judge.proofs.Common.Results.{in_fitting, in_answers, sheet_done, sheet_fails}
use Rattle.burr_judge.proofs.tasks.try_plan.Goals as goal

pub returns-in_err-outcome : goal.returns-in_err-outcome
returns-in_err-outcome g c =
    in_fitting c.in_ok-bench.ensures.fits (in_answers _ _ c.in_ok-answers.ensures.ok c.deref.ensures.value
    (sheet_fails c.in_ok-bench.bench _ c.in_ok-bench.ensures.assembly c.in_ok-bench.ensures.program c.in_err-outcome.ensures.err c.from_residual-in_err-outcome.ensures.1))

pub returns : goal.returns
returns g c =
    in_fitting c.in_ok-bench.ensures.fits (in_answers _ _ c.in_ok-answers.ensures.ok c.deref.ensures.value
    (sheet_done c.in_ok-bench.bench _ _ c.in_ok-bench.ensures.assembly c.in_ok-bench.ensures.program c.in_ok-outcome.ensures.ok c.from.ensures))
