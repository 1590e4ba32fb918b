use Rattle.burr_judge.proofs.Common.Results.{in_container}
use Rattle.burr_judge.proofs.tasks.judge_text.Goals as goal

pub returns-in-Check : goal.returns-in-Check
returns-in-Check g c = in_container c.in_ok-tables.ensures.ok c.in_ok-container.ensures (rw c.in-Check.is c.check_plan.ensures)

pub returns-in-Run : goal.returns-in-Run
returns-in-Run g c = in_container c.in_ok-tables.ensures.ok c.in_ok-container.ensures (rw c.in-Run.is c.run_accepted.ensures)

pub returns : goal.returns
returns g c = in_container c.in_ok-tables.ensures.ok c.in_ok-container.ensures (rw c.in-Try.is c.try_plan.ensures)
