use Rattle.burr_judge.proofs.Common.Results.{bytes_refused, in_given, in_bytes}
use Rattle.burr_judge.proofs.tasks.check_input.Goals as goal

pub returns-in_err-container : goal.returns-in_err-container
returns-in_err-container g c = in_given c.in_ok-bytes.ensures.ok c.deref.ensures.value (bytes_refused c.in_err-container.ensures c.from_residual-in_err-container.ensures.1)

pub returns : goal.returns
returns g c = in_given c.in_ok-bytes.ensures.ok c.deref.ensures.value (in_bytes c.in_ok-container.ensures c.check_plan.ensures)
