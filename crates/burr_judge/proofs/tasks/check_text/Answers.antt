use Rattle.burr_judge.proofs.Common.Results.{in_text}
use Rattle.burr_judge.proofs.tasks.check_text.Goals as goal

pub returns : goal.returns
returns g c = in_text c.in_ok-tables.ensures.ok c.check_input.ensures
