use Rattle.burr_runs.proofs.Inputs.Form.{IsInput-cut}
use Rattle.burr_runs.proofs.input.parse_input.Goals as goal

pub returns-in-None : goal.returns-in-None
returns-in-None c text code is = (rw c.in-None.is at c.in_ok-code.ensures) code (IsInput-cut _ _ _ text code c.in-Some.ensures is).1
