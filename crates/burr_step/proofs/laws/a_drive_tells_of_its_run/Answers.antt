use Rattle.burr_step.proofs.DrivenRuns.{tells_run}
use Rattle.burr_step.proofs.laws.a_drive_tells_of_its_run.Goals as goal

pub returns : goal.returns
returns c = tells_run
