use Rattle.burr_step.proofs.LedRuns.{more_answers_go_on}
use Rattle.burr_step.proofs.laws.moves_go_on_with_more_answers.Goals as goal

pub returns : goal.returns
returns c = more_answers_go_on
