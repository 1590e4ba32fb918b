use Rattle.burr_state.proofs.Common.OneRun.{more_answers_go_on}
use Rattle.burr_state.proofs.laws.a_run_with_more_answers_goes_on.Goals as goal

pub returns : goal.returns
returns c = more_answers_go_on
