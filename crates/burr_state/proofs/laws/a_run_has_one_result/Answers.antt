use Rattle.burr_state.proofs.Common.SomeRun.{some_result}
use Rattle.burr_state.proofs.Common.OneRun.{one_result}
use Rattle.burr_state.proofs.laws.a_run_has_one_result.Goals as goal

pub returns : goal.returns
returns c = record { some = some_result; one = one_result }
