use Rattle.burr_state.proofs.Common.CallLaws.{run_is_calls}
use Rattle.burr_state.proofs.laws.a_run_is_a_chain_of_calls.Goals as goal

pub returns : goal.returns
returns c = run_is_calls
