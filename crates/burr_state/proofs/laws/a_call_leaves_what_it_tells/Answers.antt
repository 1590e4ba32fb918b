use Rattle.burr_state.proofs.Common.CallLaws.{call_leaves}
use Rattle.burr_state.proofs.laws.a_call_leaves_what_it_tells.Goals as goal

pub returns : goal.returns
returns c = call_leaves
