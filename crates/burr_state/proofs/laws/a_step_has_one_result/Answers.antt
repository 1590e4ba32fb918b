use Rattle.burr_state.proofs.Common.Existence.SomeStep.{some_next}
use Rattle.burr_state.proofs.Common.Existence.SomeCall.{some_call}
use Rattle.burr_state.proofs.Uniqueness.OneStep.{one_next, one_call}
use Rattle.burr_state.proofs.laws.a_step_has_one_result.Goals as goal

pub returns : goal.returns
returns c = record { some = some_next; next = one_next; some_call = some_call; call = one_call }
