use Rattle.burr_state.proofs.Common.Existence.Executions.{some_execution}
use Rattle.burr_state.proofs.Uniqueness.OneStep.{one_execution}
use Rattle.burr_state.proofs.laws.an_instruction_has_one_effect.Goals as goal

pub returns : goal.returns
returns c = record { some = some_execution; one = one_execution }
