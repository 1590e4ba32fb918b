-- Something stands next where an instruction is carried out.
use Rattle.burr_state.specs.Laws.StepLaws.{SomeExecution}
use Rattle.burr_state.proofs.Common.Built.{executes_is_built}
use Rattle.burr_code.proofs.Common.Checked.{some_built}

pub some_execution : SomeExecution
some_execution setup here s i = some_built (executes_is_built setup here s i)
