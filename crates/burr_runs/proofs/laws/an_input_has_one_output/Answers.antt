use Rattle.burr_runs.proofs.OneOutput.{one_output}
use Rattle.burr_runs.proofs.Inputs.OneInput.{one_input}
use Rattle.burr_runs.proofs.SomeOutput.{some_output}
use Rattle.burr_runs.proofs.laws.an_input_has_one_output.Goals as goal

pub returns : goal.returns
returns c = record { input = one_input; some = some_output; output = one_output }
