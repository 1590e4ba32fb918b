use Rattle.burr_step.proofs.Lines.{lines_are_short}
use Rattle.burr_step.proofs.OneLine.{one_line}
use Rattle.burr_step.proofs.laws.lines_of_commands_are_short.Goals as goal

pub returns : goal.returns
returns c = record { short = lines_are_short; one = one_line }
