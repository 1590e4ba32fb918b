use Rattle.burr_step.proofs.Commands.{going_is_refused, answer_is_refused}
use Rattle.burr_step.proofs.laws.commands_are_refused_so.Goals as goal

pub returns : goal.returns
returns c = record { going = going_is_refused; answer = answer_is_refused }
