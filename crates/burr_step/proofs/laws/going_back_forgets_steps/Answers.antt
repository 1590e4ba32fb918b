use Rattle.burr_step.proofs.Commands.{back_none, back_undoes, back_is_refused, some_back}
use Rattle.burr_step.proofs.laws.going_back_forgets_steps.Goals as goal

pub returns : goal.returns
returns c = record { none = back_none; undoes = back_undoes; refused = back_is_refused; some = some_back }
