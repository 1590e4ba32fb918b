use Rattle.burr_step.proofs.Commands.{one_lead, one_outcome, taken_is_there, commands_are_there}
use Rattle.burr_step.proofs.laws.commands_lead_to_one_state.Goals as goal

pub returns : goal.returns
returns c = record {
  one = one_lead;
  outcome = one_outcome;
  taken = taken_is_there;
  commanded = commands_are_there;
}
