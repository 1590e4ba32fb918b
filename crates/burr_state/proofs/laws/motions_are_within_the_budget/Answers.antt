use Rattle.burr_state.proofs.Common.Motions.{motions_are_within_budget}
use Rattle.burr_state.proofs.laws.motions_are_within_the_budget.Goals as goal

pub returns : goal.returns
returns c = motions_are_within_budget
