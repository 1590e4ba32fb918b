-- A plan within the format has what containers promise.
use Rattle.burr_verify.proofs.Containers.{fitting_is_from_container}
use Rattle.burr_verify.proofs.laws.a_fitting_plan_is_from_a_container.Goals as goal

pub returns : goal.returns
returns c = fitting_is_from_container
