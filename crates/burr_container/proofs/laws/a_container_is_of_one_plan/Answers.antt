use Rattle.burr_container.proofs.Common.OneContainer.{fits_where_kept, one_kept_plan}
use Rattle.burr_container.proofs.laws.a_container_is_of_one_plan.Goals as goal

pub returns : goal.returns
returns c = record { one = one_kept_plan; fits = fits_where_kept }
