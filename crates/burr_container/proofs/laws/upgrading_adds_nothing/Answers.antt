use Rattle.burr_container.proofs.SecondVersion.{none_in_first, stays_fitting}
use Rattle.burr_container.proofs.laws.upgrading_adds_nothing.Goals as goal

pub returns-clause-none : goal.returns-clause-none
returns-clause-none c = none_in_first

pub returns-clause-fits : goal.returns-clause-fits
returns-clause-fits c = stays_fitting
