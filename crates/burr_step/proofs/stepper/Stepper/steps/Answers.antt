use Rattle.burr_step.specs.Views.Stepping.{stepping}
use Rattle.burr_step.proofs.UnderWay.{is_within}
use Rattle.burr_step.proofs.stepper.Stepper.steps.Goals as goal

pub returns-clause-within : goal.returns-clause-within
returns-clause-within c =
    rw (← c.self.view_is, c.steps.ensures) (is_within c.a_fitting_plan_is_from_a_container.ensures
    (stepping c.self.inside.machine c.self.inside.answers.items) c.self.inside.records c.self.invariant)
