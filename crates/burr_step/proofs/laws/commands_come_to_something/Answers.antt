use Rattle.burr_step.proofs.SomeCommand.{leads_safely, some_outcome, steps_are_counted}
use Rattle.burr_step.proofs.laws.commands_come_to_something.Goals as goal

pub returns : goal.returns
returns c =
    let given = c.a_fitting_plan_is_from_a_container.ensures in
    record { safe = leads_safely given; some = some_outcome given; counted = steps_are_counted given }
