use Rattle.burr_step.proofs.LedRuns.{moves_are_numbered, moves_are_the_runs, halt_is_the_close}
use Rattle.burr_step.proofs.laws.moves_are_those_of_the_run.Goals as goal

pub returns : goal.returns
returns c =
    let given = c.a_fitting_plan_is_from_a_container.ensures in
    record { numbered = moves_are_numbered; calls = moves_are_the_runs given; closes = halt_is_the_close given }
