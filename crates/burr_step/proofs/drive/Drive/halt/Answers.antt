use Rattle.std.proofs.Common.{subst, arith}
use Rattle.burr_text.proofs.Common.Tests.{no_of}
use Rattle.burr_state.specs.Views.Benches.{setup_of}
use Rattle.burr_step.specs.Rules.Stepper.{IsHalted}
use Rattle.burr_step.specs.Views.Driving.{Driving, driving}
use Rattle.burr_step.proofs.Driving.{few_moves}
use Rattle.burr_step.proofs.NextSteps.{unhalted}
use Rattle.burr_step.proofs.drive.Drive.halt.Goals as goal

pub returns-in_err-low : goal.returns-in_err-low
returns-in_err-low c =
    rw c.from_residual.ensures
    (subst (λ (d : Driving). ¬ IsHalted (setup_of d.bench) d.bench.state) c.self.view_is
    (unhalted (setup_of c.self.inside.machine) c.self.inside.machine.state (no_of c.if-ended.ensures) c.in_err-low.ensures))

pub overflow_add-result : goal.overflow_add-result
overflow_add-result c =
    let few = few_moves c.a_fitting_plan_is_from_a_container.ensures (driving c.self.inside.machine c.self.inside.moves c.self.inside.answers) c.self.invariant in
    omega (arith, few)
