use Rattle.std.proofs.Common.{[], refl, subst}
use Rattle.burr_text.proofs.Common.Tests.{no_of}
use Rattle.burr_state.specs.Rules.Bench.{Setup}
use Rattle.burr_state.specs.Views.Benches.{setup_of}
use Rattle.burr_step.specs.Rules.Moves.{stays, Makes}
use Rattle.burr_step.proofs.Making.{makes_on, one_made}
use Rattle.burr_step.proofs.NextSteps.{goes_none, IsStepOn, stepped, fewer_left}
use Rattle.burr_step.proofs.UnderWay.{same_setup}
use Rattle.burr_step.proofs.MakingLines.{same_twice}
use Rattle.std.specs.Prelude.{None}
use Rattle.burr_step.proofs.drive.come_to_rest.Goals as goal

pub loop-machine-init : goal.loop-machine-init
loop-machine-init c = (c.requires, record { assembly = refl; program = refl }, stays c.args.machine.now.state)

on : (c : goal.After-step) → IsStepOn c.loop-machine.machine c.step.new.self
on c =
    stepped c.a_fitting_plan_is_from_a_container.ensures c.loop-machine.machine c.step.new.self None c.loop-machine.invariant.0 c.step.ensures.same
    (goes_none (setup_of c.loop-machine.machine) c.loop-machine.machine.state c.step.new.self.state c.step.result c.step.ensures.called
    (λ rests. no_of c.loop-machine-test.ensures rests))

pub loop-machine-smaller : goal.loop-machine-smaller
loop-machine-smaller c = fewer_left c.loop-machine.machine c.step.new.self c.step.ensures.same (on c)

pub loop-machine-preserved : goal.loop-machine-preserved
loop-machine-preserved c =
    let old = c.args.machine.now in
    let now = c.loop-machine.machine in
    let new = c.step.new.self in
    let went = goes_none (setup_of now) now.state new.state c.step.result c.step.ensures.called (λ rests. no_of c.loop-machine-test.ensures rests) in
    let step = subst (λ (x : Setup). Makes x now.state [] new.state) (same_setup old now c.loop-machine.invariant.1) (one_made (setup_of now) now.state new.state None went) in
    ((on c).safe, same_twice old now new c.loop-machine.invariant.1 c.step.ensures.same, makes_on (setup_of old) old.state now.state new.state [] [] c.loop-machine.invariant.2 step)
