use Rattle.std.proofs.Common.{Some, refl, sym, subst, ◌∙◌, arith}
use Rattle.burr_sheet.specs.declared.sheet.GrowingLine.{GrowingLine}
use Rattle.burr_state.specs.Views.Benches.{setup_of}
use Rattle.burr_step.specs.Rules.Moves.{stays}
use Rattle.burr_step.proofs.Driving.{steps_are_few}
use Rattle.burr_step.proofs.MakingLines.{IsMaking, begins_own, ends_by, ends_still, farther, fewer_then, goes_on, has_some, is_ahead, other_ahead, step_ahead}
use Rattle.burr_step.proofs.NextSteps.{goes_some, stepped}
use Rattle.burr_step.proofs.drive.make_line.Goals as goal

pub loop-motion-init : goal.loop-motion-init
loop-motion-init c =
    subst (λ (l : GrowingLine). IsMaking c.args.first c.args.machine.now l c.args.machine.now) (sym c.before-line.ensures) (record {
      safe = c.requires.safe;
      same = record { assembly = refl; program = refl };
      makes = stays c.args.machine.now.state;
      rests = c.requires.rests;
      begun = λ _. (c.requires.next, begins_own c.args.first);
      few = omega arith;
    })

pub returns-in_default-clause-line : goal.returns-in_default-clause-line
returns-in_default-clause-line c =
    ends_still c.args.first c.args.machine.now c.loop-motion.line c.loop-motion.machine c.loop-motion.invariant
    (λ motion next. absurd (c.in_default.ensures motion next))

pub returns-in_default-clause-some : goal.returns-in_default-clause-some
returns-in_default-clause-some c =
    has_some c.args.first c.args.machine.now c.loop-motion.line c.loop-motion.machine c.loop-motion.invariant
    (λ motion next. absurd (c.in_default.ensures motion next))

pub returns-then-not-is_of-clause-line : goal.returns-then-not-is_of-clause-line
returns-then-not-is_of-clause-line c =
    ends_still c.args.first c.args.machine.now c.loop-motion.line c.loop-motion.machine c.loop-motion.invariant
    (other_ahead c.loop-motion.line c.loop-motion.machine c.in-Some.motion c.in-Some.out c.in-Some.ensures (sym c.is_of.ensures ∙ c.if-not-is_of.true))

pub returns-then-not-is_of-clause-some : goal.returns-then-not-is_of-clause-some
returns-then-not-is_of-clause-some c =
    has_some c.args.first c.args.machine.now c.loop-motion.line c.loop-motion.machine c.loop-motion.invariant
    (other_ahead c.loop-motion.line c.loop-motion.machine c.in-Some.motion c.in-Some.out c.in-Some.ensures (sym c.is_of.ensures ∙ c.if-not-is_of.true))

pub come_to_rest-requires : goal.come_to_rest-requires
come_to_rest-requires c =
    (stepped c.a_fitting_plan_is_from_a_container.ensures c.loop-motion.machine c.step.new.self (Some c.in-Some.motion) c.loop-motion.invariant.safe c.step.ensures.same
    (goes_some (setup_of c.loop-motion.machine) c.loop-motion.machine.state c.step.new.self.state c.step.result c.in-Some.motion c.step.ensures.called
    (is_ahead c.loop-motion.machine c.in-Some.motion c.in-Some.out c.in-Some.ensures))).safe

pub returns-then-is_some-clause-line : goal.returns-then-is_some-clause-line
returns-then-is_some-clause-line c =
    ends_by c.args.first c.args.machine.now c.loop-motion.line c.in-Some.motion c.in-Some.out c.loop-motion.machine c.step.new.self c.come_to_rest.new.machine
    c.loop-motion.invariant (farther c.a_fitting_plan_is_from_a_container.ensures c.args.first c.args.machine.now c.loop-motion.line c.in-Some.motion c.step.result c.loop-motion.machine
    c.step.new.self c.come_to_rest.new.machine c.loop-motion.invariant (is_ahead c.loop-motion.machine c.in-Some.motion c.in-Some.out c.in-Some.ensures)
    c.step.ensures.called c.step.ensures.same c.come_to_rest.ensures) (sym c.is_of.ensures ∙ c.if-not-is_of.false) c.in-Some.ensures (sym c.is_some.ensures ∙ c.if-is_some.true)

pub with_step-line-requires : goal.with_step-line-requires
with_step-line-requires c =
    let few = steps_are_few c.a_fitting_plan_is_from_a_container.ensures c.loop-motion.machine c.loop-motion.invariant.safe in
    omega (arith, few, c.loop-motion.invariant.few)

pub loop-motion-smaller : goal.loop-motion-smaller
loop-motion-smaller c =
    fewer_then c.args.machine.now c.loop-motion.line c.in-Some.motion c.loop-motion.machine c.step.new.self c.come_to_rest.new.machine (farther c.a_fitting_plan_is_from_a_container.ensures c.args.first c.args.machine.now c.loop-motion.line c.in-Some.motion c.step.result c.loop-motion.machine
    c.step.new.self c.come_to_rest.new.machine c.loop-motion.invariant (is_ahead c.loop-motion.machine c.in-Some.motion c.in-Some.out c.in-Some.ensures)
    c.step.ensures.called c.step.ensures.same c.come_to_rest.ensures)

pub loop-motion-preserved : goal.loop-motion-preserved
loop-motion-preserved c =
    subst (λ (l : GrowingLine). IsMaking c.args.first c.args.machine.now l c.come_to_rest.new.machine) (sym c.with_step-line.ensures)
    (goes_on c.args.first c.args.machine.now c.loop-motion.line c.in-Some.motion c.loop-motion.machine c.step.new.self c.come_to_rest.new.machine
    c.loop-motion.invariant (farther c.a_fitting_plan_is_from_a_container.ensures c.args.first c.args.machine.now c.loop-motion.line c.in-Some.motion c.step.result c.loop-motion.machine
    c.step.new.self c.come_to_rest.new.machine c.loop-motion.invariant (is_ahead c.loop-motion.machine c.in-Some.motion c.in-Some.out c.in-Some.ensures)
    c.step.ensures.called c.step.ensures.same c.come_to_rest.ensures) (sym c.is_of.ensures ∙ c.if-not-is_of.false)
    (step_ahead c.loop-motion.machine c.in-Some.motion c.in-Some.out c.in-Some.ensures (sym c.is_some.ensures ∙ c.if-is_some.false)))
