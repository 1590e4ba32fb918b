use Rattle.std.proofs.Common.{sym, subst, None, refl}
use Rattle.burr_text.proofs.Common.Tests.{no_of}
use Rattle.burr_step.specs.Rules.Stepper.{S2, Forward}
use Rattle.burr_step.specs.Views.Stepping.{Stepping, stepping, IsDone, IsRefused, commanding}
use Rattle.burr_step.proofs.UnderWay.{is_within, IsFurther, further_of, same_stepping, still_under_way}
use Rattle.burr_step.proofs.Going.{still_asks, forward_asks, forward_done}
use Rattle.burr_step.proofs.stepper.Stepper.forward.Goals as goal

pub invariant_of-self : goal.invariant_of-self
invariant_of-self c =
    let answers = c.self.inside.answers.items in
    still_under_way c.self.inside.machine c.step_on.new.machine None answers answers c.self.inside.records c.step_on.new.records c.self.invariant
    (c.step_on.ensures.still c.if-not-step_on.true) refl

pub returns-then-not-step_on-clause-comes : goal.returns-then-not-step_on-clause-comes
returns-then-not-step_on-clause-comes c =
    let b = c.self.inside.machine in
    let new = c.step_on.new.machine in
    let answers = c.self.inside.answers.items in
    let still = c.step_on.ensures.still c.if-not-step_on.true in
    let on = no_of c.if-ended.ensures in
    subst (λ (s : Stepping). IsRefused s (commanding s Forward) S2 (stepping new answers)) c.self.view_is
    (forward_asks (stepping b answers) (stepping new answers) on (still_asks _ b.state new.state still.told on still.called still.still)
    (same_stepping b new None answers answers c.self.inside.records c.step_on.new.records still refl))

further : (c : goal.Else-not-step_on) → IsFurther c.self.inside.machine c.step_on.new.machine c.self.inside.answers.items None c.step_on.new.records
further c =
    further_of c.a_fitting_plan_is_from_a_container.ensures c.self.inside.machine c.step_on.new.machine c.self.inside.answers.items None
    c.self.inside.records c.step_on.new.records c.self.invariant (c.step_on.ensures.made c.if-not-step_on.false)

pub invariant_of-self-2 : goal.invariant_of-self-2
invariant_of-self-2 c = (further c).under_way

pub returns-clause-comes : goal.returns-clause-comes
returns-clause-comes c =
    subst (λ (s : Stepping). IsDone s (commanding s Forward) (stepping c.step_on.new.machine c.self.inside.answers.items)) c.self.view_is
    (forward_done c.self.inside.machine c.step_on.new.machine c.self.inside.answers.items _ (c.step_on.ensures.made c.if-not-step_on.false).same (further c))

pub returns-clause-within : goal.returns-clause-within
returns-clause-within c =
    let same = (c.step_on.ensures.made c.if-not-step_on.false).same in
    rw (← c.self.view_is, sym same.program) (is_within c.a_fitting_plan_is_from_a_container.ensures
    (stepping c.step_on.new.machine c.self.inside.answers.items) c.step_on.new.records (further c).under_way)
