use Rattle.std.proofs.Common.{subst, sym, ◌∙◌, ◌+◌, ℕ, le_antisymm}
use Rattle.burr_step.specs.Views.Stepping.{IsAgain}
use Rattle.burr_step.proofs.Returning.{again_none, again_steps, again_more}
use Rattle.burr_step.proofs.stepper.run_again.Goals as goal

pub loop-step-init : goal.loop-step-init
loop-step-init c = again_none c.args.machine.now c.args.answers.now c.args.records.now c.requires.start c.requires.under_way

pub unreachable-requires : goal.unreachable-requires
unreachable-requires c =
    again_steps c.args.machine.now c.loop-step.machine c.step_on.new.machine c.args.answers.now c.next_answer-answer.result.0 c.loop-step.records
    c.step_on.new.records c.args.steps c.loop-step._step c.loop-step.taken c.requires.start c.requires.run c.loop-step-test.true
    c.loop-step.invariant c.next_answer-answer.ensures.answer (c.step_on.ensures.still c.if-not-step_on.true)

pub loop-step-preserved : goal.loop-step-preserved
loop-step-preserved c =
    subst (λ (n : ℕ). IsAgain c.args.answers.now (c.loop-step._step + 1) n c.args.machine.now c.step_on.new.machine c.step_on.new.records)
    (sym c.next_answer-answer.ensures.taken)
    (again_more c.a_fitting_plan_is_from_a_container.ensures c.args.machine.now c.loop-step.machine c.step_on.new.machine c.args.answers.now
    c.next_answer-answer.result.0 c.loop-step.records c.step_on.new.records c.args.steps c.loop-step._step c.loop-step.taken c.requires.start c.requires.run
    c.loop-step-test.true c.loop-step.invariant c.next_answer-answer.ensures.answer (c.step_on.ensures.made c.if-not-step_on.false))

pub returns-clause-same : goal.returns-clause-same
returns-clause-same c = c.loop-step.invariant.same

pub returns-clause-steps : goal.returns-clause-steps
returns-clause-steps c = c.loop-step.invariant.steps ∙ le_antisymm c.loop-step.auto._step-end c.loop-step-test.false

pub returns-clause-under_way : goal.returns-clause-under_way
returns-clause-under_way c = c.loop-step.invariant.under_way
