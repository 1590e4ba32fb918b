use Rattle.std.proofs.Common.{subst, ◌≡◌, ◌+◌, ℕ, le_antisymm}
use Rattle.burr_step.specs.Views.Stepping.{stepping}
use Rattle.burr_step.proofs.Returning.{undone_none, undone_more, takes_back_of, some_record, back_done}
use Rattle.burr_step.proofs.stepper.undo_last.Goals as goal

pub loop-step-init : goal.loop-step-init
loop-step-init c = undone_none (stepping c.args.machine.now c.args.answers.now.items) c.args.records.now c.requires.under_way

pub unreachable-requires : goal.unreachable-requires
unreachable-requires c =
    some_record c.args.records.now c.loop-step.records c.args.steps c.loop-step._step c.loop-step.invariant.records c.loop-step-test.true c.requires.records
    c.in_default.ensures

pub undo-requires : goal.undo-requires
undo-requires c =
    takes_back_of c.loop-step.machine c.loop-step.answers.items c.in-Some.undo c.loop-step.records c.pop.new.self c.loop-step.invariant.under_way c.in-Some.ensures

pub loop-step-preserved : goal.loop-step-preserved
loop-step-preserved c =
    undone_more c.a_fitting_plan_is_from_a_container.ensures (stepping c.args.machine.now c.args.answers.now.items) c.loop-step.machine c.undo.new.self
    c.loop-step.answers.items c.forget_answer.new.answers.items c.args.records.now c.loop-step.records c.pop.new.self c.in-Some.undo c.loop-step._step
    c.loop-step.invariant c.in-Some.ensures c.undo.ensures c.forget_answer.ensures

pub returns-clause-under_way : goal.returns-clause-under_way
returns-clause-under_way c = c.loop-step.invariant.under_way

pub returns-clause-back : goal.returns-clause-back
returns-clause-back c =
    back_done (stepping c.args.machine.now c.args.answers.now.items) (stepping c.loop-step.machine c.loop-step.answers.items) c.args.steps
    c.loop-step.invariant.same c.loop-step.invariant.kept
    (subst (λ (n : ℕ). c.args.machine.now.state.steps ≡ c.loop-step.machine.state.steps + n) (le_antisymm c.loop-step.auto._step-end c.loop-step-test.false) c.loop-step.invariant.steps)
