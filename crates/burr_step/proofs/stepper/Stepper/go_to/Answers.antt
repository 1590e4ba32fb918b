use Rattle.std.proofs.Common.{subst, inr}
use Rattle.burr_text.proofs.Common.Tests.{yes_of, no_of}
use Rattle.burr_state.specs.Views.Benches.{setup_of}
use Rattle.burr_step.specs.Views.Stepping.{Stepping, IsThere, StopsFor}
use Rattle.burr_step.proofs.Going.{up_to_first, up_to_next, up_to_end, not_there, halted_there}
use Rattle.burr_step.proofs.stepper.Stepper.go_to.Goals as goal

pub loop-stop-init : goal.loop-stop-init
loop-stop-init c = up_to_first (StopsFor (setup_of c.args.self.now.bench) c.args.stop) c.args.self.now c.forward.new.self c.in_ok-forward.ensures.comes

pub returns-then-is_met-clause-comes : goal.returns-then-is_met-clause-comes
returns-then-is_met-clause-comes c =
    let there = subst (λ (s : Stepping). IsThere c.args.stop s.bench.state) c.self.view_is (yes_of c.if-is_met.ensures) in
    up_to_end (StopsFor (setup_of c.args.self.now.bench) c.args.stop) c.args.self.now c.loop-stop.self c.loop-stop.invariant (inr there)

pub returns-in-Err-clause-comes : goal.returns-in-Err-clause-comes
returns-in-Err-clause-comes c =
    halted_there c.args.self.now c.loop-stop.self c.forward-in-loop-stop.new.self c.args.stop c.in-Err._halted c.loop-stop.invariant
    c.in-Err.ensures.comes c.in-Err.ensures.no_memory

pub loop-stop-preserved : goal.loop-stop-preserved
loop-stop-preserved c =
    let off : ¬ IsThere c.args.stop c.loop-stop.self.bench.state =
    subst (λ (s : Stepping). ¬ IsThere c.args.stop s.bench.state) c.self.view_is (no_of c.if-is_met.ensures) in
    up_to_next (StopsFor (setup_of c.args.self.now.bench) c.args.stop) c.args.self.now c.loop-stop.self c.forward-in-loop-stop.new.self c.loop-stop.invariant
    (not_there c.args.self.now c.loop-stop.self c.forward-in-loop-stop.new.self c.args.stop c.loop-stop.invariant c.in_default.ensures.comes off)
    c.in_default.ensures.comes
