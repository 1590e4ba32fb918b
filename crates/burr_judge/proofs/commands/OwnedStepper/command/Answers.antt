use Rattle.std.proofs.Common.{◌≡◌, ◌∙◌, ap, refl, sym}
use Rattle.burr_state.specs.Rules.Bench.{Program}
use Rattle.burr_state.specs.Views.Benches.{IsSameRun}
use Rattle.burr_step.specs.Views.Stepping.{stepping_at}
use Rattle.burr_judge.specs.Views.OwnedSteps.{kept_stepping}
use Rattle.burr_judge.proofs.OwnedSteps.{paused_at, stands_at, stays_on, told_err, told_ok}
use Rattle.burr_judge.proofs.commands.OwnedStepper.command.Goals as goal

-- the stepper that is lent stands where the one that is kept did
lent : (g : _) (c : goal.Joined-self g) → c.resume-stepper.result ≡ stepping_at c.self.inside.assembly c.self.inside.program c.in-Some.paused
lent g c = c.resume-stepper.ensures ∙ ap (λ (w : Program). stepping_at c.self.inside.assembly w c.in-Some.paused) c.lend.ensures

same : (g : _) (c : goal.Joined-self g) → IsSameRun c.resume-stepper.result.bench c.command-answered.new.self.bench
same g c =
    stays_on g.W.Sink c.args.sink.now c.command-answered.new.sink c.resume-stepper.result c.command-answered.new.self c.args.line.now c.command-answered.result
    c.command-answered.ensures.ok c.command-answered.ensures.err

given : (g : _) (c : goal.Joined-self g) → c.resume-stepper.result ≡ c.args.self.now
given g c =
    lent g c ∙ ap (kept_stepping c.self.inside.assembly c.self.inside.program) (sym c.in-Some.is ∙ c.take.ensures.value) ∙ c.self.view_is

stands : (g : _) (c : goal.Joined-self g) → c.command-answered.new.self ≡ stepping_at c.self.inside.assembly c.self.inside.program c.pause.result
stands g c =
    stands_at c.self.inside.assembly c.self.inside.program c.in-Some.paused c.pause.result c.resume-stepper.result c.command-answered.new.self (lent g c) (same g c)
    c.pause.ensures

pub invariant_of-self : goal.invariant_of-self
invariant_of-self g c = (
  c.pause.result,
  refl,
  paused_at c.self.inside.assembly c.self.inside.program c.in-Some.paused c.pause.result c.resume-stepper.result c.command-answered.new.self (lent g c) (same g c)
      c.pause.ensures,
)

pub returns-clause-ok : goal.returns-clause-ok
returns-clause-ok g c =
    told_ok g.W.Sink c.args.sink.now c.command-answered.new.sink c.resume-stepper.result c.command-answered.new.self c.args.self.now _ c.args.line.now
    c.command-answered.result (given g c) (stands g c) c.command-answered.ensures.ok

pub returns-clause-err : goal.returns-clause-err
returns-clause-err g c =
    told_err g.W.Sink c.args.sink.now c.command-answered.new.sink c.resume-stepper.result c.command-answered.new.self c.args.self.now _ c.args.line.now
    c.command-answered.result (given g c) (stands g c) c.command-answered.ensures.err
