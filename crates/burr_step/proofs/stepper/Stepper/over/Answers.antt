use Rattle.std.proofs.Common.{subst, ◌∙◌, ap, ℕ}
use Rattle.burr_state.specs.Views.Benches.{setup_of}
use Rattle.burr_step.specs.Rules.Stepper.{going, going_until, StopsOver, depth_of}
use Rattle.burr_step.specs.Views.Stepping.{Stepping, CameTo}
use Rattle.burr_step.proofs.Going.{one_up}
use Rattle.burr_step.proofs.stepper.Stepper.over.Goals as goal

pub returns-clause-comes : goal.returns-clause-comes
returns-clause-comes c =
    let old = c.args.self.now in
    subst (λ (n : ℕ). CameTo old (going (setup_of old.bench) old.bench.state
    (going_until (setup_of old.bench) old.history old.bench.state (StopsOver (setup_of old.bench) n))) c.go_to.result c.go_to.new.self)
    (c.depth-depth.ensures ∙ one_up _ ∙ ap (λ (s : Stepping). depth_of s.bench.state) c.self.view_is) c.go_to.ensures.comes
