use Rattle.std.proofs.Common.{subst}
use Rattle.burr_state.specs.Rules.Bench.{IsLabelAt}
use Rattle.burr_state.specs.Views.Benches.{setup_of}
use Rattle.burr_step.specs.Views.Stepping.{Stepping}
use Rattle.burr_step.proofs.Going.{came_so, going_so}
use Rattle.burr_step.proofs.stepper.Stepper.until.Goals as goal

pub returns-clause-comes : goal.returns-clause-comes
returns-clause-comes c =
    let old = c.args.self.now in
    let at = subst (λ (s : Stepping). IsLabelAt (setup_of s.bench) c.args.procedure c.args.label c.in-Some.position) c.self.view_is c.in-Some.ensures in
    came_so old c.go_to.new.self _ _ (going_so (setup_of old.bench) old.bench.state _ _ (λ o rest. (c.in-Some.position, at, rest))) c.go_to.result c.go_to.ensures.comes
