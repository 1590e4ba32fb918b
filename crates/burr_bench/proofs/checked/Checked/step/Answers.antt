use Rattle.std.proofs.Common.{◌≡◌, sym, subst, refl, rules, Some, Ok, to_z, of_z, w32, Option, ℤ}
use Rattle.burr_state.specs.declared.effect.Mode.{Mode}
use Rattle.burr_state.specs.declared.effect.Mode.TheVariants.{Running}
use Rattle.burr_state.specs.Rules.Step.{CallIn, Called}
use Rattle.burr_state.specs.Views.Benches.{setup_of}
use Rattle.burr_bench.proofs.Stepping.Sound.{goes_on_still}
use Rattle.burr_bench.proofs.checked.Checked.step.Goals as goal

pub returns-in-Running-Some-clause-called : goal.returns-in-Running-Some-clause-called
returns-in-Running-Some-clause-called g c =
    let s = c.args.self.now.state in
    let setup = setup_of c.args.self.now in
    let running : s.mode ≡ Running = search rules in
    let same : to_z w32 (of_z w32 c.in-Running-Some.answer) ≡ c.in-Running-Some.answer = search rules in
    let called = subst (λ (n : ℤ). CallIn Running setup s (Some n) (Ok c.take.result) c.take.new.self.state) same c.take.ensures.called in
    subst (λ (o : Option ℤ). Called setup s o (Ok c.take.result) c.take.new.self.state) (sym c.in-Running-Some.is-1)
    (subst (λ (m : Mode). CallIn m setup s (Some c.in-Running-Some.answer) (Ok c.take.result) c.take.new.self.state) (sym running) called)

pub returns-in-Ended-default-clause-goes_on : goal.returns-in-Ended-default-clause-goes_on
returns-in-Ended-default-clause-goes_on g c = rw (sym c.self.view_is) (goes_on_still _ _ c.self.invariant refl)
