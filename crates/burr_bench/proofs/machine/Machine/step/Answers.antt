use Rattle.std.proofs.Common.{◌≡◌, sym, subst, refl, rules, Some, Ok, to_z, of_z, w32, ℤ}
use Rattle.std.specs.Prelude.{Option}
use Rattle.burr_state.specs.declared.effect.Mode.TheVariants.{Running}
use Rattle.burr_state.specs.Rules.Step.{CallIn, Called}
use Rattle.burr_state.specs.Views.Benches.{setup_of}
use Rattle.burr_bench.proofs.Stepping.Safe.{called_in}
use Rattle.burr_bench.proofs.Stepping.Sound.{goes_on_still}
use Rattle.burr_bench.proofs.machine.Machine.step.Goals as goal

pub returns-then-eq-clause-goes_on : goal.returns-then-eq-clause-goes_on
returns-then-eq-clause-goes_on c = rw (sym c.self.view_is) (goes_on_still _ _ c.self.invariant.sound refl)

pub returns-in-Some-clause-called : goal.returns-in-Some-clause-called
returns-in-Some-clause-called c =
    let b = c.args.self.now in
    let new = c.take.new.self.state in
    let running : b.state.mode ≡ Running = search rules in
    let same : to_z w32 (of_z w32 c.in-Some.answer) ≡ c.in-Some.answer = search rules in
    let called = subst (λ (n : ℤ). CallIn Running (setup_of b) b.state (Some n) (Ok c.take.result) new) same c.take.ensures.called in
    subst (λ (o : Option ℤ). Called (setup_of b) b.state o (Ok c.take.result) new) (sym c.in-Some.is)
    (called_in b Running (Some c.in-Some.answer) (Ok c.take.result) new running called)
