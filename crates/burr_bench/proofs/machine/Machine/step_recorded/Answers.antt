use Rattle.std.proofs.Common.{sym, subst, refl, Ok}
use Rattle.burr_state.specs.declared.effect.Progress.{Progress}
use Rattle.burr_state.specs.Rules.Step.{Called}
use Rattle.burr_state.specs.Views.Benches.{setup_of}
use Rattle.burr_bench.specs.Safe.{IsSafe}
use Rattle.burr_bench.proofs.Stepping.Safe.{goes_back_by}
use Rattle.burr_bench.proofs.Stepping.Sound.{goes_on_still}
use Rattle.burr_bench.proofs.machine.Machine.step_recorded.Goals as goal

pub returns-then-eq-clause-goes_on : goal.returns-then-eq-clause-goes_on
returns-then-eq-clause-goes_on c = rw (sym c.self.view_is) (goes_on_still _ _ c.self.invariant.sound refl)

pub returns-in-Went-clause-goes_back : goal.returns-in-Went-clause-goes_back
returns-in-Went-clause-goes_back c =
    let old = c.args.self.now in
    let new = c.step.new.self in
    let called = subst (λ (p : Progress). Called (setup_of old) old.state c.args.answer (Ok p) new.state) c.in-Went.is c.step.ensures.called in
    goes_back_by c.an_accepted_step_is_recorded.ensures.each old new c.args.answer c.in-Went.motion c.record-undo.result
    (subst IsSafe c.self.view_is c.self.invariant) c.step.ensures.same called c.record-undo.ensures.record c.record-undo.ensures.state
