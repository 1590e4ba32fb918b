use Rattle.std.proofs.Common.{rules, ◌≡◌, ◌<◌, ◌≤◌, ◌+◌, ◌∷◌, length, reverse, sym, ap, subst, ◌∙◌, arith, Some}
use Rattle.std.proofs.lemmas.Bool.{lt-ltb}
use Rattle.std.proofs.lemmas.List.{length-reverse}
use Rattle.std.proofs.lemmas.Option.{slice_get_within}
use Rattle.std.proofs.lemmas.Result.{err_from_is_err_and}
use Rattle.burr_code.specs.Labels.{callee_of}
use Rattle.burr_state.specs.declared.state.BenchState.TheInside.{Inside}
use Rattle.burr_state.specs.Rules.Bench.{Activation, activation, BenchProcedure, BenchState, running}
use Rattle.burr_state.specs.Views.Effects.{IsCalledFor, CannotBeCalled}
use Rattle.burr_state.specs.Views.Programs.{HasRoomFor, FitsProgram}
use Rattle.burr_state.specs.Views.StateViews.{standing}
use Rattle.burr_code.proofs.Common.Turned.{reverse_snoc}
use Rattle.burr_state.proofs.Common.Stepping.Callers.{chain_depth}
use Rattle.burr_state.proofs.Common.Stepping.Calls.{cannot_call, called_on, fits_called}
use Rattle.burr_state.proofs.state.BenchState.call.Goals as goal

pub push-requires : goal.push-requires
push-requires c =
    let callers = c.self.inside.callers.items in
    let waiting : length callers ≤ c.self.inside.running.procedure = subst (λ n. n ≤ c.self.inside.running.procedure) (length-reverse callers) (chain_depth _ _ c.self.invariant.chain) in
    let exists = slice_get_within c.args.program.now.procedures c.args.callee c.in-Some.procedure.now c.in-Some.ensures.found in
    let few = c.in-Some.ensures.few in
    let above = subst (λ n. n < c.args.callee) (ap (λ (x : Inside). x.running.procedure) c.self-inside.view_is) c.if-callee-self.false in
    (search rules, omega (arith, waiting, exists, few, above))

pub returns-in_err-called-clause-next : goal.returns-in_err-called-clause-next
returns-in_err-called-clause-next c homes =
    let old = c.self.inside in
    let there = c.in-Some.procedure.now in
    let callee = c.args.callee in
    let above : old.running.procedure < callee = subst (λ n. n < callee) (ap (λ (x : Inside). x.running.procedure) c.self-inside.view_is) c.if-callee-self.false in
    let found : callee_of c.args.program.now.procedures old.running.procedure callee ≡ Some there = rw (lt-ltb old.running.procedure callee above) c.in-Some.ensures.found in
    let cannot =
    subst (λ (p : BenchProcedure). CannotBeCalled old.running p.parameters p.results c.in_err-called.field-0.0) c.procedure-2.view_is c.in_err-called.ensures.calls.0 in
    let p = err_from_is_err_and c.from_residual.result c.from_residual.ensures.1 in
    rw (p.1, p.2, ← c.self.view_is) (cannot_call (running homes c.args.program.now) _ callee there _ found cannot)

pub returns-clause-next : goal.returns-clause-next
returns-clause-next c homes =
    let old = c.self.inside in
    let there = c.in-Some.procedure.now in
    let callee = c.args.callee in
    let above : old.running.procedure < callee = subst (λ n. n < callee) (ap (λ (x : Inside). x.running.procedure) c.self-inside.view_is) c.if-callee-self.false in
    let found : callee_of c.args.program.now.procedures old.running.procedure callee ≡ Some there = rw (lt-ltb old.running.procedure callee above) c.in-Some.ensures.found in
    let is : IsCalledFor old.running callee there.parameters there.results c.in_ok-called.called c.calls.new.self =
    subst (λ (p : BenchProcedure). IsCalledFor old.running callee p.parameters p.results c.in_ok-called.called c.calls.new.self) c.procedure-2.view_is c.in_ok-called.ensures.calls in
    let on = c.caller.inside in
    let left = activation on.procedure (on.pc + c.args.size) on.slots (reverse on.operands.items) in
    let caller : left ≡ record c.calls.new.self { pc = old.running.pc + 2 } =
    ap (λ (a : Activation). record a { pc = a.pc + c.args.size }) (c.caller.view_is ∙ c.replace-caller.ensures.value)
    ∙ (λ i. record c.calls.new.self { pc = (ap (λ (a : Activation). a.pc) is.caller) i + c.requires.read.spelled_in i }) in
    let callers : reverse c.push.new.self.items ≡ left ∷ reverse old.callers.items =
    ap reverse c.push.ensures.items ∙ reverse_snoc left old.callers.items in
    rw (← c.self.view_is)
    (called_on (running homes c.args.program.now) _ _ callee there c.in_ok-called.called c.calls.new.self found is
    (λ i. standing old.places.items old.tray old.grip (c.replace-caller.ensures.after i)
    ((callers ∙ ap (λ (a : Activation). a ∷ reverse old.callers.items) caller) i) (c.saturating_add-self-inside.ensures i) old.mode))

pub returns-clause-fits : goal.returns-clause-fits
returns-clause-fits c =
    let old = c.self.inside in
    let there = c.in-Some.procedure.now in
    let callee = c.args.callee in
    let above : old.running.procedure < callee = subst (λ n. n < callee) (ap (λ (x : Inside). x.running.procedure) c.self-inside.view_is) c.if-callee-self.false in
    let found : callee_of c.args.program.now.procedures old.running.procedure callee ≡ Some there = rw (lt-ltb old.running.procedure callee above) c.in-Some.ensures.found in
    let is : IsCalledFor old.running callee there.parameters there.results c.in_ok-called.called c.calls.new.self =
    subst (λ (p : BenchProcedure). IsCalledFor old.running callee p.parameters p.results c.in_ok-called.called c.calls.new.self) c.procedure-2.view_is c.in_ok-called.ensures.calls in
    let on = c.caller.inside in
    let left = activation on.procedure (on.pc + c.args.size) on.slots (reverse on.operands.items) in
    let caller : left ≡ record c.calls.new.self { pc = old.running.pc + 2 } =
    ap (λ (a : Activation). record a { pc = a.pc + c.args.size }) (c.caller.view_is ∙ c.replace-caller.ensures.value)
    ∙ (λ i. record c.calls.new.self { pc = (ap (λ (a : Activation). a.pc) is.caller) i + c.requires.read.spelled_in i }) in
    let callers : reverse c.push.new.self.items ≡ left ∷ reverse old.callers.items =
    ap reverse c.push.ensures.items ∙ reverse_snoc left old.callers.items in
    let room : HasRoomFor there.results left =
    subst (λ (a : Activation). HasRoomFor there.results a) (sym caller) is.room in
    let same = ap (λ (a : Activation). a.procedure) (caller ∙ (λ i. record (is.caller i) { pc = old.running.pc + 2 })) in
    let begun = ap (λ (a : Activation). a.procedure) (c.replace-caller.ensures.after ∙ is.callee) in
    fits_called c.args.program.now.procedures (standing old.places.items old.tray old.grip old.running (reverse old.callers.items) old.steps old.mode) _ callee there left
    (subst (λ (s : BenchState). FitsProgram c.args.program.now.procedures s) (sym c.self.view_is) c.requires.fits) c.in-Some.ensures.found room same begun callers
