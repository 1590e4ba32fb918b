-- The parameters and the results that are found, and what the exit frame says of them.
use Rattle.std.proofs.Common.{◌∙◌, ℕ, length, ap, sym, subst, inl, inr}
use Rattle.std.proofs.lemmas.Result.{err_from_is_err_and}
use Rattle.burr_frames.specs.Rules.FramedPlans.{FramedExit, FramedProcedure}
use Rattle.burr_frames.specs.Rules.Verdicts.{Breaks, NoSuccessor}
use Rattle.burr_frames.specs.Rules.ControlRules.{ret_rule}
use Rattle.burr_frames.specs.Views.Breaks.{broken_of}
use Rattle.burr_frames.specs.Views.Exits.{framed_ref, meeting_exit_with}
use Rattle.burr_frames.proofs.Common.ExitsRead.{no_exit}
use Rattle.burr_frames.proofs.Common.Heres.{procedure_here}
use Rattle.burr_frames.proofs.Paying.{paying_on, paying_breaks}
use Rattle.burr_frames.proofs.CallReturns.{ret_on, exit_read}
use Rattle.burr_frames.proofs.state.State.ret.Goals as goal

abbrev results_of : FramedExit → ℕ
results_of exit = length exit.results

pub returns-in_default : goal.returns-in_default
returns-in_default c =
    λ p here is at.
    let found = procedure_here p c.args.procedure.number here at in
    let q = found.0 in
    subst (λ (h : FramedProcedure). ret_rule h c.args.self.now (Breaks (broken_of c.plain.result))) (sym found.2)
    (inl (no_exit p.pieces q.parameters q.results q.exit (c.in_default.ensures p q is found.1), ap Breaks c.plain.ensures))

pub returns-in_default-first_forms : goal.returns-in_default-first_forms
returns-in_default-first_forms c =
    λ p here is at.
    let read = exit_read p c.args.procedure.number here c.in-Some.exit at (λ q. c.in-Some.ensures p q is) in
    let none = rw (c.parameters.ensures.count ∙ read.parameters) at c.in_default-first_forms.ensures in
    inr (framed_ref c.in-Some.exit, read.there, inl (none, ap Breaks c.plain-in_default-first_forms.ensures))

pub returns-in_default-top_many : goal.returns-in_default-top_many
returns-in_default-top_many c =
    λ p here is at.
    let read = exit_read p c.args.procedure.number here c.in-Some.exit at (λ q. c.in-Some.ensures p q is) in
    let known = rw (c.parameters.ensures.count ∙ read.parameters) at c.in-Some-first_forms.ensures.0 in
    let many = c.len.ensures.value ∙ ap results_of (c.frame.view_is ∙ c.of-frame.ensures.exit) ∙ read.results in
    let few = rw many at c.in_default-top_many.ensures.operands in
    inr (framed_ref c.in-Some.exit, read.there, inr (c.in-Some-first_forms.parameters.items, known, inl (few, ap Breaks c.plain-in_default-top_many.ensures)))

pub returns-in_err-paid : goal.returns-in_err-paid
returns-in_err-paid c =
    λ p here is at.
    let read = exit_read p c.args.procedure.number here c.in-Some.exit at (λ q. c.in-Some.ensures p q is) in
    let known = rw (c.parameters.ensures.count ∙ read.parameters) at c.in-Some-first_forms.ensures.0 in
    let many = c.len.ensures.value ∙ ap results_of (c.frame.view_is ∙ c.of-frame.ensures.exit) ∙ read.results in
    let enough = rw many at c.in-Some-top_many.ensures.operands.0 in
    let failed = err_from_is_err_and c.from_residual.result c.from_residual.ensures.1 in
    rw (failed.1, failed.2)
    (ret_on here c.args.self.now _ _ _ _ (Breaks (broken_of _)) read.there known enough
    (paying_breaks c.args.self.now _ (λ paid. meeting_exit_with c.args.self.now (framed_ref c.in-Some.exit) c.in-Some-first_forms.parameters.items c.in-Some-top_many.results.items) c.in_err-paid.ensures))

pub returns-in-Ok : goal.returns-in-Ok
returns-in-Ok c =
    λ p here is at.
    let read = exit_read p c.args.procedure.number here c.in-Some.exit at (λ q. c.in-Some.ensures p q is) in
    let known = rw (c.parameters.ensures.count ∙ read.parameters) at c.in-Some-first_forms.ensures.0 in
    let many = c.len.ensures.value ∙ ap results_of (c.frame.view_is ∙ c.of-frame.ensures.exit) ∙ read.results in
    let enough = rw many at c.in-Some-top_many.ensures.operands.0 in
    let met = rw (c.of-frame.ensures.exit, c.as_slice.ensures.value, c.as_slice-2.ensures.value) at c.in-Ok.ensures in
    ret_on here c.args.self.now _ _ _ _ NoSuccessor read.there known enough
    (paying_on c.args.self.now c.in_ok-paid.field-0 (λ paid. meeting_exit_with c.args.self.now (framed_ref c.in-Some.exit) c.in-Some-first_forms.parameters.items c.in-Some-top_many.results.items) NoSuccessor c.in_ok-paid.ensures met)

pub returns-in-Err : goal.returns-in-Err
returns-in-Err c =
    λ p here is at.
    let read = exit_read p c.args.procedure.number here c.in-Some.exit at (λ q. c.in-Some.ensures p q is) in
    let known = rw (c.parameters.ensures.count ∙ read.parameters) at c.in-Some-first_forms.ensures.0 in
    let many = c.len.ensures.value ∙ ap results_of (c.frame.view_is ∙ c.of-frame.ensures.exit) ∙ read.results in
    let enough = rw many at c.in-Some-top_many.ensures.operands.0 in
    let met = rw (c.of-frame.ensures.exit, c.as_slice.ensures.value, c.as_slice-2.ensures.value, ← c.at.ensures) at c.in-Err.ensures in
    ret_on here c.args.self.now _ _ _ _ (Breaks (broken_of c.at.result)) read.there known enough
    (paying_on c.args.self.now c.in_ok-paid.field-0 (λ paid. meeting_exit_with c.args.self.now (framed_ref c.in-Some.exit) c.in-Some-first_forms.parameters.items c.in-Some-top_many.results.items) (Breaks (broken_of c.at.result)) c.in_ok-paid.ensures met)
