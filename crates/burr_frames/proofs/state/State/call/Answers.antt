-- What is read of the callee in place is the plan's.
use Rattle.std.proofs.Common.{◌≡◌, ℕ, length, ap, subst, inl, inr, arith}
use Rattle.burr_container.specs.Views.Refs.{frame_of}
use Rattle.burr_frames.specs.Rules.FramedPlans.{FramedExit, framed, framed_plan, framed_procedure}
use Rattle.burr_frames.specs.Rules.Verdicts.{Verdict, Breaks}
use Rattle.burr_frames.specs.Views.Breaks.{next_verdict}
use Rattle.burr_frames.specs.Rules.ControlRules.{calling}
use Rattle.burr_frames.specs.Views.Exits.{framed_ref}
use Rattle.burr_frames.proofs.Common.ExitsRead.{no_exit, exit_there, ranges_there}
use Rattle.burr_frames.proofs.CalleesRead.{no_callee_below, no_callee_past, lent_callee, no_entry, entry_there}
use Rattle.burr_frames.proofs.state.State.call.Goals as goal

pub returns-then-callee-number-clause-verdict : goal.returns-then-callee-number-clause-verdict
returns-then-callee-number-clause-verdict c =
    λ p here is at.
    inl (
      no_callee_below (framed_plan p).procedures c.args.procedure.number c.args.callee (omega (arith, c.if-callee-number.true, c.number.ensures.number)),
      ap Breaks c.plain.ensures,
    )

pub returns-in_default-clause-verdict : goal.returns-in_default-clause-verdict
returns-in_default-clause-verdict c =
    λ p here is at.
    inl (no_callee_past p.procedures c.args.procedure.number c.args.callee (c.in_default.ensures.plan p is), ap Breaks c.plain-in_default.ensures)

pub returns-in_default-exit-clause-verdict : goal.returns-in_default-exit-clause-verdict
returns-in_default-exit-clause-verdict c =
    λ p here is at.
    let there =
    lent_callee p c.args.procedure.container.now c.args.procedure.number c.args.callee c.in-Some.called is (omega (arith, c.if-callee-number.false, c.number.ensures.number))
    (c.in-Some.ensures.plan p is) c.in-Some.ensures.lent in
    let q = there.procedure in
    inr (
      framed_procedure q,
      there.called,
      inl (no_exit p.pieces q.parameters q.results q.exit (c.in_default-exit.ensures p q there.is there.at), ap Breaks c.plain-in_default-exit.ensures),
    )

pub returns-in_default-frame_at-clause-verdict : goal.returns-in_default-frame_at-clause-verdict
returns-in_default-frame_at-clause-verdict c =
    λ p here is at.
    let there =
    lent_callee p c.args.procedure.container.now c.args.procedure.number c.args.callee c.in-Some.called is (omega (arith, c.if-callee-number.false, c.number.ensures.number))
    (c.in-Some.ensures.plan p is) c.in-Some.ensures.lent in
    let q = there.procedure in
    let exit = exit_there p.pieces q.parameters q.results c.in-Some-exit.exit q.exit (c.in-Some-exit.ensures p q there.is there.at) in
    let none = no_entry (framed_procedure q).labels (c.in_default-frame_at.ensures p (framed_procedure q) there.is there.framed).0 in
    inr (
      framed_procedure q,
      there.called,
      inr (framed_ref c.in-Some-exit.exit, exit, inl (none, ap Breaks c.plain-in_default-frame_at.ensures)),
    )

pub returns-clause-verdict : goal.returns-clause-verdict
returns-clause-verdict c =
    λ p here is at.
    let s = c.args.self.now in
    let v : Verdict = next_verdict c.calls.new.self c.calls.result in
    let there =
    lent_callee p c.args.procedure.container.now c.args.procedure.number c.args.callee c.in-Some.called is (omega (arith, c.if-callee-number.false, c.number.ensures.number))
    (c.in-Some.ensures.plan p is) c.in-Some.ensures.lent in
    let q = there.procedure in
    let exit_is = c.in-Some-exit.ensures p q there.is there.at in
    let exit = exit_there p.pieces q.parameters q.results c.in-Some-exit.exit q.exit exit_is in
    let entry = entry_there (framed_procedure q).labels c.in-Ok.entry (c.in-Ok.ensures p (framed_procedure q) there.is there.framed) in
    let kept = framed_ref c.in-Some-exit.exit in
    let first = framed (frame_of c.in-Ok.entry) in
    let many : length kept.results ≡ q.results = ranges_there p.pieces q.parameters q.results c.in-Some-exit.exit q.exit exit_is in
    let called : calling s q.parameters q.results first kept v =
    subst (λ (n : ℕ). calling s n q.results first kept v) (c.params.ensures.plan p q there.is there.at)
    (subst (λ (n : ℕ). calling s c.params.result n first kept v) many
    (subst (λ (e : FramedExit). calling s c.params.result (length e.results) first e v) c.of.ensures.exit c.calls.ensures.verdict)) in
    inr (framed_procedure q, there.called, inr (kept, exit, inr (first, entry, called)))
