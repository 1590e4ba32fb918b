-- The label is not there, the counter is not found, and what comes of lowering it.
use Rattle.std.proofs.Common.{ℕ, ap, inl}
use Rattle.std.proofs.lemmas.Result.{err_from_is_err_and}
use Rattle.burr_container.specs.Rules.Plans.{Frame}
use Rattle.burr_container.specs.Views.Refs.{frame_of}
use Rattle.burr_forms.specs.Rules.Forms.{Form}
use Rattle.burr_frames.specs.Rules.ControlRules.{counted_down}
use Rattle.burr_frames.specs.Rules.FramedPlans.{framed}
use Rattle.burr_frames.specs.Rules.States.{AbstractState}
use Rattle.burr_frames.specs.Rules.Verdicts.{Breaks, Rest, falls_through}
use Rattle.burr_frames.specs.Views.Breaks.{branch_verdict}
use Rattle.burr_frames.proofs.Counters.{counting_on, counting_breaks}
use Rattle.burr_frames.proofs.state.State.branch.Goals as goal

-- where it goes on at its label
abbrev at_label : ℕ → Form → AbstractState → Frame → Rest
at_label v f paid to = falls_through (counted_down v f paid)

pub returns-in_err-frame_at : goal.returns-in_err-frame_at
returns-in_err-frame_at c = λ p here is e.
    let none = c.in_err-frame_at.ensures p here is e in
    let r = err_from_is_err_and c.from_residual.result c.from_residual.ensures.1 in
    rw (r.1, r.2) (inl (none.0, ap Breaks none.1))

pub returns-in_err-count : goal.returns-in_err-count
returns-in_err-count c = λ p here is e.
    let found = c.in_ok-frame_at.ensures p here is e in
    let r = err_from_is_err_and c.from_residual-in_err-count.result c.from_residual-in_err-count.ensures.1 in
    rw (r.1, r.2)
    (counting_breaks here c.args.self.now c.args.v c.args.label found.0 (framed (frame_of c.in_ok-frame_at.field-0))
    c.in_err-count.field-0.0 (at_label c.args.v) found.1 (c.in_err-count.ensures.counter p here is e))

pub returns : goal.returns
returns c = λ p here is e.
    let found = c.in_ok-frame_at.ensures p here is e in
    counting_on here c.args.self.now c.args.v c.args.label found.0 (framed (frame_of c.in_ok-frame_at.field-0)) c.in_ok-count.count
    (at_label c.args.v) (branch_verdict c.lowered.result) found.1 (c.in_ok-count.ensures.counter p here is e)
    c.lowered.ensures

pub lowered-requires-clause-small : goal.lowered-requires-clause-small
lowered-requires-clause-small c = c.in_ok-count.ensures.small
