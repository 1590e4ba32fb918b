-- The step is paid for at a label that is there.
use Rattle.std.proofs.Common.{◌≡◌, ◌∙◌, ap, subst, inl, inr}
use Rattle.std.proofs.lemmas.Result.{err_from_is_err_and}
use Rattle.burr_container.specs.Views.Refs.{frame_of}
use Rattle.burr_frames.specs.Rules.FramedPlans.{framed}
use Rattle.burr_frames.specs.Rules.States.{AbstractState}
use Rattle.burr_frames.specs.Rules.Verdicts.{Breaks, no_successor, arriving}
use Rattle.burr_frames.specs.Views.Breaks.{last_verdict}
use Rattle.burr_frames.specs.Views.Changes.{at_cost}
use Rattle.burr_frames.proofs.Paying.{paying_on, paying_breaks}
use Rattle.burr_frames.proofs.state.State.jump.Goals as goal

pub returns-in_err-frame : goal.returns-in_err-frame
returns-in_err-frame c = λ p here is e.
    let none = c.in_err-frame.ensures p here is e in
    let r = err_from_is_err_and c.from_residual.result c.from_residual.ensures.1 in
    rw (r.1, r.2) (inl (none.0, ap Breaks none.1))

pub returns-in_err-cost : goal.returns-in_err-cost
returns-in_err-cost c = λ p here is e.
    let to = framed (frame_of c.in_ok-frame.frame) in
    let found = c.in_ok-frame.ensures p here is e in
    let r = err_from_is_err_and c.from_residual-in_err-cost.result c.from_residual-in_err-cost.ensures.1 in
    rw (r.1, r.2)
    (inr (
      (found.0, to),
      found.1,
      paying_breaks c.args.self.now c.in_err-cost.field-0.0 (λ (a : AbstractState). arriving a to no_successor) c.in_err-cost.ensures,
    ))

pub returns : goal.returns
returns c = λ p here is e.
    let s = c.args.self.now in
    let cost = c.in_ok-cost.cost in
    let to = framed (frame_of c.in_ok-frame.frame) in
    let found = c.in_ok-frame.ensures p here is e in
    let verdict = last_verdict c.arrives_or_breaks.result in
    let paid : c.set_cost.new.self ≡ at_cost cost s = c.set_cost.ensures ∙ ap (at_cost cost) c.copied-paid.ensures in
    inr (
      (found.0, to),
      found.1,
      paying_on s cost (λ (a : AbstractState). arriving a to no_successor) verdict c.in_ok-cost.ensures
          (subst (λ (a : AbstractState). arriving a to no_successor verdict) paid c.arrives_or_breaks.ensures),
    )
