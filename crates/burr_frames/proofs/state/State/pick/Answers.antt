-- All labels are there, and the step is paid for.
use Rattle.std.proofs.Common.{◌≡◌, ◌∙◌, ap, subst, inl, inr}
use Rattle.std.proofs.lemmas.Result.{err_from_is_err_and}
use Rattle.burr_text.proofs.Common.Tests.{yes_of, no_of}
use Rattle.burr_code.specs.Labels.{labelled}
use Rattle.burr_frames.specs.Rules.States.{AbstractState}
use Rattle.burr_frames.specs.Rules.Verdicts.{Breaks, no_successor, arriving_at_all}
use Rattle.burr_frames.specs.Views.Breaks.{last_verdict}
use Rattle.burr_frames.specs.Views.Changes.{at_cost}
use Rattle.burr_frames.proofs.Common.Heres.{nothing_found}
use Rattle.burr_frames.proofs.Paying.{paying_on, paying_breaks}
use Rattle.burr_frames.proofs.state.State.pick.Goals as goal

pub returns-then-not-has_labels : goal.returns-then-not-has_labels
returns-then-not-has_labels c = λ p here is e.
    inl (
      nothing_found (labelled here.labels c.args.labels.now) (no_of (c.if-not-has_labels.ensures p here is e)),
      ap Breaks c.plain.ensures,
    )

pub returns-in_err-cost : goal.returns-in_err-cost
returns-in_err-cost c = λ p here is e.
    let to = yes_of (c.if-not-has_labels.ensures p here is e) in
    let r = err_from_is_err_and c.from_residual.result c.from_residual.ensures.1 in
    rw (r.1, r.2)
    (inr (
      to.0,
      to.1,
      paying_breaks c.args.self.now c.in_err-cost.field-0.0 (λ (a : AbstractState). arriving_at_all a to.0 no_successor) c.in_err-cost.ensures,
    ))

pub returns : goal.returns
returns c = λ p here is e.
    let s = c.args.self.now in
    let cost = c.in_ok-cost.cost in
    let to = yes_of (c.if-not-has_labels.ensures p here is e) in
    let verdict = last_verdict c.arrives_at_all.result in
    let paid : c.set_cost.new.self ≡ at_cost cost s = c.set_cost.ensures ∙ ap (at_cost cost) c.copied-paid.ensures in
    inr (
      to.0,
      to.1,
      paying_on s cost (λ (a : AbstractState). arriving_at_all a to.0 no_successor) verdict c.in_ok-cost.ensures
          (subst (λ (a : AbstractState). arriving_at_all a to.0 no_successor verdict) paid (c.arrives_at_all.ensures p here is e to.0 to.1)),
    )
