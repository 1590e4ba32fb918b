-- A step that can't be paid for, and one that is made.
use Rattle.std.proofs.Common.{◌≡◌, ◌∙◌, ap, inr}
use Rattle.std.proofs.lemmas.Result.{err_from_is_err_and}
use Rattle.burr_frames.specs.Views.Changes.{at_cost, with_places}
use Rattle.burr_frames.specs.Rules.SpaceRules.{moved}
use Rattle.burr_frames.specs.Rules.Verdicts.{FallsThrough, falls_through}
use Rattle.burr_frames.specs.Rules.States.{AbstractState}
use Rattle.burr_text.proofs.Common.Tests.{yes_of}
use Rattle.burr_frames.proofs.Paying.{paying_on, paying_breaks}
use Rattle.burr_frames.proofs.state.State.step_freely.Goals as goal

pub returns-in_err-cost-clause-verdict : goal.returns-in_err-cost-clause-verdict
returns-in_err-cost-clause-verdict c =
    let s = c.args.self.now in
    let new = moved s.grip c.args.direction s.places in
    let can = rw (c.places.ensures.places, c.grip.ensures) at (yes_of c.if-not-can_shift_group.ensures) in
    let p = err_from_is_err_and c.from_residual.result c.from_residual.ensures.1 in
    rw (p.1, p.2)
    (inr (
      can,
      paying_breaks s c.in_err-cost.field-0.0 (λ paid. falls_through (with_places new paid)) c.in_err-cost.ensures,
    ))

pub returns-clause-verdict : goal.returns-clause-verdict
returns-clause-verdict c =
    let s = c.args.self.now in
    let new = moved s.grip c.args.direction s.places in
    let can = rw (c.places.ensures.places, c.grip.ensures) at (yes_of c.if-not-can_shift_group.ensures) in
    let cost = c.in_ok-cost.cost in
    let changed : c.shift.new.self ≡ with_places new (at_cost cost s) =
    c.shift.ensures ∙ ap (λ (a : AbstractState). with_places (moved a.grip c.args.direction a.places) a) c.set_cost.ensures in
    inr (
      can,
      paying_on s cost (λ paid. falls_through (with_places new paid)) (FallsThrough c.shift.new.self) c.in_ok-cost.ensures (ap FallsThrough changed),
    )
