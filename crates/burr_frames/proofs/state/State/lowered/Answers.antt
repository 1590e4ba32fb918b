-- The counter is too large, it may be below 0, there is no room, the step can't be paid for, and
-- it is one less.
use Rattle.std.proofs.Common.{◌≡◌, ◌<◌, ◌∙◌, length, ap, sym, subst, inl, inr}
use Rattle.std.proofs.lemmas.Result.{err_from_is_err_and}
use Rattle.burr_text.proofs.Common.Tests.{yes_of, no_of}
use Rattle.burr_forms.specs.Rules.Forms.{IsSmallForm}
use Rattle.burr_frames.specs.Rules.States.{AbstractState}
use Rattle.burr_frames.specs.Rules.Verdicts.{Breaks, FallsThrough, falls_through}
use Rattle.burr_frames.specs.Rules.ControlRules.{counted_down, guarded}
use Rattle.burr_frames.specs.Views.Changes.{at_cost, with_form}
use Rattle.burr_frames.proofs.Paying.{paying_on, paying_breaks}
use Rattle.burr_frames.proofs.state.State.lowered.Goals as goal

pub returns-in_err-less : goal.returns-in_err-less
returns-in_err-less c =
    let r = err_from_is_err_and c.from_residual.result c.from_residual.ensures.1 in
    rw r.1 (inl (c.in_err-less.ensures, ap Breaks r.2))

pub returns-in_err-never_negative : goal.returns-in_err-never_negative
returns-in_err-never_negative c =
    let failing = c.in_err-never_negative.ensures in
    let r = err_from_is_err_and c.from_residual-in_err-never_negative.result c.from_residual-in_err-never_negative.ensures.1 in
    rw (r.1, r.2) (inr (c.in_ok-less.ensures.1, inl (failing.0, failing.1, ap Breaks failing.2)))

pub returns-then-guards_are_full : goal.returns-then-guards_are_full
returns-then-guards_are_full c =
    inr (
      c.in_ok-less.ensures.1,
      inr (
        c.in_ok-never_negative.ensures,
        inl (no_of c.if-guards_are_full.ensures, ap Breaks c.plain.ensures),
      ),
    )

pub returns-in_err-cost : goal.returns-in_err-cost
returns-in_err-cost c =
    let r = err_from_is_err_and c.from_residual-in_err-cost.result c.from_residual-in_err-cost.ensures.1 in
    rw (r.1, r.2)
    (inr (
      c.in_ok-less.ensures.1,
      inr (
        c.in_ok-never_negative.ensures,
        inr (
          yes_of c.if-guards_are_full.ensures,
          paying_breaks c.args.self.now c.in_err-cost.field-0.0 (λ paid. falls_through (counted_down c.args.v c.args.count.now paid)) c.in_err-cost.ensures,
        ),
      ),
    ))

pub returns : goal.returns
returns c =
    let s = c.args.self.now in
    let v = c.args.v in
    let less = c.in_ok-less.ensures.0 in
    let branch : c.set_slot.new.self ≡ counted_down v c.args.count.now (at_cost c.in_ok-cost.cost s) =
    c.set_slot.ensures
    ∙ ap (with_form v c.in_ok-less.less)
    (c.add_guard.ensures ∙ ap (guarded c.in_ok-less.less) (c.set_cost.ensures ∙ ap (at_cost c.in_ok-cost.cost) c.copied-branch.ensures))
    ∙ (λ i. with_form v (less i) (guarded (less i) (at_cost c.in_ok-cost.cost s))) in
    inr (
      c.in_ok-less.ensures.1,
      inr (
        c.in_ok-never_negative.ensures,
        inr (
          yes_of c.if-guards_are_full.ensures,
          paying_on s c.in_ok-cost.cost (λ paid. falls_through (counted_down v c.args.count.now paid)) (FallsThrough c.set_slot.new.self)
              c.in_ok-cost.ensures (ap FallsThrough branch),
        ),
      ),
    )

-- What the calls ask for

pub set_cost-requires : goal.set_cost-requires
set_cost-requires c = c.in_ok-cost.ensures.small

pub add_guard-requires-clause-room : goal.add_guard-requires-clause-room
add_guard-requires-clause-room c =
    subst (λ (a : AbstractState). length a.guards < 8)
    (sym (c.set_cost.ensures ∙ ap (at_cost c.in_ok-cost.cost) c.copied-branch.ensures)) (yes_of c.if-guards_are_full.ensures)

pub add_guard-requires-clause-small : goal.add_guard-requires-clause-small
add_guard-requires-clause-small c = subst IsSmallForm (sym c.in_ok-less.ensures.0) c.in_ok-less.ensures.1

pub set_slot-requires-clause-small : goal.set_slot-requires-clause-small
set_slot-requires-clause-small c = subst IsSmallForm (sym c.in_ok-less.ensures.0) c.in_ok-less.ensures.1
