-- A value out of range, a step that can't be paid for, and a result in place of two operands.
use Rattle.std.proofs.Common.{◌≡◌, ◌∙◌, List, ◌∷◌, drop, ap, inl, inr}
use Rattle.std.proofs.lemmas.Result.{err_from_is_err_and}
use Rattle.burr_forms.specs.Rules.Forms.{Form}
use Rattle.burr_frames.specs.Rules.NumberRules.{with_operands}
use Rattle.burr_frames.specs.Rules.Verdicts.{Breaks, FallsThrough, falls_through}
use Rattle.burr_frames.specs.Views.Changes.{at_cost, without_top, with_operand}
use Rattle.burr_frames.proofs.Paying.{paying_on, paying_breaks}
use Rattle.burr_frames.proofs.Reaches.{one_in_range, first_out_of_range, two_dropped}
use Rattle.burr_frames.proofs.state.State.put_result.Goals as goal

pub returns-in_err-stays_within-clause-verdict : goal.returns-in_err-stays_within-clause-verdict
returns-in_err-stays_within-clause-verdict c =
    let p = err_from_is_err_and c.from_residual.result c.from_residual.ensures.1 in
    let failing = c.in_err-stays_within.ensures in
    rw (p.1, p.2)
    (inr (c.requires.small, inl (failing.0, first_out_of_range c.args.self.now c.args.form failing.0 failing.1, ap Breaks failing.2)))

pub returns-in_err-cost-clause-verdict : goal.returns-in_err-cost-clause-verdict
returns-in_err-cost-clause-verdict c =
    let s = c.args.self.now in
    let p = err_from_is_err_and c.from_residual-in_err-cost.result c.from_residual-in_err-cost.ensures.1 in
    rw (p.1, p.2)
    (inr (
      c.requires.small,
      inr (
        one_in_range s c.args.form c.in_ok-stays_within.ensures,
        paying_breaks s c.in_err-cost.field-0.0 (λ paid. falls_through (with_operands (c.args.form ∷ drop 2 s.operands) paid)) c.in_err-cost.ensures,
      ),
    ))

pub returns-clause-verdict : goal.returns-clause-verdict
returns-clause-verdict c =
    let s = c.args.self.now in
    let form = c.args.form in
    let cost = c.in_ok-cost.cost in
    let changed : c.put.new.self ≡ with_operands (form ∷ drop 2 s.operands) (at_cost cost s) =
    c.put.ensures ∙ ap (with_operand form) (c.take_off-2.ensures.left ∙ ap without_top (c.take_off.ensures.left ∙ ap without_top c.set_cost.ensures))
    ∙ ap (λ (below : List Form). with_operands (form ∷ below) (at_cost cost s)) (two_dropped s.operands) in
    inr (
      c.requires.small,
      inr (
        one_in_range s form c.in_ok-stays_within.ensures,
        paying_on s cost (λ paid. falls_through (with_operands (form ∷ drop 2 s.operands) paid)) (FallsThrough c.put.new.self) c.in_ok-cost.ensures (ap FallsThrough changed),
      ),
    )
