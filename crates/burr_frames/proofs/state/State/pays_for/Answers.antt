-- What can't be paid, and the state after what is.
use Rattle.std.proofs.Common.{◌≡◌, ◌∙◌, ap, sym, subst, inl, inr, length, drop}
use Rattle.std.specs.Prelude.{pos, ◌≤ℤ◌}
use Rattle.std.proofs.lemmas.Result.{err_from_is_err_and}
use Rattle.burr_forms.specs.Rules.Forms.{Form, Point, value, one_less, minus_form, substituted, IsSmallForm}
use Rattle.burr_frames.specs.Rules.States.{AbstractState, Everywhere, IsFirstFailing}
use Rattle.burr_frames.specs.Rules.ControlRules.{after_call, left_of}
use Rattle.burr_frames.proofs.CallVerdicts.{cannot_go_after, cannot_pay, paid_call, price_is}
use Rattle.burr_frames.proofs.state.State.pays_for.Goals as goal

pub returns-in_err-after-clause-verdict : goal.returns-in_err-after-clause-verdict
returns-in_err-after-clause-verdict c =
    let s = c.args.self.now in
    let arguments = c.args.arguments.now in
    let after = after_call s arguments (drop (length arguments) s.operands) c.args.exit.now in
    let p = err_from_is_err_and c.from_residual.result c.from_residual.ensures.1 in
    rw (p.1, p.2) (cannot_go_after s after (substituted c.args.live.now c.args.cost.now) _ c.in_err-after.ensures)

pub returns-in_err-callee_cost-clause-verdict : goal.returns-in_err-callee_cost-clause-verdict
returns-in_err-callee_cost-clause-verdict c =
    let s = c.args.self.now in
    let arguments = c.args.arguments.now in
    let after = after_call s arguments (drop (length arguments) s.operands) c.args.exit.now in
    let price = substituted c.args.live.now c.args.cost.now in
    let priced = ap (λ (put : Form → Form). put c.args.cost.now) c.padded.ensures.padded in
    let p = err_from_is_err_and c.from_residual-in_err-callee_cost.result c.from_residual-in_err-callee_cost.ensures.1 in
    rw p.1
    (cannot_pay s after price _ c.in_ok-after.ensures.1 c.in_ok-after.ensures.2
    (inl (λ small. c.in_err-callee_cost.ensures (subst IsSmallForm (sym priced) small.callee), p.2)))

pub returns-in_err-less-clause-verdict : goal.returns-in_err-less-clause-verdict
returns-in_err-less-clause-verdict c =
    let s = c.args.self.now in
    let arguments = c.args.arguments.now in
    let after = after_call s arguments (drop (length arguments) s.operands) c.args.exit.now in
    let price = substituted c.args.live.now c.args.cost.now in
    let priced = ap (λ (put : Form → Form). put c.args.cost.now) c.padded.ensures.padded in
    let cost = ap (λ (a : AbstractState). a.cost) c.self.view_is in
    let p = err_from_is_err_and c.from_residual-in_err-less.result c.from_residual-in_err-less.ensures.1 in
    rw p.1
    (cannot_pay s after price _ c.in_ok-after.ensures.1 c.in_ok-after.ensures.2
    (inl (λ small. c.in_err-less.ensures (subst (λ (f : Form). IsSmallForm (one_less f)) (sym cost) small.less), p.2)))

pub returns-in_err-left-clause-verdict : goal.returns-in_err-left-clause-verdict
returns-in_err-left-clause-verdict c =
    let s = c.args.self.now in
    let arguments = c.args.arguments.now in
    let after = after_call s arguments (drop (length arguments) s.operands) c.args.exit.now in
    let price = substituted c.args.live.now c.args.cost.now in
    let priced = ap (λ (put : Form → Form). put c.args.cost.now) c.padded.ensures.padded in
    let cost = ap (λ (a : AbstractState). a.cost) c.self.view_is in
    let rest : minus_form c.in_ok-less.less c.in_ok-callee_cost.callee_cost ≡ left_of s.cost price =
    λ i. minus_form ((c.in_ok-less.ensures.0 ∙ ap one_less cost) i) ((c.in_ok-callee_cost.ensures.0 ∙ priced) i) in
    let p = err_from_is_err_and c.from_residual-in_err-left.result c.from_residual-in_err-left.ensures.1 in
    rw p.1
    (cannot_pay s after price _ c.in_ok-after.ensures.1 c.in_ok-after.ensures.2
    (inl (λ small. c.in_err-left.ensures (subst IsSmallForm (sym rest) small.rest), p.2)))

pub returns-in_err-never_negative-clause-verdict : goal.returns-in_err-never_negative-clause-verdict
returns-in_err-never_negative-clause-verdict c =
    let s = c.args.self.now in
    let arguments = c.args.arguments.now in
    let after = after_call s arguments (drop (length arguments) s.operands) c.args.exit.now in
    let price = substituted c.args.live.now c.args.cost.now in
    let priced = ap (λ (put : Form → Form). put c.args.cost.now) c.padded.ensures.padded in
    let cost = ap (λ (a : AbstractState). a.cost) c.self.view_is in
    let made = price_is s price _ _ _ _ _ priced cost c.in_ok-callee_cost.ensures c.in_ok-less.ensures c.in_ok-left.ensures in
    let failing = c.in_err-never_negative.ensures in
    let p = err_from_is_err_and c.from_residual-in_err-never_negative.result c.from_residual-in_err-never_negative.ensures.1 in
    rw (p.1, p.2)
    (cannot_pay s after price _ c.in_ok-after.ensures.1 c.in_ok-after.ensures.2
    (inr (made.1, failing.0, subst (λ (f : Form). IsFirstFailing s (λ (x : Point). pos 0 ≤ℤ value x f) failing.0) made.0 failing.1, failing.2)))

pub returns-clause-verdict : goal.returns-clause-verdict
returns-clause-verdict c =
    let s = c.args.self.now in
    let arguments = c.args.arguments.now in
    let after = after_call s arguments (drop (length arguments) s.operands) c.args.exit.now in
    let price = substituted c.args.live.now c.args.cost.now in
    let priced = ap (λ (put : Form → Form). put c.args.cost.now) c.padded.ensures.padded in
    let cost = ap (λ (a : AbstractState). a.cost) c.self.view_is in
    let made = price_is s price _ _ _ _ _ priced cost c.in_ok-callee_cost.ensures c.in_ok-less.ensures c.in_ok-left.ensures in
    let left = c.in_ok-left.left in
    let new =
    c.self-2.view_is ∙ c.set_cost.ensures ∙ ap (λ (b : AbstractState). record b { cost = left }) c.in_ok-after.ensures.0 in
    paid_call s after price left _ c.in_ok-after.ensures.1 c.in_ok-after.ensures.2
    (record {
      is = made.0;
      small = made.1;
      enough = subst (λ (f : Form). Everywhere s (λ (point : Point). pos 0 ≤ℤ value point f)) made.0 c.in_ok-never_negative.ensures;
    }) new
