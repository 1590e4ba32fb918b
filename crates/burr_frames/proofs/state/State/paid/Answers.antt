-- A cost that is too large, one that is negative at a point, and one that is paid.
use Rattle.std.proofs.Common.{◌≡◌, ◌∙◌, ap, sym, subst, inl, inr}
use Rattle.std.specs.Prelude.{pos, ◌≤ℤ◌}
use Rattle.std.proofs.lemmas.Result.{err_from_is_err_and}
use Rattle.burr_forms.specs.Rules.Forms.{Form, Point, value, one_less, IsSmallForm}
use Rattle.burr_frames.specs.Rules.States.{AbstractState, Everywhere, IsFirstFailing}
use Rattle.burr_frames.proofs.state.State.paid.Goals as goal

pub returns-in_err-cost : goal.returns-in_err-cost
returns-in_err-cost c =
    let cost : c.self.inside.cost ≡ c.args.self.now.cost = ap (λ (a : AbstractState). a.cost) c.self.view_is in
    let p = err_from_is_err_and c.from_residual.result c.from_residual.ensures.1 in
    rw p.1 (inl (subst (λ (f : Form). ¬ IsSmallForm (one_less f)) cost c.in_err-cost.ensures, p.2))

pub returns-in_err-never_negative : goal.returns-in_err-never_negative
returns-in_err-never_negative c =
    let s = c.args.self.now in
    let cost : c.self.inside.cost ≡ s.cost = ap (λ (a : AbstractState). a.cost) c.self.view_is in
    let is : c.in_ok-cost.cost ≡ one_less s.cost = c.in_ok-cost.ensures.0 ∙ ap one_less cost in
    let failing = c.in_err-never_negative.ensures in
    let p = err_from_is_err_and c.from_residual-in_err-never_negative.result c.from_residual-in_err-never_negative.ensures.1 in
    rw (p.1, p.2)
    (inr (
      subst IsSmallForm is (subst IsSmallForm (sym c.in_ok-cost.ensures.0) c.in_ok-cost.ensures.1),
      failing.0,
      subst (λ (f : Form). IsFirstFailing s (λ (x : Point). pos 0 ≤ℤ value x f) failing.0) is failing.1,
      failing.2,
    ))

pub returns : goal.returns
returns c =
    let s = c.args.self.now in
    let cost : c.self.inside.cost ≡ s.cost = ap (λ (a : AbstractState). a.cost) c.self.view_is in
    let is : c.in_ok-cost.cost ≡ one_less s.cost = c.in_ok-cost.ensures.0 ∙ ap one_less cost in
    record {
      is = is;
      small = subst IsSmallForm (sym c.in_ok-cost.ensures.0) c.in_ok-cost.ensures.1;
      enough = subst (λ (f : Form). Everywhere s (λ (point : Point). pos 0 ≤ℤ value point f)) is c.in_ok-never_negative.ensures;
    }
