-- The search over one form's values is that over the form.
use Rattle.std.proofs.Common.{refl, subst}
use Rattle.std.specs.Prelude.{pos, ◌≤ℤ◌}
use Rattle.burr_forms.specs.Rules.Forms.{Point, value}
use Rattle.burr_forms.specs.Rules.Conditions.{Region, Throughout, FailsFirstAt}
use Rattle.burr_frames.proofs.Paying.{never_negative, first_negative}
use Rattle.burr_frames.proofs.Settled.{shown_not_negative}
use Rattle.burr_frames.proofs.state.State.never_negative.Goals as goal

pub returns-then-shows_not_negative : goal.returns-then-shows_not_negative
returns-then-shows_not_negative c =
    subst (λ (r : Region). Throughout r (λ (point : Point). pos 0 ≤ℤ value point c.args.form.now)) c.region-here.ensures.points
    (shown_not_negative _ c.args.form.now (c.if-shows_not_negative.ensures.0 refl))

pub returns-in-None : goal.returns-in-None
returns-in-None c =
    subst (λ (r : Region). Throughout r (λ (point : Point). pos 0 ≤ℤ value point c.args.form.now)) c.region-here.ensures.points
    (never_negative _ c.args.form.now c.in-None.ensures)

pub returns-in-Some : goal.returns-in-Some
returns-in-Some c =
    let point = c.in-Some.point.items in (
      point,
      subst (λ (r : Region). FailsFirstAt r (λ (x : Point). pos 0 ≤ℤ value x c.args.form.now) point) c.region-here.ensures.points
          (first_negative _ c.args.form.now point c.in-Some.ensures),
      c.at.ensures,
    )
