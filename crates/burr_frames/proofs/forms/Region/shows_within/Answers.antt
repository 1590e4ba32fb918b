-- Both ends of the range, as forms of numbers.
use Rattle.std.proofs.Common.{rules, ◌↔◌, ◌∙◌, IsTrue, refl, ap, subst, FitsSigned, w32, to_z-of_z}
use Rattle.burr_forms.specs.Rules.Conditions.{region}
use Rattle.burr_forms.specs.Rules.Forms.{Form, number}
use Rattle.burr_frames.specs.Views.Shown.{ShowsAbove}
use Rattle.burr_frames.proofs.Settled.{and_passed, and_failed}
use Rattle.burr_frames.proofs.forms.Region.shows_within.Goals as goal

pub returns-then-shows_above : goal.returns-then-shows_above
returns-then-shows_above c =
    let r = region c.args.self.now.ranges.now c.args.self.now.guards.now in
    let f = c.args.form.now in
    let low_fits : FitsSigned w32 c.args.range.0 = search rules in
    let high_fits : FitsSigned w32 c.args.range.1 = search rules in
    let low = c.number_form.ensures.form ∙ ap number (to_z-of_z low_fits) in
    let high = c.number_form-then-shows_above.ensures.form ∙ ap number (to_z-of_z high_fits) in
    subst (λ (X : Type 0). IsTrue c.shows_above-then-shows_above.result ↔ X) (λ i. ShowsAbove r f (low i) × ShowsAbove r (high i) f)
    (and_passed refl c.if-shows_above.true c.shows_above.ensures c.shows_above-then-shows_above.ensures)

pub returns-else-shows_above : goal.returns-else-shows_above
returns-else-shows_above c =
    let r = region c.args.self.now.ranges.now c.args.self.now.guards.now in
    let f = c.args.form.now in
    let low_fits : FitsSigned w32 c.args.range.0 = search rules in
    let low = c.number_form.ensures.form ∙ ap number (to_z-of_z low_fits) in
    and_failed refl c.if-shows_above.false
    (subst (λ (g : Form). IsTrue c.shows_above.result ↔ ShowsAbove r f g) low c.shows_above.ensures)
