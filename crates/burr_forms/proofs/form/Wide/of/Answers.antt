-- A form's numbers, added to nothing, are the form's.
use Rattle.std.proofs.Common.{rules, ◌≡◌, ap, ◌∙◌, FitsSigned, w64, to_z-of_z}
use Rattle.burr_forms.specs.Rules.Forms.{Form, number}
use Rattle.burr_forms.proofs.Sums.{from_zeros}
use Rattle.burr_forms.proofs.form.Wide.of.Goals as goal

pub returns : goal.returns
returns c =
    let fits : FitsSigned w64 c.form.inside.constant = search rules in
    let made : c.of_number-wide.result ≡ number c.form.inside.constant = simp to_z-of_z at c.of_number-wide.ensures in
    let constant = ap (λ (f : Form). f.constant) (c.wide.view_is ∙ made) ∙ ap (λ (f : Form). f.constant) c.form.view_is in
    let zeros = ap (λ (f : Form). f.coefs) (c.wide.view_is ∙ made) in
    let coefs = from_zeros c.wide.inside.coefs c.form.inside.coefs c.add_multiples.new.numbers zeros c.form.told c.add_multiples.ensures ∙ ap (λ (f : Form). f.coefs) c.form.view_is in
    λ i. record { constant = constant i; coefs = coefs i }
