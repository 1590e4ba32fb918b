-- The constant is added as the coefficients are.
use Rattle.std.proofs.Common.{rules, ◌≡◌, sym, ◌∙◌, FitsSigned, w64, to_z-of_z, subst}
use Rattle.std.specs.Prelude.{◌+ℤ◌, ◌*ℤ◌}
use Rattle.std.specs.Int.{w128}
use Rattle.burr_forms.specs.Rules.Forms.{sum_of}
use Rattle.burr_forms.specs.Views.Wides.{IsWideForm}
use Rattle.burr_forms.proofs.Multiples.{multiples, product_fits, product_bound, plus_fits}
use Rattle.burr_forms.proofs.form.Wide.add_times.Goals as goal

pub overflow_add-self : goal.overflow_add-self
overflow_add-self c =
    let x_fits : FitsSigned w128 c.self.inside.constant = search rules in
    let y_fits : FitsSigned w64 c.form.inside.constant = search rules in
    let factor_fits : FitsSigned w64 c.args.factor = c.ranges.factor in
    let factor_is : c.from.result ≡ c.args.factor = simp to_z-of_z at c.from.ensures in
    let y_is : c.from-2.result ≡ c.form.inside.constant = simp to_z-of_z at c.from-2.ensures in
    let wide_y : FitsSigned w128 c.form.inside.constant = search rules in
    let wide_factor : FitsSigned w128 c.args.factor = search rules in
    let product = product_fits c.args.factor c.form.inside.constant c.requires.factor y_fits in
    let bound = product_bound c.args.factor c.form.inside.constant c.requires.factor y_fits in
    let wide = subst IsWideForm (sym c.self.view_is) c.requires.wide in
    rw (factor_is, y_is) (simp to_z-of_z (plus_fits c.self.inside.constant (c.args.factor *ℤ c.form.inside.constant) wide.0 bound))

pub returns : goal.returns
returns c =
    let x_fits : FitsSigned w128 c.self.inside.constant = search rules in
    let y_fits : FitsSigned w64 c.form.inside.constant = search rules in
    let factor_fits : FitsSigned w64 c.args.factor = c.ranges.factor in
    let factor_is : c.from.result ≡ c.args.factor = simp to_z-of_z at c.from.ensures in
    let y_is : c.from-2.result ≡ c.form.inside.constant = simp to_z-of_z at c.from-2.ensures in
    let wide_y : FitsSigned w128 c.form.inside.constant = search rules in
    let wide_factor : FitsSigned w128 c.args.factor = search rules in
    let product = product_fits c.args.factor c.form.inside.constant c.requires.factor y_fits in
    let bound = product_bound c.args.factor c.form.inside.constant c.requires.factor y_fits in
    let wide = subst IsWideForm (sym c.self.view_is) c.requires.wide in
    let sum = plus_fits c.self.inside.constant (c.args.factor *ℤ c.form.inside.constant) wide.0 bound in
    let constant : (c.self.inside.constant +ℤ (c.args.factor *ℤ c.form.inside.constant)) ≡ (c.args.self.now.constant +ℤ (c.args.factor *ℤ c.args.form.now.constant)) =
    λ i. (c.self.view_is i).constant +ℤ (c.args.factor *ℤ (c.form.view_is i).constant) in
    let added : c.add_multiples.new.numbers ≡ sum_of c.self.inside.coefs (multiples c.args.factor c.form.inside.coefs) = simp to_z-of_z at c.add_multiples.ensures in
    let coefs = added ∙ λ i. sum_of (c.self.view_is i).coefs (multiples c.args.factor (c.form.view_is i).coefs) in
    rw (factor_is, y_is) (simp to_z-of_z (λ i. record { constant = constant i; coefs = coefs i }))
