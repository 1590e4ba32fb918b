-- One symbol's term is added.
use Rattle.std.proofs.Common.{rules, ◌≡◌, ap, sym, FitsSigned, w32, w64, slice_index_or, length, ◌<◌, pos, to_z, to_z-of_z}
use Rattle.burr_forms.specs.Rules.Forms.{Form}
use Rattle.burr_forms.proofs.Values.{term_fits, sum_fits, sum_more, value_nowhere}
use Rattle.burr_forms.proofs.form.Form.value_at.Goals as goal

pub loop-symbol-init : goal.loop-symbol-init
loop-symbol-init c =
    let fits : FitsSigned w64 c.self.inside.constant = search rules in
    simp to_z-of_z (sym (value_nowhere c.self.inside.constant c.args.self.now (ap (λ (f : Form). f.constant) c.self.view_is)))

pub overflow_mul-sum : goal.overflow_mul-sum
overflow_mul-sum c =
    let x_fits : FitsSigned w32 (slice_index_or c.args.point.now c.loop-symbol.symbol (pos 0)) = search rules in
    let inside : c.loop-symbol.symbol < length c.args.point.now = search rules in
    let wide_fits : FitsSigned w64 (slice_index_or c.args.point.now c.loop-symbol.symbol (pos 0)) = search rules in
    let coef_fits : FitsSigned w64 (slice_index_or c.self.inside.coefs c.loop-symbol.symbol (pos 0)) = search rules in
    let x_is : c.from.result ≡ slice_index_or c.args.point.now c.loop-symbol.symbol (pos 0) = simp to_z-of_z at c.from.ensures in
    rw x_is (simp to_z-of_z (term_fits c.loop-symbol.symbol c.args.self.now c.self.inside.coefs c.args.point.now (pos 0) (pos 0) (ap (λ (f : Form). f.coefs) c.self.view_is) c.self.told c.requires.small c.requires.near c.requires.few inside))

pub overflow_add-sum : goal.overflow_add-sum
overflow_add-sum c =
    let x_fits : FitsSigned w32 (slice_index_or c.args.point.now c.loop-symbol.symbol (pos 0)) = search rules in
    let inside : c.loop-symbol.symbol < length c.args.point.now = search rules in
    let wide_fits : FitsSigned w64 (slice_index_or c.args.point.now c.loop-symbol.symbol (pos 0)) = search rules in
    let coef_fits : FitsSigned w64 (slice_index_or c.self.inside.coefs c.loop-symbol.symbol (pos 0)) = search rules in
    let x_is : c.from.result ≡ slice_index_or c.args.point.now c.loop-symbol.symbol (pos 0) = simp to_z-of_z at c.from.ensures in
    let coefs_are = ap (λ (f : Form). f.coefs) c.self.view_is in
    let product_fits = term_fits c.loop-symbol.symbol c.args.self.now c.self.inside.coefs c.args.point.now (pos 0) (pos 0) coefs_are c.self.told c.requires.small c.requires.near c.requires.few inside in
    rw x_is (simp to_z-of_z (sum_fits c.loop-symbol.symbol c.args.self.now c.self.inside.coefs c.args.point.now (to_z w64 c.loop-symbol.sum-bits) (pos 0) (pos 0) coefs_are c.self.told c.requires.small c.requires.near c.requires.few inside c.loop-symbol.invariant))

pub loop-symbol-preserved : goal.loop-symbol-preserved
loop-symbol-preserved c =
    let x_fits : FitsSigned w32 (slice_index_or c.args.point.now c.loop-symbol.symbol (pos 0)) = search rules in
    let inside : c.loop-symbol.symbol < length c.args.point.now = search rules in
    let wide_fits : FitsSigned w64 (slice_index_or c.args.point.now c.loop-symbol.symbol (pos 0)) = search rules in
    let coef_fits : FitsSigned w64 (slice_index_or c.self.inside.coefs c.loop-symbol.symbol (pos 0)) = search rules in
    let x_is : c.from.result ≡ slice_index_or c.args.point.now c.loop-symbol.symbol (pos 0) = simp to_z-of_z at c.from.ensures in
    let coefs_are = ap (λ (f : Form). f.coefs) c.self.view_is in
    let product_fits = term_fits c.loop-symbol.symbol c.args.self.now c.self.inside.coefs c.args.point.now (pos 0) (pos 0) coefs_are c.self.told c.requires.small c.requires.near c.requires.few inside in
    let next_fits = sum_fits c.loop-symbol.symbol c.args.self.now c.self.inside.coefs c.args.point.now (to_z w64 c.loop-symbol.sum-bits) (pos 0) (pos 0) coefs_are c.self.told c.requires.small c.requires.near c.requires.few inside c.loop-symbol.invariant in
    rw x_is (simp to_z-of_z (sum_more c.loop-symbol.symbol c.args.self.now c.self.inside.coefs c.args.point.now (to_z w64 c.loop-symbol.sum-bits) (pos 0) (pos 0) coefs_are c.self.told c.requires.few inside c.loop-symbol.invariant))
