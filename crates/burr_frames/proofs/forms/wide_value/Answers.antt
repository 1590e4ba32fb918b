-- One symbol's term is added.
use Rattle.std.proofs.Common.{rules, ◌≡◌, ap, sym, FitsSigned, w64, slice_index_or, pos, to_z, to_z-of_z}
use Rattle.std.specs.Int.{w128}
use Rattle.burr_forms.specs.Rules.Forms.{Form}
use Rattle.burr_frames.proofs.WideValues.{term_fits, sum_fits, sum_more, value_nowhere}
use Rattle.burr_frames.proofs.forms.wide_value.Goals as goal

pub loop-symbol-init : goal.loop-symbol-init
loop-symbol-init c =
    let fits : FitsSigned w64 c.form.inside.constant = search rules in
    let wide : FitsSigned w128 c.from-sum.result = search rules in
    let is : c.from-sum.result ≡ c.form.inside.constant = simp to_z-of_z at c.from-sum.ensures in
    simp to_z-of_z (sym (value_nowhere c.from-sum.result c.args.form.now (rw is (ap (λ (f : Form). f.constant) c.form.view_is))))

pub overflow_add-sum : goal.overflow_add-sum
overflow_add-sum c =
    let symbols = c.args.symbols.now in
    let coefs = c.form.inside.coefs in
    let k = c.loop-symbol.symbol in
    let coef_fits : FitsSigned w64 (slice_index_or coefs k (pos 0)) = search rules in
    let symbol_fits : FitsSigned w64 (slice_index_or symbols k (pos 0)) = search rules in
    let wide_coef : FitsSigned w128 (slice_index_or coefs k (pos 0)) = search rules in
    let wide_symbol : FitsSigned w128 (slice_index_or symbols k (pos 0)) = search rules in
    let coef_is : c.from.result ≡ slice_index_or coefs k (pos 0) = simp to_z-of_z at c.from.ensures in
    let symbol_is : c.from-in-loop-symbol.result ≡ slice_index_or symbols k (pos 0) = simp to_z-of_z at c.from-in-loop-symbol.ensures in
    let coefs_are = ap (λ (f : Form). f.coefs) c.form.view_is in
    let product_fits = term_fits k c.args.form.now coefs symbols (pos 0) (pos 0) coefs_are c.form.told c.requires.small c.requires.bounded c.requires.few c.loop-symbol-test.true in
    rw (coef_is, symbol_is)
    (simp to_z-of_z
    (sum_fits k c.args.form.now coefs symbols (to_z w128 c.loop-symbol.sum-bits) (pos 0) (pos 0) coefs_are c.form.told c.requires.small c.requires.bounded c.requires.few c.loop-symbol-test.true
    c.loop-symbol.invariant))

pub loop-symbol-preserved : goal.loop-symbol-preserved
loop-symbol-preserved c =
    let symbols = c.args.symbols.now in
    let coefs = c.form.inside.coefs in
    let k = c.loop-symbol.symbol in
    let coef_fits : FitsSigned w64 (slice_index_or coefs k (pos 0)) = search rules in
    let symbol_fits : FitsSigned w64 (slice_index_or symbols k (pos 0)) = search rules in
    let wide_coef : FitsSigned w128 (slice_index_or coefs k (pos 0)) = search rules in
    let wide_symbol : FitsSigned w128 (slice_index_or symbols k (pos 0)) = search rules in
    let coef_is : c.from.result ≡ slice_index_or coefs k (pos 0) = simp to_z-of_z at c.from.ensures in
    let symbol_is : c.from-in-loop-symbol.result ≡ slice_index_or symbols k (pos 0) = simp to_z-of_z at c.from-in-loop-symbol.ensures in
    let coefs_are = ap (λ (f : Form). f.coefs) c.form.view_is in
    let product_fits = term_fits k c.args.form.now coefs symbols (pos 0) (pos 0) coefs_are c.form.told c.requires.small c.requires.bounded c.requires.few c.loop-symbol-test.true in
    let next_fits =
    sum_fits k c.args.form.now coefs symbols (to_z w128 c.loop-symbol.sum-bits) (pos 0) (pos 0) coefs_are c.form.told c.requires.small c.requires.bounded c.requires.few c.loop-symbol-test.true
    c.loop-symbol.invariant in
    rw (coef_is, symbol_is)
    (simp to_z-of_z
    (sum_more k c.args.form.now coefs symbols (to_z w128 c.loop-symbol.sum-bits) (pos 0) (pos 0) coefs_are c.form.told c.requires.few c.loop-symbol-test.true c.loop-symbol.invariant))
