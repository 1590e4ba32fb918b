-- One multiple more is added.
use Rattle.std.proofs.Common.{rules, ◌≡◌, ◌<◌, ◌∙◌, ℤ, sym, subst, length, slice_index_or, pos, FitsSigned, w64, to_z-of_z}
use Rattle.std.specs.Int.{w128}
use Rattle.burr_forms.proofs.Multiples.{added, product_fits, sum_fits, sum_next}
use Rattle.burr_forms.proofs.form.add_multiples.Goals as goal

pub overflow_add-numbers : goal.overflow_add-numbers
overflow_add-numbers c =
    let y_fits : FitsSigned w64 (slice_index_or c.args.others.now c.loop-symbol.symbol (pos 0)) = search rules in
    let x_fits : FitsSigned w128 (slice_index_or c.loop-symbol.numbers c.loop-symbol.symbol (pos 0)) = search rules in
    let factor_fits : FitsSigned w64 c.args.factor = c.ranges.factor in
    let factor_is : c.from-factor.result ≡ c.args.factor = simp to_z-of_z at c.from-factor.ensures in
    let y_is : c.from.result ≡ slice_index_or c.args.others.now c.loop-symbol.symbol (pos 0) = simp to_z-of_z at c.from.ensures in
    let long : length c.args.numbers.now ≡ length c.args.others.now = c.told-numbers ∙ sym c.told-others in
    let inside : c.loop-symbol.symbol < length c.args.others.now = search rules in
    let wide_y : FitsSigned w128 (slice_index_or c.args.others.now c.loop-symbol.symbol (pos 0)) = search rules in
    let wide_factor : FitsSigned w128 c.args.factor = search rules in
    let so_far = subst (λ (k : ℤ). c.loop-symbol.numbers ≡ added k c.loop-symbol.symbol c.args.numbers.now c.args.others.now) (to_z-of_z factor_fits) c.loop-symbol.invariant in
    let product = product_fits c.args.factor (slice_index_or c.args.others.now c.loop-symbol.symbol (pos 0)) c.requires.factor y_fits in
    rw (factor_is, y_is) (simp to_z-of_z (sum_fits c.args.factor c.loop-symbol.symbol c.args.numbers.now c.args.others.now c.loop-symbol.numbers (pos 0) (pos 0) long inside so_far c.requires.wide c.requires.factor y_fits))

pub loop-symbol-preserved : goal.loop-symbol-preserved
loop-symbol-preserved c =
    let y_fits : FitsSigned w64 (slice_index_or c.args.others.now c.loop-symbol.symbol (pos 0)) = search rules in
    let x_fits : FitsSigned w128 (slice_index_or c.loop-symbol.numbers c.loop-symbol.symbol (pos 0)) = search rules in
    let factor_fits : FitsSigned w64 c.args.factor = c.ranges.factor in
    let factor_is : c.from-factor.result ≡ c.args.factor = simp to_z-of_z at c.from-factor.ensures in
    let y_is : c.from.result ≡ slice_index_or c.args.others.now c.loop-symbol.symbol (pos 0) = simp to_z-of_z at c.from.ensures in
    let long : length c.args.numbers.now ≡ length c.args.others.now = c.told-numbers ∙ sym c.told-others in
    let inside : c.loop-symbol.symbol < length c.args.others.now = search rules in
    let wide_y : FitsSigned w128 (slice_index_or c.args.others.now c.loop-symbol.symbol (pos 0)) = search rules in
    let wide_factor : FitsSigned w128 c.args.factor = search rules in
    let so_far = subst (λ (k : ℤ). c.loop-symbol.numbers ≡ added k c.loop-symbol.symbol c.args.numbers.now c.args.others.now) (to_z-of_z factor_fits) c.loop-symbol.invariant in
    let product = product_fits c.args.factor (slice_index_or c.args.others.now c.loop-symbol.symbol (pos 0)) c.requires.factor y_fits in
    let sum = sum_fits c.args.factor c.loop-symbol.symbol c.args.numbers.now c.args.others.now c.loop-symbol.numbers (pos 0) (pos 0) long inside so_far c.requires.wide c.requires.factor y_fits in
    rw (factor_is, y_is) (simp to_z-of_z (sum_next c.args.factor c.loop-symbol.symbol c.args.numbers.now c.args.others.now c.loop-symbol.numbers (pos 0) (pos 0) long inside so_far))
