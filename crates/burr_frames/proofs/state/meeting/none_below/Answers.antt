-- A number that is below its form's value ends it; else one more is not below.
use Rattle.std.proofs.Common.{rules, ◌≡◌, FitsSigned, w64, ℤ, slice_index_or, pos, to_z-of_z, true, false, subst, arith}
use Rattle.std.specs.Int.{w128}
use Rattle.std.specs.Prelude.{int_lt}
use Rattle.std.proofs.lemmas.Int.{ints}
use Rattle.burr_text.proofs.Common.Tests.{no_iff}
use Rattle.burr_frames.proofs.Comparisons.{one_below, none_below_more}
use Rattle.burr_frames.proofs.state.meeting.none_below.Goals as goal

pub returns-then-from-wide_value : goal.returns-then-from-wide_value
returns-then-from-wide_value c =
    let number : ℤ = slice_index_or c.args.numbers.now c.loop-place.place (pos 0) in
    let form = c.index-forms-place.result in
    let fits : FitsSigned w64 number = search rules in
    let wide : FitsSigned w128 number = search rules in
    let is : c.from.result ≡ number = simp to_z-of_z at c.from.ensures in
    let from_fits : FitsSigned w128 c.from.result = search rules in
    let value_fits : FitsSigned w128 c.wide_value.result = search rules in
    let less : int_lt c.from.result c.wide_value.result ≡ true = simp to_z-of_z at c.if-from-wide_value.true in
    no_iff
    (one_below c.args.symbols.now c.args.forms.now c.args.numbers.now c.loop-place.place form c.wide_value.result c.loop-place-test.true
    c.index-forms-place.is c.wide_value.ensures (subst (λ (n : ℤ). int_lt n c.wide_value.result ≡ true) is less))

pub loop-place-preserved : goal.loop-place-preserved
loop-place-preserved c =
    let number : ℤ = slice_index_or c.args.numbers.now c.loop-place.place (pos 0) in
    let form = c.index-forms-place.result in
    let fits : FitsSigned w64 number = search rules in
    let wide : FitsSigned w128 number = search rules in
    let is : c.from.result ≡ number = simp to_z-of_z at c.from.ensures in
    let from_fits : FitsSigned w128 c.from.result = search rules in
    let value_fits : FitsSigned w128 c.wide_value.result = search rules in
    let not_less : int_lt c.from.result c.wide_value.result ≡ false = simp to_z-of_z at c.if-from-wide_value.false in
    none_below_more c.args.symbols.now c.args.forms.now c.args.numbers.now c.loop-place.place form c.wide_value.result c.loop-place-test.true
    c.requires.places c.index-forms-place.is c.wide_value.ensures (omega (arith, ints, is, not_less))
    c.loop-place.invariant
