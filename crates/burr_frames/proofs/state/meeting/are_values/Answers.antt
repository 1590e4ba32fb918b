-- A number that is not its form's value ends it; else one more is.
use Rattle.std.proofs.Common.{rules, ◌≡◌, ◌∙◌, ap, sym, FitsSigned, w64, ℤ, slice_index_or, pos, to_z, of_z, to_z-of_z}
use Rattle.std.specs.Int.{w128}
use Rattle.burr_text.proofs.Common.Tests.{no_iff}
use Rattle.burr_frames.proofs.Comparisons.{one_unlike, values_more}
use Rattle.burr_frames.proofs.state.meeting.are_values.Goals as goal

pub returns-then-from-wide_value : goal.returns-then-from-wide_value
returns-then-from-wide_value c =
    let number : ℤ = slice_index_or c.args.numbers.now c.loop-place.place (pos 0) in
    let fits : FitsSigned w64 number = search rules in
    let is : c.from.result ≡ number = simp to_z-of_z at c.from.ensures in
    no_iff
    (one_unlike c.args.symbols.now c.args.forms.now c.args.numbers.now c.loop-place.place c.index-forms-place.result c.wide_value.result
    c.loop-place-test.true c.index-forms-place.is c.wide_value.ensures
    (λ same. c.if-from-wide_value.true (ap (of_z w128) (is ∙ same))))

pub loop-place-preserved : goal.loop-place-preserved
loop-place-preserved c =
    let number : ℤ = slice_index_or c.args.numbers.now c.loop-place.place (pos 0) in
    let fits : FitsSigned w64 number = search rules in
    let is : c.from.result ≡ number = simp to_z-of_z at c.from.ensures in
    let from_fits : FitsSigned w128 c.from.result = search rules in
    let value_fits : FitsSigned w128 c.wide_value.result = search rules in
    let same : c.from.result ≡ c.wide_value.result =
    sym (to_z-of_z from_fits) ∙ ap (to_z w128) c.if-from-wide_value.false ∙ to_z-of_z value_fits in
    values_more c.args.symbols.now c.args.forms.now c.args.numbers.now c.loop-place.place c.index-forms-place.result c.wide_value.result
    c.loop-place-test.true c.requires.places c.index-forms-place.is c.wide_value.ensures (sym is ∙ same) c.loop-place.invariant
