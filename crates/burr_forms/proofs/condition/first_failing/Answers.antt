-- The search of the narrower box is that of the box.
use Rattle.std.proofs.Common.{List, subst, sym}
use Rattle.std.specs.Prelude.{ℤ}
use Rattle.burr_forms.specs.Rules.Forms.{Form}
use Rattle.burr_forms.specs.Rules.Points.{AreRanges}
use Rattle.burr_forms.specs.Views.Searching.{AllLack, AreNarrowRanges}
use Rattle.burr_forms.proofs.Lowering.{ranges_narrowed, found_first}
use Rattle.burr_forms.proofs.condition.first_failing.Goals as goal

pub first_refused-requires-clause-ranges : goal.first_refused-requires-clause-ranges
first_refused-requires-clause-ranges g c =
    subst AreRanges (sym c.as_slice.ensures.value)
    (ranges_narrowed _ c.args.ranges.now c.narrowed-narrowed.result.items c.requires.ranges c.narrowed-narrowed.ensures)

pub returns : goal.returns
returns g c =
    let asked = g.C.Condition.asked c.args.condition.now in
    let for_asked = subst (λ (fs : List Form). AreNarrowRanges (λ k. AllLack k c.args.guards.now × AllLack k fs) c.args.ranges.now c.narrowed-narrowed.result.items) c.forms.ensures c.narrowed-narrowed.ensures in
    let narrowed = subst (λ (ns : List (ℤ × ℤ)). AreNarrowRanges (λ k. AllLack k c.args.guards.now × AllLack k asked) c.args.ranges.now ns) (sym c.as_slice.ensures.value) for_asked in
    found_first c.args.ranges.now c.as_slice.result.now c.args.guards.now asked (g.C.Condition.Holds c.args.condition.now) c.requires.ranges narrowed (λ point. point.items) c.first_refused.result c.first_refused.ensures.found
