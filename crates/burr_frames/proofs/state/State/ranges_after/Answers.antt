-- Too many ranges, too many points, or neither.
use Rattle.std.proofs.Common.{◌≡◌, ◌≤◌, ◌∙◌, ◌++◌, List, length, ap, sym, subst, arith}
use Rattle.std.proofs.lemmas.List.{length-append}
use Rattle.std.proofs.lemmas.List.Elements.{All-append}
use Rattle.burr_text.proofs.Common.Tests.{no_of}
use Rattle.burr_forms.specs.Rules.Points.{IsRange, AreRanges, box_size}
use Rattle.burr_container.specs.Rules.Plans.{Range}
use Rattle.burr_frames.specs.Rules.States.{AbstractState}
use Rattle.burr_frames.specs.Rules.FramedPlans.{FramedExit}
use Rattle.burr_frames.proofs.state.State.ranges_after.Goals as goal

abbrev ranges_in : AbstractState → List Range
ranges_in s = s.ranges

abbrev results_in : FramedExit → List Range
results_in exit = exit.results

pub returns-then-len-gt8 : goal.returns-then-len-gt8
returns-then-len-gt8 c =
    let s = c.args.self.now in
    let exit = c.args.exit.now in λ few.
    omega (
      arith,
      few.0,
      length-append s.ranges exit.results,
      c.if-len-gt8.true,
      c.len.ensures.value ∙ ap (λ (a : AbstractState). length a.ranges) c.self.view_is,
      c.len-2.ensures.value ∙ ap (λ (e : FramedExit). length e.results) c.exit.view_is,
    )

pub joined-ranges-requires : goal.joined-ranges-requires
joined-ranges-requires c =
    omega (
      arith,
      c.if-len-gt8.false,
      c.len.ensures.value,
      c.len-2.ensures.value,
      ap (length {A = Range}) c.as_slice.ensures.value,
      ap (length {A = Range}) c.as_slice-2.ensures.value,
    )

pub has_at_most-requires-clause-ranges : goal.has_at_most-requires-clause-ranges
has_at_most-requires-clause-ranges c =
    subst AreRanges (sym (c.as_slice-3.ensures.value ∙ c.joined-ranges.ensures))
    (All-append IsRange c.as_slice.result.now c.as_slice-2.result.now
    (subst AreRanges (sym c.as_slice.ensures.value) c.self.invariant.ranges)
    (subst AreRanges (sym c.as_slice-2.ensures.value) c.exit.invariant.results))

pub returns-then-not-has_at_most : goal.returns-then-not-has_at_most
returns-then-not-has_at_most c =
    let s = c.args.self.now in
    let exit = c.args.exit.now in
    let whole : c.as_slice-3.result.now ≡ s.ranges ++ exit.results =
    c.as_slice-3.ensures.value ∙ c.joined-ranges.ensures
    ∙ (λ i. (c.as_slice.ensures.value ∙ ap ranges_in c.self.view_is) i ++ (c.as_slice-2.ensures.value ∙ ap results_in c.exit.view_is) i) in
    let over = no_of c.if-not-has_at_most.ensures in
    λ few. over (subst (λ (ranges : List Range). box_size ranges ≤ 4096) (sym whole) few.1)
