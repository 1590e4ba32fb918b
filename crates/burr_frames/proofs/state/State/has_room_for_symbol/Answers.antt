-- The ranges with one more have room, and the guards always do.
use Rattle.std.proofs.Common.{◌≡◌, ◌≤◌, ◌∙◌, length, sym, ap, subst, List, [], ◌∷◌, ◌++◌, arith}
use Rattle.burr_forms.specs.Rules.Points.{AreRanges, box_size}
use Rattle.burr_container.specs.Rules.Plans.{Range}
use Rattle.burr_frames.specs.Rules.States.{AbstractState}
use Rattle.burr_frames.proofs.Rooms.{handed_range, one_range_more}
use Rattle.burr_frames.proofs.state.State.has_room_for_symbol.Goals as goal

pub has_at_most-requires-clause-ranges : goal.has_at_most-requires-clause-ranges
has_at_most-requires-clause-ranges c =
    let old = c.self.inside.ranges.items in
    let put = handed_range c.args.low c.args.high c.from.result c.from-2.result c.requires c.from.ensures c.from-2.ensures in
    let ranges : c.push.new.self.items ≡ old ++ (c.args.low, c.args.high) ∷ [] =
    c.push.ensures.items ∙ (λ i. (c.copied-ranges.ensures ∙ c.as_slice.ensures.value) i ++ put i ∷ []) in
    subst AreRanges (sym (c.as_slice-2.ensures.value ∙ ranges)) (one_range_more old c.args.low c.args.high c.self.invariant.ranges c.requires)

pub returns : goal.returns
returns c =
    let s = c.args.self.now in
    let old = c.self.inside.ranges.items in
    let range : Range = (c.args.low, c.args.high) in
    let put = handed_range c.args.low c.args.high c.from.result c.from-2.result c.requires c.from.ensures c.from-2.ensures in
    let same : old ≡ s.ranges = ap (λ (a : AbstractState). a.ranges) c.self.view_is in
    let now : c.as_slice-2.result.now ≡ s.ranges ++ range ∷ [] =
    c.as_slice-2.ensures.value ∙ c.push.ensures.items ∙ (λ i. (c.copied-ranges.ensures ∙ c.as_slice.ensures.value ∙ same) i ++ put i ∷ []) in
    let few : length (s.ranges ++ range ∷ []) ≤ 8 = omega (arith, c.as_slice-2.ensures.fits, ap (length {A = Range}) now) in (
      λ room. (few, c.guards_are_few.ensures, subst (λ (ranges : List Range). box_size ranges ≤ 4096) now (c.has_at_most.ensures.0 room)),
      λ room. c.has_at_most.ensures.1 (subst (λ (ranges : List Range). box_size ranges ≤ 4096) (sym now) room.2),
    )
