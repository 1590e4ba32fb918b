use Rattle.std.proofs.Common.{◌∙◌, ◌≤◌, ap, sym, arith, length, slice_index_or, slice_set, pos}
use Rattle.std.proofs.lemmas.List.{length-set, get_or-set_other, set_past}
use Rattle.burr_voxels.specs.declared.cell.Cell.{Cell}
use Rattle.burr_voxels.specs.Grid.{plus, along}
use Rattle.burr_code.specs.Places.{at_position}
use Rattle.burr_code.specs.declared.placement.Placement.TheVariants.{Apart}
use Rattle.burr_state.specs.Rules.Space.{moved_places}
use Rattle.burr_state.proofs.Common.Trays.Counts.{first_changed, none_changed}
use Rattle.burr_state.proofs.state.shift_group.Goals as goal

pub loop-rest-preserved-then-piece-places : goal.loop-rest-preserved-then-piece-places
loop-rest-preserved-then-piece-places c =
    let places = c.loop-rest.places in
    let piece = c.take_lowest.result in
    let new = c.shifted.result in
    let shift = at_position (λ (o : Cell). plus o (along c.args.direction (pos 1))) in
    rw c.from-piece.ensures (
      ap (λ place. moved_places c.take_lowest.new.set c.args.direction (slice_set places piece place)) (c.shifted.ensures ∙ ap (λ k. shift (slice_index_or places k Apart)) c.from-piece.ensures)
          ∙ first_changed shift c.loop-rest.rest piece c.take_lowest.new.set places Apart c.take_lowest.ensures.taken c.take_lowest.ensures.rest
          ∙ c.loop-rest.invariant.0,
      length-set places piece new ∙ c.loop-rest.invariant.1,
      λ k d left inside.
          let had = (c.take_lowest.ensures.rest k).0 left in
          rw (get_or-set_other places piece k new d had.1) (c.loop-rest.invariant.2 k d had.0 (omega (arith, inside, length-set places piece new))),
    )

pub loop-rest-preserved : goal.loop-rest-preserved
loop-rest-preserved c =
    let places = c.loop-rest.places in
    let piece = c.take_lowest.result in
    let past : length places ≤ piece = omega (arith, c.if-piece-places.false, c.from-piece.ensures) in
    let shift = at_position (λ (o : Cell). plus o (along c.args.direction (pos 1))) in (
      ap (moved_places c.take_lowest.new.set c.args.direction) (sym (set_past places piece (shift (slice_index_or places piece Apart)) past))
          ∙ first_changed shift c.loop-rest.rest piece c.take_lowest.new.set places Apart c.take_lowest.ensures.taken c.take_lowest.ensures.rest
          ∙ c.loop-rest.invariant.0,
      c.loop-rest.invariant.1,
      λ k d left inside. c.loop-rest.invariant.2 k d ((c.take_lowest.ensures.rest k).0 left).0 inside,
    )

pub returns : goal.returns
returns c =
    sym (none_changed (at_position (λ (o : Cell). plus o (along c.args.direction (pos 1)))) 0 c.loop-rest.places)
    ∙ ap (λ set. moved_places set c.args.direction c.loop-rest.places) (sym c.loop-rest-test.false)
    ∙ c.loop-rest.invariant.0
