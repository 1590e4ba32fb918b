-- One more is read; at the end all are.
use Rattle.std.proofs.Common.{◌≡◌, ◌+◌, arith, sym, subst, ap, ◌∙◌, [], ◌∷◌, ◌++◌}
use Rattle.std.specs.Prelude.{map}
use Rattle.std.proofs.lemmas.List.{length-map}
use Rattle.burr_code.specs.declared.placement.Placement.{Placement}
use Rattle.burr_container.specs.Rules.Plans.{FormCell, live_slots, place_over_symbols}
use Rattle.burr_container.specs.Views.Refs.{frame_of, placement_view}
use Rattle.burr_frames.specs.Rules.SpaceRules.{AllSmallPlaces}
use Rattle.burr_container.proofs.Common.ListsRead.{IsRead, read_on, all_read}
use Rattle.burr_frames.proofs.SmallPlaces.{small_append, small_read}
use Rattle.burr_frames.proofs.state.places.Goals as goal

pub loop-p-preserved : goal.loop-p-preserved
loop-p-preserved c =
    let before = c.loop-p.places.items in
    let element = placement_view c.place.result in
    let whole = map (place_over_symbols (live_slots c.args.frame.now.slots)) (frame_of c.args.frame.now).places in
    let items : c.push.new.self.items ≡ before ++ element ∷ [] = c.push.ensures.items ∙ ap (λ (e : Placement FormCell). before ++ e ∷ []) c.placed.ensures in
    record {
      read = subst (IsRead whole (c.loop-p.p + 1)) (sym items) (read_on whole c.loop-p.p before element c.place.ensures.place c.loop-p.invariant.read);
      small = subst AllSmallPlaces (sym items) (small_append before (element ∷ []) c.loop-p.invariant.small (small_read c.place.result c.place.ensures.small));
    }

pub returns-clause-places : goal.returns-clause-places
returns-clause-places c =
    let frame = c.args.frame.now in
    let over = place_over_symbols (live_slots frame.slots) in
    let places = (frame_of frame).places in
    all_read (map over places) c.loop-p.p c.loop-p.places.items
    (omega (arith, length-map places over, c.piece_count-p-end.ensures.places, c.loop-p-test.false, c.loop-p.auto.p-end)) c.loop-p.invariant.read
