-- A place of the group is small once it is shifted, since all are.
use Rattle.std.proofs.Common.{[], ◌∷◌, sym, subst, take, drop, arith}
use Rattle.burr_code.specs.declared.placement.Placement.{Placement}
use Rattle.burr_code.specs.Places.{at_position, changed}
use Rattle.burr_container.specs.Rules.Plans.{FormCell}
use Rattle.burr_frames.specs.Rules.SpaceRules.{moved_forms, AllSmallPlaces}
use Rattle.burr_frames.proofs.ShiftedPlaces.{small_here, small_in_group}
use Rattle.burr_frames.proofs.SmallPlaces.{small_after}
use Rattle.burr_frames.proofs.state.moves.shift_group.Goals as goal

pub shift-requires : goal.shift-requires
shift-requires c =
    let p = c.loop-piece.piece in
    let places = c.loop-piece.places in
    let place = c.index-places-piece.result in
    let shift = at_position (moved_forms c.args.direction) in
    let rest = small_after (take p places) (changed shift c.args.group p (drop p places))
    (subst AllSmallPlaces (sym c.loop-piece.invariant.0) c.requires.small) in
    subst (λ (x : Placement FormCell). AllSmallPlaces (shift x ∷ [])) c.index-places-piece.is
    (small_in_group shift c.args.group p place (c.is_in_set.ensures.0 c.if-is_in_set.true)
    (small_here shift c.args.group p places place (omega (arith, c.loop-piece-test.true, c.loop-piece.auto.places)) c.index-places-piece.is rest))
