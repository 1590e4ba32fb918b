-- One place more is small where it is shifted, or stays as it is.
use Rattle.std.proofs.Common.{[], ◌∷◌, sym, subst}
use Rattle.burr_text.proofs.Common.Tests.{yes_of, no_of}
use Rattle.burr_code.specs.declared.placement.Placement.{Placement}
use Rattle.burr_code.specs.Places.{at_position}
use Rattle.burr_container.specs.Rules.Plans.{FormCell}
use Rattle.burr_frames.specs.Rules.SpaceRules.{moved_forms, AllSmallPlaces}
use Rattle.burr_frames.proofs.ShiftedPlaces.{small_changed, small_rest}
use Rattle.burr_frames.proofs.SmallPlaces.{small_place_at}
use Rattle.burr_frames.proofs.state.moves.can_shift_group.Goals as goal
use Rattle.burr_frames.proofs.state.moves.can_shift_group.Goals.{else-is_in_set-via-then-is_in_set+else-not-can_shift, else-is_in_set-via-else-is_in_set}

pub can_shift-requires : goal.can_shift-requires
can_shift-requires c =
    subst (λ (x : Placement FormCell). AllSmallPlaces (x ∷ [])) (sym c.index-places-piece.is)
    (small_place_at c.args.places.now c.loop-piece.piece c.index-places-piece.result c.requires.small c.loop-piece-test.true)

pub loop-piece-preserved : goal.loop-piece-preserved
loop-piece-preserved c =
    let p = c.loop-piece.piece in
    let place = c.index-places-piece.result in
    let shift = at_position (moved_forms c.args.direction) in
    let stays = subst (λ (x : Placement FormCell). AllSmallPlaces (x ∷ [])) (sym c.index-places-piece.is)
    (small_place_at c.args.places.now p place c.requires.small c.loop-piece-test.true) in
    let here = small_changed shift c.args.group p place
    (elim c.else-is_in_set.branch [
      | else-is_in_set-via-then-is_in_set+else-not-can_shift w ↦ λ inside. yes_of w.if-not-can_shift.ensures
      | else-is_in_set-via-else-is_in_set w ↦ λ inside. absurd (no_of w.if-is_in_set.ensures inside)
    ]) stays in
    let rest = small_rest shift c.args.group p c.args.places.now place c.loop-piece-test.true c.index-places-piece.is here in
    (λ after. c.loop-piece.invariant.0 (rest.1 after), λ all. rest.0 (c.loop-piece.invariant.1 all))
