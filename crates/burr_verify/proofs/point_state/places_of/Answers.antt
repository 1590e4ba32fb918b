use Rattle.std.proofs.Common.{[], ◌∷◌, sym, subst}
use Rattle.burr_code.specs.declared.placement.Placement.{Placement}
use Rattle.burr_container.specs.Rules.Plans.{FormCell}
use Rattle.burr_frames.specs.Rules.SpaceRules.{AllSmallPlaces}
use Rattle.burr_verify.proofs.PointNumbers.{small_place_at}
use Rattle.burr_verify.proofs.point_state.places_of.Goals as goal

pub place_at-requires-clause-small : goal.place_at-requires-clause-small
place_at-requires-clause-small c =
    subst (λ (x : Placement FormCell). AllSmallPlaces (x ∷ [])) (sym c.place-item.is)
    (small_place_at c.args.places.now c.loop-place.place-index c.place-item.result c.requires.small c.loop-place-test.true)
