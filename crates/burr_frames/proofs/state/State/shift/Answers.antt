-- The places are written back whole.
use Rattle.std.proofs.Common.{◌∙◌, ap, sym, subst, List}
use Rattle.burr_code.specs.declared.placement.Placement.{Placement}
use Rattle.burr_code.specs.Places.{at_position}
use Rattle.burr_code.proofs.Common.Counts.{length-changed, refilled}
use Rattle.burr_container.specs.Rules.Plans.{FormCell}
use Rattle.burr_frames.specs.Rules.SpaceRules.{moved, moved_forms, AllSmallPlaces}
use Rattle.burr_frames.specs.Rules.States.{AbstractState}
use Rattle.burr_frames.specs.Views.Changes.{with_places}
use Rattle.burr_frames.specs.Views.StateViews.{abstract_state}
use Rattle.burr_frames.proofs.SmallPlaces.{small_with_places}
use Rattle.burr_frames.proofs.state.State.shift.Goals as goal

pub invariant_of-self : goal.invariant_of-self
invariant_of-self c =
    let s = c.self.inside in
    let old = s.places.items in
    let new = moved s.grip c.args.direction old in
    let written = refilled old c.shift_group.new.places new (c.shift_group.ensures ∙ ap (moved s.grip c.args.direction) c.as_mut_slice.ensures.value)
    (length-changed (at_position (moved_forms c.args.direction)) s.grip 0 old) in
    let small = subst (λ (a : AbstractState). AllSmallPlaces (moved a.grip c.args.direction a.places)) (sym c.self.view_is) c.requires in
    small_with_places _ _ s.grip c.self.invariant (subst AllSmallPlaces (sym written) small)

pub returns : goal.returns
returns c =
    let s = c.self.inside in
    let old = s.places.items in
    let new = moved s.grip c.args.direction old in
    let written = refilled old c.shift_group.new.places new (c.shift_group.ensures ∙ ap (moved s.grip c.args.direction) c.as_mut_slice.ensures.value)
    (length-changed (at_position (moved_forms c.args.direction)) s.grip 0 old) in
    ap (λ (places : List (Placement FormCell)). abstract_state s.ranges.items s.guards.items s.slots s.operands.items places s.tray s.grip s.cost) written
    ∙ ap (λ (a : AbstractState). with_places (moved a.grip c.args.direction a.places) a) c.self.view_is
