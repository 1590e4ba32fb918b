-- The places are written back whole.
use Rattle.std.proofs.Common.{◌∙◌, ap, sym, subst, List}
use Rattle.burr_code.specs.declared.placement.Placement.{Placement}
use Rattle.burr_code.specs.Places.{aside_places}
use Rattle.burr_container.specs.Rules.Plans.{FormCell}
use Rattle.burr_frames.specs.Rules.States.{AbstractState}
use Rattle.burr_frames.specs.Views.StateViews.{abstract_state}
use Rattle.burr_frames.specs.Views.Changes.{with_grip, with_places}
use Rattle.burr_frames.specs.Rules.SpaceRules.{AllSmallPlaces}
use Rattle.burr_code.proofs.Common.Counts.{length-aside_places, refilled}
use Rattle.burr_frames.proofs.SmallPlaces.{small_aside, small_with_places}
use Rattle.burr_frames.proofs.state.State.go_aside.Goals as goal

pub invariant_of-self : goal.invariant_of-self
invariant_of-self c =
    let s = c.self.inside in
    let old = s.places.items in
    let new = aside_places s.grip s.tray c.args.tray old in
    let written = refilled old c.take_aside.new.places new (c.take_aside.ensures ∙ ap (aside_places s.grip s.tray c.args.tray) c.as_mut_slice.ensures.value)
    (length-aside_places s.grip s.tray c.args.tray old) in
    small_with_places _ _ 0 c.self.invariant (subst AllSmallPlaces (sym written) (small_aside s.grip s.tray c.args.tray old c.self.invariant.places))

pub returns : goal.returns
returns c =
    let s = c.self.inside in
    let old = s.places.items in
    let new = aside_places s.grip s.tray c.args.tray old in
    let written = refilled old c.take_aside.new.places new (c.take_aside.ensures ∙ ap (aside_places s.grip s.tray c.args.tray) c.as_mut_slice.ensures.value)
    (length-aside_places s.grip s.tray c.args.tray old) in
    ap (λ (places : List (Placement FormCell)). abstract_state s.ranges.items s.guards.items s.slots s.operands.items places s.tray 0 s.cost) written
    ∙ ap (λ (a : AbstractState). with_grip 0 (with_places (aside_places a.grip a.tray c.args.tray a.places) a)) c.self.view_is
