use Rattle.std.proofs.Common.{◌∙◌, refl, ap, reverse}
use Rattle.burr_code.specs.Places.{aside_places}
use Rattle.burr_state.specs.Rules.Bench.{BenchState}
use Rattle.burr_state.specs.Views.StateViews.{standing, after}
use Rattle.burr_code.proofs.Common.Counts.{length-aside_places, refilled}
use Rattle.burr_state.proofs.Common.Stepping.Steps.{orderly_aside}
use Rattle.burr_state.proofs.state.BenchState.go_aside.Goals as goal

pub invariant_of-self : goal.invariant_of-self
invariant_of-self c =
    let moved = refilled c.self.inside.places.items c.take_aside.new.places _ (rw (c.take_aside.ensures, c.as_mut_slice.ensures.value) refl) (length-aside_places c.self.inside.grip c.self.inside.tray c.args.tray c.self.inside.places.items) in
    orderly_aside (standing c.self.inside.places.items c.self.inside.tray c.self.inside.grip c.self.inside.running (reverse c.self.inside.callers.items) c.self.inside.steps c.self.inside.mode) _ c.args.tray c.self.invariant moved refl c.self.invariant.within c.self.invariant.chain

pub returns : goal.returns
returns c =
    let moved = refilled c.self.inside.places.items c.take_aside.new.places _ (rw (c.take_aside.ensures, c.as_mut_slice.ensures.value) refl) (length-aside_places c.self.inside.grip c.self.inside.tray c.args.tray c.self.inside.places.items) in
    c.go_after.ensures
    ∙ ap (λ places. after c.args.size (standing places c.self.inside.tray 0 c.self.inside.running (reverse c.self.inside.callers.items) c.self.inside.steps c.self.inside.mode)) moved
    ∙ ap (λ (s : BenchState). record (after c.args.size s) { places = aside_places s.grip s.tray c.args.tray s.places; grip = 0 }) c.self.view_is
