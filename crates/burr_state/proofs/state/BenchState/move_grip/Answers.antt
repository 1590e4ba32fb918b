use Rattle.std.proofs.Common.{◌∙◌, refl, ap, reverse, subst, sym}
use Rattle.burr_state.specs.Rules.Bench.{BenchState}
use Rattle.burr_state.specs.Views.StateViews.{standing, after, StaysOnBench, moved_grip}
use Rattle.burr_code.proofs.Common.Counts.{refilled}
use Rattle.burr_state.proofs.Common.Stepping.Steps.{orderly_unit}
use Rattle.burr_state.proofs.Common.Trays.Shifts.{length-moved}
use Rattle.burr_state.proofs.state.BenchState.move_grip.Goals as goal

pub invariant_of-self : goal.invariant_of-self
invariant_of-self c =
    let moved = refilled c.self.inside.places.items c.shift_group.new.places _ (rw (c.shift_group.ensures, c.as_mut_slice.ensures.value) refl) (length-moved c.self.inside.grip c.args.direction c.self.inside.places.items) in
    orderly_unit (standing c.self.inside.places.items c.self.inside.tray c.self.inside.grip c.self.inside.running (reverse c.self.inside.callers.items) c.self.inside.steps c.self.inside.mode) _ c.args.direction c.self.invariant
    (subst (λ (s : BenchState). StaysOnBench s c.args.direction) (sym c.self.view_is) c.requires.on_bench) moved refl refl c.self.invariant.within c.self.invariant.chain

pub returns : goal.returns
returns c =
    let moved = refilled c.self.inside.places.items c.shift_group.new.places _ (rw (c.shift_group.ensures, c.as_mut_slice.ensures.value) refl) (length-moved c.self.inside.grip c.args.direction c.self.inside.places.items) in
    c.go_after.ensures
    ∙ ap (λ places. after c.args.size (standing places c.self.inside.tray c.self.inside.grip c.self.inside.running (reverse c.self.inside.callers.items) c.self.inside.steps c.self.inside.mode)) moved
    ∙ ap (λ (s : BenchState). moved_grip c.args.direction c.args.size s) c.self.view_is
