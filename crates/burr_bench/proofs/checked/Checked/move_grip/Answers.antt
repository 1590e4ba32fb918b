use Rattle.std.proofs.Common.{◌≡◌, ◌≢◌, ◌∙◌, false, sym, subst, refl, ap, length, rules}
use Rattle.burr_assembly.specs.Rules.Homes.{homes_of}
use Rattle.burr_state.specs.Rules.Bench.{BenchState}
use Rattle.burr_state.specs.Rules.Space.{NoOverlap, motion_of}
use Rattle.burr_state.specs.Views.StateViews.{moved_grip, StaysOnBench}
use Rattle.burr_state.specs.Views.Benches.{Benched, benched, setup_of}
use Rattle.burr_bench.specs.BenchViews.{GripPasses}
use Rattle.burr_bench.specs.declared.checked.Way.TheVariants.{Unit}
use Rattle.burr_text.proofs.Common.Tests.{yes_of, no_of}
use Rattle.burr_state.proofs.Common.Stepping.Steps.{step_off_bench, step_collides, step_goes}
use Rattle.burr_bench.proofs.Stepping.Sound.{goes_on_unit, sound_unit}
use Rattle.burr_bench.proofs.Stepping.Ways.{as_many_homes, no_overlap_of_passing, passing_of_no_overlap}
use Rattle.burr_bench.proofs.checked.Checked.move_grip.Goals as goal

pub returns-then-not-stays_on_bench-clause-follows : goal.returns-then-not-stays_on_bench-clause-follows
returns-then-not-stays_on_bench-clause-follows g c here runs =
    let now = c.args.self.now in
    let some : now.state.grip ≢ 0 = search rules in
    let off = subst (λ (s : BenchState). ¬ StaysOnBench s c.args.direction) (c.state-state.ensures ∙ ap (λ (b : Benched). b.state) c.self.view_is) (no_of c.if-not-stays_on_bench.ensures) in
    step_off_bench (setup_of now) here now.state c.args.direction some off

pub passes-requires : goal.passes-requires
passes-requires g c = subst (λ (s : BenchState). StaysOnBench s c.args.direction) (c.state-state.ensures ∙ ap (λ (b : Benched). b.state) c.self.view_is) (yes_of c.if-not-stays_on_bench.ensures)

pub returns-then-not-passes-clause-follows : goal.returns-then-not-passes-clause-follows
returns-then-not-passes-clause-follows g c here runs =
    let now = c.args.self.now in
    let some : now.state.grip ≢ 0 = search rules in
    let stays = subst (λ (s : BenchState). StaysOnBench s c.args.direction) (c.state-state.ensures ∙ ap (λ (b : Benched). b.state) c.self.view_is) (yes_of c.if-not-stays_on_bench.ensures) in
    let as_many = as_many_homes now.assembly now.state.places (subst (λ (b : Benched). length b.state.places ≡ length b.assembly.pieces) c.self.view_is c.self.invariant.as_many) in
    step_collides (setup_of now) here now.state c.args.direction some stays
    (λ none. no_of c.if-not-passes.ensures (passing_of_no_overlap (homes_of now.assembly) now.state.places now.state.tray now.state.grip c.args.direction as_many none))

pub move_grip-motion-requires-clause-on_bench : goal.move_grip-motion-requires-clause-on_bench
move_grip-motion-requires-clause-on_bench g c = subst (λ (s : BenchState). StaysOnBench s c.args.direction) c.state-state.ensures (yes_of c.if-not-stays_on_bench.ensures)

pub invariant_of-self : goal.invariant_of-self
invariant_of-self g c =
    let old = benched (g.B.Blocking.subject c.self.inside.blocking.now) c.self.inside.bench.program c.self.inside.bench.state in
    let passes = subst (λ (b : Benched). GripPasses b (Unit c.args.direction)) (sym c.self.view_is) (yes_of c.if-not-passes.ensures) in
    let none = no_overlap_of_passing (homes_of old.assembly) old.state.places old.state.tray old.state.grip c.args.direction (c.self.invariant.apart old.state.tray) passes in
    sound_unit old _ c.args.direction c.self.invariant none refl
    (ap (λ (s : BenchState). s.places) c.move_grip-motion.ensures.state) (ap (λ (s : BenchState). s.tray) c.move_grip-motion.ensures.state) (ap (λ (s : BenchState). s.grip) c.move_grip-motion.ensures.state)

pub returns-clause-follows : goal.returns-clause-follows
returns-clause-follows g c here runs =
    let now = c.args.self.now in
    let some : now.state.grip ≢ 0 = search rules in
    let stays = subst (λ (s : BenchState). StaysOnBench s c.args.direction) (c.state-state.ensures ∙ ap (λ (b : Benched). b.state) c.self.view_is) (yes_of c.if-not-stays_on_bench.ensures) in
    let apart = (subst (λ (b : Benched). NoOverlap (homes_of b.assembly) b.state.places) c.self.view_is c.self.invariant.apart) now.state.tray in
    let none = no_overlap_of_passing (homes_of now.assembly) now.state.places now.state.tray now.state.grip c.args.direction apart (yes_of c.if-not-passes.ensures) in
    let went = subst (λ (b : Benched). c.move_grip-motion.new.self.state ≡ moved_grip c.args.direction c.args.size b.state) c.self.view_is c.move_grip-motion.ensures.state in
    let moves = subst (λ (b : Benched). c.move_grip-motion.result ≡ motion_of b.state.grip b.state.tray c.args.direction false) c.self.view_is c.move_grip-motion.ensures.motion in
    step_goes (setup_of now) here now.state c.move_grip-motion.new.self.state c.args.direction c.args.size _ some stays none c.requires.size moves went

pub returns-clause-goes_on : goal.returns-clause-goes_on
returns-clause-goes_on g c =
    rw (sym c.self.view_is) (goes_on_unit _ _ _ c.args.direction c.self.invariant (ap (λ m. m.out) c.move_grip-motion.ensures.motion) (ap (λ (s : BenchState). s.places) c.move_grip-motion.ensures.state))
