use Rattle.std.proofs.Common.{◌≡◌, ◌∙◌, true, sym, subst, refl, ap, length}
use Rattle.burr_assembly.specs.Rules.Homes.{homes_of}
use Rattle.burr_code.specs.Places.{IsPartOfTray, IsEmptyTray}
use Rattle.burr_state.specs.Rules.Bench.{BenchState}
use Rattle.burr_state.specs.Rules.Space.{motion_of}
use Rattle.burr_state.specs.Views.StateViews.{gone_aside}
use Rattle.burr_state.specs.Views.Benches.{Benched, benched, setup_of}
use Rattle.burr_text.proofs.Common.Tests.{yes_of, no_of}
use Rattle.burr_state.proofs.Common.Stepping.Steps.{aside_in_use, aside_not_free, aside_goes}
use Rattle.burr_bench.proofs.Stepping.Sound.{goes_on_aside, sound_aside}
use Rattle.burr_bench.proofs.Stepping.Ways.{as_many_homes, free_of_passing, passing_of_free}
use Rattle.burr_bench.proofs.checked.Checked.aside.Goals as goal

pub returns-then-not-is_empty-clause-follows : goal.returns-then-not-is_empty-clause-follows
returns-then-not-is_empty-clause-follows g c here runs =
    let at = c.state-state.ensures ∙ ap (λ (b : Benched). b.state) c.self.view_is in
    let part = subst (λ (s : BenchState). IsPartOfTray s.grip s.places s.tray) at (yes_of c.if-not-is_part_gripped.ensures) in
    let some = subst (λ (s : BenchState). ¬ IsEmptyTray s.places c.args.tray) at (no_of c.if-not-is_empty.ensures) in
    aside_in_use (setup_of c.args.self.now) here c.args.self.now.state c.args.direction c.args.tray part some

pub returns-then-not-passes-clause-follows : goal.returns-then-not-passes-clause-follows
returns-then-not-passes-clause-follows g c here runs =
    let now = c.args.self.now in
    let at = c.state-state.ensures ∙ ap (λ (b : Benched). b.state) c.self.view_is in
    let part = subst (λ (s : BenchState). IsPartOfTray s.grip s.places s.tray) at (yes_of c.if-not-is_part_gripped.ensures) in
    let empty = subst (λ (s : BenchState). IsEmptyTray s.places c.args.tray) at (yes_of c.if-not-is_empty.ensures) in
    let as_many = as_many_homes now.assembly now.state.places (subst (λ (b : Benched). length b.state.places ≡ length b.assembly.pieces) c.self.view_is c.self.invariant.as_many) in
    aside_not_free (setup_of now) here now.state c.args.direction c.args.tray part empty
    (λ free. no_of c.if-not-passes.ensures (passing_of_free (homes_of now.assembly) now.state.places now.state.tray now.state.grip c.args.direction as_many free))

pub invariant_of-self : goal.invariant_of-self
invariant_of-self g c =
    let old = benched (g.B.Blocking.subject c.self.inside.blocking.now) c.self.inside.bench.program c.self.inside.bench.state in
    sound_aside old _ c.args.tray c.self.invariant (subst (λ (s : BenchState). IsEmptyTray s.places c.args.tray) c.state-state.ensures (yes_of c.if-not-is_empty.ensures)) refl
    (ap (λ (s : BenchState). s.places) c.go_aside-motion.ensures.state) (ap (λ (s : BenchState). s.grip) c.go_aside-motion.ensures.state)

pub returns-clause-follows : goal.returns-clause-follows
returns-clause-follows g c here runs =
    let now = c.args.self.now in
    let at = c.state-state.ensures ∙ ap (λ (b : Benched). b.state) c.self.view_is in
    let part = subst (λ (s : BenchState). IsPartOfTray s.grip s.places s.tray) at (yes_of c.if-not-is_part_gripped.ensures) in
    let empty = subst (λ (s : BenchState). IsEmptyTray s.places c.args.tray) at (yes_of c.if-not-is_empty.ensures) in
    let free = free_of_passing (homes_of now.assembly) now.state.places now.state.tray now.state.grip c.args.direction (yes_of c.if-not-passes.ensures) in
    let went = subst (λ (b : Benched). c.go_aside-motion.new.self.state ≡ gone_aside c.args.tray c.args.size b.state) c.self.view_is c.go_aside-motion.ensures.state in
    let moves = subst (λ (b : Benched). c.go_aside-motion.result ≡ motion_of b.state.grip b.state.tray c.args.direction true) c.self.view_is c.go_aside-motion.ensures.motion in
    aside_goes (setup_of now) here now.state c.go_aside-motion.new.self.state c.args.direction c.args.tray c.args.size _ part empty free c.requires.size moves went

pub returns-clause-goes_on : goal.returns-clause-goes_on
returns-clause-goes_on g c =
    let part = subst (λ (s : BenchState). IsPartOfTray s.grip s.places s.tray) c.state-state.ensures (yes_of c.if-not-is_part_gripped.ensures) in
    let empty = subst (λ (s : BenchState). IsEmptyTray s.places c.args.tray) c.state-state.ensures (yes_of c.if-not-is_empty.ensures) in
    rw (sym c.self.view_is) (goes_on_aside _ _ _ c.args.tray c.self.invariant (ap (λ m. m.out) c.go_aside-motion.ensures.motion) part empty (ap (λ (s : BenchState). s.places) c.go_aside-motion.ensures.state))
