use Rattle.std.proofs.Common.{◌≡◌, Some, refl, subst, sym}
use Rattle.burr_code.specs.Instruction.{Aside}
use Rattle.burr_state.specs.declared.effect.Effect.TheVariants as effects
use Rattle.burr_state.specs.declared.effect.Mode.TheVariants.{Running}
use Rattle.burr_state.specs.Views.Benches.{Benched, benched}
use Rattle.burr_state.specs.Views.Work.{IsNext, work}
use Rattle.burr_bench.proofs.Stepping.Safe.{carried, aside_carries}
use Rattle.burr_bench.proofs.machine.Machine.go_aside.Goals as goal

pub invariant_of-self : goal.invariant_of-self
invariant_of-self c =
    let old = benched c.self.inside.assembly.now c.self.inside.bench.program c.self.inside.bench.state in
    let new = benched c.self.inside.assembly.now c.go_aside.new.self.program c.go_aside.new.self.state in
    let is = subst (λ (b : Benched). b.state.mode ≡ Running) (sym c.self.view_is) c.requires.running in
    let next = subst (λ (b : Benched). IsNext (work b.program b.state) (Aside c.args.direction c.args.tray) c.args.size) (sym c.self.view_is) c.requires.next in
    let laws = c.an_accepted_bench_never_traps.ensures in
    let moved = aside_carries laws.aside old new c.args.direction c.args.tray c.args.size c.go_aside.result c.self.invariant is next c.go_aside.ensures.motion
    (record { assembly = refl; program = c.go_aside.ensures.program }) c.go_aside.ensures.state in
    record { sound = moved.1; safe = carried laws.call old new (effects.Goes (Some c.go_aside.result)) c.self.invariant.safe is moved.0 }

pub returns : goal.returns
returns c =
    let old = benched c.self.inside.assembly.now c.self.inside.bench.program c.self.inside.bench.state in
    let new = benched c.self.inside.assembly.now c.go_aside.new.self.program c.go_aside.new.self.state in
    let is = subst (λ (b : Benched). b.state.mode ≡ Running) (sym c.self.view_is) c.requires.running in
    let next = subst (λ (b : Benched). IsNext (work b.program b.state) (Aside c.args.direction c.args.tray) c.args.size) (sym c.self.view_is) c.requires.next in
    rw (← c.self.view_is)
    (aside_carries c.an_accepted_bench_never_traps.ensures.aside old new c.args.direction c.args.tray c.args.size c.go_aside.result c.self.invariant is next c.go_aside.ensures.motion
    (record { assembly = refl; program = c.go_aside.ensures.program }) c.go_aside.ensures.state).0
