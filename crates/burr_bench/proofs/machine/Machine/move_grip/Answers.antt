use Rattle.std.proofs.Common.{◌≡◌, Some, refl, subst, sym}
use Rattle.burr_code.specs.Instruction.{Step}
use Rattle.burr_state.specs.declared.effect.Effect.TheVariants as effects
use Rattle.burr_state.specs.declared.effect.Mode.TheVariants.{Running}
use Rattle.burr_state.specs.Views.Benches.{Benched, benched}
use Rattle.burr_state.specs.Views.Work.{IsNext, work}
use Rattle.burr_bench.proofs.Stepping.Safe.{carried, step_carries}
use Rattle.burr_bench.proofs.machine.Machine.move_grip.Goals as goal

pub move_grip-requires-clause-on_bench : goal.move_grip-requires-clause-on_bench
move_grip-requires-clause-on_bench c =
    let old = benched c.self.inside.assembly.now c.self.inside.bench.program c.self.inside.bench.state in
    let is = subst (λ (b : Benched). b.state.mode ≡ Running) (sym c.self.view_is) c.requires.running in
    let next = subst (λ (b : Benched). IsNext (work b.program b.state) (Step c.args.direction) c.args.size) (sym c.self.view_is) c.requires.next in
    (c.an_accepted_bench_never_traps.ensures.step old next.stands.0 c.args.direction c.self.invariant.safe is next.stands.1).1

pub invariant_of-self : goal.invariant_of-self
invariant_of-self c =
    let old = benched c.self.inside.assembly.now c.self.inside.bench.program c.self.inside.bench.state in
    let new = benched c.self.inside.assembly.now c.move_grip.new.self.program c.move_grip.new.self.state in
    let is = subst (λ (b : Benched). b.state.mode ≡ Running) (sym c.self.view_is) c.requires.running in
    let next = subst (λ (b : Benched). IsNext (work b.program b.state) (Step c.args.direction) c.args.size) (sym c.self.view_is) c.requires.next in
    let laws = c.an_accepted_bench_never_traps.ensures in
    let moved = step_carries laws.step old new c.args.direction c.args.size c.move_grip.result c.self.invariant is next c.move_grip.ensures.motion
    (record { assembly = refl; program = c.move_grip.ensures.program }) c.move_grip.ensures.state in
    record { sound = moved.1; safe = carried laws.call old new (effects.Goes (Some c.move_grip.result)) c.self.invariant.safe is moved.0 }

pub returns : goal.returns
returns c =
    let old = benched c.self.inside.assembly.now c.self.inside.bench.program c.self.inside.bench.state in
    let new = benched c.self.inside.assembly.now c.move_grip.new.self.program c.move_grip.new.self.state in
    let is = subst (λ (b : Benched). b.state.mode ≡ Running) (sym c.self.view_is) c.requires.running in
    let next = subst (λ (b : Benched). IsNext (work b.program b.state) (Step c.args.direction) c.args.size) (sym c.self.view_is) c.requires.next in
    rw (← c.self.view_is)
    (step_carries c.an_accepted_bench_never_traps.ensures.step old new c.args.direction c.args.size c.move_grip.result c.self.invariant is next c.move_grip.ensures.motion
    (record { assembly = refl; program = c.move_grip.ensures.program }) c.move_grip.ensures.state).0
