use Rattle.std.proofs.Common.{◌≡◌, refl, subst, sym}
use Rattle.std.specs.Prelude.{Result}
use Rattle.burr_assembly.specs.Rules.Homes.{homes_of}
use Rattle.burr_state.specs.declared.effect.Effect.{Effect}
use Rattle.burr_state.specs.declared.effect.Mode.TheVariants.{Running}
use Rattle.burr_state.specs.declared.effect.Trap.{Trap}
use Rattle.burr_state.specs.Rules.Step.{NextIs}
use Rattle.burr_state.specs.Views.Benches.{Benched, benched, setup_of}
use Rattle.burr_state.specs.Views.Effects.{next_of}
use Rattle.burr_bench.proofs.Stepping.Safe.{carried, execute_carries}
use Rattle.burr_bench.proofs.Stepping.Sound.{sound_staying}
use Rattle.burr_bench.proofs.machine.Machine.execute.Goals as goal

pub unreachable-requires : goal.unreachable-requires
unreachable-requires c =
    let old = benched c.self.inside.assembly.now c.self.inside.bench.program c.self.inside.bench.state in
    let is = subst (λ (b : Benched). b.state.mode ≡ Running) (sym c.self.view_is) c.requires.running in
    c.an_accepted_bench_never_traps.ensures.next old c.in-Err.field-0 c.self.invariant.safe is
    (subst (λ (r : Result Effect Trap). NextIs (setup_of old) old.state (next_of r c.execute.new.self.state)) c.in-Err.is (c.execute.ensures.next (homes_of old.assembly)))

pub invariant_of-self : goal.invariant_of-self
invariant_of-self c =
    let a = c.self.inside.assembly.now in
    let old = benched a c.self.inside.bench.program c.self.inside.bench.state in
    let new = benched a c.execute.new.self.program c.execute.new.self.state in
    let is = subst (λ (b : Benched). b.state.mode ≡ Running) (sym c.self.view_is) c.requires.running in
    let done = execute_carries a c.self.inside.bench c.execute.new.self c.execute.result c.in-Ok.effect c.in-Ok.is c.self.invariant (c.execute.ensures.next (homes_of a)) c.execute.ensures.kept c.execute.ensures.no_motion c.execute.ensures.pieces c.execute.ensures.program in
    record {
      sound = sound_staying old new c.self.invariant.sound refl c.execute.ensures.pieces;
      safe = carried c.an_accepted_bench_never_traps.ensures.call old new c.in-Ok.effect c.self.invariant.safe is done;
    }

pub returns : goal.returns
returns c =
    let a = c.self.inside.assembly.now in
    rw (← c.self.view_is)
    (execute_carries a c.self.inside.bench c.execute.new.self c.execute.result c.in-Ok.effect c.in-Ok.is c.self.invariant (c.execute.ensures.next (homes_of a)) c.execute.ensures.kept c.execute.ensures.no_motion c.execute.ensures.pieces c.execute.ensures.program)
