use Rattle.std.proofs.Common.{inr, refl}
use Rattle.burr_state.specs.declared.effect.Trap.TheVariants as traps
use Rattle.burr_bench.proofs.machine.Machine.carry_out.Goals as goal

pub unreachable-requires : goal.unreachable-requires
unreachable-requires c =
    c.an_accepted_bench_never_traps.ensures.next c.args.self.now traps.BadCode (rw (← c.self.view_is) c.self.invariant.safe) c.requires.running
    (rw (← c.self.view_is) (inr ((λ here i at. c.in_default.ensures i (here, at)), refl)))
