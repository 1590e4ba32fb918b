use Rattle.std.proofs.Common.{ap}
use Rattle.burr_state.specs.Rules.Bench.{BenchState}
use Rattle.burr_state.proofs.Common.Stepping.Calls.{fits_within}
use Rattle.burr_state.proofs.bench.Bench.trap.Goals as goal

pub invariant_of-self : goal.invariant_of-self
invariant_of-self c =
    fits_within c.self.inside.program.procedures _ _ c.self.invariant
    (record { procedure = ap (λ (s : BenchState). s.running.procedure) c.trap.ensures; callers = ap (λ (s : BenchState). s.callers) c.trap.ensures })
