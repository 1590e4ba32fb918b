use Rattle.std.proofs.Common.{ap}
use Rattle.burr_state.specs.Rules.Bench.{BenchState}
use Rattle.burr_state.proofs.Common.Stepping.Calls.{fits_within}
use Rattle.burr_state.proofs.bench.Bench.go_aside.Goals as goal

pub invariant_of-self : goal.invariant_of-self
invariant_of-self c =
    fits_within c.self.inside.program.procedures _ _ c.self.invariant
    (record { procedure = ap (λ (s : BenchState). s.running.procedure) c.go_aside.ensures; callers = ap (λ (s : BenchState). s.callers) c.go_aside.ensures })

pub returns-clause-state : goal.returns-clause-state
returns-clause-state c = rw (← c.self.view_is) c.go_aside.ensures
