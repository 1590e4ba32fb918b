use Rattle.std.proofs.Common.{ap, subst, sym}
use Rattle.burr_state.specs.Rules.Bench.{BenchState}
use Rattle.burr_state.specs.Views.StateViews.{StaysOnBench}
use Rattle.burr_state.specs.Views.Work.{Work}
use Rattle.burr_state.proofs.Common.Stepping.Calls.{fits_within}
use Rattle.burr_state.proofs.bench.Bench.move_grip.Goals as goal

pub invariant_of-self : goal.invariant_of-self
invariant_of-self c =
    fits_within c.self.inside.program.procedures _ _ c.self.invariant
    (record { procedure = ap (λ (s : BenchState). s.running.procedure) c.move_grip.ensures; callers = ap (λ (s : BenchState). s.callers) c.move_grip.ensures })

pub move_grip-requires-clause-on_bench : goal.move_grip-requires-clause-on_bench
move_grip-requires-clause-on_bench c =
    subst (λ (w : Work). StaysOnBench w.state c.args.direction) (sym c.self.view_is) c.requires.on_bench

pub returns-clause-state : goal.returns-clause-state
returns-clause-state c = rw (← c.self.view_is) c.move_grip.ensures
