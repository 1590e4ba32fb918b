use Rattle.std.specs.Prelude.{◌-◌}
use Rattle.burr_state.specs.Views.Benches.{setup_of}
use Rattle.burr_step.specs.Views.Stepping.{IsUpTo, StopsFor}
use Rattle.burr_step.proofs.stepper.Stepper.go_to.Given as goal

-- steps were made, and none but perhaps the last came to the place
abbrev pub invariant-loop-stop : goal.invariant-loop-stop
invariant-loop-stop l = IsUpTo (StopsFor (setup_of l.fn.self.bench) l.fn.stop) l.fn.self l.self

-- the budget bounds them
abbrev pub decreases-loop-stop : goal.decreases-loop-stop
decreases-loop-stop l = l.self.bench.program.budget - l.self.history.steps
