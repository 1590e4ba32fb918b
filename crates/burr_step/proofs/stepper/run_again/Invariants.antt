use Rattle.burr_step.specs.Views.Stepping.{IsAgain}
use Rattle.burr_step.proofs.stepper.run_again.Given as goal

-- the first `_step` steps are made again
abbrev pub invariant-loop-step : goal.invariant-loop-step
invariant-loop-step l = IsAgain l.fn.answers l._step l.taken l.fn.machine l.machine l.records
