use Rattle.burr_runs.specs.Views.Running.{IsInStep, PutsPart, run_state, left_to_take}
use Rattle.burr_runs.specs.Views.AfterRuns.{HasComeOn}
use Rattle.burr_runs.proofs.runs.run_to_close.Given as goal

-- a part of the run was made, and of its sheet put
abbrev pub invariant-loop-answers : goal.invariant-loop-answers
invariant-loop-answers g l =
    IsInStep (g.R.Runner.benched l.runner) l.sheet × HasComeOn (g.R.Runner.benched l.fn.runner) l.fn.answers (g.R.Runner.benched l.runner) l.answers
    × PutsPart g.W.Sink l.fn.sink l.sink (run_state (g.R.Runner.benched l.fn.runner) l.fn.answers l.fn.sheet) (run_state (g.R.Runner.benched l.runner) l.answers l.sheet)

-- each turn makes a step or takes an answer
abbrev pub decreases-loop-answers : goal.decreases-loop-answers
decreases-loop-answers g l = left_to_take (run_state (g.R.Runner.benched l.runner) l.answers l.sheet)
