use Rattle.std.specs.Prelude.{◌-◌}
use Rattle.burr_step.proofs.MakingLines.{IsMaking}
use Rattle.burr_step.proofs.drive.make_line.Given as goal

-- the steps of the line so far are made
abbrev pub invariant-loop-motion : goal.invariant-loop-motion
invariant-loop-motion l = IsMaking l.fn.first l.fn.machine l.line l.machine

-- the budget bounds them
abbrev pub decreases-loop-motion : goal.decreases-loop-motion
decreases-loop-motion l = l.machine.program.budget - l.machine.state.steps
