use Rattle.burr_program.specs.Ends.{runs_lines}
use Rattle.burr_program.specs.HowFar.{HasTold}
use Rattle.burr_program.proofs.commands.frames.make_runs.Given as goal

-- how many runs were made so far is told
abbrev pub invariant-loop-round : goal.invariant-loop-round
invariant-loop-round g l = record {
  told : HasTold g.E.Sink l.fn.errors l.errors (runs_lines l.round);
}
