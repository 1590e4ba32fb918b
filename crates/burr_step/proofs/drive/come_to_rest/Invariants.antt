use Rattle.std.specs.Prelude.{◌-◌, []}
use Rattle.burr_state.specs.Views.Benches.{setup_of, IsSameRun}
use Rattle.burr_bench.specs.Soundness.Machine.{IsSafeBench}
use Rattle.burr_step.specs.Rules.Moves.{Makes}
use Rattle.burr_step.proofs.drive.come_to_rest.Given as goal

-- steps were made that move no piece
abbrev pub invariant-loop-machine : goal.invariant-loop-machine
invariant-loop-machine l =
    IsSafeBench l.machine × IsSameRun l.fn.machine l.machine × Makes (setup_of l.fn.machine) l.fn.machine.state [] l.machine.state

-- the budget bounds them
abbrev pub decreases-loop-machine : goal.decreases-loop-machine
decreases-loop-machine l = l.machine.program.budget - l.machine.state.steps
