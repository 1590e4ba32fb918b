use Rattle.std.proofs.Common.{arith, ◌+◌}
use Rattle.burr_program.proofs.HowFar.{more_runs, tells_nothing}
use Rattle.burr_program.proofs.commands.frames.make_runs.Goals as goal

pub loop-round-init : goal.loop-round-init
loop-round-init g c = record { told = tells_nothing g.E.Sink c.args.errors.now c.requires.told }

pub loop-round-preserved : goal.loop-round-preserved
loop-round-preserved g c = record {
  told = more_runs g.E.Sink c.args.errors.now c.loop-round.errors c.tell_runs.new.errors c.loop-round.round (c.loop-round.round + 1) (omega arith) c.loop-round.invariant.told c.tell_runs.ensures;
}
