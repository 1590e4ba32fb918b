use Rattle.std.proofs.Common.{rules}
use Rattle.burr_io.proofs.Flushing.{Flushes-turn}
use Rattle.burr_io.proofs.line_writer.flush_front.Goals as goal

pub loop-left-preserved : goal.loop-left-preserved
loop-left-preserved g c =
    Flushes-turn c.args.count c.loop-left.left c.in_ok-taken.taken c.args.held.now.items c.loop-left.held.items c.drop_front.new.held.items c.loop-left.invariant.0
    c.loop-left.invariant.1 (search rules) (search rules) (search rules) (search rules)
