use Rattle.std.proofs.Common.{◌≤◌, ◌-◌}
use Rattle.burr_io.specs.LineWriter.{Flushes}
use Rattle.burr_io.proofs.line_writer.flush_front.Given as goal

-- all but what is left has been handed on
abbrev pub invariant-loop-left : goal.invariant-loop-left
invariant-loop-left g l =
    (l.left ≤ l.fn.count) × Flushes g.W.Sink l.fn.sink l.sink (l.fn.count - l.left) l.fn.held.items l.held.items

abbrev pub decreases-loop-left : goal.decreases-loop-left
decreases-loop-left g l = l.left
