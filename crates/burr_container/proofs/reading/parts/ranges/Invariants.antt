-- The ranges so far are read.
use Rattle.burr_container.proofs.RangesWalk.{AreRangesRead}
use Rattle.burr_container.proofs.reading.parts.ranges.Given as goal

abbrev pub invariant-loop-n : goal.invariant-loop-n
invariant-loop-n l = AreRangesRead l.count l.initial.cursor l.n l.ranges l.cursor
