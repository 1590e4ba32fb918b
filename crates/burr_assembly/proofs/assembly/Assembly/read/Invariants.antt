use Rattle.std.proofs.Common.{length}
use Rattle.burr_assembly.specs.Views.ReaderViews.{beginning_of, IsHome}
use Rattle.burr_assembly.proofs.LineByLine.{IsReadTo}
use Rattle.burr_assembly.proofs.assembly.Assembly.read.Given as goal

-- the lines so far are a beginning, and what the rest gives after it the text gives
abbrev pub invariant-loop-rest : goal.invariant-loop-rest
invariant-loop-rest l = IsReadTo l.fn.text l.line (beginning_of l.beginning) l.rest × IsHome l.beginning

abbrev pub decreases-loop-rest : goal.decreases-loop-rest
decreases-loop-rest l = length l.rest
