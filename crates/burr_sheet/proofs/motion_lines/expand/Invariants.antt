use Rattle.std.proofs.Common.{length}
use Rattle.burr_assembly.specs.Rules.Homes.{names_of}
use Rattle.burr_sheet.proofs.LineByLine.{Expands}
use Rattle.burr_sheet.proofs.motion_lines.expand.Given as goal

-- the motions so far are read
abbrev pub invariant-loop-rest : goal.invariant-loop-rest
invariant-loop-rest l = Expands (names_of l.assembly) l.text l.motions.items l.last l.number l.rest

abbrev pub decreases-loop-rest : goal.decreases-loop-rest
decreases-loop-rest l = length l.rest
