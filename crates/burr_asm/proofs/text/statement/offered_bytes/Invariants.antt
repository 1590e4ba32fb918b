use Rattle.std.proofs.Common.{length}
use Rattle.burr_asm.proofs.StatementBytes.{IsOfferedSoFar}
use Rattle.burr_asm.proofs.text.statement.offered_bytes.Given as goal

abbrev pub invariant-loop-name : goal.invariant-loop-name
invariant-loop-name l = IsOfferedSoFar l.labels l.names l.rest l.bytes.items

abbrev pub decreases-loop-name : goal.decreases-loop-name
decreases-loop-name l = length l.rest
