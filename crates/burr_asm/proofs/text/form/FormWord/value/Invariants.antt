use Rattle.std.proofs.Common.{length}
use Rattle.burr_asm.proofs.FormTerms.{IsFormWalk}
use Rattle.burr_asm.proofs.text.form.FormWord.value.Given as goal

abbrev pub invariant-loop-term : goal.invariant-loop-term
invariant-loop-term l = IsFormWalk l.live l.self.bytes.now l.coefs l.least l.rest

abbrev pub decreases-loop-term : goal.decreases-loop-term
decreases-loop-term l = length l.rest
