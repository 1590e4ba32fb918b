use Rattle.std.proofs.Common.{length}
use Rattle.burr_asm.proofs.PieceSets.{IsSetWalk}
use Rattle.burr_asm.proofs.text.words.piece_set.Given as goal

abbrev pub invariant-loop-number : goal.invariant-loop-number
invariant-loop-number l = IsSetWalk l.bound l.fn.word.bytes.now l.set l.least l.rest

abbrev pub decreases-loop-number : goal.decreases-loop-number
decreases-loop-number l = length l.rest
