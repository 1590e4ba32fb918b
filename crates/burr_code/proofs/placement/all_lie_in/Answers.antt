use Rattle.std.proofs.Common.{rules, arith, IsBitSet}
use Rattle.burr_code.specs.Places.{LiesIn}
use Rattle.burr_code.proofs.Common.Conditions.{all_lie_of}
use Rattle.burr_text.proofs.Common.Tests.{yes_of, no_of, yes_iff, one_more_number}
use Rattle.burr_code.proofs.placement.all_lie_in.Goals as goal
use Rattle.burr_code.proofs.placement.all_lie_in.Goals.{else-is_in_set-via-then-is_in_set+else-not-lies_in, else-is_in_set-via-else-is_in_set}

pub loop-piece-preserved : goal.loop-piece-preserved
loop-piece-preserved g c =
    one_more_number (λ p. IsBitSet c.args.set p → LiesIn c.args.places.now p c.args.tray) c.loop-piece.piece c.loop-piece.invariant
    (elim c.else-is_in_set.branch [
      | else-is_in_set-via-then-is_in_set+else-not-lies_in w ↦ λ bit. yes_of w.if-not-lies_in.ensures
      | else-is_in_set-via-else-is_in_set w ↦ λ bit. absurd (no_of w.if-is_in_set.ensures bit)
    ])

pub returns : goal.returns
returns g c = yes_iff (all_lie_of c.args.places.now c.args.tray c.args.set (search rules) (λ p inside. c.loop-piece.invariant p (omega (arith, inside, c.loop-piece-test.false))))
