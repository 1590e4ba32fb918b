-- The next piece is written, if the set has it.
use Rattle.std.proofs.Common.{◌+◌, arith, rules}
use Rattle.burr_plantext.proofs.SetSteps.{odd_turn, even_turn}
use Rattle.burr_plantext.proofs.numbers.add_set.Goals as goal
use Rattle.burr_plantext.proofs.numbers.add_set.Goals.{then-rest-eq1+in_ok-add_number, else-rest-eq1}

pub loop-piece-preserved : goal.loop-piece-preserved
loop-piece-preserved c =
    let piece = c.loop-piece.piece in
    elim c.if-rest-eq1.branch [
      | then-rest-eq1+in_ok-add_number w ↦
          rw (w.text-is, w.separator-is, w.in_ok-add_number.ensures)
          (odd_turn c.loop-piece.text.items c.loop-piece.separator.now _ piece (piece + 1) c.loop-piece.rest c.loop-piece-test.true (omega arith) (search rules) c.loop-piece.invariant)
      | else-rest-eq1 w ↦
          rw (w.text-is, w.separator-is)
          (even_turn c.loop-piece.text.items c.loop-piece.separator.now _ piece (piece + 1) c.loop-piece.rest c.loop-piece-test.true (omega arith) (search rules) c.loop-piece.invariant)
    ]
