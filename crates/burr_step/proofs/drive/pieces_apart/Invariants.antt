use Rattle.burr_step.proofs.ApartSets.{AreApartBelow}
use Rattle.burr_step.proofs.drive.pieces_apart.Given as goal

-- of the pieces so far exactly these are apart
abbrev pub invariant-loop-piece : goal.invariant-loop-piece
invariant-loop-piece l = AreApartBelow l.state.places l.piece l.apart
