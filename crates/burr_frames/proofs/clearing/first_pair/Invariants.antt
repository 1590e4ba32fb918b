use Rattle.std.proofs.Common.{drop}
use Rattle.burr_frames.specs.Rules.Looks.{pairs_of}
use Rattle.burr_frames.proofs.PairsLeft.{PairsLeft}
use Rattle.burr_frames.proofs.clearing.first_pair.Given as goal

-- the pairs of the gripped pieces so far are clear and were looked at
abbrev pub invariant-loop-piece : goal.invariant-loop-piece
invariant-loop-piece g l =
    PairsLeft l.initial.looks.assembly l.query l.values (pairs_of l.gripped l.left)
    (pairs_of (drop l.piece-index l.gripped) l.left) l.initial.looks l.looks
