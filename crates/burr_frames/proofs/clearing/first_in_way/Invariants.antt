use Rattle.std.proofs.Common.{drop}
use Rattle.burr_frames.specs.Views.Clearing.{row_of}
use Rattle.burr_frames.proofs.PairsLeft.{PairsLeft}
use Rattle.burr_frames.proofs.clearing.first_in_way.Given as goal

-- the piece is clear of the others so far, and was looked at with each
abbrev pub invariant-loop-other : goal.invariant-loop-other
invariant-loop-other g l =
    PairsLeft l.initial.looks.assembly l.query l.values (row_of l.piece l.left)
    (row_of l.piece (drop l.other-index l.left)) l.initial.looks l.looks
