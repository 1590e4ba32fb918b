use Rattle.std.proofs.Common.{ℕ, ◌<◌, IsBitSet}
use Rattle.burr_code.specs.Places.{LiesIn}
use Rattle.burr_code.proofs.placement.all_lie_in.Given as goal

-- those of the set so far lie here
abbrev pub invariant-loop-piece : goal.invariant-loop-piece
invariant-loop-piece g l = (p : ℕ) → p < l.piece → IsBitSet l.set p → LiesIn l.places p l.tray
