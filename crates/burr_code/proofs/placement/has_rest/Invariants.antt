use Rattle.std.proofs.Common.{ℕ, ◌<◌, IsBitSet}
use Rattle.burr_code.specs.Places.{LiesIn}
use Rattle.burr_code.proofs.placement.has_rest.Given as goal

-- those so far that lie in the tray are in the group
abbrev pub invariant-loop-piece : goal.invariant-loop-piece
invariant-loop-piece g l = (p : ℕ) → p < l.piece → LiesIn l.places p l.tray → ¬ (¬ IsBitSet l.group p)
