use Rattle.std.proofs.Common.{ℕ, ◌<◌}
use Rattle.burr_blocking.specs.Views.Classes.{IsAnother}
use Rattle.burr_blocking.proofs.triangle.Classes.has_several.Given as goal

-- none of the first pieces is another one of the class
abbrev pub invariant-loop-piece : goal.invariant-loop-piece
invariant-loop-piece l = (p : ℕ) → p < l.piece → ¬ IsAnother l.fn.self l.fn.class p
