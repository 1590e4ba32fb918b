use Rattle.std.proofs.Common.{◌≡◌, ◌<◌, ℕ, length, get_or, vec_len}
use Rattle.burr_blocking.specs.declared.triangle.translate.Pair.{Pair}
use Rattle.burr_blocking.specs.Views.Triangles.{IsPairOfTwo}
use Rattle.burr_blocking.proofs.triangle.Classes.row.Given as goal

-- the pairs so far are those with the first pieces
abbrev pub invariant-loop-other : goal.invariant-loop-other
invariant-loop-other l =
    (vec_len l.row ≡ l.other)
    × ((q : ℕ) (d : Pair) → q < length l.row.items → IsPairOfTwo l.fn.self l.fn.piece q (get_or l.row.items q d))
