use Rattle.std.proofs.Common.{◌≡◌, ◌<◌, ℕ, Vec, length, get_or, vec_len}
use Rattle.std.specs.declared.alloc.Global.{Global}
use Rattle.burr_blocking.specs.declared.triangle.translate.Pair.{Pair}
use Rattle.burr_blocking.specs.Views.Triangles.{IsRowOf}
use Rattle.burr_blocking.proofs.triangle.Classes.rows.Given as goal

-- the rows so far are those of the first pieces
abbrev pub invariant-loop-piece : goal.invariant-loop-piece
invariant-loop-piece l =
    (vec_len l.rows ≡ l.piece)
    × ((p : ℕ) (d : Vec Pair Global) → p < length l.rows.items → IsRowOf l.fn.self p (get_or l.rows.items p d).items)
