use Rattle.std.proofs.Common.{◌≡◌, ◌<◌, ℕ, List, Vec, length, get_or, sym, subst, arith}
use Rattle.std.specs.declared.alloc.Global.{Global}
use Rattle.burr_blocking.specs.declared.triangle.translate.Pair.{Pair}
use Rattle.burr_blocking.specs.Views.Triangles.{IsRowOf}
use Rattle.burr_blocking.proofs.Triangles.{one_pushed}
use Rattle.burr_blocking.proofs.triangle.Classes.rows.Goals as goal

pub loop-piece-preserved : goal.loop-piece-preserved
loop-piece-preserved c =
    let rows = c.loop-piece.rows.items in
    let Is = λ (p : ℕ) (row : Vec Pair Global). IsRowOf c.args.self.now p row.items in
    let next : length rows ≡ c.loop-piece.piece = omega (arith, c.loop-piece.invariant.0, c.loop-piece.rows.ok.0) in
    let row = c.in_ok-row.field-0 in
    let made : Is (length rows) row = subst (λ (k : ℕ). Is k row) (sym next) c.in_ok-row.ensures in (
      omega (arith, c.in_ok-push.ensures.len, c.loop-piece.invariant.0),
      subst (λ (xs : List (Vec Pair Global)). (p : ℕ) (d : Vec Pair Global) → p < length xs → Is p (get_or xs p d))
          (sym c.in_ok-push.ensures.items) (one_pushed Is rows row c.loop-piece.invariant.1 made),
    )
