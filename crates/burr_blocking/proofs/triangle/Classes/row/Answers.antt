use Rattle.std.proofs.Common.{◌≡◌, ◌<◌, ℕ, List, length, get_or, sym, subst, arith}
use Rattle.burr_blocking.specs.declared.triangle.translate.Pair.{Pair}
use Rattle.burr_blocking.specs.Views.Triangles.{IsPairOfTwo}
use Rattle.burr_blocking.proofs.Triangles.{one_pushed}
use Rattle.burr_blocking.proofs.triangle.Classes.row.Goals as goal

pub loop-other-preserved : goal.loop-other-preserved
loop-other-preserved c =
    let row = c.loop-other.row.items in
    let Is = IsPairOfTwo c.args.self.now c.args.piece in
    let next : length row ≡ c.loop-other.other = omega (arith, c.loop-other.invariant.0, c.loop-other.row.ok.0) in
    let made : Is (length row) c.pair.result = subst (λ (k : ℕ). Is k c.pair.result) (sym next) c.pair.ensures in (
      omega (arith, c.in_ok-push.ensures.len, c.loop-other.invariant.0),
      subst (λ (xs : List Pair). (q : ℕ) (d : Pair) → q < length xs → Is q (get_or xs q d))
          (sym c.in_ok-push.ensures.items) (one_pushed Is row c.pair.result c.loop-other.invariant.1 made),
    )
