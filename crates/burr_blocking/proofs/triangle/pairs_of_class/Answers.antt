use Rattle.std.proofs.Common.{◌≡◌, ℕ, length, subst, sym, arith}
use Rattle.burr_assembly.specs.Rules.Homes.{homes_of}
use Rattle.burr_blocking.specs.Views.Overlaps.{AreOverlapsOf}
use Rattle.burr_blocking.specs.Views.Triangles.{IsPairOf, ArePairsOf}
use Rattle.burr_blocking.proofs.Triangles.{one_pushed, pair_made}
use Rattle.burr_blocking.proofs.triangle.pairs_of_class.Goals as goal

pub loop-earlier-preserved : goal.loop-earlier-preserved
loop-earlier-preserved g c =
    let overlaps = g.P.PairAnswers.Overlaps in
    let homes = homes_of c.args.assembly.now in
    let rs = c.args.classes.now.representatives.items in
    let pairs = c.loop-earlier.pairs.items in
    let next : length pairs ≡ c.loop-earlier.earlier = omega (arith, c.loop-earlier.invariant.0, c.loop-earlier.pairs.ok.0) in
    let pair : g.row.P.Denot = c.in_ok-build.field-0 in
    let made : IsPairOf overlaps homes rs (length pairs) c.args.later pair = pair_made homes rs c.loop-earlier.earlier (length pairs) c.args.later (AreOverlapsOf (overlaps pair)) c.cells.result.now c.cells-others.result.now next c.cells.ensures.cells c.cells-others.ensures.cells c.in_ok-build.ensures in (
      omega (arith, c.in_ok-push.ensures.len, c.loop-earlier.invariant.0),
      subst (ArePairsOf overlaps homes rs c.args.later) (sym c.in_ok-push.ensures.items) (one_pushed (λ (p : ℕ) (d : g.row.P.Denot). IsPairOf overlaps homes rs p c.args.later d) pairs pair c.loop-earlier.invariant.1 made),
    )
