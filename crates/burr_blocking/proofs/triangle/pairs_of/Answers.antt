use Rattle.std.proofs.Common.{◌≡◌, ℕ, Vec, length, subst, sym, arith}
use Rattle.std.specs.declared.alloc.Global.{Global}
use Rattle.burr_assembly.specs.Rules.Homes.{homes_of}
use Rattle.burr_blocking.specs.Views.Triangles.{AreClassPairs, AreFirstPairs}
use Rattle.burr_blocking.proofs.Triangles.{one_pushed}
use Rattle.burr_blocking.proofs.triangle.pairs_of.Goals as goal

pub loop-later-preserved : goal.loop-later-preserved
loop-later-preserved g c =
    let overlaps = g.P.PairAnswers.Overlaps in
    let homes = homes_of c.args.assembly.now in
    let classes = c.args.classes.now in
    let pairs = c.loop-later.pairs.items in
    let next : length pairs ≡ c.loop-later.later = omega (arith, c.loop-later.invariant.0, c.loop-later.pairs.ok.0) in
    let made : AreClassPairs overlaps homes classes (length pairs) c.in_ok-pairs_of_class.field-0 = subst (λ (k : ℕ). AreClassPairs overlaps homes classes k c.in_ok-pairs_of_class.field-0) (sym next) c.in_ok-pairs_of_class.ensures in (
      omega (arith, c.in_ok-push.ensures.len, c.loop-later.invariant.0),
      subst (AreFirstPairs overlaps homes classes) (sym c.in_ok-push.ensures.items) (one_pushed (λ (b : ℕ) (row : Vec g.row.P.Denot Global). AreClassPairs overlaps homes classes b row) pairs c.in_ok-pairs_of_class.field-0 c.loop-later.invariant.1 made),
    )
