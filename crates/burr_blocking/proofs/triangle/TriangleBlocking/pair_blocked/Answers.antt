use Rattle.std.proofs.Common.{◌↔◌, IsTrue, subst, sym, arith}
use Rattle.burr_assembly.specs.Rules.Homes.{homes_of, home_at}
use Rattle.burr_blocking.specs.Rules.Pairs.{IsBlocked}
use Rattle.burr_blocking.specs.Views.Triangles.{ClassedAssembly, IsPairIn, held}
use Rattle.burr_blocking.proofs.Answered.{pair_in_row, pair_blocked}
use Rattle.burr_blocking.proofs.triangle.TriangleBlocking.pair_blocked.Goals as goal

pub index-requires-2 : goal.index-requires-2
index-requires-2 g c =
    omega (
      arith,
      c.index.result.now.ok.0,
      pair_in_row g.P.PairAnswers.Overlaps (homes_of (held c.self.inside.assembly)) c.self.inside.classes c.self.inside.pairs.items
          c.self.invariant.0 c.args.pair.now c.requires.known.0 c.requires.known.1 c.index.result.now c.index.ensures
          (subst (λ (t : ClassedAssembly). IsPairIn t c.requires.known.0 c.requires.known.1 c.args.pair.now) (sym c.self.view_is) c.requires.known.2),
    )

pub returns : goal.returns
returns g c = λ p q known.
    subst (λ (t : ClassedAssembly). IsTrue c.blocked.result ↔ IsBlocked (home_at (homes_of t.assembly) p) (home_at (homes_of t.assembly) q) c.args.displacement)
    c.self.view_is
    (pair_blocked g.P.PairAnswers.Overlaps (homes_of (held c.self.inside.assembly)) c.self.inside.classes c.self.inside.pairs.items
    c.self.invariant.0 c.args.pair.now p q c.index.result.now c.index.ensures c.index-2.result.now c.index-2.ensures
    c.args.displacement c.way.result c.way.ensures.value c.blocked.result c.blocked.ensures
    (subst (λ (t : ClassedAssembly). IsPairIn t p q c.args.pair.now) (sym c.self.view_is) known))
