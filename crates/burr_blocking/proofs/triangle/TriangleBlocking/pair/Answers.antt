use Rattle.burr_blocking.specs.Views.Triangles.{held}
use Rattle.burr_blocking.proofs.Answered.{pair_of_row}
use Rattle.burr_blocking.proofs.triangle.TriangleBlocking.pair.Goals as goal

pub returns : goal.returns
returns g c =
    pair_of_row g.P.PairAnswers.Overlaps (held c.self.inside.assembly) c.self.inside.classes c.self.inside.pairs.items
    c.self.inside.rows.items c.args.self.now c.self.view_is c.self.invariant c.args.piece c.args.other c.from.result c.from-2.result
    c.from.ensures c.from-2.ensures c.requires.piece c.requires.other c.index.result.now c.index.ensures c.index-2.result.now
    c.index-2.ensures c.requires.two
