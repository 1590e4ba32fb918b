use Rattle.std.proofs.Common.{◌↔◌, IsTrue, subst}
use Rattle.burr_assembly.specs.Rules.Homes.{homes_of, home_at}
use Rattle.burr_blocking.specs.Rules.Pairs.{IsFreeFrom}
use Rattle.burr_blocking.specs.Rules.Counted.{Counted}
use Rattle.burr_blocking.proofs.blocking.Looks.free.Goals as goal

pub returns-clause-answer : goal.returns-clause-answer
returns-clause-answer g c =
    subst (λ (l : Counted). IsTrue c.free.result ↔ IsFreeFrom (home_at (homes_of l.assembly) c.args.piece)
    (home_at (homes_of l.assembly) c.args.other) c.args.displacement c.args.direction) c.self.view_is c.free.ensures
