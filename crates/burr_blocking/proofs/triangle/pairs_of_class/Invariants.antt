use Rattle.std.proofs.Common.{◌≡◌, vec_len}
use Rattle.burr_assembly.specs.Rules.Homes.{homes_of}
use Rattle.burr_blocking.specs.Views.Triangles.{ArePairsOf}
use Rattle.burr_blocking.proofs.triangle.pairs_of_class.Given as goal

-- the pairs so far are those of the first classes
abbrev pub invariant-loop-earlier : goal.invariant-loop-earlier
invariant-loop-earlier g l = (vec_len l.pairs ≡ l.earlier) × ArePairsOf g.P.PairAnswers.Overlaps (homes_of l.fn.assembly) l.fn.classes.representatives.items l.fn.later l.pairs.items
