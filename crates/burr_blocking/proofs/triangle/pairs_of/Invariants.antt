use Rattle.std.proofs.Common.{◌≡◌, vec_len}
use Rattle.burr_assembly.specs.Rules.Homes.{homes_of}
use Rattle.burr_blocking.specs.Views.Triangles.{AreFirstPairs}
use Rattle.burr_blocking.proofs.triangle.pairs_of.Given as goal

-- the pairs so far are those of the first classes
abbrev pub invariant-loop-later : goal.invariant-loop-later
invariant-loop-later g l = (vec_len l.pairs ≡ l.later) × AreFirstPairs g.P.PairAnswers.Overlaps (homes_of l.fn.assembly) l.fn.classes l.pairs.items
