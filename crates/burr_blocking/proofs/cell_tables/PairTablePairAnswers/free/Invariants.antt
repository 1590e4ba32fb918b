use Rattle.std.proofs.Common.{ℕ, ◌≤◌, ◌<◌}
use Rattle.std.specs.Prelude.{pos}
use Rattle.burr_voxels.specs.Grid.{plus, along}
use Rattle.burr_blocking.specs.Views.Tables.{IsMarked}
use Rattle.burr_blocking.proofs.cell_tables.PairTablePairAnswers.free.Given as goal

-- nothing is marked at the numbers of units so far
abbrev pub invariant-loop-units : goal.invariant-loop-units
invariant-loop-units l = (k : ℕ) → 1 ≤ k → k < l.units → ¬ IsMarked l.self.extent l.self.marks.items (plus l.displacement (along l.direction (pos k)))
