use Rattle.std.proofs.Common.{ℕ}
use Rattle.burr_code.specs.PieceSets.{IsInSet}
use Rattle.burr_state.specs.Views.StateViews.{PieceStaysOnBench}
use Rattle.burr_state.proofs.state.BenchState.stays_on_bench.Given as goal

-- those that are left are of the grip, and the others stay
abbrev pub invariant-loop-rest : goal.invariant-loop-rest
invariant-loop-rest l =
    ((p : ℕ) → IsInSet l.rest p → IsInSet l.self.grip p)
    × ((p : ℕ) → IsInSet l.self.grip p → (¬ IsInSet l.rest p) → PieceStaysOnBench l.self l.direction p)

abbrev pub decreases-loop-rest : goal.decreases-loop-rest
decreases-loop-rest l = l.rest
