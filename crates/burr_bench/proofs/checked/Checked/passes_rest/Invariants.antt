use Rattle.std.proofs.Common.{ℕ, ◌<◌}
use Rattle.burr_code.specs.PieceSets.{IsInSet}
use Rattle.burr_assembly.specs.Rules.Homes.{homes_of}
use Rattle.burr_bench.specs.Ways.{PassesPiece}
use Rattle.burr_bench.proofs.checked.Checked.passes_rest.Given as goal

-- it passes the pieces so far
abbrev pub invariant-loop-other : goal.invariant-loop-other
invariant-loop-other g l =
    (q : ℕ) → q < l.other → (¬ IsInSet l.self.state.grip q) → PassesPiece l.query (homes_of l.self.assembly) l.self.state.places l.self.state.tray l.piece l.from q
