use Rattle.std.proofs.Common.{ℕ, ◌<◌}
use Rattle.burr_code.specs.PieceSets.{IsInSet}
use Rattle.burr_assembly.specs.Rules.Homes.{homes_of}
use Rattle.burr_bench.specs.Ways.{PassesRest}
use Rattle.burr_bench.proofs.checked.Checked.passes.Given as goal

-- those of the grip so far pass
abbrev pub invariant-loop-piece : goal.invariant-loop-piece
invariant-loop-piece g l =
    (p : ℕ) → p < l.piece → IsInSet l.self.state.grip p → PassesRest l.way (homes_of l.self.assembly) l.self.state.places l.self.state.tray l.self.state.grip p
