use Rattle.std.proofs.Common.{◌≡◌, ◌*◌, ◌≤◌, drop}
use Rattle.burr_forms.specs.Rules.Points.{box_size}
use Rattle.burr_frames.proofs.state.instructions.has_at_most.Given as goal

-- what is counted, and what is still to be
abbrev pub invariant-loop-symbol : goal.invariant-loop-symbol
invariant-loop-symbol l = record {
  product : l.count * box_size (drop l.symbol l.ranges) ≡ box_size l.ranges;
  room : l.count ≤ l.most;
}
