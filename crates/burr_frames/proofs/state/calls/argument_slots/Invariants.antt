use Rattle.std.proofs.Common.{◌≡◌, map, Some, None}
use Rattle.burr_frames.proofs.CallArguments.{filled}
use Rattle.burr_frames.proofs.state.calls.argument_slots.Given as goal

-- the first arguments are in their slots
abbrev pub invariant-loop-v : goal.invariant-loop-v
invariant-loop-v l = l.slots ≡ filled None l.v (map Some l.arguments)
