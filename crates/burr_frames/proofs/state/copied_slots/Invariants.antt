use Rattle.std.proofs.Common.{◌≡◌, take, length}
use Rattle.burr_frames.proofs.state.copied_slots.Given as goal

-- the first ones are copied
abbrev pub invariant-loop-v : goal.invariant-loop-v
invariant-loop-v l = record {
  eight : length l.to ≡ 8;
  copied : take l.v l.to ≡ take l.v l.from;
}
