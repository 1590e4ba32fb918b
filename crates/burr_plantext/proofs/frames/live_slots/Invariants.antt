-- The live slots so far, and those still to come, are all of them.
use Rattle.std.proofs.Common.{◌≡◌, ◌++◌, ◌≤◌, take, drop, length}
use Rattle.burr_container.specs.Rules.Plans.{live_slots}
use Rattle.burr_container.specs.Views.Refs.{frame_of}
use Rattle.burr_plantext.specs.Views.Symbols.{live_numbers}
use Rattle.burr_plantext.proofs.frames.live_slots.Given as goal

abbrev pub invariant-loop-slot : goal.invariant-loop-slot
invariant-loop-slot l =
    (take l.count l.symbols
    ++ live_numbers l.slot (drop l.slot (live_slots (frame_of l.frame).slots))
    ≡ live_numbers 0 (live_slots (frame_of l.frame).slots))
    × (l.count ≤ l.slot) × (length l.symbols ≡ 8)
