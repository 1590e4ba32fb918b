use Rattle.std.proofs.Common.{◌≡◌, take, map}
use Rattle.burr_code.specs.Places.{tray_of}
use Rattle.burr_frames.proofs.state.meeting.are_in_same_trays.Given as goal

-- the first places are in the same trays
abbrev pub invariant-loop-piece : goal.invariant-loop-piece
invariant-loop-piece l = map tray_of (take l.piece l.places) ≡ map tray_of (take l.piece l.others)
