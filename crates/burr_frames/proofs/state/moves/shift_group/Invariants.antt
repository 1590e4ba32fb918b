use Rattle.std.proofs.Common.{◌≡◌, ◌++◌, length, take, drop}
use Rattle.burr_code.specs.Places.{changed, at_position}
use Rattle.burr_frames.specs.Rules.SpaceRules.{moved, moved_forms}
use Rattle.burr_frames.proofs.state.moves.shift_group.Given as goal

-- those that are shifted, and those to come
abbrev pub invariant-loop-piece : goal.invariant-loop-piece
invariant-loop-piece l =
    (take l.piece l.places ++ changed (at_position (moved_forms l.direction)) l.group l.piece (drop l.piece l.places) ≡ moved l.group l.direction l.fn.places)
    × (length l.places ≡ length l.fn.places)
