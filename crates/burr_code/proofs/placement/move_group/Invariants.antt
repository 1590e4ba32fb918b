use Rattle.std.proofs.Common.{◌≡◌, ◌++◌, length, take, drop}
use Rattle.burr_code.specs.Places.{changed, to_tray}
use Rattle.burr_code.proofs.placement.move_group.Given as goal

-- those that are moved, and those to come
abbrev pub invariant-loop-piece : goal.invariant-loop-piece
invariant-loop-piece g l =
    (take l.piece l.places ++ changed (to_tray l.tray) l.group l.piece (drop l.piece l.places) ≡ changed (to_tray l.tray) l.group 0 l.fn.places) × (length l.places ≡ length l.fn.places)
