use Rattle.std.proofs.Common.{◌≡◌, ◌++◌, length, take, drop}
use Rattle.burr_code.specs.Places.{parted_in}
use Rattle.burr_code.proofs.placement.part_all.Given as goal

-- those that are apart now, and those to come
abbrev pub invariant-loop-place : goal.invariant-loop-place
invariant-loop-place g l =
    (take l.place-index l.places ++ parted_in l.tray (drop l.place-index l.places) ≡ parted_in l.tray l.fn.places) × (length l.places ≡ length l.fn.places)
