use Rattle.std.proofs.Common.{◌≡◌, ◌+◌, ◌≤◌, drop}
use Rattle.burr_code.specs.Places.{count_in}
use Rattle.burr_code.proofs.placement.count_in_tray.Given as goal

-- those that are counted, and those to come
abbrev pub invariant-loop-place : goal.invariant-loop-place
invariant-loop-place g l = (l.count + count_in l.tray (drop l.place-index l.places) ≡ count_in l.tray l.fn.places) × (l.count ≤ l.place-index)
