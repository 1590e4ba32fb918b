-- The slots so far are read.
use Rattle.burr_container.proofs.SlotWalk.{IsSlotWalk}
use Rattle.burr_container.proofs.reading.parts.slots.Given as goal

abbrev pub invariant-loop-v : goal.invariant-loop-v
invariant-loop-v l = IsSlotWalk l.initial.cursor l.mask l.v l.bits l.slots l.cursor
