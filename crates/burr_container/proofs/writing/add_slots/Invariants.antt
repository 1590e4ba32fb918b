-- What is written, and what is still to be written, are all of it.
use Rattle.std.proofs.Common.{◌≡◌, ◌++◌, drop}
use Rattle.std.specs.List.{flat_map}
use Rattle.burr_container.specs.Rules.Spelling.{range_bytes}
use Rattle.burr_container.proofs.writing.add_slots.Given as goal

abbrev pub invariant-loop-slot : goal.invariant-loop-slot
invariant-loop-slot l =
    l.bytes.items ++ flat_map range_bytes (drop l.slot-index l.slots)
    ≡ l.initial.bytes.items ++ flat_map range_bytes l.slots
