-- The range of the next slot is written.
use Rattle.std.proofs.Common.{arith, []}
use Rattle.burr_container.specs.Rules.Spelling.{range_bytes}
use Rattle.burr_container.proofs.Written.{next_of, one_more}
use Rattle.burr_container.proofs.writing.add_slots.Goals as goal

pub loop-slot-preserved : goal.loop-slot-preserved
loop-slot-preserved c =
    rw c.in_ok-add_range.ensures
    (one_more [] c.loop-slot.bytes.items _ _ _ _ c.loop-slot.invariant
    (next_of range_bytes c.loop-slot.slot-index c.args.slots.now _ (omega arith)))
