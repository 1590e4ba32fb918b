use Rattle.std.proofs.Common.{refl, not}
use Rattle.burr_asm.specs.Views.LineWords.{slot_words}
use Rattle.burr_asm.proofs.SlotRanges.{found_above, rest_unused}
use Rattle.burr_asm.proofs.text.frame.slot_above.Goals as goal

pub returns-clause-value : goal.returns-clause-value
returns-clause-value c =
    let slot = c.in_ok-slot.ensures.value in
    let range = c.in_ok-range.ensures.value in
    rw c.then_some.ensures
    (found_above c.args.slots.now (slot_words c.args.words) (not c.contains.result) c.in_ok-slot.slot c.in_ok-range.range slot.0 slot.1 range.0 range.1
    (rest_unused _ refl refl c.args.slots.now c.live_slots-live.result c.from.result c.in_ok-slot.slot c.contains.result c.told-slots c.live_slots-live.ensures c.from.ensures c.contains.ensures.value))
