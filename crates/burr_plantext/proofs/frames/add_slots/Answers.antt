-- The next line is written, if the slot is live.
use Rattle.std.proofs.Common.{◌+◌, arith}
use Rattle.burr_container.specs.Views.Refs.{frame_of}
use Rattle.burr_plantext.proofs.FrameSteps.{slot_turn, slot_passed}
use Rattle.burr_plantext.proofs.frames.add_slots.Goals as goal
use Rattle.burr_plantext.proofs.frames.add_slots.Goals.{in-Some+in_ok-add_number+in_ok-add_range, in_default}

pub loop-slot-preserved : goal.loop-slot-preserved
loop-slot-preserved c =
    let n = c.loop-slot.slot in
    let slots = (frame_of c.args.frame.now).slots in
    elim c.match-slot.branch [
      | in-Some+in_ok-add_number+in_ok-add_range w ↦
          rw (w.text-is, w.in_ok-add_range.ensures, w.in_ok-add_number.ensures)
          (slot_turn slots n (n + 1) _ w.in-Some.range c.loop-slot.text.items _ (omega arith) c.slot.ensures.slot w.in-Some.is c.loop-slot.invariant)
      | in_default w ↦
          rw w.text-is
          (slot_passed slots n (n + 1) _ c.loop-slot.text.items _ (omega arith) c.slot.ensures.slot w.in_default.not-Some c.loop-slot.invariant)
    ]
