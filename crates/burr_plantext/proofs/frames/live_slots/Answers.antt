-- The next slot is taken, if it is live.
use Rattle.std.proofs.Common.{arith, rules}
use Rattle.burr_container.specs.Views.Refs.{frame_of}
use Rattle.burr_plantext.proofs.LiveSlots.{live_turn, dead_turn, all_live}
use Rattle.burr_plantext.proofs.frames.live_slots.Goals as goal
use Rattle.burr_plantext.proofs.frames.live_slots.Goals.{then-is_some, else-is_some}

pub loop-slot-preserved : goal.loop-slot-preserved
loop-slot-preserved c =
    let slots = (frame_of c.args.frame.now).slots in
    let (so, below, eight) = c.loop-slot.invariant in
    elim c.if-is_some.branch [
      | then-is_some w ↦ rw (w.symbols-is, w.count-is) (
        live_turn slots c.loop-slot.symbols _ c.loop-slot.count c.loop-slot.slot c.slot.result below (omega (arith, eight, c.loop-slot-test.true)) c.slot.ensures.slot (search rules) so,
        omega (arith, below),
        search rules,
      )
      | else-is_some w ↦ rw (w.symbols-is, w.count-is) (
        dead_turn slots c.loop-slot.symbols _ c.loop-slot.count c.loop-slot.slot c.slot.result c.slot.ensures.slot (search rules) so,
        omega (arith, below),
        eight,
      )
    ]

pub returns : goal.returns
returns c =
    all_live (frame_of c.args.frame.now).slots c.loop-slot.symbols c.loop-slot.count c.loop-slot.slot c.requires c.loop-slot-test.false c.loop-slot.invariant.0
