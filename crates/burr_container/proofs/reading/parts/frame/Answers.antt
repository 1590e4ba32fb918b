-- The parts of a frame stand one after the other.
use Rattle.std.proofs.Common.{◌∙◌, arith, inl}
use Rattle.std.proofs.lemmas.Result.{err_from_is_err_and}
use Rattle.burr_code.specs.declared.limits.TheConstants.{MOST_GUARDS, MOST_OPERANDS}
use Rattle.burr_container.proofs.Common.Frames.{slots_fail}
use Rattle.burr_container.proofs.PlaceWalk.{few_forms}
use Rattle.burr_container.proofs.FramesRead.{set_fails, slots_fail_in_frame, guards_fail_in_frame, stack_fails_in_frame, cost_fails_in_frame, places_fail_in_frame, frame_at}
use Rattle.burr_container.proofs.reading.parts.frame.Goals as goal

pub returns-in_err-tray-clause-reads : goal.returns-in_err-tray-clause-reads
returns-in_err-tray-clause-reads c =
    let p = err_from_is_err_and c.from_residual.result c.from_residual.ensures.1 in
    rw (p.1, p.2) (inl c.in_err-tray.ensures)

pub returns-in_err-grip-clause-reads : goal.returns-in_err-grip-clause-reads
returns-in_err-grip-clause-reads c =
    let p = err_from_is_err_and c.from_residual-in_err-grip.result c.from_residual-in_err-grip.ensures.1 in
    rw (p.1, p.2)
    (set_fails c.args.layout.pieces _ _ _ c.in_ok-tray.ensures (slots_fail c.args.layout.pieces) _ c.in_err-grip.ensures)

pub returns-in_err-slots-clause-reads : goal.returns-in_err-slots-clause-reads
returns-in_err-slots-clause-reads c =
    let p = err_from_is_err_and c.from_residual-in_err-slots.result c.from_residual-in_err-slots.ensures.1 in
    rw (p.1, p.2)
    (slots_fail_in_frame _ _ _ _ _ _ c.in_ok-tray.ensures c.in_ok-grip.ensures _ c.in_err-slots.ensures)

pub returns-in_err-guards-clause-reads : goal.returns-in_err-guards-clause-reads
returns-in_err-guards-clause-reads c =
    let p = err_from_is_err_and c.from_residual-in_err-guards.result c.from_residual-in_err-guards.ensures.1 in
    rw (p.1, p.2)
    (guards_fail_in_frame _ _ _ _ _ _ c.in_ok-tray.ensures c.in_ok-grip.ensures _ _ c.live_slots-live.ensures _ c.in_ok-slots.ensures _
    c.in_err-guards.ensures.reads)

pub returns-in_err-stack-clause-reads : goal.returns-in_err-stack-clause-reads
returns-in_err-stack-clause-reads c =
    let p = err_from_is_err_and c.from_residual-in_err-stack.result c.from_residual-in_err-stack.ensures.1 in
    rw (p.1, p.2)
    (stack_fails_in_frame _ _ _ _ _ _ c.in_ok-tray.ensures c.in_ok-grip.ensures _ _ c.live_slots-live.ensures _ c.in_ok-slots.ensures _ _
    c.in_ok-guards.ensures.reads _ c.in_err-stack.ensures.reads)

pub returns-in_err-cost-clause-reads : goal.returns-in_err-cost-clause-reads
returns-in_err-cost-clause-reads c =
    let p = err_from_is_err_and c.from_residual-in_err-cost.result c.from_residual-in_err-cost.ensures.1 in
    rw (p.1, p.2)
    (cost_fails_in_frame _ _ _ _ _ _ c.in_ok-tray.ensures c.in_ok-grip.ensures _ _ c.live_slots-live.ensures _ c.in_ok-slots.ensures _ _
    c.in_ok-guards.ensures.reads _ _ c.in_ok-stack.ensures.reads _ c.in_err-cost.ensures.reads)

pub returns-in_err-places-clause-reads : goal.returns-in_err-places-clause-reads
returns-in_err-places-clause-reads c =
    let p = err_from_is_err_and c.from_residual-in_err-places.result c.from_residual-in_err-places.ensures.1 in
    rw (p.1, p.2)
    (places_fail_in_frame _ _ _ _ _ _ c.in_ok-tray.ensures c.in_ok-grip.ensures _ _ c.live_slots-live.ensures _ c.in_ok-slots.ensures _ _
    c.in_ok-guards.ensures.reads _ _ c.in_ok-stack.ensures.reads _ _ c.in_ok-cost.ensures.reads _ c.in_err-places.ensures.reads)

pub returns-clause-reads : goal.returns-clause-reads
returns-clause-reads c =
    frame_at _ _ _ _ _ _ c.in_ok-tray.ensures c.in_ok-grip.ensures _ _ c.live_slots-live.ensures _ c.in_ok-slots.ensures _ _
    c.in_ok-guards.ensures.reads _ _ c.in_ok-stack.ensures.reads _ _ c.in_ok-cost.ensures.reads _ _ c.in_ok-places.ensures.reads

pub invariant_of-result : goal.invariant_of-result
invariant_of-result c =
    let live = c.live_slots-live.ensures in
    let guards = c.in_ok-guards.guards in
    let stack = c.in_ok-stack.stack in
    record {
      guards_live = c.in_ok-guards.ensures.live ∙ live;
      stack_live = c.in_ok-stack.ensures.live ∙ live;
      cost_live = c.in_ok-cost.ensures.live.0 ∙ live;
      one_cost = c.in_ok-cost.ensures.live.1;
      places_live = c.in_ok-places.ensures.live.0 ∙ live;
      ranges = c.in_ok-slots.ensures.fits;
      few_guards = few_forms MOST_GUARDS c.live_slots-live.result guards.live guards.count guards.bytes.now c.in_ok-guards.ensures.reads.fits;
      few_operands = few_forms MOST_OPERANDS c.live_slots-live.result stack.live stack.count stack.bytes.now c.in_ok-stack.ensures.reads.fits;
      few_places = omega (arith, c.in_ok-places.ensures.live, c.args.layout.few);
    }
