-- The lines of a state, one after another.
use Rattle.burr_io.proofs.Common.Puts.{Puts-more, Puts-fails}
use Rattle.burr_step.proofs.state_text.put_state.Goals as goal

pub returns-in_err-put_after : goal.returns-in_err-put_after
returns-in_err-put_after g c = Puts-fails _ c.in_err-put_after.ensures c.from_residual.ensures.0

pub returns-in_err-put_tray : goal.returns-in_err-put_tray
returns-in_err-put_tray g c = Puts-more c.in_ok-put_after.ensures (Puts-fails _ c.in_err-put_tray.ensures c.from_residual-in_err-put_tray.ensures.0)

pub returns-in_err-put_slots : goal.returns-in_err-put_slots
returns-in_err-put_slots g c =
    Puts-more c.in_ok-put_after.ensures
    (Puts-more c.in_ok-put_tray.ensures (Puts-fails _ c.in_err-put_slots.ensures c.from_residual-in_err-put_slots.ensures.0))

pub returns-in_err-put_stack : goal.returns-in_err-put_stack
returns-in_err-put_stack g c =
    Puts-more c.in_ok-put_after.ensures (Puts-more c.in_ok-put_tray.ensures
    (Puts-more c.in_ok-put_slots.ensures (Puts-fails _ c.in_err-put_stack.ensures c.from_residual-in_err-put_stack.ensures.0)))

pub returns : goal.returns
returns g c =
    Puts-more c.in_ok-put_after.ensures (Puts-more c.in_ok-put_tray.ensures
    (Puts-more c.in_ok-put_slots.ensures (Puts-more c.in_ok-put_stack.ensures c.put_pieces.ensures)))
