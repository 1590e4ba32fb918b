use Rattle.burr_step.proofs.UndoRing.{undoing_is_back, record_is_kept, last_are_kept}
use Rattle.burr_step.proofs.laws.undoing_is_going_back.Goals as goal

pub returns : goal.returns
returns c = record { back = undoing_is_back; kept = record_is_kept; last = last_are_kept }
