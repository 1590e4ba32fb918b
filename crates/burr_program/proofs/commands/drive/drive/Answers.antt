use Rattle.std.proofs.Common.{refl, inr, arith}
use Rattle.burr_program.proofs.Results.{call_done, call_stopped, file_read, read_memory, unread}
use Rattle.burr_program.proofs.commands.drive.drive.Goals as goal

pub returns-in_err-drawing : goal.returns-in_err-drawing
returns-in_err-drawing g c = unread _ _ (0, omega arith, refl) c.in_err-drawing.ensures.err c.from_residual.ensures.1

pub returns-in_err-source : goal.returns-in_err-source
returns-in_err-source g c = unread _ _ (1, omega arith, refl) c.in_err-source.ensures.err c.from_residual-in_err-source.ensures.1

pub returns-in_err-status : goal.returns-in_err-status
returns-in_err-status g c =
    call_stopped (λ output status ends. (_, _, _, c.of.ensures, ends)) (read_memory _) (λ line breaks. (_, _, _, c.of.ensures, breaks)) c.in_err-status.ensures c.from_residual-in_err-status.ensures.1

pub returns : goal.returns
returns g c = call_done (λ output ends. (_, _, file_read c.in_ok-drawing.drawing _ _ c.in_ok-drawing.ensures.ok c.bytes.ensures, file_read c.in_ok-source.source _ _ c.in_ok-source.ensures.ok c.bytes-2.ensures, refl, (_, c.of.ensures, ends))) c.in_ok-status.ensures
