use Rattle.std.proofs.Common.{refl, inl, inr, arith}
use Rattle.burr_judge.proofs.Common.Results.{handed}
use Rattle.burr_program.specs.FileFaults.{AnyText}
use Rattle.burr_program.proofs.Results.{file_read, rewrite_input, rewrite_memory, rewrite_unread, rewrite_unwritten, silent_fault, silent_refused}
use Rattle.burr_program.proofs.commands.plan.plan.Goals as goal

pub returns-in_err-check_out_not_input : goal.returns-in_err-check_out_not_input
returns-in_err-check_out_not_input g c = silent_fault _ (rewrite_input _ _ _ _ c.in_err-check_out_not_input.ensures) c.from_residual.ensures.1

pub returns-in_err-drawing : goal.returns-in_err-drawing
returns-in_err-drawing g c = silent_fault _ (rewrite_unread (0, omega arith, refl) c.in_err-drawing.ensures.err) c.from_residual-in_err-drawing.ensures.1

pub returns-in_err-source : goal.returns-in_err-source
returns-in_err-source g c = silent_fault _ (rewrite_unread (1, omega arith, refl) c.in_err-source.ensures.err) c.from_residual-in_err-source.ensures.1

pub returns-in_err-text : goal.returns-in_err-text
returns-in_err-text g c =
    silent_refused AnyText (λ text is. inr refl) (rewrite_memory _ _ _) (handed _ _ _ c.in_err-text.ensures.err c.from_residual-in_err-text.ensures.1)

pub returns-in_err-written : goal.returns-in_err-written
returns-in_err-written g c = silent_fault _ (rewrite_unwritten c.in_err-written.ensures.err) c.from_residual-in_err-written.ensures.1

pub returns : goal.returns
returns g c = record {
  done = (
    _,
    _,
    c.in_ok-text.text.items,
    file_read c.in_ok-drawing.drawing _ _ c.in_ok-drawing.ensures.ok refl,
    file_read c.in_ok-source.source _ _ c.in_ok-source.ensures.ok refl,
    (c.in_ok-written.written, refl, c.in_ok-written.ensures.name, c.in_ok-written.ensures.bytes),
    c.in_ok-text.ensures.ok,
    refl,
    refl,
  );
  stops = tt;
}
