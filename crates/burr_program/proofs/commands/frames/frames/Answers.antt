use Rattle.std.proofs.Common.{refl, zero, inl, inr, arith}
use Rattle.burr_judge.proofs.Common.Results.{handed}
use Rattle.burr_program.specs.FileFaults.{AnyText}
use Rattle.burr_program.proofs.HowFar.{tells_nothing}
use Rattle.burr_program.proofs.Results.{faulted, file_read, notes_stop, refused_so, rewrite_input, rewrite_memory, rewrite_unread, rewrite_unwritten}
use Rattle.burr_program.proofs.commands.frames.frames.Goals as goal

pub returns-in_err-check_out_not_input-clause-told : goal.returns-in_err-check_out_not_input-clause-told
returns-in_err-check_out_not_input-clause-told g c = (zero, tells_nothing g.E.Sink c.args.errors.now c.requires.told)

pub returns-in_err-drawing-clause-told : goal.returns-in_err-drawing-clause-told
returns-in_err-drawing-clause-told g c = (zero, tells_nothing g.E.Sink c.args.errors.now c.requires.told)

pub returns-in_err-source-clause-told : goal.returns-in_err-source-clause-told
returns-in_err-source-clause-told g c = (zero, tells_nothing g.E.Sink c.args.errors.now c.requires.told)

pub returns-in_err-check_out_not_input-clause-ends : goal.returns-in_err-check_out_not_input-clause-ends
returns-in_err-check_out_not_input-clause-ends g c = faulted _ (rewrite_input _ _ _ _ c.in_err-check_out_not_input.ensures) c.from_residual.ensures.1

pub returns-in_err-drawing-clause-ends : goal.returns-in_err-drawing-clause-ends
returns-in_err-drawing-clause-ends g c = faulted _ (rewrite_unread (0, omega arith, refl) c.in_err-drawing.ensures.err) c.from_residual-in_err-drawing.ensures.1

pub returns-in_err-source-clause-ends : goal.returns-in_err-source-clause-ends
returns-in_err-source-clause-ends g c = faulted _ (rewrite_unread (1, omega arith, refl) c.in_err-source.ensures.err) c.from_residual-in_err-source.ensures.1

pub returns-in_err-text-clause-ends : goal.returns-in_err-text-clause-ends
returns-in_err-text-clause-ends g c =
    refused_so AnyText (λ text is. inl (omega arith)) (rewrite_memory _ _ _) (handed _ _ _ c.in_err-text.ensures.err c.from_residual-in_err-text.ensures.1)

pub returns-in_err-status-clause-ends : goal.returns-in_err-status-clause-ends
returns-in_err-status-clause-ends g c = notes_stop c.in_err-status.ensures c.from_residual-in_err-status.ensures.1

pub returns-in_err-written-clause-ends : goal.returns-in_err-written-clause-ends
returns-in_err-written-clause-ends g c = faulted _ (rewrite_unwritten c.in_err-written.ensures.err) c.from_residual-in_err-written.ensures.1

pub returns-clause-ends : goal.returns-clause-ends
returns-clause-ends g c =
    let (output, fine, takes) = c.in_ok-status.ensures.done in
    record {
      done = (
        output,
        (
          _,
          _,
          _,
          file_read c.in_ok-drawing.drawing _ _ c.in_ok-drawing.ensures.ok refl,
          file_read c.in_ok-source.source _ _ c.in_ok-source.ensures.ok refl,
          (c.in_ok-written.written, refl, c.in_ok-written.ensures.name, c.in_ok-written.ensures.bytes),
          c.in_ok-text.ensures.made,
          fine,
        ),
        takes,
      );
      stops = tt;
    }
