use Rattle.std.proofs.Common.{refl, inl, inr, arith}
use Rattle.burr_program.proofs.Results.{file_read, rewrite_input, rewrite_memory, rewrite_unread, rewrite_unwritten, silent_fault, silent_refused}
use Rattle.std.proofs.lemmas.Result.{err_from_is_err_and}
use Rattle.burr_judge.specs.Inputs.{RefusesPlanBytes}
use Rattle.burr_judge.proofs.Common.Results.{err_weaken, plan_text_refuses}
use Rattle.burr_program.proofs.commands.asm.asm.Goals as goal

pub returns-in_err-check_out_not_input : goal.returns-in_err-check_out_not_input
returns-in_err-check_out_not_input g c = silent_fault _ (rewrite_input _ _ _ _ c.in_err-check_out_not_input.ensures) c.from_residual.ensures.1

pub returns-in_err-source : goal.returns-in_err-source
returns-in_err-source g c = silent_fault _ (rewrite_unread (0, omega arith, refl) c.in_err-source.ensures.err) c.from_residual-in_err-source.ensures.1

pub returns-in_err-container : goal.returns-in_err-container
returns-in_err-container g c =
    silent_refused (RefusesPlanBytes c.bytes.result.now) (λ text (fault, first, same). (c.bytes.result.now, inl (fault, first, (same, refl)))) (rewrite_memory _ _ _)
    (err_weaken c.from_residual-in_err-container.result _ _ (λ stop is. plan_text_refuses c.bytes.result.now _ stop c.in_err-container.ensures is) c.from_residual-in_err-container.ensures.1)

pub returns-in_err-written : goal.returns-in_err-written
returns-in_err-written g c = silent_fault _ (rewrite_unwritten c.in_err-written.ensures.err) c.from_residual-in_err-written.ensures.1

pub returns : goal.returns
returns g c = record {
  done = (
    c.bytes.result.now,
    c.in_ok-container.container.items,
    refl,
    file_read c.in_ok-source.source _ _ c.in_ok-source.ensures.ok c.bytes.ensures,
    (c.in_ok-written.written, refl, c.in_ok-written.ensures.name, c.in_ok-written.ensures.bytes),
    c.in_ok-container.ensures,
    refl,
    refl,
  );
  stops = tt;
}
