use Rattle.std.proofs.Common.{refl, inl, inr, codes, arith}
use Rattle.burr_program.proofs.Results.{file_read, rewrite_input, rewrite_memory, rewrite_unread, rewrite_unwritten, silent_fault, silent_fault_so, silent_refused}
use Rattle.burr_program.proofs.commands.upgrade.upgrade.Goals as goal

pub returns-in_err-check_out_not_input : goal.returns-in_err-check_out_not_input
returns-in_err-check_out_not_input g c = silent_fault _ (rewrite_input _ _ _ _ c.in_err-check_out_not_input.ensures) c.from_residual.ensures.1

pub returns-in_err-source : goal.returns-in_err-source
returns-in_err-source g c = silent_fault _ (rewrite_unread (0, omega arith, refl) c.in_err-source.ensures.err) c.from_residual-in_err-source.ensures.1

pub returns-in_err-container : goal.returns-in_err-container
returns-in_err-container g c =
    silent_refused _ (λ text same. (c.bytes.result.now, inl ((_, c.in_err-container.ensures, same), refl))) (rewrite_memory _ _ _) c.from_residual-in_err-container.ensures.1

pub returns-in_err-bytes : goal.returns-in_err-bytes
returns-in_err-bytes g c = silent_fault_so (codes "no memory\n") (rewrite_memory _ _ _ _ refl) c.from_residual-in_err-bytes.ensures.1

pub returns-in_err-written : goal.returns-in_err-written
returns-in_err-written g c = silent_fault _ (rewrite_unwritten c.in_err-written.ensures.err) c.from_residual-in_err-written.ensures.1

pub returns : goal.returns
returns g c =
    let (p, fits, same, of) = c.in_ok-container.ensures in
    record {
      done = (
        c.bytes.result.now,
        c.in_ok-bytes.bytes.items,
        refl,
        file_read c.in_ok-source.source _ _ c.in_ok-source.ensures.ok c.bytes.ensures,
        (c.in_ok-written.written, refl, c.in_ok-written.ensures.name, c.in_ok-written.ensures.bytes),
        (p, fits, same, c.in_ok-bytes.ensures.bytes p of),
        refl,
        refl,
      );
      stops = tt;
    }
