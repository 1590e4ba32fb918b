use Rattle.std.proofs.Common.{rules}
use Rattle.burr_runs.specs.Rules.Output.{IsTextOutput}
use Rattle.burr_runs.proofs.WholeInput.{write_fails, write_touches, front_of_fault, no_outcome}
use Rattle.burr_runs.proofs.text_runs.write_text_output.Goals as goal

pub returns-in_err-refuse_text-in-Err : goal.returns-in_err-refuse_text-in-Err
returns-in_err-refuse_text-in-Err g c =
    let failed = c.from_residual-in_err-refuse_text-in-Err.ensures.1 in
    record {
      ok = no_outcome _ _ c.from_residual-in_err-refuse_text-in-Err.result failed;
      err = write_fails (IsTextOutput c.args.text.now c.args.code.now) c.from_residual-in_err-refuse_text-in-Err.result _ _ _ failed (front_of_fault _ _ _ c.args.text.now c.args.code.now c.in-Err.fault (search rules) c.in_err-refuse_text-in-Err.ensures.puts.err.takes c.in_err-refuse_text-in-Err.ensures.puts.err.fails);
      untouched = write_touches c.from_residual-in_err-refuse_text-in-Err.result _ failed;
    }
