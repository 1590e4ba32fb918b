use Rattle.std.proofs.Common.{rules}
use Rattle.burr_runs.specs.Rules.Output.{IsOutput}
use Rattle.burr_runs.proofs.WholeInput.{write_fails, front_of_refused, text_puts, text_fails}
use Rattle.burr_runs.proofs.text_runs.write_output.Goals as goal

pub returns-in_err-refuse_input-in-None-clause-err : goal.returns-in_err-refuse_input-in-None-clause-err
returns-in_err-refuse_input-in-None-clause-err g c =
    write_fails (IsOutput c.args.input.now) c.from_residual-in_err-refuse_input-in-None.result _ _ _ c.from_residual-in_err-refuse_input-in-None.ensures.1
    (front_of_refused _ _ _ c.args.input.now (search rules) c.in_err-refuse_input-in-None.ensures.puts.err.takes c.in_err-refuse_input-in-None.ensures.puts.err.fails)

pub returns-in-Some-clause-ok : goal.returns-in-Some-clause-ok
returns-in-Some-clause-ok g c = text_puts _ _ c.args.input.now c.in-Some.text.now c.in-Some.code.items c.write_text_output.result (search rules) (rw c.deref.ensures.value at c.write_text_output.ensures.ok)

pub returns-in-Some-clause-err : goal.returns-in-Some-clause-err
returns-in-Some-clause-err g c = text_fails _ _ _ c.args.input.now c.in-Some.text.now c.in-Some.code.items c.write_text_output.result (search rules) (rw c.deref.ensures.value at c.write_text_output.ensures.err)
