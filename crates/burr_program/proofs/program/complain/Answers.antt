use Rattle.std.proofs.Common.{sym, ◌∙◌}
use Rattle.burr_program.proofs.HowFar.{tells}
use Rattle.burr_program.proofs.program.complain.Goals as goal

pub returns-clause-told : goal.returns-clause-told
returns-clause-told g c =
    tells g.E.Sink c.args.errors.now c.put_all.new.sink c.flush.new.self c.args.text.now c.put_all.result c.flush.result (sym c.failed.ensures ∙ c.if-failed.false) c.requires.ready (rw c.as_bytes.ensures.value at c.put_all.ensures.puts)
    c.flush.ensures.puts c.flush.ensures.nothing c.flush.ensures.for_good
