use Rattle.std.proofs.Common.{sym, ◌∙◌}
use Rattle.burr_judge.specs.Faults.{line_of}
use Rattle.burr_program.proofs.HowFar.{tells}
use Rattle.burr_program.proofs.program.end_by.Goals as goal

pub returns-clause-told : goal.returns-clause-told
returns-clause-told g c =
    tells g.E.Sink c.args.errors.now c.put_fault.new.sink c.flush.new.self (line_of c.args.fault.now) c.put_fault.result c.flush.result (sym c.failed.ensures ∙ c.if-failed.false) c.requires.ready c.put_fault.ensures
    c.flush.ensures.puts c.flush.ensures.nothing c.flush.ensures.for_good
