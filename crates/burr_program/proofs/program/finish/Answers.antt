use Rattle.burr_program.proofs.Finishing.{faulted, flushed, flush_fails}
use Rattle.burr_program.proofs.program.finish.Goals as goal

pub returns-in-Err : goal.returns-in-Err
returns-in-Err g c =
    faulted g.W.Sink g.E.Sink c.args.sink.now c.report.new.sink c.args.errors.now c.end_by-in-Err.new.errors c.args.done c.end_by-in-Err.result c.in-Err.fault c.in-Err.ensures (c.end_by-in-Err.ensures.status, c.end_by-in-Err.ensures.told)
