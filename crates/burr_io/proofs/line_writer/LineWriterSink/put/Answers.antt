use Rattle.burr_io.proofs.Flushing.{TakesFront-less, on_err}
use Rattle.burr_io.proofs.line_writer.LineWriterSink.put.Goals as goal

pub returns-in_err-flush_lines-clause-front : goal.returns-in_err-flush_lines-clause-front
returns-in_err-flush_lines-clause-front g c = on_err c.from_residual.result (rw (← c.self.view_is) (TakesFront-less c.in_err-flush_lines.ensures.err))
