use Rattle.burr_runs.specs.Views.BenchText.{streams}
use Rattle.burr_runs.proofs.WholeInput.{whole_succeeds, whole_fails}
use Rattle.burr_runs.proofs.text_runs.bench_text.Goals as goal

pub returns-clause-ok : goal.returns-clause-ok
returns-clause-ok g c =
    whole_succeeds (streams g.R.Source c.args.source.now c.read_whole.new.source g.W.Sink c.args.sink.now c.write_output.new.sink) c.in_ok-input.input.items c.write_output.result
    c.in_ok-input.ensures.ok (rw c.deref.ensures.value at c.write_output.ensures.ok)

pub returns-clause-err : goal.returns-clause-err
returns-clause-err g c =
    whole_fails (streams g.R.Source c.args.source.now c.read_whole.new.source g.W.Sink c.args.sink.now c.write_output.new.sink) c.in_ok-input.input.items c.write_output.result
    c.in_ok-input.ensures.ok (rw c.deref.ensures.value at c.write_output.ensures.err)
