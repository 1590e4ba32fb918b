use Rattle.std.proofs.Common.{refl}
use Rattle.burr_runs.specs.Views.BenchText.{streams}
use Rattle.burr_judge.specs.DriveEnds.{LedBreaks, ready_line}
use Rattle.burr_judge.specs.StepEnds.{left_by}
use Rattle.burr_judge.proofs.Common.Results.{judged_refused, on_accepted}
use Rattle.burr_judge.proofs.Dialogued.{begin_stops, broke_off, leaves_unrefused, led_done, led_broken, read_on, unread}
use Rattle.burr_judge.proofs.tasks.drive_plan.Goals as goal

pub returns-in_err-accepted : goal.returns-in_err-accepted
returns-in_err-accepted g c = unread (left_by g.R.Source c.args.source.now c.args.source.now) refl (judged_refused c.in_err-accepted.ensures.err c.from_residual.ensures.1)

pub returns-in_err-put_ready : goal.returns-in_err-put_ready
returns-in_err-put_ready g c =
    unread (left_by g.R.Source c.args.source.now c.args.source.now) refl (on_accepted c.in_ok-accepted.ensures.ok c.in_ok-accepted.ensures.accepted
    (begin_stops g.R.Source c.args.source.now g.W.Sink c.args.sink.now c.put_ready.new.sink (ready_line c.args.digest.now) c.in_ok-accepted.accepted.judged c.in_err-put_ready.ensures.err c.from_residual-in_err-put_ready.ensures.1))

pub returns-in_err-answer_commands : goal.returns-in_err-answer_commands
returns-in_err-answer_commands g c =
    broke_off (LedBreaks (streams g.R.Source c.args.source.now c.answer_commands.new.source g.W.Sink c.args.sink.now.sink c.answer_commands.new.sink.sink) (ready_line c.args.digest.now))
    c.in_ok-accepted.ensures.ok c.in_ok-accepted.ensures.accepted (λ line breaks. breaks)
    (led_broken g.R.Source c.args.source.now c.answer_commands.new.source g.W.Sink c.args.sink.now c.put_ready.new.sink c.answer_commands.new.sink (ready_line c.args.digest.now) c.in_ok-accepted.accepted.judged
    c.new-drive.result c.answer_commands.new.commanded _ c.new-drive.ensures c.in_ok-put_ready.ensures.ok.0 c.in_err-answer_commands.ensures.err c.from_residual-in_err-answer_commands.ensures.1)

pub returns : goal.returns
returns g c =
    read_on (left_by g.R.Source c.args.source.now c.answer_commands.new.source) (leaves_unrefused c.answer_commands.new.commanded c.status_after.result c.status_after.ensures)
    (on_accepted c.in_ok-accepted.ensures.ok c.in_ok-accepted.ensures.accepted
    (led_done g.R.Source c.args.source.now c.answer_commands.new.source g.W.Sink c.args.sink.now c.put_ready.new.sink c.answer_commands.new.sink (ready_line c.args.digest.now) c.in_ok-accepted.accepted.judged
    c.new-drive.result c.answer_commands.new.commanded _ c.requires.fresh c.in_ok-answer_commands.ensures.held c.new-drive.ensures c.in_ok-put_ready.ensures.ok.0 c.in_ok-answer_commands.ensures.ok c.status_after.ensures))
