use Rattle.std.proofs.Common.{◌≢◌, refl}
use Rattle.burr_judge.specs.declared.status.Status.TheVariants.{Done, Refused}
use Rattle.burr_runs.specs.Views.BenchText.{streams}
use Rattle.burr_judge.specs.StepEnds.{DialogueBreaks, left_by}
use Rattle.burr_judge.proofs.Common.Results.{judged_refused, on_accepted}
use Rattle.burr_judge.proofs.Dialogued.{broke_off, dialogue_done, dialogue_broken, read_on, unread}
use Rattle.burr_judge.proofs.tasks.step_plan.Goals as goal

pub returns-in_err-accepted : goal.returns-in_err-accepted
returns-in_err-accepted g c = unread (left_by g.R.Source c.args.source.now c.args.source.now) refl (judged_refused c.in_err-accepted.ensures.err c.from_residual.ensures.1)

pub returns-in_err-answer_commands : goal.returns-in_err-answer_commands
returns-in_err-answer_commands g c =
    broke_off (DialogueBreaks (streams g.R.Source c.args.source.now c.answer_commands.new.source g.W.Sink c.args.sink.now.sink c.answer_commands.new.sink.sink))
    c.in_ok-accepted.ensures.ok c.in_ok-accepted.ensures.accepted (λ line breaks. breaks)
    (dialogue_broken g.R.Source c.args.source.now c.answer_commands.new.source g.W.Sink c.args.sink.now c.answer_commands.new.sink c.in_ok-accepted.accepted.judged c.in_ok-stepper.stepper
    c.answer_commands.new.commanded _ c.in_ok-stepper.ensures c.in_err-answer_commands.ensures.err c.from_residual-in_err-answer_commands.ensures.1)

pub returns : goal.returns
returns g c =
    let fine : Done ≢ Refused = λ same. cc in
    read_on (left_by g.R.Source c.args.source.now c.answer_commands.new.source) fine
    (on_accepted c.in_ok-accepted.ensures.ok c.in_ok-accepted.ensures.accepted
    (dialogue_done g.R.Source c.args.source.now c.answer_commands.new.source g.W.Sink c.args.sink.now c.answer_commands.new.sink c.in_ok-accepted.accepted.judged c.in_ok-stepper.stepper
    c.answer_commands.new.commanded c.requires.fresh c.in_ok-answer_commands.ensures.held c.in_ok-stepper.ensures c.in_ok-answer_commands.ensures.ok))
