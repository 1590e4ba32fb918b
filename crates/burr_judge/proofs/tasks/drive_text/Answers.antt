use Rattle.std.proofs.Common.{◌∙◌, refl, sym}
use Rattle.burr_runs.specs.Views.BenchText.{streams}
use Rattle.burr_judge.specs.StepEnds.{left_by}
use Rattle.burr_judge.proofs.Common.Results.{bytes_refused, given_refused, text_refused, on_text, on_given, wants_memory}
use Rattle.burr_judge.proofs.Dialogued.{digest_is_of, reads_plan, unread}
use Rattle.burr_judge.proofs.tasks.drive_text.Goals as goal

pub returns-in_err-tables : goal.returns-in_err-tables
returns-in_err-tables g c = unread (left_by g.R.Source c.args.source.now c.args.source.now) refl (text_refused c.in_err-tables.ensures.err c.from_residual.ensures.1)

pub returns-in_err-bytes : goal.returns-in_err-bytes
returns-in_err-bytes g c =
    unread (left_by g.R.Source c.args.source.now c.args.source.now) refl (on_text c.in_ok-tables.ensures.ok (given_refused c.in_err-bytes.ensures.err c.from_residual-in_err-bytes.ensures.1))

pub returns-in_err-container : goal.returns-in_err-container
returns-in_err-container g c =
    unread (left_by g.R.Source c.args.source.now c.args.source.now) refl
    (on_text c.in_ok-tables.ensures.ok (on_given c.in_ok-bytes.ensures.ok c.deref.ensures.value (bytes_refused c.in_err-container.ensures c.from_residual-in_err-container.ensures.1)))

pub returns-in_err-digest : goal.returns-in_err-digest
returns-in_err-digest g c = wants_memory c.from_residual-in_err-digest.ensures.1

pub returns : goal.returns
returns g c =
    reads_plan (left_by g.R.Source c.args.source.now c.drive_plan.new.source)
    (streams g.R.Source c.args.source.now c.drive_plan.new.source g.W.Sink c.args.sink.now.sink c.drive_plan.new.sink.sink)
    c.in_ok-tables.ensures.ok c.in_ok-bytes.ensures.ok c.deref.ensures.value c.in_ok-container.ensures
    (digest_is_of c.args.text.now (c.deref-3.ensures ∙ c.in_ok-digest.ensures) (c.deref-2.ensures.value ∙ sym c.deref.ensures.value)) c.drive_plan.ensures
