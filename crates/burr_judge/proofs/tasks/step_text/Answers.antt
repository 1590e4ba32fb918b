use Rattle.std.proofs.Common.{refl, inr}
use Rattle.burr_judge.specs.StepEnds.{left_by}
use Rattle.burr_judge.proofs.Common.Results.{bytes_refused, text_refused, on_text}
use Rattle.burr_judge.proofs.Dialogued.{reads_among, unread}
use Rattle.burr_judge.proofs.tasks.step_text.Goals as goal

pub returns-in_err-tables : goal.returns-in_err-tables
returns-in_err-tables g c = unread (left_by g.R.Source c.args.source.now c.args.source.now) refl (text_refused c.in_err-tables.ensures.err c.from_residual.ensures.1)

pub returns-in_err-container : goal.returns-in_err-container
returns-in_err-container g c =
    unread (left_by g.R.Source c.args.source.now c.args.source.now) refl (on_text c.in_ok-tables.ensures.ok (bytes_refused c.in_err-container.ensures c.from_residual-in_err-container.ensures.1))

pub returns : goal.returns
returns g c =
    reads_among (left_by g.R.Source c.args.source.now c.step_plan.new.source) (λ output status ends. inr (_, c.in_ok-tables.ensures.ok, inr (_, c.in_ok-container.ensures, ends)))
    (λ line breaks. (_, c.in_ok-tables.ensures.ok, (_, c.in_ok-container.ensures, breaks))) c.step_plan.ensures
