use Rattle.burr_from_sheet.proofs.PlanTexts.{text_of_run}
use Rattle.burr_from_sheet.proofs.check.text_if_accepted.Goals as goal

pub returns-in_ok-list-in-Ok-clause-ok : goal.returns-in_ok-list-in-Ok-clause-ok
returns-in_ok-list-in-Ok-clause-ok g c =
    text_of_run c.args.container.now (g.B.Blocking.subject c.args.blocking.now) c.in-Ok.accepted.judged c.args.lines.now c.in_ok-list-in-Ok.field-0.items
    c.a_container_is_of_one_plan.ensures.one c.in-Ok.ensures.ok c.in-Ok.ensures.accepted c.in_ok-compare_run-in-Ok.ensures.ok c.in_ok-list-in-Ok.ensures
