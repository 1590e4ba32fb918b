use Rattle.std.specs.Prelude.{Some}
use Rattle.burr_judge.specs.PlanEnds.{PlanEnds}
use Rattle.burr_judge.proofs.Common.Results.{told_ends}
use Rattle.burr_c.proofs.Printing.{all_kept}
use Rattle.burr_c.proofs.printed.print_judgement.Goals as goal

pub returns-clause-ok : goal.returns-clause-ok
returns-clause-ok c =
    all_kept (PlanEnds c.args.task c.args.text.now c.args.container.now c.args.answers.now) (Some c.new-kept.result.bytes.items) (Some c.report.new.sink.bytes.items)
    c.into_bytes.result.items c.in_ok-status.status c.new-kept.ensures c.into_bytes.ensures (told_ends c.judge_text-done.ensures c.in_ok-status.ensures).0
