use Rattle.burr_runs.proofs.Inputs.Cuts.{IsCutLast-after, IsCutLast-with_end}
use Rattle.burr_runs.proofs.input.split_last_line.Goals as goal

pub returns-in-Some : goal.returns-in-Some
returns-in-Some c =
    let last = c.in-Some.ensures in
    IsCutLast-with_end _ _ _ _ _ c.in_ok-end.ensures.cases.0 c.if-end-ne10.false
    (IsCutLast-after _ _ _ c.in-Some.last last.0 last.1 last.2 c.split_at.ensures.front c.split_at.ensures.back)
