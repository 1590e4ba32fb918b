use Rattle.std.proofs.Common.{false, sym, subst}
use Rattle.burr_judge.specs.declared.stop.Stop.{Stop}
use Rattle.burr_judge.specs.Stops.{Noted, Refuses}
use Rattle.burr_runs.specs.Rules.Verdicts.{IsVerdictLine}
use Rattle.burr_program.proofs.Results.{noted_refuses}
use Rattle.burr_program.proofs.notes.judge_noted.Goals as goal

pub returns-in_ok-notes-in-Err-clause-err : goal.returns-in_ok-notes-in-Err-clause-err
returns-in_ok-notes-in-Err-clause-err g c =
    let Texts = IsVerdictLine c.args.container.now (g.B.Blocking.subject c.args.tables.now) false in
    subst (λ (stop : Stop). Refuses (Noted Texts) stop) (sym c.with_notes.ensures) (noted_refuses Texts c.in-Err.stop c.in_ok-notes-in-Err.notes c.in-Err.ensures.err)
