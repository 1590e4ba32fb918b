use Rattle.std.proofs.Common.{List, ℕ, sym, subst}
use Rattle.burr_judge.specs.declared.status.Status.TheVariants.{Refused}
use Rattle.burr_judge.specs.declared.stop.Stop.{Stop}
use Rattle.burr_judge.specs.declared.stop.Stop.TheVariants as halts
use Rattle.burr_judge.specs.PlanEnds.{TryEnds}
use Rattle.burr_judge.specs.Stops.{Noted, Refuses}
use Rattle.burr_program.proofs.Results.{all_kept, kept_refuses, noted_refuses}
use Rattle.burr_program.proofs.notes.try_noted.Goals as goal

pub returns-in-Ok-clause-ok : goal.returns-in-Ok-clause-ok
returns-in-Ok-clause-ok g c =
    all_kept (TryEnds c.args.plan.container.now (g.B.Blocking.subject c.args.tables.now) c.args.answers.now) _ _ c.into_bytes.result.items c.in-Ok.status c.new-sheet.ensures c.into_bytes.ensures c.in-Ok.ensures.done

pub returns-clause-err : goal.returns-clause-err
returns-clause-err g c =
    let refused = c.in-Err-Refused.refused in
    let before = c.in-Err-Refused.before in
    let Texts = λ (text : List ℕ). TryEnds c.args.plan.container.now (g.B.Blocking.subject c.args.tables.now) c.args.answers.now text Refused in
    subst (λ (stop : Stop). Refuses (Noted Texts) stop) (sym c.with_notes.ensures)
    (noted_refuses Texts (halts.Refused refused before) c.in_ok-notes-in-Err-Refused.notes (kept_refuses _ refused before c.in-Err-Refused.field-0-is c.in-Err-Refused.ensures))
