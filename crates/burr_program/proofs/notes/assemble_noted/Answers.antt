use Rattle.std.proofs.Common.{sym, subst}
use Rattle.burr_judge.specs.declared.stop.Stop.{Stop}
use Rattle.burr_judge.specs.Inputs.{RefusesPlanBytes}
use Rattle.burr_judge.specs.Stops.{Noted, Refuses}
use Rattle.burr_judge.proofs.Common.Results.{plan_text_refuses}
use Rattle.burr_program.proofs.Results.{noted_refuses}
use Rattle.burr_program.proofs.notes.assemble_noted.Goals as goal

pub returns-in_ok-notes-in-Err-clause-err : goal.returns-in_ok-notes-in-Err-clause-err
returns-in_ok-notes-in-Err-clause-err c =
    let Texts = RefusesPlanBytes c.args.text.now in
    let err = plan_text_refuses c.args.text.now c.in-Err.fault c.from-stop.result c.in-Err.ensures c.from-stop.ensures in
    subst (λ (stop : Stop). Refuses (Noted Texts) stop) (sym c.with_notes.ensures) (noted_refuses Texts c.from-stop.result c.in_ok-notes-in-Err.notes err)
