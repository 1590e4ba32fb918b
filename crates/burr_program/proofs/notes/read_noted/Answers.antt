use Rattle.std.proofs.Common.{List, ℕ, sym, subst}
use Rattle.burr_judge.specs.declared.stop.Stop.{Stop}
use Rattle.burr_judge.specs.Stops.{Noted, Refuses, RefusesText}
use Rattle.burr_program.proofs.Results.{noted_refuses}
use Rattle.burr_program.proofs.notes.read_noted.Goals as goal

pub returns-in_ok-notes-in-Err-clause-err : goal.returns-in_ok-notes-in-Err-clause-err
returns-in_ok-notes-in-Err-clause-err c =
    let Texts = RefusesText c.args.drawing.now.bytes.items in
    let err = subst (λ (text : List ℕ). Refuses (RefusesText text) c.in-Err.stop) c.bytes.ensures c.in-Err.ensures.err in
    subst (λ (stop : Stop). Refuses (Noted Texts) stop) (sym c.with_notes.ensures) (noted_refuses Texts c.in-Err.stop c.in_ok-notes-in-Err.notes err)
