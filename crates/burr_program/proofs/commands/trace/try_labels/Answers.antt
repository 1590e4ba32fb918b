use Rattle.burr_judge.proofs.Common.Results.{handed, refused_among}
use Rattle.burr_program.proofs.commands.trace.try_labels.Goals as goal

pub returns-in_err-status-clause-err : goal.returns-in_err-status-clause-err
returns-in_err-status-clause-err g c =
    refused_among _ _ c.from_residual-in_err-status.result (λ text is. is) (handed _ _ _ (rw c.beside-plan.ensures at c.in_err-status.ensures.err) c.from_residual-in_err-status.ensures.1)

pub returns-clause-ok : goal.returns-clause-ok
returns-clause-ok g c = rw c.beside-plan.ensures at c.in_ok-status.ensures.ok
