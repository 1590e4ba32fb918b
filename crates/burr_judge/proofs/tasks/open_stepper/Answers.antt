use Rattle.std.proofs.Common.{refl, inl, inr}
use Rattle.burr_judge.specs.Stops.{RefusesText}
use Rattle.burr_step.specs.Views.Stepping.{IsFresh}
use Rattle.burr_judge.proofs.Common.Results.{handed, refused_among}
use Rattle.burr_judge.proofs.Dialogued.{opened_is}
use Rattle.burr_judge.proofs.tasks.open_stepper.Goals as goal

pub returns-in_err-tables-clause-err : goal.returns-in_err-tables-clause-err
returns-in_err-tables-clause-err c =
    refused_among (RefusesText c.args.text.now) _ _ (λ line (fault, first, same). inl (fault, first, (same, refl))) (handed _ _ _ c.in_err-tables.ensures.err c.from_residual.ensures.1)

pub returns-in_err-container-clause-err : goal.returns-in_err-container-clause-err
returns-in_err-container-clause-err c =
    refused_among _ _ _ (λ line same. inr (_, c.in_ok-tables.ensures.ok, inl (_, c.in_err-container.ensures, (same, refl)))) c.from_residual-in_err-container.ensures.1

pub returns-in_err-accepted-clause-err : goal.returns-in_err-accepted-clause-err
returns-in_err-accepted-clause-err c =
    refused_among _ _ _ (λ line is. inr (_, c.in_ok-tables.ensures.ok, inr (_, c.in_ok-container.ensures, (is, refl))))
    (handed _ _ _ c.in_err-accepted.ensures.err c.from_residual-in_err-accepted.ensures.1)

pub returns-clause-opens : goal.returns-clause-opens
returns-clause-opens c = opened_is IsFresh c.in_ok-tables.ensures.ok c.in_ok-container.ensures c.in_ok-accepted.ensures.ok c.in_ok-accepted.ensures.accepted c.in_ok-new.ensures
