-- The version is no part of a framed plan.
use Rattle.burr_runs.proofs.laws.an_upgraded_plan_is_judged_as_before.Goals as goal

pub returns : goal.returns
returns c = record {
  judged = λ p name homes judgement. (λ h. h, λ h. h);
  framed = λ p name homes. (λ h. h, λ h. h);
}
