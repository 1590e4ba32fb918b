-- The parts are those of the plan's procedure.
use Rattle.std.proofs.Common.{◌∙◌}
use Rattle.burr_container.proofs.plan.Procedure.of.Goals as goal

pub returns : goal.returns
returns c p q of at =
    let parameters = c.params.ensures.plan p q of at in
    let results = c.results.ensures.plan p q of at in
    let exit = c.in_ok-exit.ensures p q of at in
    let labels = c.in_ok-labels.ensures p q of at in
    let code = c.in_ok-code.ensures.items ∙ c.code.ensures.plan p q of at in
    λ i. record {
      parameters = parameters i;
      results = results i;
      exit = exit i;
      labels = labels i;
      code = code i;
    }
