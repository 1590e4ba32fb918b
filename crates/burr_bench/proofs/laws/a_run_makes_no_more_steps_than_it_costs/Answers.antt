use Rattle.burr_bench.proofs.Soundness.Spending.{cost_bounds_steps}
use Rattle.burr_bench.proofs.laws.a_run_makes_no_more_steps_than_it_costs.Goals as goal

pub returns : goal.returns
returns c =
    cost_bounds_steps c.a_fitting_plan_is_from_a_container.ensures c.pieces_never_overlap.ensures.homes
