use Rattle.burr_bench.proofs.Common.Records.{step_is_recorded, each_record_undoes}
use Rattle.burr_bench.proofs.laws.an_accepted_step_is_recorded.Goals as goal

pub returns : goal.returns
returns c =
    let given = c.a_fitting_plan_is_from_a_container.ensures in
    record { some = step_is_recorded given; each = each_record_undoes given }
