use Rattle.burr_step.proofs.UnderWay.{begins_well}
use Rattle.burr_step.proofs.stepper.Stepper.new.Goals as goal

pub invariant_of-result : goal.invariant_of-result
invariant_of-result g c =
    begins_well c.an_accepted_bench_never_traps.ensures.start c.args.accepted.now.judged c.start.ensures.accepted c.start.result c.new-2.result.items
    c.in_ok-records.records c.start.ensures.assembly c.start.ensures.program c.start.ensures.start c.new-2.ensures.items c.in_ok-records.ensures
