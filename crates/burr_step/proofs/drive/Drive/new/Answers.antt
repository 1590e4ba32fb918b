use Rattle.std.proofs.Common.{[], refl}
use Rattle.burr_step.proofs.Driving.{ready}
use Rattle.burr_step.proofs.UnderWay.{begins_well}
use Rattle.burr_step.proofs.drive.Drive.new.Goals as goal

pub invariant_of-result : goal.invariant_of-result
invariant_of-result g c =
    ready c.start-machine.result c.come_to_rest.new.machine
    (begins_well c.an_accepted_bench_never_traps.ensures.start c.args.accepted.now.judged c.start-machine.ensures.accepted c.start-machine.result [] []
    c.start-machine.ensures.assembly c.start-machine.ensures.program c.start-machine.ensures.start refl refl).start
    c.start-machine.ensures.start c.come_to_rest.ensures.0 c.come_to_rest.ensures.1
