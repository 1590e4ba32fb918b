-- The machine's run is that of the container's plan, which is safe.
use Rattle.burr_runs.proofs.Headline.{Laws, puts_safely, fails_safely, each_ends_well}
use Rattle.burr_runs.proofs.text_runs.run_plan.Goals as goal

pub returns-clause-ok : goal.returns-clause-ok
returns-clause-ok g c =
    let accepted = c.plan.ensures.accepted in
    let laws : Laws = record { sound = c.a_well_framed_plan_runs_safely.ensures.safe; from_container = c.a_fitting_plan_is_from_a_container.ensures; disjoint = c.pieces_never_overlap.ensures.homes } in
    puts_safely g.W.Sink c.args.sink.now c.run.new.sink laws c.args.accepted.now.judged accepted c.start-machine.result.assembly c.start-machine.result.program c.args.answers.now
    c.start-machine.ensures.assembly (c.start-machine.ensures.program accepted.plan accepted.is_container) c.run.result c.run.ensures.ok

pub returns-clause-ends : goal.returns-clause-ends
returns-clause-ends g c =
    each_ends_well g.W.Sink c.args.sink.now c.run.new.sink c.args.accepted.now.judged c.args.answers.now c.run.result (returns-clause-ok g c)

pub returns-clause-err : goal.returns-clause-err
returns-clause-err g c =
    let accepted = c.plan.ensures.accepted in
    let laws : Laws = record { sound = c.a_well_framed_plan_runs_safely.ensures.safe; from_container = c.a_fitting_plan_is_from_a_container.ensures; disjoint = c.pieces_never_overlap.ensures.homes } in
    fails_safely g.W.Sink c.args.sink.now c.run.new.sink laws c.args.accepted.now.judged accepted c.start-machine.result.assembly c.start-machine.result.program c.args.answers.now
    c.start-machine.ensures.assembly (c.start-machine.ensures.program accepted.plan accepted.is_container) c.run.result c.run.ensures.err
