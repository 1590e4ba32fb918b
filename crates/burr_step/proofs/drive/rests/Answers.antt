use Rattle.std.proofs.Common.{subst, refl}
use Rattle.burr_code.specs.Meaning.{meaning}
use Rattle.burr_state.specs.Views.Benches.{setup_of}
use Rattle.burr_state.specs.Views.Work.{Work, StandsBefore}
use Rattle.burr_step.proofs.NextSteps.{ended_or_goes, nowhere_rests, still_by, unasked_by}
use Rattle.burr_step.proofs.drive.rests.Goals as goal

pub returns-in_default : goal.returns-in_default
returns-in_default c =
    ((λ _. nowhere_rests (setup_of c.args.machine.now) c.args.machine.now.state (λ here i at. rw c.bench.ensures at c.in_default.ensures i (here, at))), λ _. refl)

pub returns-in_default-instruction : goal.returns-in_default-instruction
returns-in_default-instruction c =
    let b = c.args.machine.now in
    let i = c.in-Some.instruction in
    let here = subst (λ (w : Work). StandsBefore w (meaning i)) c.bench.ensures c.in-Some.ensures.stands in
    ended_or_goes c.a_fitting_plan_is_from_a_container.ensures b c.requires c.ended.result here.0 (meaning i) c.ended.ensures here.1
    (unasked_by i c.in_default-instruction.not-Ask c.in_default-instruction.not-Pick)
    (still_by b.state i c.in_default-instruction.not-Step c.in_default-instruction.not-Aside)
