use Rattle.std.proofs.Common.{◌+◌, w32, Some, None, false, sym, ap, subst, arith}
use Rattle.std.proofs.lemmas.Int.{to_z-of_z}
use Rattle.burr_state.specs.Rules.Step.{Called}
use Rattle.std.specs.Prelude.{Ok}
use Rattle.burr_state.specs.Views.Benches.{Benched, setup_of}
use Rattle.burr_step.specs.Views.Driving.{Driving, driving, Answers, Goes}
use Rattle.burr_state.specs.Rules.Bench.{Setup}
use Rattle.burr_state.specs.declared.effect.Progress.TheVariants as progress
use Rattle.burr_step.specs.Rules.Drive.{IsFitting, Takes}
use Rattle.burr_step.specs.Rules.Moves.{ComesToRest}
use Rattle.burr_step.proofs.MakingLines.{same_twice}
use Rattle.burr_step.proofs.UnderWay.{same_setup}
use Rattle.burr_step.proofs.Answered.{answered_safely, answer_taken, none_taken, same_machine, still_driving, taken, with_answer}
use Rattle.burr_step.proofs.Driving.{driving_safely, drives_answered, few_moves}
use Rattle.burr_step.proofs.drive.Drive.answer.Goals as goal

pub overflow_add-self-inside : goal.overflow_add-self-inside
overflow_add-self-inside c =
    let few = few_moves c.a_fitting_plan_is_from_a_container.ensures (driving c.self.inside.machine c.self.inside.moves c.self.inside.answers) c.self.invariant in
    omega (arith, few)

pub come_to_rest-requires : goal.come_to_rest-requires
come_to_rest-requires c =
    answered_safely c.a_fitting_plan_is_from_a_container.ensures c.self.inside.machine c.step.new.self c.args.answer c.step.result
    (driving_safely c.a_fitting_plan_is_from_a_container.ensures (driving c.self.inside.machine c.self.inside.moves c.self.inside.answers) c.self.invariant)
    c.step.ensures.same (with_answer c.self.inside.machine c.step.new.self _ c.args.answer c.step.result (to_z-of_z w32 c.args.answer c.ranges.answer) c.step.ensures.called)

pub invariant_of-self : goal.invariant_of-self
invariant_of-self c =
    still_driving c.self.inside.machine c.step.new.self c.self.inside.moves c.self.inside.answers c.args.answer c.step.result c.self.invariant
    c.step.ensures.same (with_answer c.self.inside.machine c.step.new.self _ c.args.answer c.step.result (to_z-of_z w32 c.args.answer c.ranges.answer) c.step.ensures.called) c.in_default.not-Went

pub returns-in_default : goal.returns-in_default
returns-in_default c =
    let d = driving c.self.inside.machine c.self.inside.moves c.self.inside.answers in
    subst (λ (e : Driving). Answers c.args.question c.args.answer e false (driving c.step.new.self c.self.inside.moves c.self.inside.answers)) c.self.view_is (
      none_taken d c.args.question c.args.answer c.step.result c.step.new.self.state (with_answer c.self.inside.machine c.step.new.self _ c.args.answer c.step.result (to_z-of_z w32 c.args.answer c.ranges.answer) c.step.ensures.called) c.in_default.not-Went,
      ap (λ (b : Benched). driving b c.self.inside.moves c.self.inside.answers)
          (sym (same_machine c.self.inside.machine c.step.new.self c.args.answer c.step.result c.step.ensures.same (with_answer c.self.inside.machine c.step.new.self _ c.args.answer c.step.result (to_z-of_z w32 c.args.answer c.ranges.answer) c.step.ensures.called) c.in_default.not-Went)),
    )

went : (c : goal.After-self-1) → Called (setup_of c.self.inside.machine) c.self.inside.machine.state (Some c.args.answer) (Ok (progress.Went None)) c.step.new.self.state
went c = taken (setup_of c.self.inside.machine) c.self.inside.machine.state c.step.new.self.state c.args.answer c.step.result c.in-Went.field-0 (with_answer c.self.inside.machine c.step.new.self _ c.args.answer c.step.result (to_z-of_z w32 c.args.answer c.ranges.answer) c.step.ensures.called) c.in-Went.is

pub invariant_of-self-2 : goal.invariant_of-self-2
invariant_of-self-2 c =
    drives_answered c.self.inside.machine c.come_to_rest.new.machine c.step.new.self.state c.self.inside.moves c.self.inside.answers c.args.answer c.self.invariant
    (same_twice c.self.inside.machine c.step.new.self c.come_to_rest.new.machine c.step.ensures.same c.come_to_rest.ensures.0) (went c)
    (subst (λ (x : Setup). ComesToRest x c.step.new.self.state c.come_to_rest.new.machine.state) (same_setup c.self.inside.machine c.step.new.self c.step.ensures.same)
    c.come_to_rest.ensures.1)

pub returns : goal.returns
returns c =
    subst (λ (e : Driving). Goes e (driving c.come_to_rest.new.machine c.self.inside.moves (c.self.inside.answers + 1))
    (λ setup d f. IsFitting setup d c.args.question c.args.answer × Takes setup d c.args.answer f)) c.self.view_is
    (answer_taken c.self.inside.machine c.step.new.self c.come_to_rest.new.machine c.self.inside.moves c.self.inside.answers c.args.question c.args.answer
    c.if-question-self.false c.step.ensures.same (went c) c.come_to_rest.ensures)
