use Rattle.std.proofs.Common.{subst, sym, ap, ◌≡◌, ◌∙◌, Some, w32, ℤ, rules}
use Rattle.std.proofs.lemmas.Int.{to_z-of_z}
use Rattle.std.specs.Prelude.{List, ◌++◌, ◌∷◌, [], take, length, ◌-◌}
use Rattle.burr_text.proofs.Common.Tests.{no_of}
use Rattle.burr_step.specs.Rules.Stepper.{S3, Answer}
use Rattle.burr_step.specs.Views.Stepping.{Stepping, stepping, IsUnderWay, IsDone, IsRefused, IsStepOn, IsStill, commanding}
use Rattle.burr_step.proofs.Lists.{all_but_last}
use Rattle.burr_step.proofs.UnderWay.{IsFurther, further_of, same_stepping, still_under_way}
use Rattle.burr_step.proofs.Answering.{answer_unfit, answer_done}
use Rattle.burr_step.proofs.stepper.Stepper.answer.Goals as goal

-- the answer that is handed on is the one that was given
made : (c : goal.Else-not-step_on) → IsStepOn c.self.inside.machine (Some c.args.answer) c.self.inside.records c.step_on.new.machine c.step_on.new.records
made c =
    subst (λ (n : ℤ). IsStepOn c.self.inside.machine (Some n) c.self.inside.records c.step_on.new.machine c.step_on.new.records)
    (to_z-of_z w32 c.args.answer c.ranges.answer) (c.step_on.ensures.made c.if-not-step_on.false)

still : (c : goal.After-pop) → IsStill c.self.inside.machine (Some c.args.answer) c.self.inside.records c.step_on.new.machine c.step_on.new.records
still c =
    subst (λ (n : ℤ). IsStill c.self.inside.machine (Some n) c.self.inside.records c.step_on.new.machine c.step_on.new.records)
    (to_z-of_z w32 c.args.answer c.ranges.answer) (c.step_on.ensures.still c.if-not-step_on.true)

-- it is taken off again
left : (c : goal.After-pop) → c.pop.new.self.items ≡ c.self.inside.answers.items
left c =
    let rest : c.pop.new.self.items ≡ take (length c.push.new.self.items - 1) c.push.new.self.items = search rules in
    rest ∙ ap (λ (l : List ℤ). take (length l - 1) l) c.in_ok-push.ensures.items ∙ all_but_last c.self.inside.answers.items _

pub invariant_of-self-then-not-step_on : goal.invariant_of-self-then-not-step_on
invariant_of-self-then-not-step_on c =
    still_under_way c.self.inside.machine c.step_on.new.machine _ c.self.inside.answers.items c.pop.new.self.items c.self.inside.records c.step_on.new.records
    c.self.invariant (still c) (left c)

pub returns-then-not-step_on : goal.returns-then-not-step_on
returns-then-not-step_on c =
    let b = c.self.inside.machine in
    let new = c.step_on.new.machine in
    let answers = c.self.inside.answers.items in
    let same = same_stepping b new (Some c.args.answer) answers c.pop.new.self.items c.self.inside.records c.step_on.new.records (still c) (left c) in
    subst (λ (s : Stepping). IsRefused s (commanding s (Answer c.args.answer)) S3 (stepping new c.pop.new.self.items)) c.self.view_is
    (answer_unfit (stepping b answers) (stepping new c.pop.new.self.items) c.args.answer new.state (still c).told (no_of c.if-ended.ensures)
    (still c).called (still c).still same)

further : (c : goal.Else-not-step_on) → IsFurther c.self.inside.machine c.step_on.new.machine c.self.inside.answers.items (Some c.args.answer) c.step_on.new.records
further c =
    further_of c.a_fitting_plan_is_from_a_container.ensures c.self.inside.machine c.step_on.new.machine c.self.inside.answers.items (Some c.args.answer)
    c.self.inside.records c.step_on.new.records c.self.invariant (made c)

pushed_is : (c : goal.Else-not-step_on) → c.push.new.self.items ≡ c.self.inside.answers.items ++ c.args.answer ∷ []
pushed_is c = c.in_ok-push.ensures.items ∙ ap (λ (n : ℤ). c.self.inside.answers.items ++ n ∷ []) (to_z-of_z w32 c.args.answer c.ranges.answer)

pub invariant_of-self-else-not-step_on : goal.invariant_of-self-else-not-step_on
invariant_of-self-else-not-step_on c =
    subst (λ (l : List ℤ). IsUnderWay (stepping c.step_on.new.machine l) c.step_on.new.records) (sym (pushed_is c)) (further c).under_way

pub returns : goal.returns
returns c =
    subst (λ (l : List ℤ). IsDone c.args.self.now (commanding c.args.self.now (Answer c.args.answer)) (stepping c.step_on.new.machine l)) (sym (pushed_is c))
    (subst (λ (s : Stepping). IsDone s (commanding s (Answer c.args.answer)) (stepping c.step_on.new.machine (c.self.inside.answers.items ++ c.args.answer ∷ []))) c.self.view_is
    (answer_done c.self.inside.machine c.step_on.new.machine c.self.inside.answers.items c.args.answer _ (made c).same (further c)))
