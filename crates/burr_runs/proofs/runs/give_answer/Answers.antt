use Rattle.std.proofs.Common.{◌≡◌, ◌∷◌, rules, to_z, of_z, w32, subst, sym, Some, ℤ, List}
use Rattle.std.proofs.lemmas.List.{nil_from_length}
use Rattle.burr_state.specs.Rules.Step.{Called}
use Rattle.burr_state.specs.Views.Benches.{setup_of}
use Rattle.burr_runs.specs.Views.AfterRuns.{HasComeOn}
use Rattle.burr_runs.proofs.StepByStep.{answer_given}
use Rattle.burr_runs.proofs.AfterRuns.{answer_on, waits_there}
use Rattle.burr_runs.proofs.runs.give_answer.Goals as goal

pub returns-clause-is : goal.returns-clause-is
returns-clause-is g c =
    let b = g.R.Runner.benched c.args.runner.now in
    let new = g.R.Runner.benched c.step.new.self in
    let answer = c.in-Some.answer.now in
    let first : c.args.answers.now ≡ answer ∷ c.in-Some.left.now = search rules in
    let same : to_z w32 (of_z w32 answer) ≡ answer = search rules in
    let called = subst (λ (n : ℤ). Called (setup_of b) b.state (Some n) c.step.result new.state) same c.step.ensures.called in
    let given = answer_given b new c.args.low c.args.high answer c.step.result c.requires.running c.requires.asks called c.step.ensures.goes_on in
    (answer, first, c.step.ensures.same, given.0, given.1)

pub returns-clause-stands : goal.returns-clause-stands
returns-clause-stands g c =
    let b = g.R.Runner.benched c.args.runner.now in
    let new = g.R.Runner.benched c.step.new.self in
    let answer = c.in-Some.answer.now in
    let first : c.args.answers.now ≡ answer ∷ c.in-Some.left.now = search rules in
    let same : to_z w32 (of_z w32 answer) ≡ answer = search rules in
    let called = subst (λ (n : ℤ). Called (setup_of b) b.state (Some n) c.step.result new.state) same c.step.ensures.called in
    subst (λ (answers : List ℤ). HasComeOn b answers new c.in-Some.left.now) (sym first)
    (answer_on b new c.args.low c.args.high answer c.step.result c.in-Some.left.now (record { running = c.requires.running; within = c.requires.within }) c.requires.asks c.step.ensures.same called)

pub returns-in_default-clause-stands : goal.returns-in_default-clause-stands
returns-in_default-clause-stands g c =
    waits_there (g.R.Runner.benched c.args.runner.now) c.args.low c.args.high c.args.answers.now (nil_from_length c.args.answers.now c.in_default.ensures.cases) (record { running = c.requires.running; within = c.requires.within }) c.requires.asks
