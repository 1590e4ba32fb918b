use Rattle.std.proofs.Common.{subst, sym, ap, ◌≡◌, ◌∙◌, ◌≤◌, ◌-◌, ℕ, arith, take}
use Rattle.std.specs.Prelude.{List, [], ℤ}
use Rattle.burr_state.specs.Rules.Undo.{Undo}
use Rattle.burr_step.specs.Rules.Stepper.{Back}
use Rattle.burr_step.specs.Views.Stepping.{Stepping, stepping, IsUnderWay, HasRun, IsDone, commanding}
use Rattle.burr_step.proofs.Returning.{restarted, has_run, again_done}
use Rattle.burr_step.proofs.stepper.Stepper.start_again.Goals as goal

at_most : (made steps : ℕ) → made - steps ≤ made
at_most made steps = omega arith

pub run_again-taken-requires-clause-under_way : goal.run_again-taken-requires-clause-under_way
run_again-taken-requires-clause-under_way c =
    let b = c.rewind.new.self in
    subst (λ (l : List Undo). IsUnderWay (stepping b []) l) (sym c.clear.ensures)
    (restarted (stepping c.self.inside.machine c.self.inside.answers.items) c.self.inside.records c.self.invariant b c.rewind.ensures.same c.rewind.ensures.start)

pub run_again-taken-requires-clause-run : goal.run_again-taken-requires-clause-run
run_again-taken-requires-clause-run c =
    let b = c.rewind.new.self in
    let old = stepping c.self.inside.machine c.self.inside.answers.items in
    let within : c.steps.result - c.from.result ≤ old.history.steps =
    subst (λ (n : ℕ). c.steps.result - c.from.result ≤ n) c.steps.ensures (at_most c.steps.result c.from.result) in
    subst (λ (l : List ℤ). HasRun b l (c.steps.result - c.from.result)) (sym c.deref.ensures.value)
    (has_run old c.self.inside.records c.self.invariant b c.rewind.ensures.same c.rewind.ensures.start _ within)

pub returns : goal.returns
returns c =
    let old = stepping c.self.inside.machine c.self.inside.answers.items in
    let now = c.run_again-taken.new.machine in
    let taken = c.run_again-taken.result in
    let under_way = subst (λ (l : List ℤ). IsUnderWay (stepping now (take taken l)) c.run_again-taken.new.records) c.deref.ensures.value c.run_again-taken.ensures.under_way in
    let within : c.args.steps ≤ old.history.steps = subst (λ (s : Stepping). c.args.steps ≤ s.history.steps) (sym c.self.view_is) c.requires in
    let count : now.state.steps ≡ old.history.steps - c.args.steps =
    c.run_again-taken.ensures.steps ∙ ap (λ (n : ℕ). n - c.from.result) c.steps.ensures
    ∙ ap (λ (n : ℕ). old.history.steps - n) c.from.ensures in
    subst (λ (s : Stepping). IsDone s (commanding s (Back c.args.steps)) (stepping now c.truncate.new.self.items)) c.self.view_is
    (subst (λ (l : List ℤ). IsDone old (commanding old (Back c.args.steps)) (stepping now l)) (sym c.truncate.ensures.items)
    (again_done old c.rewind.new.self now c.args.steps taken c.run_again-taken.new.records c.rewind.ensures.same c.run_again-taken.ensures.same under_way within count))
