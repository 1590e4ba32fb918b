use Rattle.std.proofs.Common.{◌≡◌, ◌≢◌, ℤ, List, subst, sym, refl, ap, [], ◌∙◌, rules}
use Rattle.std.specs.Borrow.{Bor}
use Rattle.std.proofs.KnownBytes.{Appends-nil}
use Rattle.burr_state.specs.Rules.Bench.{BenchState, Program}
use Rattle.burr_state.specs.Rules.Run.{ends, stops}
use Rattle.burr_state.specs.declared.effect.Mode.TheVariants.{Ended}
use Rattle.burr_state.specs.declared.effect.Closing.{Closing}
use Rattle.burr_state.specs.declared.effect.Closing.TheVariants as closings
use Rattle.burr_sheet.specs.Views.SheetUnderWay.{UnderWay}
use Rattle.std.specs.declared.ops.ControlFlow.{ControlFlow}
use Rattle.burr_runs.specs.Rules.Output.{outcome_of}
use Rattle.burr_runs.specs.Views.Running.{TurnIs, run_state}
use Rattle.burr_runs.specs.Views.AfterRuns.{TurnStands}
use Rattle.burr_text.proofs.Common.Tests.{on_err}
use Rattle.burr_runs.proofs.StepByStep.{still_running, closes_after, fails_after, parts_join}
use Rattle.burr_runs.proofs.AfterRuns.{still_here, end_there, come_further, end_further, in_run_further}
use Rattle.burr_runs.proofs.runs.run_to_close.Goals as goal

pub loop-answers-init : goal.loop-answers-init
loop-answers-init g c = (c.requires.in_step, still_here (g.R.Runner.benched c.args.runner.now) c.args.answers.now, ([], Appends-nil _, λ motions steps closing run. (motions, run, refl)))

pub returns-then-eq-clause-ok : goal.returns-then-eq-clause-ok
returns-then-eq-clause-ok g c =
    let now = g.R.Runner.benched c.loop-answers.runner in
    let ended : now.state.mode ≡ Ended = search rules in
    closes_after g.W.Sink (run_state (g.R.Runner.benched c.args.runner.now) c.args.answers.now c.args.sheet.now) (run_state now c.loop-answers.answers.now c.loop-answers.sheet) now c.loop-answers.sheet _ _ _ closings.Apart c.loop-answers.invariant.2
    (ends now.state c.loop-answers.answers.now ended) refl refl

pub returns-then-eq-clause-end : goal.returns-then-eq-clause-end
returns-then-eq-clause-end g c =
    let now = g.R.Runner.benched c.loop-answers.runner in
    let ended : now.state.mode ≡ Ended = search rules in
    end_there (g.R.Runner.benched c.args.runner.now) now c.args.answers.now c.loop-answers.answers.now closings.Apart c.loop-answers.invariant.1 ended refl

pub returns-then-steps-budget-clause-ok : goal.returns-then-steps-budget-clause-ok
returns-then-steps-budget-clause-ok g c =
    let now = g.R.Runner.benched c.loop-answers.runner in
    let used : now.state.steps ≡ now.program.budget = ap (λ (s : BenchState). s.steps) (sym c.state-in-loop-answers-2.ensures) ∙ sym c.steps.ensures ∙ c.if-steps-budget.true ∙ c.requires.budget ∙ ap (λ (p : Program). p.budget) (sym c.loop-answers.invariant.1.same.program) in
    let on : now.state.mode ≢ Ended = search rules in
    closes_after g.W.Sink (run_state (g.R.Runner.benched c.args.runner.now) c.args.answers.now c.args.sheet.now) (run_state now c.loop-answers.answers.now c.loop-answers.sheet) now c.loop-answers.sheet _ _ _ closings.Stopped c.loop-answers.invariant.2
    (stops now.state c.loop-answers.answers.now (still_running now.state c.loop-answers.invariant.0.mode on) used) refl refl

pub returns-then-steps-budget-clause-end : goal.returns-then-steps-budget-clause-end
returns-then-steps-budget-clause-end g c =
    let now = g.R.Runner.benched c.loop-answers.runner in
    let used : now.state.steps ≡ (g.R.Runner.benched c.args.runner.now).program.budget = ap (λ (s : BenchState). s.steps) (sym c.state-in-loop-answers-2.ensures) ∙ sym c.steps.ensures ∙ c.if-steps-budget.true ∙ c.requires.budget in
    let on : now.state.mode ≢ Ended = search rules in
    let here = used ∙ ap (λ (p : Program). p.budget) (sym c.loop-answers.invariant.1.same.program) in
    end_there (g.R.Runner.benched c.args.runner.now) now c.args.answers.now c.loop-answers.answers.now closings.Stopped c.loop-answers.invariant.1
    (still_running now.state c.loop-answers.invariant.0.mode on, here) refl

pub returns-in-Break-clause-end : goal.returns-in-Break-clause-end
returns-in-Break-clause-end g c =
    let now = g.R.Runner.benched c.loop-answers.runner in
    let new = g.R.Runner.benched c.take_turn.new.runner in
    let stands = subst (λ (t : ControlFlow Closing (Bor (List ℤ))). TurnStands now c.loop-answers.answers.now new t) c.in-Break.is c.in_ok-left.ensures.stands in
    end_further (g.R.Runner.benched c.args.runner.now) now new c.args.answers.now c.loop-answers.answers.now (outcome_of c.in-Break.closing) c.loop-answers.invariant.1 stands

pub returns-in_err-left-clause-err : goal.returns-in_err-left-clause-err
returns-in_err-left-clause-err g c =
    on_err c.from_residual.result
    (fails_after g.W.Sink (run_state (g.R.Runner.benched c.args.runner.now) c.args.answers.now c.args.sheet.now) (run_state (g.R.Runner.benched c.loop-answers.runner) c.loop-answers.answers.now c.loop-answers.sheet) _ _ _ c.loop-answers.invariant.2 c.in_err-left.ensures.err)

pub returns-in_err-left-clause-under_way : goal.returns-in_err-left-clause-under_way
returns-in_err-left-clause-under_way g c =
    on_err c.from_residual.result
    (in_run_further (g.R.Runner.benched c.args.runner.now) (g.R.Runner.benched c.loop-answers.runner) (g.R.Runner.benched c.take_turn.new.runner) c.args.answers.now c.loop-answers.answers.now c.loop-answers.invariant.1 c.in_err-left.ensures.under_way)

pub loop-answers-preserved : goal.loop-answers-preserved
loop-answers-preserved g c =
    let now = g.R.Runner.benched c.loop-answers.runner in
    let new = g.R.Runner.benched c.take_turn.new.runner in
    let here = run_state now c.loop-answers.answers.now c.loop-answers.sheet in
    let turn = subst (λ (t : ControlFlow Closing (Bor (List ℤ))). TurnIs g.W.Sink c.loop-answers.sink c.take_turn.new.sink here new c.take_turn.new.sheet t) c.in-Continue.is c.in_ok-left.ensures.ok in
    let stands = subst (λ (t : ControlFlow Closing (Bor (List ℤ))). TurnStands now c.loop-answers.answers.now new t) c.in-Continue.is c.in_ok-left.ensures.stands in (
      turn.0.in_step,
      come_further (g.R.Runner.benched c.args.runner.now) now new c.args.answers.now c.loop-answers.answers.now c.in-Continue.left.now c.loop-answers.invariant.1 stands,
      parts_join g.W.Sink (run_state (g.R.Runner.benched c.args.runner.now) c.args.answers.now c.args.sheet.now) here (run_state new c.in-Continue.left.now c.take_turn.new.sheet) _ _ _ c.loop-answers.invariant.2 turn.0.puts,
    )

pub returns-then-eq-clause-unfailed : goal.returns-then-eq-clause-unfailed
returns-then-eq-clause-unfailed g c = c.loop-answers.invariant.0.unfailed

pub returns-then-steps-budget-clause-unfailed : goal.returns-then-steps-budget-clause-unfailed
returns-then-steps-budget-clause-unfailed g c = c.loop-answers.invariant.0.unfailed

pub returns-in-Break-clause-unfailed : goal.returns-in-Break-clause-unfailed
returns-in-Break-clause-unfailed g c =
    let now = g.R.Runner.benched c.loop-answers.runner in
    let new = g.R.Runner.benched c.take_turn.new.runner in
    let here = run_state now c.loop-answers.answers.now c.loop-answers.sheet in
    let turn = subst (λ (t : ControlFlow Closing (Bor (List ℤ))). TurnIs g.W.Sink c.loop-answers.sink c.take_turn.new.sink here new c.take_turn.new.sheet t) c.in-Break.is c.in_ok-left.ensures.ok in
    ap (λ (u : UnderWay). u.failed) turn.1 ∙ c.loop-answers.invariant.0.unfailed
