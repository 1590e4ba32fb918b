use Rattle.std.proofs.Common.{◌≡◌, ℤ, subst₂, rules, to_z, of_z, w32, refl, subst, [], Some, None, Ok, Err, ◌∙◌, ap, inl}
use Rattle.std.specs.Prelude.{Option}
use Rattle.std.proofs.KnownBytes.{Appends-nil}
use Rattle.burr_state.specs.declared.effect.Motion.{Motion}
use Rattle.burr_state.specs.declared.effect.Progress.{Progress}
use Rattle.burr_state.specs.declared.effect.Progress.TheVariants.{Went}
use Rattle.burr_state.specs.Rules.Bench.{BenchState}
use Rattle.burr_state.specs.Views.Benches.{Benched, GoesOn, motion_in, setup_of}
use Rattle.burr_state.specs.Rules.Next.{Goes}
use Rattle.burr_state.specs.Rules.Step.{Called}
use Rattle.burr_state.proofs.Common.Calls.{Tells, tells}
use Rattle.burr_state.proofs.Common.Leading.{leads_from}
use Rattle.burr_runs.specs.Views.Running.{AnswerIs}
use Rattle.burr_runs.specs.Views.AfterRuns.{TurnStands}
use Rattle.burr_text.proofs.Common.Tests.{on_err}
use Rattle.burr_runs.proofs.StepByStep.{leads_motion, leads_still, under_way, fails_at_motion, in_step_still, in_step_motion, one_step_less, trapped_run, unchanged, asked_turn}
use Rattle.burr_runs.proofs.AfterRuns.{one_step_on, trapped_there}
use Rattle.burr_runs.proofs.runs.take_turn.Goals as goal

pub returns-in-Err-clause-ok : goal.returns-in-Err-clause-ok
returns-in-Err-clause-ok g c =
    let b = g.R.Runner.benched c.args.runner.now in
    let new = g.R.Runner.benched c.step.new.self in
    let told = tells (setup_of b) b.state new.state (Err c.in-Err.trap) c.requires.running c.in-Err.ensures.called in
    (trapped_run b new c.args.answers.now c.args.sheet.now c.in-Err.trap c.procedure.result c.pc.result (record { running = c.requires.running; within = c.requires.within }) told.0 told.1 (c.procedure.ensures ∙ ap (λ (s : BenchState). s.running.procedure) c.state-state.ensures) (c.pc.ensures.pc ∙ ap (λ (s : BenchState). s.running.pc) c.state-state.ensures), refl, refl)

pub returns-in-Ok-Asks-clause-ok : goal.returns-in-Ok-Asks-clause-ok
returns-in-Ok-Asks-clause-ok g c =
    let b = g.R.Runner.benched c.args.runner.now in
    let mid = g.R.Runner.benched c.step.new.self in
    let low = c.in-Ok-Asks.low in
    let high = c.in-Ok-Asks.high in
    let told = subst (λ (p : Progress). Tells (setup_of b) b.state (Ok p) mid.state) c.in-Ok-Asks.field-0-is (tells (setup_of b) b.state mid.state (Ok c.in-Ok-Asks.field-0) c.requires.running c.in-Ok-Asks.ensures.called) in
    let here : mid ≡ b = unchanged b mid c.in-Ok-Asks.ensures.same told.1 in
    let same_low : to_z w32 (of_z w32 low) ≡ low = search rules in
    let same_high : to_z w32 (of_z w32 high) ≡ high = search rules in
    let answer = subst₂ (λ (l h : ℤ). AnswerIs mid c.args.answers.now l h (g.R.Runner.benched c.give_answer.new.runner) c.give_answer.result) same_low same_high c.give_answer.ensures.is in
    asked_turn g.W.Sink b (g.R.Runner.benched c.give_answer.new.runner) c.args.answers.now c.args.sheet.now low high c.args.sink.now c.give_answer.result c.requires.in_step
    (record { running = c.requires.running; within = c.requires.within }) told.0 (subst (λ (x : Benched). AnswerIs x c.args.answers.now low high (g.R.Runner.benched c.give_answer.new.runner) c.give_answer.result) here answer)

pub returns-in-Ok-Went-None-clause-ok : goal.returns-in-Ok-Went-None-clause-ok
returns-in-Ok-Went-None-clause-ok g c =
    let b = g.R.Runner.benched c.args.runner.now in
    let new = g.R.Runner.benched c.step.new.self in
    let went = c.in-Ok-Went-None.field-0-is ∙ ap (λ (m : Option Motion). Went m) c.in-Ok-Went-None.field-0-0-is in
    let told = tells (setup_of b) b.state new.state (Ok c.in-Ok-Went-None.field-0) c.requires.running c.in-Ok-Went-None.ensures.called in
    let next = subst (λ (p : Progress). Tells (setup_of b) b.state (Ok p) new.state) went told in
    let on = subst (λ (p : Progress). GoesOn b new (motion_in (Ok p))) went c.in-Ok-Went-None.ensures.goes_on in
    let same = c.in-Ok-Went-None.ensures.same in
    let step = leads_from (setup_of b) b.state (Goes new.state None) c.requires.running next in
    let under = under_way b new c.args.sheet.now c.requires.in_step c.requires.running c.requires.within step same in (
      record {
        in_step = in_step_still b new c.args.sheet.now c.requires.in_step same under.0 (search (under.1, rules)) on;
        same = same;
        puts = ([], Appends-nil _, leads_still b new c.args.answers.now c.args.sheet.now (record { running = c.requires.running; within = c.requires.within }) next same);
      },
      one_step_less b new c.args.answers.now c.args.answers.now c.args.sheet.now c.args.sheet.now c.requires.in_step.within c.requires.within same under.1 (search rules),
    )

pub returns-in_ok-motion-in-Ok-Went-Some-clause-ok : goal.returns-in_ok-motion-in-Ok-Went-Some-clause-ok
returns-in_ok-motion-in-Ok-Went-Some-clause-ok g c =
    let b = g.R.Runner.benched c.args.runner.now in
    let new = g.R.Runner.benched c.step.new.self in
    let motion = c.in-Ok-Went-Some.motion in
    let went = c.in-Ok-Went-Some.field-0-is ∙ ap (λ (m : Option Motion). Went m) c.in-Ok-Went-Some.field-0-0-is in
    let told = tells (setup_of b) b.state new.state (Ok c.in-Ok-Went-Some.field-0) c.requires.running c.in-Ok-Went-Some.ensures.called in
    let next = subst (λ (p : Progress). Tells (setup_of b) b.state (Ok p) new.state) went told in
    let on = subst (λ (p : Progress). GoesOn b new (motion_in (Ok p))) went c.in-Ok-Went-Some.ensures.goes_on in
    let puts = c.in_ok-motion-in-Ok-Went-Some.ensures.ok in
    let same = c.in-Ok-Went-Some.ensures.same in
    let step = leads_from (setup_of b) b.state (Goes new.state (Some motion)) c.requires.running next in
    let under = under_way b new c.args.sheet.now c.requires.in_step c.requires.running c.requires.within step same in (
      record {
        in_step = in_step_motion b new c.args.sheet.now c.motion.new.self motion c.requires.in_step same under on (c.in_ok-motion-in-Ok-Went-Some.ensures.motions, c.in_ok-motion-in-Ok-Went-Some.ensures.levels) c.in_ok-motion-in-Ok-Went-Some.ensures.unfailed.1;
        same = same;
        puts = (
          puts.0,
          puts.1,
          leads_motion b new c.args.answers.now c.args.sheet.now c.motion.new.self motion puts.0 (record { running = c.requires.running; within = c.requires.within }) next same puts.2,
        );
      },
      one_step_less b new c.args.answers.now c.args.answers.now c.args.sheet.now c.motion.new.self c.requires.in_step.within c.requires.within same under.1 (search rules),
    )

pub returns-in_err-motion-in-Ok-Went-Some-clause-err : goal.returns-in_err-motion-in-Ok-Went-Some-clause-err
returns-in_err-motion-in-Ok-Went-Some-clause-err g c =
    let b = g.R.Runner.benched c.args.runner.now in
    let new = g.R.Runner.benched c.step.new.self in
    let motion = c.in-Ok-Went-Some.motion in
    let went = c.in-Ok-Went-Some.field-0-is ∙ ap (λ (m : Option Motion). Went m) c.in-Ok-Went-Some.field-0-0-is in
    let told = tells (setup_of b) b.state new.state (Ok c.in-Ok-Went-Some.field-0) c.requires.running c.in-Ok-Went-Some.ensures.called in
    let next = subst (λ (p : Progress). Tells (setup_of b) b.state (Ok p) new.state) went told in
    let same = c.in-Ok-Went-Some.ensures.same in
    let step = leads_from (setup_of b) b.state (Goes new.state (Some motion)) c.requires.running next in
    let under = under_way b new c.args.sheet.now c.requires.in_step c.requires.running c.requires.within step same in
    on_err c.from_residual.result
    (fails_at_motion g.W.Sink b new c.args.answers.now c.args.sheet.now motion c.args.sink.now c.motion.new.sink c.requires.in_step
    (record { running = c.requires.running; within = c.requires.within }) next same under.0 (c.in_err-motion-in-Ok-Went-Some.ensures.err.1 c.requires.in_step.unfailed))

pub returns-in-Err-clause-stands : goal.returns-in-Err-clause-stands
returns-in-Err-clause-stands g c =
    let b = g.R.Runner.benched c.args.runner.now in
    let new = g.R.Runner.benched c.step.new.self in
    let told = tells (setup_of b) b.state new.state (Err c.in-Err.trap) c.requires.running c.in-Err.ensures.called in
    trapped_there b new c.args.answers.now c.in-Err.trap c.procedure.result c.pc.result (record { running = c.requires.running; within = c.requires.within }) c.in-Err.ensures.same
    c.in-Err.ensures.called told.1 (c.procedure.ensures ∙ ap (λ (s : BenchState). s.running.procedure) c.state-state.ensures) (c.pc.ensures.pc ∙ ap (λ (s : BenchState). s.running.pc) c.state-state.ensures)

pub returns-in-Ok-Asks-clause-stands : goal.returns-in-Ok-Asks-clause-stands
returns-in-Ok-Asks-clause-stands g c =
    let b = g.R.Runner.benched c.args.runner.now in
    let mid = g.R.Runner.benched c.step.new.self in
    let told = subst (λ (p : Progress). Tells (setup_of b) b.state (Ok p) mid.state) c.in-Ok-Asks.field-0-is (tells (setup_of b) b.state mid.state (Ok c.in-Ok-Asks.field-0) c.requires.running c.in-Ok-Asks.ensures.called) in
    subst (λ (x : Benched). TurnStands x c.args.answers.now (g.R.Runner.benched c.give_answer.new.runner) c.give_answer.result) (unchanged b mid c.in-Ok-Asks.ensures.same told.1) c.give_answer.ensures.stands

pub returns-in-Ok-Went-None-clause-stands : goal.returns-in-Ok-Went-None-clause-stands
returns-in-Ok-Went-None-clause-stands g c =
    let b = g.R.Runner.benched c.args.runner.now in
    let new = g.R.Runner.benched c.step.new.self in
    let went = c.in-Ok-Went-None.field-0-is ∙ ap (λ (m : Option Motion). Went m) c.in-Ok-Went-None.field-0-0-is in
    let called = subst (λ (p : Progress). Called (setup_of b) b.state None (Ok p) new.state) went c.in-Ok-Went-None.ensures.called in
    one_step_on b new c.args.answers.now None (record { running = c.requires.running; within = c.requires.within }) c.in-Ok-Went-None.ensures.same called

pub returns-in_ok-motion-in-Ok-Went-Some-clause-stands : goal.returns-in_ok-motion-in-Ok-Went-Some-clause-stands
returns-in_ok-motion-in-Ok-Went-Some-clause-stands g c =
    let b = g.R.Runner.benched c.args.runner.now in
    let new = g.R.Runner.benched c.step.new.self in
    let went = c.in-Ok-Went-Some.field-0-is ∙ ap (λ (m : Option Motion). Went m) c.in-Ok-Went-Some.field-0-0-is in
    let called = subst (λ (p : Progress). Called (setup_of b) b.state None (Ok p) new.state) went c.in-Ok-Went-Some.ensures.called in
    one_step_on b new c.args.answers.now (Some c.in-Ok-Went-Some.motion) (record { running = c.requires.running; within = c.requires.within }) c.in-Ok-Went-Some.ensures.same called

pub returns-in_err-motion-in-Ok-Went-Some-clause-under_way : goal.returns-in_err-motion-in-Ok-Went-Some-clause-under_way
returns-in_err-motion-in-Ok-Went-Some-clause-under_way g c =
    let b = g.R.Runner.benched c.args.runner.now in
    let new = g.R.Runner.benched c.step.new.self in
    let answers = c.args.answers.now in
    let went = c.in-Ok-Went-Some.field-0-is ∙ ap (λ (m : Option Motion). Went m) c.in-Ok-Went-Some.field-0-0-is in
    let called = subst (λ (p : Progress). Called (setup_of b) b.state None (Ok p) new.state) went c.in-Ok-Went-Some.ensures.called in
    on_err c.from_residual.result
    (inl (answers, one_step_on b new answers (Some c.in-Ok-Went-Some.motion) (record { running = c.requires.running; within = c.requires.within }) c.in-Ok-Went-Some.ensures.same called))
