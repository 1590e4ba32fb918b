-- Answers.
use Rattle.std.proofs.Common.{◌≡◌, ◌≢◌, ℕ, ℤ, List, [], ◌∷◌, ◌++◌, Some, None, Result, Ok, Err, refl, sym, ap, subst, ◌∙◌, inl, inr}
use Rattle.burr_state.specs.declared.effect.Mode.{Mode}
use Rattle.burr_state.specs.declared.effect.Mode.TheVariants.{Running, Ended, Trapped}
use Rattle.burr_state.specs.declared.effect.Progress.{Progress}
use Rattle.burr_state.specs.declared.effect.Progress.TheVariants as progress
use Rattle.burr_state.specs.declared.effect.Trap.{Trap}
use Rattle.burr_state.specs.Rules.Bench.{BenchState, Setup}
use Rattle.burr_state.specs.Rules.Step.{AsksNow, Called, CallIn, IsUnfit}
use Rattle.burr_state.specs.Rules.Questions.{Fits}
use Rattle.burr_state.specs.Rules.Undo.{Undo}
use Rattle.burr_state.specs.Views.Benches.{Benched, setup_of, IsSameRun}
use Rattle.burr_state.proofs.Common.StepCalls.{taken_where_answered}
use Rattle.burr_state.proofs.Common.Undo.{runs_where_stepped}
use Rattle.burr_bench.specs.Recorded.{MadeStep}
use Rattle.burr_step.specs.Rules.Stepper.{history, Answer, S3, Taken}
use Rattle.burr_step.specs.Views.Stepping.{Stepping, stepping, IsDone, IsRefused, commanding}
use Rattle.burr_step.proofs.UnderWay.{IsFurther, MadeOne}

running-ended : Running ≡ Ended → ⊥
running-ended e = cc

-- an answer that is taken is one that a question waits for
pub asked_for : (setup : Setup) (s new : BenchState) (answer : ℤ) → Called setup s (Some answer) (Ok (progress.Went None)) new
    → (low high : ℤ) × AsksNow setup s low high × Fits low high answer
asked_for setup s new answer called =
    let running = runs_where_stepped setup s new (Some answer) None s.mode refl called in
    let taken = taken_where_answered setup s new answer called in
    (taken.2, taken.3, (running, inl (taken.0, taken.1, taken.4, taken.5)), taken.6)

-- one that makes no step, where the run has not ended, fits no question
pub unfit_in : (setup : Setup) (s new : BenchState) (answer : ℤ) (told : Progress) (mode : Mode) → mode ≢ Ended
    → CallIn mode setup s (Some answer) (Ok told) new → (¬ MadeStep told) → IsUnfit setup s answer
unfit_in setup s new answer told Running on (inl taken) still = absurd (still (subst MadeOne (sym taken.1) tt))
unfit_in setup s new answer told Running on (inr unfit) still = unfit.0
unfit_in setup s new answer told Ended on call still = absurd (on refl)
unfit_in setup s new answer told (Trapped trap) on call still = absurd (ok-err told trap call.0)
  where
    ok-err : (told : Progress) (trap : Trap) → ◌≡◌ {A = Result Progress Trap} (Ok told) (Err trap) → ⊥
    ok-err told trap e = cc

pub answer_unfit : (s new : Stepping) (answer : ℤ) (left : BenchState) (told : Progress) → s.bench.state.mode ≢ Ended
    → Called (setup_of s.bench) s.bench.state (Some answer) (Ok told) left → (¬ MadeStep told) → new ≡ s
    → IsRefused s (commanding s (Answer answer)) S3 new
answer_unfit s new answer left told on called still same =
    let unfit = unfit_in (setup_of s.bench) s.bench.state left answer told s.bench.state.mode on called still in
    record {
      comes = inr (on, inl ((λ some. unfit some.0 some.1 some.2.1 some.3), refl));
      same = same;
    }

pub answer_done : (b c : Benched) (answers : List ℤ) (answer : ℤ) (undos : List Undo) → IsSameRun b c
    → IsFurther b c answers (Some answer) undos
    → IsDone (stepping b answers) (commanding (stepping b answers) (Answer answer)) (stepping c (answers ++ answer ∷ []))
answer_done b c answers answer undos same further =
    let asked = asked_for (setup_of b) b.state c.state answer further.step in
    record {
      comes =
          inr (
            (λ ended. running-ended (sym asked.2.0 ∙ ended)),
            inr (
              asked,
              (c.state, further.step, ap (λ (n : ℕ). Taken (history n (answers ++ answer ∷ [])) c.state) further.steps),
            ),
          );
      same = same;
    }
