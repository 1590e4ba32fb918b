-- A drive that is given an answer.
use Rattle.std.proofs.Common.{◌≡◌, ℕ, ◌+◌, ℤ, Option, Some, None, Ok, refl, sym, ap, subst, ◌∙◌}
use Rattle.burr_verify.specs.Laws.VerifyLaws.{FittingIsFromContainer}
use Rattle.burr_state.specs.declared.effect.Mode.TheVariants.{Running, Ended}
use Rattle.burr_state.specs.declared.effect.Motion.{Motion}
use Rattle.burr_state.specs.declared.effect.Progress.{Progress}
use Rattle.burr_state.specs.declared.effect.Progress.TheVariants as progress
use Rattle.burr_state.specs.Rules.Bench.{BenchState, Setup}
use Rattle.burr_state.specs.Rules.Step.{Called}
use Rattle.burr_state.specs.Views.Benches.{Benched, setup_of, IsSameRun, in_state}
use Rattle.burr_state.proofs.Common.CallLaws.{call_leaves}
use Rattle.burr_bench.specs.Recorded.{MadeStep}
use Rattle.burr_bench.specs.Soundness.Machine.{IsSafeBench}
use Rattle.burr_bench.proofs.Common.Machine.{call_is_safe}
use Rattle.burr_step.specs.Rules.Drive.{IsFitting, Takes}
use Rattle.burr_step.specs.Rules.Moves.{ComesToRest}
use Rattle.burr_step.specs.Views.Driving.{Driving, driving, led_of, IsDriving, Goes, HasComeToRest}
use Rattle.burr_step.proofs.Answering.{asked_for, unfit_in}
use Rattle.burr_step.proofs.MakingLines.{same_twice}
use Rattle.burr_step.proofs.UnderWay.{same_run, same_setup, steps_to}

running-ended : Running ≡ Ended → ⊥
running-ended e = cc

-- the call, with the answer that was given
pub with_answer : (b c : Benched) (given answer : ℤ) (told : Progress) → given ≡ answer → Called (setup_of b) b.state (Some given) (Ok told) c.state
    → Called (setup_of b) b.state (Some answer) (Ok told) c.state
with_answer b c given answer told same called = subst (λ (n : ℤ). Called (setup_of b) b.state (Some n) (Ok told) c.state) same called

-- the machine stays safe
pub answered_safely : FittingIsFromContainer → (b c : Benched) (answer : ℤ) (told : Progress) → IsSafeBench b → IsSameRun b c
    → Called (setup_of b) b.state (Some answer) (Ok told) c.state → IsSafeBench c
answered_safely given b c answer told safe same called =
    subst (λ (x : Benched). IsSafeBench x) (same_run b c same) (call_is_safe given b (Some answer) _ c.state safe called).1

-- where no step was made

unmade : (told : Progress) → ((motion : Option Motion) → told ≡ progress.Went motion → ⊥) → ¬ MadeStep told
unmade (progress.Went motion) none made = none motion refl
unmade (progress.Asks low high) none made = made
unmade progress.Again none made = made
unmade progress.Ended none made = made

-- nothing has changed
same_state : (setup : Setup) (s new : BenchState) (answer : ℤ) (told : Progress) → Called setup s (Some answer) (Ok told) new → (¬ MadeStep told) → new ≡ s
same_state setup s new answer (progress.Went motion) called still = absurd (still tt)
same_state setup s new answer (progress.Asks low high) called still = call_leaves setup s new (Some answer) _ called
same_state setup s new answer progress.Again called still = call_leaves setup s new (Some answer) _ called
same_state setup s new answer progress.Ended called still = call_leaves setup s new (Some answer) _ called

pub same_machine : (b c : Benched) (answer : ℤ) (told : Progress) → IsSameRun b c → Called (setup_of b) b.state (Some answer) (Ok told) c.state
    → ((motion : Option Motion) → told ≡ progress.Went motion → ⊥) → b ≡ c
same_machine b c answer told same called none =
    ap (λ (s : BenchState). in_state s b) (sym (same_state (setup_of b) b.state c.state answer told called (unmade told none))) ∙ same_run b c same

pub still_driving : (b c : Benched) (moved answered : ℕ) (answer : ℤ) (told : Progress) → IsDriving (driving b moved answered) → IsSameRun b c
    → Called (setup_of b) b.state (Some answer) (Ok told) c.state → ((motion : Option Motion) → told ≡ progress.Went motion → ⊥)
    → IsDriving (driving c moved answered)
still_driving b c moved answered answer told is same called none =
    subst (λ (x : Benched). IsDriving (driving x moved answered)) (same_machine b c answer told same called none) is

-- and no such answer fits
pub none_taken : (d : Driving) (question : ℕ) (answer : ℤ) (told : Progress) (new : BenchState) → Called (setup_of d.bench) d.bench.state (Some answer) (Ok told) new
    → ((motion : Option Motion) → told ≡ progress.Went motion → ⊥) → ¬ IsFitting (setup_of d.bench) (led_of d) question answer
none_taken d question answer told new called none fitting =
    let asked = fitting.1 in
    unfit_in (setup_of d.bench) d.bench.state new answer told d.bench.state.mode (λ ended. running-ended (sym asked.2.0 ∙ ended)) called (unmade told none)
    asked.0 asked.1 asked.2.1 asked.3

-- Where a step was made the answer was taken
pub taken : (setup : Setup) (s new : BenchState) (answer : ℤ) (told : Progress) (motion : Option Motion) → Called setup s (Some answer) (Ok told) new
    → told ≡ progress.Went motion → Called setup s (Some answer) (Ok (progress.Went None)) new
taken setup s new answer told motion called is = steps_to setup s new (Some answer) told called (subst MadeStep (sym is) tt)

pub answer_taken : (b mid c : Benched) (moved answered question : ℕ) (answer : ℤ) → question ≡ answered + 1 → IsSameRun b mid
    → Called (setup_of b) b.state (Some answer) (Ok (progress.Went None)) mid.state → HasComeToRest mid c
    → Goes (driving b moved answered) (driving c moved (answered + 1)) (λ setup d e. IsFitting setup d question answer × Takes setup d answer e)
answer_taken b mid c moved answered question answer number same called (same_new, rest) =
    let asked = asked_for (setup_of b) b.state mid.state answer called in record {
      same = same_twice b mid c same same_new;
      comes = (
        (number, asked),
        (mid.state, c.state, called, subst (λ (x : Setup). ComesToRest x mid.state c.state) (same_setup b mid same) rest, refl),
      );
    }
