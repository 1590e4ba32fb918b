-- A call of the bench tells something and leaves a state.
use Rattle.std.proofs.Common.{◌≡◌, ℤ, Option, Some, None, Result, Ok, Err, refl, ap, subst, inl, inr}
use Rattle.burr_text.proofs.Common.Decisions.{Decided}
use Rattle.burr_state.specs.declared.effect.Mode.{Mode}
use Rattle.burr_state.specs.declared.effect.Mode.TheVariants.{Running, Ended, Trapped}
use Rattle.burr_state.specs.declared.effect.Progress.{Progress}
use Rattle.burr_state.specs.declared.effect.Progress.TheVariants as progress
use Rattle.burr_state.specs.declared.effect.Trap.{Trap}
use Rattle.burr_state.specs.Rules.Bench.{BenchState, Setup}
use Rattle.burr_state.specs.Rules.Next.{Next, Goes, Asks, Traps}
use Rattle.burr_state.specs.Rules.Step.{NextIs, IsUnfit, CallIn, call_result, left_by}
use Rattle.burr_state.specs.Rules.Questions.{Fits}
use Rattle.burr_state.specs.Laws.RunLaws.{SomeCall}
use Rattle.burr_state.proofs.Uniqueness.OneStep.{one_next}
use Rattle.burr_state.proofs.Common.Existence.SomeStep.{some_next}
use Rattle.burr_state.proofs.Common.Leading.{leads_from}
use Rattle.burr_state.proofs.Common.SomeRun.{decide_fits}

-- what a call comes to
abbrev CallOf : Setup → BenchState → Option ℤ → Mode → Type 0
CallOf setup s answer mode = (result : Result Progress Trap) × (new : BenchState) × CallIn mode setup s answer result new

-- the bounds of a question, if one stands next
abbrev low_of : Next → ℤ → ℤ
low_of (Goes new motion) other = other
low_of (Asks low high) other = low
low_of (Traps trap) other = other

abbrev high_of : Next → ℤ → ℤ
high_of (Goes new motion) other = other
high_of (Asks low high) other = high
high_of (Traps trap) other = other

abbrev pub IsQuestion : Next → Type 0
IsQuestion (Goes new motion) = ⊥
IsQuestion (Asks low high) = Unit {0}
IsQuestion (Traps trap) = ⊥

-- where no question stands next, an answer fits none
pub unfit_elsewhere : (setup : Setup) (s : BenchState) (next : Next) (answer : ℤ) → NextIs setup s next → ¬ IsQuestion next → IsUnfit setup s answer
unfit_elsewhere setup s next answer is none low high asks fits = none (subst IsQuestion (one_next setup s (Asks low high) next asks is) tt)

-- an answer that does not fit the question that stands next fits none
pub unfit_there : (setup : Setup) (s : BenchState) (low high answer : ℤ) → NextIs setup s (Asks low high) → ¬ Fits low high answer → IsUnfit setup s answer
unfit_there setup s low high answer is unfit l h asks fits =
    let same = one_next setup s (Asks l h) (Asks low high) asks is in
    let lows : l ≡ low = ap (λ (n : Next). low_of n l) same in
    let highs : h ≡ high = ap (λ (n : Next). high_of n h) same in
    unfit (subst (λ (x : ℤ). Fits x high answer) lows (subst (λ (x : ℤ). Fits l x answer) highs fits))

-- an answer is passed over
passed_over : (setup : Setup) (s : BenchState) (answer : ℤ) → IsUnfit setup s answer → CallOf setup s (Some answer) Running
passed_over setup s answer unfit = (Ok progress.Again, s, inr (unfit, refl, refl))

with_answer : (setup : Setup) (s : BenchState) (answer : ℤ) → s.mode ≡ Running → (next : Next) → NextIs setup s next → CallOf setup s (Some answer) Running
with_answer setup s answer running (Goes new motion) is = passed_over setup s answer (unfit_elsewhere setup s (Goes new motion) answer is (λ h. h))
with_answer setup s answer running (Traps trap) is = passed_over setup s answer (unfit_elsewhere setup s (Traps trap) answer is (λ h. h))
with_answer setup s answer running (Asks low high) is = by_fit (decide_fits low high answer)
  where
    by_fit : Decided (Fits low high answer) → CallOf setup s (Some answer) Running
    by_fit (inl fits) = let taken = leads_from setup s (Asks low high) running is answer fits in (Ok (progress.Went None), taken.0, inl (taken.1, refl))
    by_fit (inr unfit) = passed_over setup s answer (unfit_there setup s low high answer is unfit)

some_call_in : (setup : Setup) (s : BenchState) (answer : Option ℤ) (mode : Mode) → s.mode ≡ mode → CallOf setup s answer mode
some_call_in setup s None Running running = let next = some_next setup s in (call_result next.0, left_by s next.0, (next.0, next.1, refl, refl))
some_call_in setup s (Some answer) Running running = let next = some_next setup s in with_answer setup s answer running next.0 next.1
some_call_in setup s answer Ended ended = (Ok progress.Ended, s, (refl, refl))
some_call_in setup s answer (Trapped trap) trapped = (Err trap, s, (refl, refl))

pub some_call : SomeCall
some_call setup s answer = some_call_in setup s answer s.mode refl
