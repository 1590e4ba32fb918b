-- A step of the bench, with an answer or without one.
use Rattle.std.proofs.Common.{◌≡◌, ℤ, Option, Some, None, Result, Ok, Err, refl, subst, inl, inr}
use Rattle.burr_state.specs.declared.effect.Mode.{Mode}
use Rattle.burr_state.specs.declared.effect.Mode.TheVariants.{Running, Ended, Trapped}
use Rattle.burr_state.specs.declared.effect.Motion.{Motion}
use Rattle.burr_state.specs.declared.effect.Progress.{Progress}
use Rattle.burr_state.specs.declared.effect.Progress.TheVariants as progress
use Rattle.burr_state.specs.declared.effect.Trap.{Trap}
use Rattle.burr_state.specs.Rules.Bench.{BenchState, Setup}
use Rattle.burr_state.specs.Rules.Next.{Goes as GoesNext, Asks}
use Rattle.burr_state.specs.Laws.RunLaws.{OneNext, SomeNext, OneCall}
use Rattle.burr_state.specs.Rules.Step.{NextIs, TakesAnswer, CallIn, Called}
use Rattle.burr_state.proofs.Common.Calls.{tells}
use Rattle.burr_state.proofs.Common.Existence.SomeStep.{some_next}
use Rattle.burr_state.proofs.Uniqueness.OneStep.{one_next, one_call, asks_where_taken}

-- what a call tells where a step is made without an answer: the state runs
pub runs_where_went : (setup : Setup) (s new : BenchState) (motion : Option Motion) (mode : Mode) → s.mode ≡ mode
    → CallIn mode setup s None (Ok (progress.Went motion)) new → s.mode ≡ Running
runs_where_went setup s new motion Running is call = is
runs_where_went setup s new motion Ended is call = absurd (went-ended motion call.0)
  where
    went-ended : (motion : Option Motion) → ◌≡◌ {A = Result Progress Trap} (Ok (progress.Went motion)) (Ok progress.Ended) → ⊥
    went-ended motion e = subst IsWent e tt
      where
        IsWent : Result Progress Trap → Type 0
        IsWent (Ok (progress.Went motion)) = Unit {0}
        IsWent (Ok (progress.Asks low high)) = ⊥
        IsWent (Ok progress.Again) = ⊥
        IsWent (Ok progress.Ended) = ⊥
        IsWent (Err trap) = ⊥
runs_where_went setup s new motion (Trapped trap) is call = absurd (ok-err motion trap call.0)
  where
    ok-err : (motion : Option Motion) (trap : Trap) → ◌≡◌ {A = Result Progress Trap} (Ok (progress.Went motion)) (Err trap) → ⊥
    ok-err motion trap e = cc

-- a step without an answer is what stands next
pub next_where_went : (setup : Setup) (s new : BenchState) (motion : Option Motion)
    → Called setup s None (Ok (progress.Went motion)) new → NextIs setup s (GoesNext new motion)
next_where_went setup s new motion called =
    tells setup s new (Ok (progress.Went motion)) (runs_where_went setup s new motion s.mode refl called) called

abbrev IsWent : Result Progress Trap → Type 0
IsWent (Ok (progress.Went motion)) = Unit {0}
IsWent (Ok (progress.Asks low high)) = ⊥
IsWent (Ok progress.Again) = ⊥
IsWent (Ok progress.Ended) = ⊥
IsWent (Err trap) = ⊥

-- a step with an answer takes it
taken_in : (setup : Setup) (s new : BenchState) (answer : ℤ) (mode : Mode)
    → CallIn mode setup s (Some answer) (Ok (progress.Went None)) new → TakesAnswer setup s answer new
taken_in setup s new answer Running (inl taken) = taken.0
taken_in setup s new answer Running (inr unfit) = absurd (subst IsWent unfit.1 tt)
taken_in setup s new answer Ended call = absurd (subst IsWent call.0 tt)
taken_in setup s new answer (Trapped trap) call = absurd (subst IsWent call.0 tt)

pub taken_where_answered : (setup : Setup) (s new : BenchState) (answer : ℤ)
    → Called setup s (Some answer) (Ok (progress.Went None)) new → TakesAnswer setup s answer new
taken_where_answered setup s new answer called = taken_in setup s new answer s.mode called

pub goes-asks : (new : BenchState) (motion : Option Motion) (low high : ℤ) → GoesNext new motion ≡ Asks low high → ⊥
goes-asks new motion low high e = cc

-- no state goes on without an answer and takes one
pub never_both : (setup : Setup) (s new other : BenchState) (motion : Option Motion) (answer : ℤ)
    → Called setup s None (Ok (progress.Went motion)) new
    → Called setup s (Some answer) (Ok (progress.Went None)) other → ⊥
never_both setup s new other motion answer went answered =
    let asked = asks_where_taken setup s other answer (taken_where_answered setup s other answer answered) in
    goes-asks new motion asked.0 asked.1
    (one_next setup s (GoesNext new motion) (Asks asked.0 asked.1) (next_where_went setup s new motion went) asked.2)

pub same_went : (setup : Setup) (s new other : BenchState) (motion more : Option Motion)
    → Called setup s None (Ok (progress.Went motion)) new → Called setup s None (Ok (progress.Went more)) other
    → new ≡ other
same_went setup s new other motion more p q = (one_call setup s new other None _ _ p q).1

pub same_answered : (setup : Setup) (s new other : BenchState) (answer : ℤ)
    → Called setup s (Some answer) (Ok (progress.Went None)) new
    → Called setup s (Some answer) (Ok (progress.Went None)) other → new ≡ other
same_answered setup s new other answer p q = (one_call setup s new other (Some answer) _ _ p q).1

-- For crates above: one thing stands next, and a call has one result.
pub next_is_one : OneNext
next_is_one = one_next

pub next_is_some : SomeNext
next_is_some = some_next

pub call_is_one : OneCall
call_is_one = one_call
