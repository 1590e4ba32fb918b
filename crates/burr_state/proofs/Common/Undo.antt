-- A record, laid over what its step leaves, gives the state before it.
use Rattle.std.proofs.Common.{◌≡◌, ◌-◌, ◌<◌, ◌^◌, ℤ, Option, Some, None, Result, Ok, Err, sym, ap, subst, ◌∙◌, inl, inr}
use Rattle.std.proofs.lemmas.Option.{same_Some}
use Rattle.burr_code.specs.Instruction.{Instruction, Ask, Pick, StandsAt}
use Rattle.burr_code.proofs.Common.Reading.{one_stands_at}
use Rattle.burr_state.specs.declared.effect.Mode.{Mode}
use Rattle.burr_state.specs.declared.effect.Mode.TheVariants.{Running, Ended, Trapped}
use Rattle.burr_state.specs.declared.effect.Motion.{Motion}
use Rattle.burr_state.specs.declared.effect.Progress.{Progress}
use Rattle.burr_state.specs.declared.effect.Progress.TheVariants as progress
use Rattle.burr_state.specs.declared.effect.Trap.{Trap}
use Rattle.burr_state.specs.Rules.Bench.{BenchState, BenchProcedure, Setup}
use Rattle.burr_state.specs.Rules.Next.{Goes, Traps}
use Rattle.burr_state.specs.Rules.Questions.{Takes}
use Rattle.burr_state.specs.Rules.Step.{IsAt, NextIs, TakesAnswer, CallIn, Called}
use Rattle.burr_state.proofs.Common.Built.{back, next_went}
use Rattle.burr_state.specs.Rules.Undo.{Undo, laid_over, record_of, IsRecordOf, RecordsGoBack, RecordsTell}
use Rattle.burr_state.proofs.Common.StepCalls.{next_where_went}

-- Answers

by_answer : (here : BenchProcedure) (s : BenchState) → s.mode ≡ Running → s.steps < 2 ^ 64 - 1 → (i : Instruction) (answer : ℤ) (new : BenchState) → Takes here s i answer new
    → laid_over (record_of here s i) new ≡ s
by_answer here s running few (Ask low high) answer new takes =
    ap (λ (x : BenchState). laid_over (record_of here s (Ask low high)) x) takes ∙ back s running few
by_answer here s running few (Pick labels) answer new takes =
    ap (λ (x : BenchState). laid_over (record_of here s (Pick labels)) x) takes.6 ∙ back s running few
by_answer here s running few i answer new takes = absurd takes

-- Calls

-- what holds at a procedure and an instruction at which a state stands holds at any at which it stands
at_others : (setup : Setup) (s : BenchState) (IsSo : BenchProcedure → Instruction → Type 0)
    (here there : BenchProcedure) (i j : Instruction) → IsAt setup s here i → IsAt setup s there j → IsSo there j
    → IsSo here i
at_others setup s IsSo here there i j at also_at holds =
    let runs : there ≡ here = same_Some there here (sym also_at.0 ∙ at.0) in
    let stands = subst (λ (p : BenchProcedure). StandsAt p.code s.running.pc j) runs also_at.1 in
    subst (λ (k : Instruction). IsSo here k) (one_stands_at here.code s.running.pc j i stands at.1)
    (subst (λ (p : BenchProcedure). IsSo p j) runs holds)

goes-traps : (new : BenchState) (motion : Option Motion) (trap : Trap) → Goes new motion ≡ Traps trap → ⊥
goes-traps new motion trap e = cc

next_back : (setup : Setup) (s new : BenchState) (motion : Option Motion) (u : Undo) → s.mode ≡ Running
    → s.steps < 2 ^ 64 - 1 → NextIs setup s (Goes new motion) → IsRecordOf setup s u → laid_over u new ≡ s
next_back setup s new motion u running few next r =
    let n = next_went setup s new motion next in
    ap (λ (x : Undo). laid_over x new) r.3
    ∙ at_others setup s (λ here i. laid_over (record_of here s i) new ≡ s) r.0 n.here r.1 n.i r.2 n.at
    (n.went.back running few)

answer_back : (setup : Setup) (s new : BenchState) (answer : ℤ) (u : Undo) → s.mode ≡ Running
    → s.steps < 2 ^ 64 - 1 → TakesAnswer setup s answer new → IsRecordOf setup s u → laid_over u new ≡ s
answer_back setup s new answer u running few t r =
    ap (λ (x : Undo). laid_over x new) r.3
    ∙ by_answer r.0 s running few r.1 answer new
    (at_others setup s (λ here i. Takes here s i answer new) r.0 t.0 r.1 t.1 r.2 t.4 t.7)

-- an answer makes a step that moves nothing
went_none : (setup : Setup) (s new : BenchState) (answer : ℤ) (motion : Option Motion)
    → s.mode ≡ Running → Called setup s (Some answer) (Ok (progress.Went motion)) new → TakesAnswer setup s answer new
went_none setup s new answer motion running called =
    by_call (subst (λ (m : Mode). CallIn m setup s (Some answer) (Ok (progress.Went motion)) new) running called)
  where
    went-again : (motion : Option Motion)
        → ◌≡◌ {A = Result Progress Trap} (Ok (progress.Went motion)) (Ok progress.Again) → ⊥
    went-again motion e = cc

    by_call : CallIn Running setup s (Some answer) (Ok (progress.Went motion)) new → TakesAnswer setup s answer new
    by_call (inl taken) = taken.0
    by_call (inr unfit) = absurd (went-again motion unfit.1)

pub records_go_back : RecordsGoBack
records_go_back setup s new None motion u running few called r =
    next_back setup s new motion u running few (next_where_went setup s new motion called) r
records_go_back setup s new (Some answer) motion u running few called r =
    answer_back setup s new answer u running few (went_none setup s new answer motion running called) r

pub records_tell : RecordsTell
records_tell setup s t new a b m n u s_runs t_runs s_few t_few p q r v =
    sym (records_go_back setup s new a m u s_runs s_few p r) ∙ records_go_back setup t new b n u t_runs t_few q v

-- Where a step was made

pub runs_where_stepped : (setup : Setup) (s new : BenchState) (answer : Option ℤ) (motion : Option Motion) (mode : Mode)
    → s.mode ≡ mode → CallIn mode setup s answer (Ok (progress.Went motion)) new → s.mode ≡ Running
runs_where_stepped setup s new answer motion Running is call = is
runs_where_stepped setup s new answer motion Ended is call = absurd (went-ended motion call.0)
  where
    went-ended : (motion : Option Motion)
        → ◌≡◌ {A = Result Progress Trap} (Ok (progress.Went motion)) (Ok progress.Ended) → ⊥
    went-ended motion e = cc
runs_where_stepped setup s new answer motion (Trapped trap) is call = absurd (ok-err motion trap call.0)
  where
    ok-err : (motion : Option Motion) (trap : Trap)
        → ◌≡◌ {A = Result Progress Trap} (Ok (progress.Went motion)) (Err trap) → ⊥
    ok-err motion trap e = cc

-- the instruction at which a step is made
abbrev pub StandsThere : Setup → BenchState → Type 0
StandsThere setup s = (here : BenchProcedure) × (i : Instruction) × IsAt setup s here i

pub stands_there : (setup : Setup) (s new : BenchState) (answer : Option ℤ) (motion : Option Motion)
    → s.mode ≡ Running → Called setup s answer (Ok (progress.Went motion)) new → StandsThere setup s
stands_there setup s new None motion running called = by_next (next_where_went setup s new motion called)
  where
    by_next : NextIs setup s (Goes new motion) → StandsThere setup s
    by_next (inl n) = (n.0, n.1, n.2)
    by_next (inr n) = absurd (goes-traps new motion _ n.1)
stands_there setup s new (Some answer) motion running called =
    let taken = went_none setup s new answer motion running called in (taken.0, taken.1, taken.4)
