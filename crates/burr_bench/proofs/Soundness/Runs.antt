-- Calls and runs from a state with a fact that steps carry on: they tell no trap, and close well.
use Rattle.std.proofs.Common.{◌≡◌, ◌⊎◌, ℕ, List, Option, Some, None, Result, Ok, refl, sym, subst, arith, inl, inr}
use Rattle.std.specs.Prelude.{ℤ}
use Rattle.burr_state.specs.declared.effect.Closing.{Closing}
use Rattle.burr_state.specs.declared.effect.Closing.TheVariants as closings
use Rattle.burr_state.specs.declared.effect.Mode.{Mode}
use Rattle.burr_state.specs.declared.effect.Mode.TheVariants.{Running, Ended, Trapped}
use Rattle.burr_state.specs.declared.effect.Motion.{Motion}
use Rattle.burr_state.specs.declared.effect.Progress.{Progress}
use Rattle.burr_state.specs.declared.effect.Progress.TheVariants as progress
use Rattle.burr_state.specs.declared.effect.Trap.{Trap}
use Rattle.burr_state.specs.Rules.Bench.{BenchState, Setup}
use Rattle.burr_state.specs.Rules.Next.{Next, Goes, Asks, Traps}
use Rattle.burr_state.specs.Rules.Step.{NextIs, CallIn, Called, call_result, left_by}
use Rattle.burr_state.specs.Rules.Run.{Run}
use Rattle.burr_state.specs.Rules.Calls.{ClosesAt, answered, went, begun, Calls}
use Rattle.burr_bench.specs.Soundness.SafeRuns.{HasEnded, ClosesWell, IsSafeRun}
use Rattle.burr_state.proofs.Common.Calls.{tells}
use Rattle.burr_state.proofs.Common.CallLaws.{run_is_calls}
use Rattle.burr_bench.proofs.Soundness.StepOutcomes.{Carries}

-- what is told is no trap
abbrev pub TellsSome : Result Progress Trap → Type 0
TellsSome result = (told : Progress) × (result ≡ Ok told)

module _ (setup : Setup) (budget : ℕ) (Fact : BenchState → Type 0) (carry : Carries setup budget Fact) where
  -- a running state has the fact
  pub still : (s : BenchState) → Fact s ⊎ HasEnded budget s → s.mode ≡ Running → Fact s
  still s (inl fact) is = fact
  still s (inr ended) is = absurd (cc (is, ended.mode))

  by_next : (s new : BenchState) (result : Result Progress Trap) (next : Next) → Fact s → NextIs setup s next
      → result ≡ call_result next → new ≡ left_by s next → TellsSome result × (Fact new ⊎ HasEnded budget new)
  by_next s new result (Goes there motion) fact is told left =
      ((progress.Went motion, told), subst (λ (t : BenchState). Fact t ⊎ HasEnded budget t) (sym left) (carry.goes s there motion fact is))
  by_next s new result (Asks low high) fact is told left = ((progress.Asks low high, told), inl (subst Fact (sym left) fact))
  by_next s new result (Traps trap) fact is told left = absurd (carry.no_trap s trap fact is)

  in_mode : (s new : BenchState) (answer : Option ℤ) (result : Result Progress Trap) (mode : Mode)
      → Fact s ⊎ HasEnded budget s → s.mode ≡ mode → CallIn mode setup s answer result new
      → TellsSome result × (Fact new ⊎ HasEnded budget new)
  in_mode s new None result Running fact is call =
      by_next s new result call.0 (still s fact is) call.1 call.2 call.3
  in_mode s new (Some answer) result Running fact is (inl taken) =
      ((progress.Went None, taken.1), carry.answers s new answer (still s fact is) taken.0)
  in_mode s new (Some answer) result Running fact is (inr unfit) =
      ((progress.Again, unfit.1), inl (subst Fact (sym unfit.2) (still s fact is)))
  in_mode s new answer result Ended fact is call =
      ((progress.Ended, call.0), subst (λ (t : BenchState). Fact t ⊎ HasEnded budget t) (sym call.1) fact)
  in_mode s new answer result (Trapped trap) (inl fact) is call = absurd (cc (is, (carry.running s fact).0))
  in_mode s new answer result (Trapped trap) (inr ended) is call = absurd (cc (is, ended.mode))

  pub by_call : (s new : BenchState) (answer : Option ℤ) (result : Result Progress Trap) → Fact s ⊎ HasEnded budget s
      → Called setup s answer result new → TellsSome result × (Fact new ⊎ HasEnded budget new)
  by_call s new answer result fact called = in_mode s new answer result s.mode fact refl called

  -- so wherever calls come to the fact holds, or the run has ended
  pub along : (most : ℕ) (s last : BenchState) (answers left : List ℤ) (motions : List Motion)
      → Fact s ⊎ HasEnded budget s → Calls setup most s answers motions last left → Fact last ⊎ HasEnded budget last
  along most s _ answers _ _ fact (begun _ _) = fact
  along most s last answers left _ fact (went _ new _ motion _ _ rest going called calls) =
      along most new last answers left rest (by_call s new None _ fact called).1 calls
  along most s last _ left motions fact (answered _ new _ low high answer told rest _ _ going asked called calls) =
      along most new last rest left motions (by_call s new (Some answer) _ fact called).1 calls

  -- and there a run that closes closes well
  closes_well : (last : BenchState) (left : List ℤ) (closing : Closing) → Fact last ⊎ HasEnded budget last
      → ClosesAt setup budget last left closing → ClosesWell setup budget last left closing
  closes_well last left closings.Apart (inl fact) ended = absurd (cc (ended, (carry.running last fact).0))
  closes_well last left closings.Apart (inr end) ended = (end.mode, end.apart, end.within)
  closes_well last left (closings.Waiting low high) fact closes = (
    closes.0.running,
    closes.2,
    (tells setup last last _ closes.0.running closes.1).0,
    (carry.running last (still last fact closes.0.running)).1,
  )
  closes_well last left (closings.Trapped trap procedure pc) fact closes =
      carry.no_trap last trap (still last fact closes.0.running)
      (tells setup last closes.1.0 _ closes.0.running closes.1.1).0
  closes_well last left closings.Stopped fact closes =
      let within = (carry.running last (still last fact closes.0)).1 in let used = closes.1 in absurd (omega arith)

  pub safe_run : (s : BenchState) (answers : List ℤ) (motions : List Motion) (steps : ℕ) (closing : Closing)
      → Fact s → Run setup budget s answers motions steps closing
      → IsSafeRun setup budget s answers motions steps closing
  safe_run s answers motions steps closing fact run =
      let to = (run_is_calls setup budget s answers motions steps closing).0 run in
      record {
        last = to.last;
        left = to.left;
        calls = to.calls;
        counted = to.counted;
        closes = closes_well to.last to.left closing (along budget s to.last answers to.left motions (inl fact) to.calls) to.closes;
      }
