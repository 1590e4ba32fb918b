-- What stands next on an accepted plan, by the instruction at which the run stands.
use Rattle.std.proofs.Common.{◌≡◌, ◌≢◌, ◌↔◌, IsTrue, ℕ, ◌+◌, ◌-◌, ◌^◌, ◌<◌, Bool, true, false, Option, Some, None, Result, Ok, Err, ap, arith, refl, sym, subst, ◌∙◌, inl, inr}
use Rattle.std.specs.Prelude.{ℤ, min}
use Rattle.burr_verify.specs.Laws.VerifyLaws.{FittingIsFromContainer}
use Rattle.burr_code.specs.Instruction.{Instruction, Ask, Pick}
use Rattle.burr_code.specs.declared.instr.Instr.{Instr}
use Rattle.burr_code.specs.declared.instr.Instr.TheVariants as instr
use Rattle.burr_code.specs.Meaning.{meaning}
use Rattle.burr_voxels.specs.declared.direction.Direction.{Direction}
use Rattle.burr_state.specs.declared.effect.Mode.TheVariants.{Running, Ended}
use Rattle.burr_state.specs.declared.effect.Motion.{Motion}
use Rattle.burr_state.specs.declared.effect.Progress.{Progress}
use Rattle.burr_state.specs.declared.effect.Progress.TheVariants as progress
use Rattle.burr_state.specs.Rules.Bench.{BenchProcedure, BenchState, Program, Setup}
use Rattle.burr_state.specs.declared.effect.Trap.{Trap}
use Rattle.burr_state.specs.declared.effect.Trap.TheVariants as traps
use Rattle.burr_state.specs.Rules.Next.{Goes, Asks, Traps}
use Rattle.burr_state.specs.Rules.Step.{AsksNow, Called, IsAt, NextIs}
use Rattle.burr_state.specs.Views.Benches.{Benched, setup_of, IsSameRun}
use Rattle.burr_state.proofs.Common.Calls.{tells}
use Rattle.burr_state.proofs.Common.CallLaws.{call_leaves}
use Rattle.burr_step.proofs.UnderWay.{same_run}
use Rattle.burr_state.proofs.Common.StepCalls.{call_is_one, next_where_went, runs_where_went}
use Rattle.burr_bench.specs.Soundness.Machine.{IsSafeBench}
use Rattle.burr_bench.proofs.Common.Machine.{budgeted, call_is_safe, counted, some_safe_call}
use Rattle.burr_step.specs.Rules.Moves.{Rests, MovesNext}
use Rattle.burr_step.specs.Rules.Stepper.{IsHalted}
use Rattle.burr_state.proofs.Common.Built.{motion_by, AsksBy}
use Rattle.burr_step.proofs.Ahead.{tells_at, went_at}

running-ended : Running ≡ Ended → ⊥
running-ended e = cc

none_some : (m : Motion) → None ≡ Some m → ⊥
none_some m e = cc

some_none : (m : Motion) → Some m ≡ None → ⊥
some_none m e = cc

-- Where a run rests

-- no motion stands next where it has ended
pub ended_still : (setup : Setup) (s new : BenchState) (motion : Option Motion) → s.mode ≡ Ended
    → Called setup s None (Ok (progress.Went motion)) new → ⊥
ended_still setup s new motion ended called = running-ended (sym (runs_where_went setup s new motion s.mode refl called) ∙ ended)

-- no motion stands next at an instruction that makes none
pub never_moves : (setup : Setup) (s : BenchState) (here : BenchProcedure) (i : Instruction) → IsAt setup s here i → motion_by s i ≡ None
    → (motion : Motion) → ¬ MovesNext setup s motion
never_moves setup s here i at still motion (new, called) = some_none motion ((went_at setup s new here i (Some motion) at called).0 ∙ still)

-- an instruction that moves pieces does not ask
moves_unasked : (s : BenchState) (i : Instruction) (motion : Motion) → motion_by s i ≡ Some motion → ¬ AsksBy i
moves_unasked s (Ask low high) motion moves asks = none_some motion moves
moves_unasked s (Pick labels) motion moves asks = none_some motion moves
moves_unasked s i motion moves asks = absurd asks

-- nor does a motion stand next where no instruction stands
pub nowhere_moves : (setup : Setup) (s : BenchState) (motion : Motion) → ((here : BenchProcedure) (i : Instruction) → ¬ IsAt setup s here i)
    → ¬ MovesNext setup s motion
nowhere_moves setup s motion none (new, called) = by (next_where_went setup s new (Some motion) called)
  where
    goes-traps : (trap : Trap) → Goes new (Some motion) ≡ Traps trap → ⊥
    goes-traps trap e = cc

    by : NextIs setup s (Goes new (Some motion)) → ⊥
    by (inl at) = none at.0 at.1 at.2
    by (inr past) = goes-traps traps.BadCode past.1

pub nowhere_rests : (setup : Setup) (s : BenchState) → ((here : BenchProcedure) (i : Instruction) → ¬ IsAt setup s here i) → Rests setup s
nowhere_rests setup s none new called = by (next_where_went setup s new None called)
  where
    goes-traps : (trap : Trap) → Goes new None ≡ Traps trap → ⊥
    goes-traps trap e = cc

    by : NextIs setup s (Goes new None) → ⊥
    by (inl at) = none at.0 at.1 at.2
    by (inr past) = goes-traps traps.BadCode past.1

-- each other instruction moves none and does not ask
pub still_by : (s : BenchState) (i : Instr) → ((d : Direction) → i ≡ instr.Step d → ⊥) → ((d : Direction) (tray : ℕ) → i ≡ instr.Aside d tray → ⊥)
    → motion_by s (meaning i) ≡ None
still_by s (instr.Step d) step aside = absurd (step d refl)
still_by s (instr.Aside d tray) step aside = absurd (aside d tray refl)
still_by s i step aside = refl

pub unasked_by : (i : Instr) → ((low high : ℤ) → i ≡ instr.Ask low high → ⊥) → ((labels : _) → i ≡ instr.Pick labels → ⊥) → ¬ AsksBy (meaning i)
unasked_by (instr.Ask low high) ask pick asks = ask low high refl
unasked_by (instr.Pick labels) ask pick asks = pick labels refl
unasked_by i ask pick asks = absurd asks

-- What a call told

told_none : Progress → Bool
told_none (progress.Went None) = true
told_none _ = false

told_of : Result Progress Trap → Progress → Progress
told_of (Ok told) other = told
told_of (Err trap) other = other

same_told : (setup : Setup) (s new other : BenchState) (told more : Progress) → Called setup s None (Ok told) new → Called setup s None (Ok more) other
    → told ≡ more
unfolding told_of
same_told setup s new other told more p q = ap (λ (r : Result Progress Trap). told_of r told) (call_is_one setup s new other None _ _ p q).0

-- where a run does not rest, a step is made that moves no piece
pub goes_none : (setup : Setup) (s new : BenchState) (told : Progress) → Called setup s None (Ok told) new → (¬ Rests setup s)
    → Called setup s None (Ok (progress.Went None)) new
unfolding told_none
goes_none setup s new told called on = by (told_none told) refl
  where
    rests_if : told_none told ≡ false → Rests setup s
    rests_if other last also =
        false-true (sym other ∙ ap told_none (same_told setup s new last told (progress.Went None) called also))
      where
        false-true : false ≡ true → ⊥
        false-true e = cc

    is_none : (told : Progress) → told_none told ≡ true → told ≡ progress.Went None
    is_none (progress.Went None) e = refl
    is_none _ e = cc

    by : (test : Bool) → told_none told ≡ test → Called setup s None (Ok (progress.Went None)) new
    by true is = subst (λ (t : Progress). Called setup s None (Ok t) new) (is_none told is) called
    by false is = absurd (on (rests_if is))

-- where a motion stands next, it is made
pub goes_some : (setup : Setup) (s new : BenchState) (told : Progress) (motion : Motion) → Called setup s None (Ok told) new → MovesNext setup s motion
    → Called setup s None (Ok (progress.Went (Some motion))) new
goes_some setup s new told motion called (there, also) =
    subst (λ (t : Progress). Called setup s None (Ok t) new) (same_told setup s new there told (progress.Went (Some motion)) called also) called

module _ (given : FittingIsFromContainer) (b : Benched) (safe : IsSafeBench b) where
  -- a run that has not ended goes on
  pub runs_on : b.state.mode ≢ Ended → b.state.mode ≡ Running
  runs_on on = elim safe.state_is [ inl fact ↦ fact.mode | inr ended ↦ absurd (on ended.mode) ]

  -- a step is made at an instruction that does not ask
  pub steps_on : (here : BenchProcedure) (i : Instruction) → b.state.mode ≢ Ended → IsAt (setup_of b) b.state here i → (¬ AsksBy i)
      → (new : BenchState) × Called (setup_of b) b.state None (Ok (progress.Went (motion_by b.state i))) new
  steps_on here i on at asks =
      let call = some_safe_call given b None safe in by_told call.1 call.0 call.2
    where
      by_told : (new : BenchState) (told : Progress) → Called (setup_of b) b.state None (Ok told) new
          → (new : BenchState) × Called (setup_of b) b.state None (Ok (progress.Went (motion_by b.state i))) new
      by_told new (progress.Went motion) called = (
        new,
        subst (λ (m : Option Motion). Called (setup_of b) b.state None (Ok (progress.Went m)) new)
            (went_at (setup_of b) b.state new here i motion at called).0 called,
      )
      by_told new (progress.Asks low high) called =
          absurd (asks (tells_at (setup_of b) b.state here i (Asks low high) at (tells (setup_of b) b.state new _ (runs_on on) called).0))
      by_told new progress.Again called = absurd (tells (setup_of b) b.state new _ (runs_on on) called)
      by_told new progress.Ended called = absurd (tells (setup_of b) b.state new _ (runs_on on) called)

  -- so a run does not rest at one that moves no piece and does not ask
  pub goes_by : (here : BenchProcedure) (i : Instruction) → b.state.mode ≢ Ended → IsAt (setup_of b) b.state here i → (¬ AsksBy i)
      → motion_by b.state i ≡ None → ¬ Rests (setup_of b) b.state
  goes_by here i on at asks still rests =
      let step = steps_on here i on at asks in
      rests step.0 (subst (λ (m : Option Motion). Called (setup_of b) b.state None (Ok (progress.Went m)) step.0) still step.1)

  -- and at one that moves some its motion stands next
  pub moves_by : (here : BenchProcedure) (i : Instruction) (motion : Motion) → b.state.mode ≢ Ended → IsAt (setup_of b) b.state here i
      → motion_by b.state i ≡ Some motion → MovesNext (setup_of b) b.state motion
  moves_by here i motion on at moves =
      let step = steps_on here i on at (moves_unasked b.state i motion moves) in
      (step.0, subst (λ (m : Option Motion). Called (setup_of b) b.state None (Ok (progress.Went m)) step.0) moves step.1)

  -- and where no motion stands next, and nothing is asked, it has ended
  pub ended_there : Rests (setup_of b) b.state → ((motion : Motion) → ¬ MovesNext (setup_of b) b.state motion)
      → ((low high : ℤ) → ¬ AsksNow (setup_of b) b.state low high) → b.state.mode ≡ Ended
  ended_there rests still unasked = elim safe.state_is [
    | inl fact ↦ let call = some_safe_call given b None safe in absurd (by fact.mode call.1 call.0 call.2)
    | inr ended ↦ ended.mode
  ]
    where
      by : b.state.mode ≡ Running → (new : BenchState) (told : Progress) → Called (setup_of b) b.state None (Ok told) new → ⊥
      by is new (progress.Went None) called = rests new called
      by is new (progress.Went (Some motion)) called = still motion (new, called)
      by is new (progress.Asks low high) called = unasked low high (is, (tells (setup_of b) b.state new _ is called).0)
      by is new progress.Again called = tells (setup_of b) b.state new _ is called
      by is new progress.Ended called = tells (setup_of b) b.state new _ is called

-- so at such an instruction it rests exactly where it has ended
pub ended_or_goes : FittingIsFromContainer → (b : Benched) → IsSafeBench b → (ended : Bool) (here : BenchProcedure) (i : Instruction)
    → IsTrue ended ↔ (b.state.mode ≡ Ended) → IsAt (setup_of b) b.state here i → (¬ AsksBy i) → motion_by b.state i ≡ None
    → IsTrue ended ↔ Rests (setup_of b) b.state
ended_or_goes given b safe true here i tells at asks still =
    ((λ _ new called. ended_still (setup_of b) b.state new None (tells.0 refl) called), λ _. refl)
ended_or_goes given b safe false here i tells at asks still = (
  (λ yes. absurd (false-true yes)),
  (λ rests. absurd (goes_by given b safe here i (λ ended. false-true (tells.1 ended)) at asks still rests)),
)
  where
    false-true : false ≡ true → ⊥
    false-true e = cc

-- a run that has not ended, and asks for nothing, has not halted
pub unhalted : (setup : Setup) (s : BenchState) → s.mode ≢ Ended → ((low high : ℤ) → ¬ AsksNow setup s low high) → ¬ IsHalted setup s
unhalted setup s on unasked (inl ended) = on ended
unhalted setup s on unasked (inr asking) = unasked asking.0 asking.1 asking.2

-- One step on

-- a machine after a step without an answer
pub record IsStepOn (b c : Benched) : Type 0 where
  pub safe : IsSafeBench c
  pub steps : c.state.steps ≡ b.state.steps + 1
  pub within : b.state.steps < b.program.budget

pub stepped : FittingIsFromContainer → (b c : Benched) (motion : Option Motion) → IsSafeBench b → IsSameRun b c
    → Called (setup_of b) b.state None (Ok (progress.Went motion)) c.state → IsStepOn b c
stepped given b c motion safe same called =
    let running = runs_where_went (setup_of b) b.state c.state motion b.state.mode refl called in record {
      safe = subst (λ (x : Benched). IsSafeBench x) (same_run b c same) (call_is_safe given b None _ c.state safe called).1;
      steps = one_more (counted given b safe running) (call_leaves (setup_of b) b.state c.state None _ called).steps;
      within = budgeted given b safe running;
    }
  where
    one_more : {n m : ℕ} → n < 2 ^ 64 - 1 → m ≡ min (n + 1) (2 ^ 64 - 1) → m ≡ n + 1
    one_more few is = omega (arith, few, is)

-- fewer steps are left then
pub fewer_left : (b c : Benched) → IsSameRun b c → IsStepOn b c → c.program.budget - c.state.steps < b.program.budget - b.state.steps
fewer_left b c same on = fewer _ _ _ _ (ap (λ (p : Program). p.budget) same.program) on.steps on.within
  where
    fewer : (m n k l : ℕ) → m ≡ k → n ≡ l + 1 → l < k → m - n < k - l
    fewer m n k l budget steps within = omega (arith, budget, steps, within)
