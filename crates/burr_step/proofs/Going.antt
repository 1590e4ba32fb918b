-- Commands that go on.
use Rattle.std.proofs.Common.{◌≡◌, ◌≢◌, ℕ, suc, ◌+◌, ℤ, List, Bool, true, false, IsTrue, is_some, ◌↔◌, Option, Some, None, MatchOption, Result, Ok, Err, refl, sym, ap, subst, ◌∙◌, arith, inl, inr}
use Rattle.burr_state.specs.declared.effect.Mode.{Mode}
use Rattle.burr_state.specs.declared.effect.Mode.TheVariants.{Running, Ended, Trapped}
use Rattle.burr_state.specs.declared.effect.Progress.{Progress}
use Rattle.burr_state.specs.declared.effect.Progress.TheVariants as progress
use Rattle.burr_state.specs.declared.effect.Trap.{Trap}
use Rattle.burr_state.specs.Rules.Bench.{BenchState, Setup, HasLabelOf, IsLabelAt}
use Rattle.burr_state.specs.Rules.Next.{Goes as GoesNext, Asks}
use Rattle.burr_state.specs.Rules.Step.{Called, CallIn}
use Rattle.burr_state.specs.Rules.Undo.{Undo}
use Rattle.burr_state.specs.Views.Benches.{Benched, setup_of, IsSameRun}
use Rattle.burr_state.proofs.Common.Calls.{tells}
use Rattle.burr_state.proofs.Common.StepCalls.{runs_where_went, next_where_went, next_is_one, goes-asks}
use Rattle.burr_bench.specs.Recorded.{MadeStep}
use Rattle.burr_step.specs.declared.stepper.StepRefusal.{StepRefusal as CodeRefusal}
use Rattle.burr_step.specs.declared.stepper.StepRefusal.TheVariants as code
use Rattle.burr_step.specs.Rules.Stepper.{History, history, IsAsking, IsHalted, Goes, GoesUntil, there, farther, Forward, StepRefusal, S1, S2, StepOutcome, Taken, Refused, Follows, farther_by, going, going_until, Commanding}
use Rattle.burr_step.specs.Views.Stepping.{Stepping, stepping, IsDone, IsRefused, CameTo, NeedsNoMemory, commanding, IsUpTo, IsThere, StopsFor}
use Rattle.burr_step.specs.declared.stepper.Stop.{Stop}
use Rattle.burr_step.proofs.Commands.{decide_ended, decide_asking, decided_so, past, same_history, same_state}
use Rattle.burr_step.proofs.UnderWay.{IsFurther, same_setup}

running-ended : Running ≡ Ended → ⊥
running-ended e = cc

-- a state that goes on without an answer has not ended, and asks for nothing
pub goes_unhalted : (setup : Setup) (s new : BenchState) → Goes setup s new → (s.mode ≢ Ended) × (¬ IsAsking setup s)
goes_unhalted setup s new step = (
  (λ ended. running-ended (sym (runs_where_went setup s new step.0 s.mode refl step.1) ∙ ended)),
  λ asking.
      goes-asks new step.0 asking.0 asking.1
      (next_is_one setup s (GoesNext new step.0) (Asks asking.0 asking.1)
      (next_where_went setup s new step.0 step.1) asking.2.1),
)

not_halted : (setup : Setup) (s : BenchState) → s.mode ≢ Ended → (¬ IsAsking setup s) → ¬ IsHalted setup s
not_halted setup s on none (inl ended) = on ended
not_halted setup s on none (inr asking) = none asking

-- a call without an answer that makes no step, where the run has not ended, asks
asks_where_still : (setup : Setup) (s new : BenchState) (told : Progress) (mode : Mode) → s.mode ≡ mode → mode ≢ Ended
    → Called setup s None (Ok told) new → CallIn mode setup s None (Ok told) new → (¬ MadeStep told) → IsAsking setup s
asks_where_still setup s new (progress.Went motion) mode is on called call still = absurd (still tt)
asks_where_still setup s new (progress.Asks low high) Running is on called call still =
    (low, high, (is, (tells setup s new (Ok (progress.Asks low high)) is called).0))
asks_where_still setup s new progress.Again Running is on called call still = absurd (tells setup s new (Ok progress.Again) is called)
asks_where_still setup s new progress.Ended Running is on called call still = absurd (tells setup s new (Ok progress.Ended) is called)
asks_where_still setup s new told Ended is on called call still = absurd (on refl)
asks_where_still setup s new told (Trapped trap) is on called call still = absurd (ok-err told trap call.0)
  where
    ok-err : (told : Progress) (trap : Trap) → ◌≡◌ {A = Result Progress Trap} (Ok told) (Err trap) → ⊥
    ok-err told trap e = cc

pub still_asks : (setup : Setup) (s new : BenchState) (told : Progress) → s.mode ≢ Ended → Called setup s None (Ok told) new
    → (¬ MadeStep told) → IsAsking setup s
still_asks setup s new told on called still = asks_where_still setup s new told s.mode refl on called called still

-- whether there is a label
pub label_found : (setup : Setup) (procedure label : ℕ) (found : Option ℕ) (some : Bool) → some ≡ is_some found
    → MatchOption found (¬ HasLabelOf setup procedure label) (IsLabelAt setup procedure label)
    → IsTrue some ↔ HasLabelOf setup procedure label
label_found setup procedure label None some is none =
    ((λ yes. absurd (never (sym is ∙ yes))), λ there. absurd (none there))
  where
    never : false ≡ true → ⊥
    never e = cc
label_found setup procedure label (Some position) some is at = ((λ yes. (position, at)), λ there. is)

-- Forward

pub forward_asks : (s new : Stepping) → s.bench.state.mode ≢ Ended → IsAsking (setup_of s.bench) s.bench.state → new ≡ s
    → IsRefused s (commanding s Forward) S2 new
forward_asks s new on asking same = record { comes = inr (on, inl ((λ none. none asking), refl)); same = same }

pub forward_done : (b c : Benched) (answers : List ℤ) (undos : List Undo) → IsSameRun b c → IsFurther b c answers None undos
    → IsDone (stepping b answers) (commanding (stepping b answers) Forward) (stepping c answers)
forward_done b c answers undos same further =
    let on = goes_unhalted (setup_of b) b.state c.state further.step in
    record {
      comes = inr (on.0, inr (on.1, (c.state, further.step, ap (λ (n : ℕ). Taken (history n answers) c.state) further.steps)));
      same = same;
    }

-- Steps up to a place

-- what forward came to
forward_went : (s new : Stepping) → IsDone s (commanding s Forward) new
    → Goes (setup_of s.bench) s.bench.state new.bench.state × (new.history ≡ farther_by 1 s.history)
forward_went s new done =
    let p = past new.history new.bench.state S2 (past new.history new.bench.state S1 done.comes) in
    let state = same_state new.history (farther_by 1 s.history) new.bench.state p.0 p.2 in (
      subst (λ (x : BenchState). Goes (setup_of s.bench) s.bench.state x) (sym state) p.1,
      same_history new.history (farther_by 1 s.history) new.bench.state p.0 p.2,
    )

-- and where it was refused the run had halted
refused_halted : (setup : Setup) (h : History) (s : BenchState) (r : StepRefusal) → Commanding setup h s Forward (Refused r)
    → IsHalted setup s
refused_halted setup h s r (inl p) = inl (decided_so (decide_ended s) p.0)
refused_halted setup h s r (inr (on, inl p)) = inr (decided_so (decide_asking setup s) p.0)
refused_halted setup h s r (inr (on, inr (none, p))) = absurd (refused-taken p.2)
  where
    refused-taken : {h : History} {t : BenchState} → Refused r ≡ Taken h t → ⊥
    refused-taken e = subst IsRefusal e tt
      where
        IsRefusal : StepOutcome → Type 0
        IsRefusal (Taken h s) = ⊥
        IsRefusal (Refused r) = Unit {0}

pub forward_halted : (s new : Stepping) (refusal : CodeRefusal) → CameTo {Done = Unit {0}} s (commanding s Forward) (Err refusal) new
    → NeedsNoMemory {Done = Unit {0}} (Err refusal) → IsHalted (setup_of s.bench) s.bench.state × (new ≡ s)
forward_halted s new code.Memory came free = absurd free
forward_halted s new _ came free = (refused_halted _ s.history s.bench.state _ came.comes, came.same)

one_first : (n : ℕ) → 1 + n ≡ suc n
one_first n = omega arith

one_last : (m n : ℕ) → m + suc n ≡ (m + 1) + n
one_last m n = omega arith

-- one run after another
pub same_twice : (a b c : Benched) → IsSameRun a b → IsSameRun b c → IsSameRun a c
same_twice a b c first second =
    record { assembly = second.assembly ∙ first.assembly; program = second.program ∙ first.program }

module _ (IsSo : BenchState → Type 0) where
  -- the first step
  pub up_to_first : (old new : Stepping) → IsDone old (commanding old Forward) new → IsUpTo IsSo old new
  up_to_first old new done =
      let went = forward_went old new done in
      let on = goes_unhalted (setup_of old.bench) old.bench.state new.bench.state went.0 in
      record {
        same = done.same;
        begins = not_halted (setup_of old.bench) old.bench.state on.0 on.1;
        steps = 1;
        history = went.1;
        here = λ so. there old.bench.state new.bench.state went.0 so;
        later = λ none more last rest.
            subst (λ (n : ℕ). GoesUntil (setup_of old.bench) IsSo old.bench.state n last) (sym (one_first more))
            (farther old.bench.state new.bench.state last more went.0 none rest);
      }

  -- a step more
  pub up_to_next : (old now new : Stepping) → IsUpTo IsSo old now → (¬ IsSo now.bench.state)
      → IsDone now (commanding now Forward) new → IsUpTo IsSo old new
  up_to_next old now new up none done =
      let went = forward_went now new done in
      let step = subst (λ (x : Setup). Goes x now.bench.state new.bench.state) (same_setup old.bench now.bench up.same) went.0 in
      record {
        same = same_twice old.bench now.bench new.bench up.same done.same;
        begins = up.begins;
        steps = up.steps + 1;
        history = went.1 ∙ ap (λ (h : History). farther_by 1 h) up.history ∙ counted up.steps;
        here = λ so. up.later none 1 new.bench.state (there now.bench.state new.bench.state step so);
        later = λ no more last rest.
            subst (λ (n : ℕ). GoesUntil (setup_of old.bench) IsSo old.bench.state n last) (one_last up.steps more)
            (up.later none (suc more) last (farther now.bench.state new.bench.state last more step no rest));
      }
    where
      counted : (n : ℕ) → farther_by 1 (farther_by n old.history) ≡ farther_by (n + 1) old.history
      counted n = ap (λ (m : ℕ). history m old.history.answers) (sums old.history.steps n)
        where
          sums : (m n : ℕ) → (m + n) + 1 ≡ m + (n + 1)
          sums m n = omega arith

  -- the place is reached
  pub up_to_end : (old now : Stepping) → IsUpTo IsSo old now → IsSo now.bench.state
      → IsDone old (going (setup_of old.bench) old.bench.state (going_until (setup_of old.bench) old.history old.bench.state IsSo)) now
  up_to_end old now up so = record {
    comes =
        inr (
          (λ ended. up.begins (inl ended)),
          inr (
            (λ asking. up.begins (inr asking)),
            (up.steps, now.bench.state, up.here so, ap (λ (h : History). Taken h now.bench.state) up.history),
          ),
        );
    same = up.same;
  }

  -- where the first step is refused, so is the command
  pub first_refused : (old new : Stepping) (refusal : CodeRefusal)
      → CameTo {Done = Unit {0}} old (commanding old Forward) (Err refusal) new → NeedsNoMemory {Done = Unit {0}} (Err refusal)
      → CameTo {Done = Unit {0}} old (going (setup_of old.bench) old.bench.state (going_until (setup_of old.bench) old.history old.bench.state IsSo)) (Err refusal) new
  first_refused old new refusal came free = by_refusal refusal came free
    where
      by_comes : (r : StepRefusal) → Commanding (setup_of old.bench) old.history old.bench.state Forward (Refused r)
          → going (setup_of old.bench) old.bench.state (going_until (setup_of old.bench) old.history old.bench.state IsSo) (Refused r)
      by_comes r (inl p) = inl p
      by_comes r (inr (on, inl p)) = inr (on, inl p)
      by_comes r (inr (on, inr (none, p))) =
          absurd (not_halted (setup_of old.bench) old.bench.state on none (refused_halted (setup_of old.bench) old.history old.bench.state r (inr (on, inr (none, p)))))

      by_refusal : (refusal : CodeRefusal) → CameTo {Done = Unit {0}} old (commanding old Forward) (Err refusal) new
          → NeedsNoMemory {Done = Unit {0}} (Err refusal)
          → CameTo {Done = Unit {0}} old (going (setup_of old.bench) old.bench.state (going_until (setup_of old.bench) old.history old.bench.state IsSo)) (Err refusal) new
      by_refusal code.Memory came free = absurd free
      by_refusal _ came free = record { comes = by_comes _ came.comes; same = came.same }

-- What a command comes to, said in another way

pub going_so : (setup : Setup) (s : BenchState) (Rest Other : Follows) → ((o : StepOutcome) → Rest o → Other o)
    → (o : StepOutcome) → going setup s Rest o → going setup s Other o
going_so setup s Rest Other so o (inl ended) = inl ended
going_so setup s Rest Other so o (inr (on, inl asks)) = inr (on, inl asks)
going_so setup s Rest Other so o (inr (on, inr (none, rest))) = inr (on, inr (none, so o rest))

pub came_so : {Done : Type 0} (old new : Stepping) (Comes Other : Follows) → ((o : StepOutcome) → Comes o → Other o)
    → (result : Result Done CodeRefusal) → CameTo old Comes result new → CameTo old Other result new
came_so old new Comes Other so (Err code.Memory) came = came
came_so old new Comes Other so _ came = record { comes = so _ came.comes; same = came.same }

-- Where a run is not there, and goes on, it does not stop
pub not_there : (old now new : Stepping) (stop : Stop) → IsUpTo (StopsFor (setup_of old.bench) stop) old now
    → IsDone now (commanding now Forward) new → (¬ IsThere stop now.bench.state) → ¬ StopsFor (setup_of old.bench) stop now.bench.state
not_there old now new stop up done off stops = by_stop stops
  where
    on : ¬ IsHalted (setup_of old.bench) now.bench.state
    on =
        let went = goes_unhalted (setup_of now.bench) now.bench.state new.bench.state (forward_went now new done).0 in
        subst (λ (x : Setup). ¬ IsHalted x now.bench.state) (same_setup old.bench now.bench up.same)
        (not_halted (setup_of now.bench) now.bench.state went.0 went.1)

    by_stop : StopsFor (setup_of old.bench) stop now.bench.state → ⊥
    by_stop (inl halted) = on halted
    by_stop (inr at) = off at

-- and where it can't go on it has halted
pub halted_there : (old now new : Stepping) (stop : Stop) (refusal : CodeRefusal) → IsUpTo (StopsFor (setup_of old.bench) stop) old now
    → CameTo {Done = Unit {0}} now (commanding now Forward) (Err refusal) new → NeedsNoMemory {Done = Unit {0}} (Err refusal)
    → IsDone old (going (setup_of old.bench) old.bench.state (going_until (setup_of old.bench) old.history old.bench.state (StopsFor (setup_of old.bench) stop))) new
halted_there old now new stop refusal up came free =
    let halted = forward_halted now new refusal came free in
    let here = subst (λ (x : Setup). IsHalted x now.bench.state) (same_setup old.bench now.bench up.same) halted.0 in
    subst (λ (s : Stepping). IsDone old (going (setup_of old.bench) old.bench.state (going_until (setup_of old.bench) old.history old.bench.state (StopsFor (setup_of old.bench) stop))) s) (sym halted.1)
    (up_to_end (StopsFor (setup_of old.bench) stop) old now up (inl here))

pub one_up : (n : ℕ) → n + 1 ≡ suc n
one_up n = omega arith
