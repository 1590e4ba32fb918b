-- A run under way, and one step more of it.
use Rattle.std.proofs.Common.{◌≡◌, ℕ, ◌+◌, ◌≤◌, ◌<◌, ℤ, List, [], ◌∷◌, take, true, false, IsSome, ◌↔◌, Option, Some, None, Result, Ok, Err, refl, sym, ap, subst, ◌∙◌, arith, inl, inr}
use Rattle.burr_verify.specs.Laws.VerifyLaws.{FittingIsFromContainer}
use Rattle.burr_assembly.specs.Rules.Text.{Assembly}
use Rattle.burr_state.specs.declared.effect.Mode.{Mode}
use Rattle.burr_state.specs.declared.effect.Mode.TheVariants.{Running, Ended, Trapped}
use Rattle.burr_state.specs.declared.effect.Motion.{Motion}
use Rattle.burr_state.specs.declared.effect.Progress.{Progress}
use Rattle.burr_state.specs.declared.effect.Progress.TheVariants as progress
use Rattle.burr_state.specs.declared.effect.Trap.{Trap}
use Rattle.burr_state.specs.Rules.Bench.{BenchState, Program, Setup, start}
use Rattle.burr_state.specs.Rules.Step.{Called, CallIn}
use Rattle.burr_state.specs.Rules.Undo.{Undo, laid_over}
use Rattle.burr_state.specs.Views.Benches.{Benched, benched, setup_of, in_state, IsSameRun, IsAtStart}
use Rattle.burr_container.specs.Rules.Plans.{Plan}
use Rattle.burr_container.specs.Views.Containers.{IsContainer}
use Rattle.burr_verify.specs.Rules.Accepting.{Judged, IsAccepted}
use Rattle.burr_state.specs.Views.Programs.{plan_program}
use Rattle.burr_bench.specs.Soundness.Machine.{IsSafeBench, StartIsSafe}
use Rattle.burr_bench.proofs.Common.Machine.{budgeted}
use Rattle.burr_bench.specs.Recorded.{TakesBack, GoesBack, MadeStep, gone_back}
use Rattle.burr_step.specs.Rules.Stepper.{Leads, stays, goes, takes, History, history, IsStateOf}
use Rattle.burr_step.specs.Views.UndoRing.{AreRecordsOf, answers_more, one_more, StepsTo}
use Rattle.burr_step.specs.Views.Stepping.{Stepping, stepping, IsUnderWay, IsStepOn, IsStill}
use Rattle.burr_step.proofs.Commands.{leads_on, goes_there}
use Rattle.burr_step.proofs.SomeCommand.{leads_safely, steps_are_counted}
use Rattle.burr_step.proofs.UndoRing.{record_is_kept, last_are_kept}

-- a bench of the same run, in its own state
pub same_run : (b c : Benched) → IsSameRun b c → in_state c.state b ≡ c
same_run b c same =
    ap (λ (a : Assembly). benched a b.program c.state) (sym same.assembly)
    ∙ ap (λ (p : Program). benched c.assembly p c.state) (sym same.program)

pub same_setup : (b c : Benched) → IsSameRun b c → setup_of c ≡ setup_of b
same_setup b c same = ap setup_of (sym (same_run b c same))

-- a run under way is safe where it stands
pub is_safe : FittingIsFromContainer → (s : Stepping) (undos : List Undo) → IsUnderWay s undos → IsSafeBench s.bench
is_safe given s undos under_way =
    leads_safely given (in_state (start (setup_of s.bench)) s.bench) s.bench.state s.history.steps s.history.answers
    under_way.start under_way.state

-- and has made no more steps than its budget
pub is_within : FittingIsFromContainer → (s : Stepping) (undos : List Undo) → IsUnderWay s undos
    → s.bench.state.steps ≤ s.bench.program.budget
is_within given s undos under_way =
    let safe = is_safe given s undos under_way in
    elim safe.state_is [
      | inl fact ↦ at_most (budgeted given s.bench safe fact.mode)
      | inr ended ↦
          subst (λ (p : Program). s.bench.state.steps ≤ p.budget) (sym safe.program_is) ended.within
    ]
  where
    at_most : {n most : ℕ} → n < most → n ≤ most
    at_most less = omega (arith, less)

-- one step more leads to where one more is fixed
one_more_there : (setup : Setup) (h : History) (s new : BenchState) (answer : Option ℤ) → IsStateOf setup h s
    → StepsTo setup s answer new → IsStateOf setup (one_more answer h) new
one_more_there setup h s new None is step = goes_there setup h s new 1 is (goes s new new step.0 0 [] step.1 (stays new))
one_more_there setup h s new (Some answer) is step =
    leads_on setup (start setup) s new h.steps 1 h.answers (answer ∷ []) is (takes s new new answer 0 [] step (stays new))

-- so the state counts the steps that are fixed
pub is_counted : FittingIsFromContainer → (b : Benched) (h : History) → IsSafeBench (in_state (start (setup_of b)) b)
    → IsStateOf (setup_of b) h b.state → b.state.steps ≡ h.steps
is_counted given b h safe is = steps_are_counted given b h safe is

-- what a call tells that made a step
abbrev pub MadeOne : Result Progress Trap → Type 0
MadeOne (Ok told) = MadeStep told
MadeOne (Err trap) = ⊥

-- where a call with an answer makes a step, there is no motion
went_none : (setup : Setup) (s new : BenchState) (answer : ℤ) (motion : Option Motion) (mode : Mode)
    → CallIn mode setup s (Some answer) (Ok (progress.Went motion)) new
    → CallIn mode setup s (Some answer) (Ok (progress.Went None)) new
went_none setup s new answer motion Running (inl taken) = inl (taken.0, refl)
went_none setup s new answer motion Running (inr unfit) = absurd (subst MadeOne unfit.1 tt)
went_none setup s new answer motion Ended call = absurd (subst MadeOne call.0 tt)
went_none setup s new answer motion (Trapped trap) call = absurd (subst MadeOne call.0 tt)

-- a call that made a step leads on
pub steps_to : (setup : Setup) (s new : BenchState) (answer : Option ℤ) (told : Progress)
    → Called setup s answer (Ok told) new → MadeStep told → StepsTo setup s answer new
steps_to setup s new None (progress.Went motion) called made = (motion, called)
steps_to setup s new (Some answer) (progress.Went motion) called made = went_none setup s new answer motion s.mode called
steps_to setup s new answer (progress.Asks low high) called made = absurd made
steps_to setup s new answer progress.Again called made = absurd made
steps_to setup s new answer progress.Ended called made = absurd made

-- One step more

-- what a run is after one step more, whose record is kept
pub record IsFurther (b c : Benched) (answers : List ℤ) (answer : Option ℤ) (undos : List Undo) : Type 0 where
  pub under_way : IsUnderWay (stepping c (answers_more answer answers)) undos
  pub step : StepsTo (setup_of b) b.state answer c.state
  pub steps : c.state.steps ≡ b.state.steps + 1

module _ (given : FittingIsFromContainer) where
  further_in : (b : Benched) (new : BenchState) (answers : List ℤ) (answer : Option ℤ) (undos : List Undo) (u : Undo) (n : ℕ)
      → IsUnderWay (stepping b answers) undos → StepsTo (setup_of b) b.state answer new
      → TakesBack (in_state new b) u → laid_over u new ≡ b.state
      → IsFurther b (in_state new b) answers answer (take n (u ∷ undos))
  further_in b new answers answer undos u n under_way step takes_back back =
      let h = history b.state.steps answers in
      let there = one_more_there (setup_of b) h b.state new answer under_way.state step in
      let steps : new.steps ≡ b.state.steps + 1 = is_counted given (in_state new b) (one_more answer h) under_way.start there in
      let same : one_more answer h ≡ history new.steps (answers_more answer answers) =
      ap (λ (m : ℕ). history m (answers_more answer answers)) (sym steps) in
      let kept = record_is_kept b h undos answer new u under_way.state under_way.records step takes_back back in
      record {
        under_way = record {
          start = under_way.start;
          state = subst (λ (x : History). IsStateOf (setup_of b) x new) same there;
          records =
              subst (λ (x : History). AreRecordsOf (in_state new b) x (take n (u ∷ undos))) same
              (last_are_kept (in_state new b) (one_more answer h) (u ∷ undos) n kept);
        };
        step = step;
        steps = steps;
      }

  -- a machine that makes a step, and gives a record that takes it back
  pub goes_further : (b c : Benched) (answers : List ℤ) (answer : Option ℤ) (undos : List Undo) (u : Undo) (told : Progress) (n : ℕ)
      → IsUnderWay (stepping b answers) undos → IsSameRun b c → Called (setup_of b) b.state answer (Ok told) c.state
      → MadeStep told → TakesBack c u → gone_back u c ≡ b → IsFurther b c answers answer (take n (u ∷ undos))
  goes_further b c answers answer undos u told n under_way same called made takes_back back =
      let is = same_run b c same in
      subst (λ (x : Benched). IsFurther b x answers answer (take n (u ∷ undos))) is
      (further_in b c.state answers answer undos u n under_way (steps_to (setup_of b) b.state c.state answer told called made)
      (subst (λ (x : Benched). TakesBack x u) (sym is) takes_back) (ap (λ (x : Benched). x.state) back))

-- A call of the machine that gives a record made a step,
pub step_on_of : (b c : Benched) (answer : Option ℤ) (undos left : List Undo) (told : Progress) (undo : Option Undo) (u : Undo)
    → IsSameRun b c → Called (setup_of b) b.state answer (Ok told) c.state → IsSome undo ↔ MadeStep told → GoesBack b c undo
    → undo ≡ Some u → left ≡ take 256 (u ∷ undos) → IsStepOn b answer undos c left
step_on_of b c answer undos left told undo u same called made goes_back is kept =
    let back : TakesBack c u × (gone_back u c ≡ b) = subst (λ (o : Option Undo). GoesBack b c o) is goes_back in
    record {
      told = told;
      undo = u;
      made = made.0 (subst (λ (o : Option Undo). IsSome o) (sym is) refl);
      same = same;
      called = called;
      takes_back = back.0;
      back = back.1;
      kept = kept;
    }

-- and one that gives none made none.
pub still_of : (b c : Benched) (answer : Option ℤ) (undos : List Undo) (told : Progress) (undo : Option Undo)
    → Called (setup_of b) b.state answer (Ok told) c.state → IsSome undo ↔ MadeStep told → GoesBack b c undo → undo ≡ None
    → IsStill b answer undos c undos
still_of b c answer undos told undo called made goes_back is = record {
  told = told;
  still = λ step. never (subst (λ (o : Option Undo). IsSome o) is (made.1 step));
  called = called;
  machine = subst (λ (o : Option Undo). GoesBack b c o) is goes_back;
  records = refl;
}
  where
    never : false ≡ true → ⊥
    never e = cc

-- a run after a step whose record is kept
pub further_of : FittingIsFromContainer → (b c : Benched) (answers : List ℤ) (answer : Option ℤ) (undos left : List Undo)
    → IsUnderWay (stepping b answers) undos → IsStepOn b answer undos c left → IsFurther b c answers answer left
further_of given b c answers answer undos left under_way on =
    subst (λ (l : List Undo). IsFurther b c answers answer l) (sym on.kept)
    (goes_further given b c answers answer undos on.undo on.told 256 under_way on.same on.called on.made on.takes_back on.back)

-- where no step was made, and the answers are the same, nothing changed
pub same_stepping : (b c : Benched) (answer : Option ℤ) (old new : List ℤ) (undos left : List Undo) → IsStill b answer undos c left
    → new ≡ old → stepping c new ≡ stepping b old
same_stepping b c answer old new undos left still same =
    ap (λ (x : Benched). stepping x new) still.machine ∙ ap (λ (l : List ℤ). stepping b l) same

-- so the run is under way as it was
pub still_under_way : (b c : Benched) (answer : Option ℤ) (old new : List ℤ) (undos left : List Undo)
    → IsUnderWay (stepping b old) undos → IsStill b answer undos c left → new ≡ old → IsUnderWay (stepping c new) left
still_under_way b c answer old new undos left is still same =
    subst (λ (l : List Undo). IsUnderWay (stepping c new) l) (sym still.records)
    (subst (λ (s : Stepping). IsUnderWay s undos) (sym (same_stepping b c answer old new undos left still same)) is)

-- The start

-- a bench that runs safely from its start, and is there
pub at_its_start : (b : Benched) → IsSafeBench (in_state (start (setup_of b)) b) → IsAtStart b → IsUnderWay (stepping b []) []
at_its_start b safe at = record {
  start = safe;
  state = subst (λ (h : History). Leads (setup_of b) (start (setup_of b)) h.steps h.answers b.state) (sym none_yet)
      (subst (λ (s : BenchState). Leads (setup_of b) (start (setup_of b)) 0 [] s) (sym at.state) (stays (start (setup_of b))));
  records = tt;
}
  where
    none_yet : history b.state.steps [] ≡ history 0 []
    none_yet = ap (λ (s : BenchState). history s.steps []) at.state

-- an accepted plan does so
pub begins_well : StartIsSafe → (j : Judged) (a : IsAccepted j) (b : Benched) (answers : List ℤ) (undos : List Undo)
    → b.assembly ≡ j.assembly → ((p : Plan) → IsContainer j.container p → b.program ≡ plan_program p) → IsAtStart b
    → answers ≡ [] → undos ≡ [] → IsUnderWay (stepping b answers) undos
begins_well law j a b answers undos assembly program at none empty =
    let runs : b.program ≡ plan_program a.plan = program a.plan a.is_container in
    let state : b.state ≡ start (setup_of (benched j.assembly (plan_program a.plan) b.state)) =
    at.state ∙ ap (λ (p : Program). start (setup_of (benched b.assembly p b.state))) runs
    ∙ ap (λ (x : Assembly). start (setup_of (benched x (plan_program a.plan) b.state))) assembly in
    let safe : IsSafeBench b =
    subst (λ (x : Assembly). IsSafeBench (benched x b.program b.state)) (sym assembly)
    (subst (λ (p : Program). IsSafeBench (benched j.assembly p b.state)) (sym runs) (law j a b.state state)) in
    subst (λ (l : List ℤ). IsUnderWay (stepping b l) undos) (sym none)
    (subst (λ (l : List Undo). IsUnderWay (stepping b []) l) (sym empty) (at_its_start b (subst (λ (s : BenchState). IsSafeBench (in_state s b)) at.state safe) at))
