-- Going back.
use Rattle.std.proofs.Common.{◌≡◌, ◌⊎◌, ℕ, zero, suc, ◌+◌, ◌-◌, ◌≤◌, ◌<◌, ℤ, List, [], ◌∷◌, ◌++◌, length, take, drop, slice_get, Option, Some, None, Ok, refl, sym, ap, subst, ◌∙◌, arith, inl, inr, take-append-drop}
use Rattle.burr_verify.specs.Laws.VerifyLaws.{FittingIsFromContainer}
use Rattle.burr_state.specs.declared.effect.Progress.{Progress}
use Rattle.burr_state.specs.declared.effect.Progress.TheVariants as progress
use Rattle.burr_state.specs.Rules.Bench.{BenchState, Setup, start}
use Rattle.burr_state.specs.Rules.Step.{Called, IsQuestionOf}
use Rattle.burr_state.specs.Rules.Undo.{Undo, laid_over}
use Rattle.burr_state.specs.Views.Benches.{Benched, setup_of, in_state, IsSameRun, IsAtStart}
use Rattle.burr_state.proofs.Common.StepCalls.{call_is_one}
use Rattle.burr_bench.specs.Soundness.Machine.{IsSafeBench}
use Rattle.burr_bench.specs.Recorded.{TakesBack, MadeStep, gone_back}
use Rattle.burr_step.specs.Rules.Stepper.{Leads, History, history, IsStateOf, IsAsking, IsKept, Back, Taken}
use Rattle.burr_step.specs.Views.UndoRing.{AreRecordsOf, answers_more, StepsTo}
use Rattle.burr_step.specs.Views.Stepping.{Stepping, stepping, IsUnderWay, IsDone, commanding, HasRun, IsUndone, IsAgain, IsLeft, IsNextAnswer, IsStepOn, IsStill, taken_more}
use Rattle.burr_step.proofs.Commands.{Begins, begins, same_front, split_at, nothing_more}
use Rattle.burr_step.proofs.Lists.{all_but_last}
use Rattle.burr_step.proofs.UndoRing.{kept_before, kept_of_kept}
use Rattle.burr_step.proofs.UnderWay.{same_run, same_setup, is_counted, further_of, at_its_start, MadeOne}
use Rattle.burr_step.proofs.Going.{goes_unhalted, same_twice}
use Rattle.burr_step.proofs.Answering.{asked_for}

-- By records

-- a step without an answer is one where nothing was asked, and one with an answer where something was
answer_asked : (setup : Setup) (s new : BenchState) (answer : Option ℤ) → StepsTo setup s answer new
    → ((answer ≡ None) × (¬ IsAsking setup s)) ⊎ ((taken : ℤ) × (answer ≡ Some taken) × IsAsking setup s)
answer_asked setup s new None step = inl (refl, (goes_unhalted setup s new step).1)
answer_asked setup s new (Some answer) step =
    let asked = asked_for setup s new answer step in inr (answer, refl, (asked.0, asked.1, asked.2))

left_is : (setup : Setup) (s new : BenchState) (answer : Option ℤ) (answers before left : List ℤ) → StepsTo setup s answer new
    → answers ≡ answers_more answer before → IsLeft setup s answers left → left ≡ before
left_is setup s new answer answers before left step is (inl (asking, e)) = by_answer (answer_asked setup s new answer step)
  where
    by_answer : ((answer ≡ None) × (¬ IsAsking setup s)) ⊎ ((taken : ℤ) × (answer ≡ Some taken) × IsAsking setup s) → left ≡ before
    by_answer (inl (none, still)) = absurd (still asking)
    by_answer (inr (taken, some, asks)) =
        e ∙ ap (λ (l : List ℤ). take (length l - 1) l) (is ∙ ap (λ (o : Option ℤ). answers_more o before) some) ∙ all_but_last before taken
left_is setup s new answer answers before left step is (inr (still, e)) = by_answer (answer_asked setup s new answer step)
  where
    by_answer : ((answer ≡ None) × (¬ IsAsking setup s)) ⊎ ((taken : ℤ) × (answer ≡ Some taken) × IsAsking setup s) → left ≡ before
    by_answer (inl (none, also)) = e ∙ is ∙ ap (λ (o : Option ℤ). answers_more o before) none
    by_answer (inr (taken, some, asks)) = absurd (still asks)

pub undone_none : (s : Stepping) (undos : List Undo) → IsUnderWay s undos → IsUndone 0 s s undos undos
undone_none s undos under_way = record {
  same = record { assembly = refl; program = refl };
  kept = record { state = under_way.state; later = []; answers = sym (nothing_more s.history.answers) };
  steps = none_more s.history.steps;
  records = none_more (length undos);
  under_way = under_way;
}
  where
    none_more : (n : ℕ) → n ≡ n + 0
    none_more n = omega arith

-- One record more that is undone; the machine is then where it was before its step.
pub takes_back_of : (b : Benched) (answers : List ℤ) (u : Undo) (undos rest : List Undo) → IsUnderWay (stepping b answers) undos
    → undos ≡ u ∷ rest → TakesBack b u
takes_back_of b answers u undos rest under_way is =
    (subst (λ (l : List Undo). AreRecordsOf b (history b.state.steps answers) l) is under_way.records).0.takes_back

module _ (given : FittingIsFromContainer) where
  undone_in : (old : Stepping) (b : Benched) (answers left : List ℤ) (all rest : List Undo) (u : Undo) (k : ℕ)
      → IsUndone k old (stepping b answers) all (u ∷ rest)
      → IsLeft (setup_of b) (laid_over u b.state) answers left
      → IsUndone (k + 1) old (stepping (gone_back u b) left) all rest
  undone_in old b answers left all rest u k undone is_left =
      let last = undone.under_way.records.0 in
      let before = last.before in
      let s = laid_over u b.state in
      let counted : s.steps ≡ before.steps = is_counted given (in_state s b) before undone.under_way.start last.state in
      let left_before : left ≡ before.answers =
      left_is (setup_of b) s b.state last.answer answers before.answers left last.step (ap (λ (h : History). h.answers) last.is) is_left in
      let there : before ≡ history s.steps left =
      ap (λ (n : ℕ). history n before.answers) (sym counted) ∙ ap (λ (l : List ℤ). history s.steps l) (sym left_before) in
      let kept_once : IsKept (setup_of b) (history b.state.steps answers) before s =
      kept_before (setup_of b) (history b.state.steps answers) before s last.answer last.state last.is in
      let kept_here : IsKept (setup_of old.bench) (history b.state.steps answers) before s =
      subst (λ (x : Setup). IsKept x (history b.state.steps answers) before s) (same_setup old.bench b undone.same) kept_once in
      record {
        same = record { assembly = undone.same.assembly; program = undone.same.program };
        kept =
            subst (λ (h : History). IsKept (setup_of old.bench) old.history h s) there
            (kept_of_kept (setup_of old.bench) old.history (history b.state.steps answers) before b.state s undone.kept kept_here);
        steps = one_farther old.history.steps b.state.steps before.steps s.steps k undone.steps (ap (λ (h : History). h.steps) last.is) counted;
        records = one_fewer (length all) (length rest) k undone.records;
        under_way = record {
          start = undone.under_way.start;
          state = subst (λ (h : History). IsStateOf (setup_of b) h s) there last.state;
          records = subst (λ (h : History). AreRecordsOf (gone_back u b) h rest) there undone.under_way.records.1;
        };
      }
    where
      one_farther : (h now before here k : ℕ) → h ≡ now + k → now ≡ before + 1 → here ≡ before → h ≡ here + (k + 1)
      one_farther h now before here k e f g = omega (arith, e, f, g)

      one_fewer : (all rest k : ℕ) → all ≡ suc rest + k → all ≡ rest + (k + 1)
      one_fewer all rest k e = omega (arith, e)

  pub undone_more : (old : Stepping) (b c : Benched) (answers left : List ℤ) (all undos rest : List Undo) (u : Undo) (k : ℕ)
      → IsUndone k old (stepping b answers) all undos → undos ≡ u ∷ rest → c ≡ gone_back u b
      → IsLeft (setup_of c) c.state answers left → IsUndone (k + 1) old (stepping c left) all rest
  undone_more old b c answers left all undos rest u k undone is back is_left =
      subst (λ (x : Benched). IsUndone (k + 1) old (stepping x left) all rest) (sym back)
      (undone_in old b answers left all rest u k (subst (λ (l : List Undo). IsUndone k old (stepping b answers) all l) is undone)
      (subst (λ (x : Benched). IsLeft (setup_of x) x.state answers left) back is_left))

-- there is a record to undo
pub some_record : (undos rest : List Undo) (steps k : ℕ) → length undos ≡ length rest + k → k < steps → steps ≤ length undos → rest ≡ [] → ⊥
some_record undos rest steps k e less within none = none_left (ap (λ (l : List Undo). length l) none) e less within
  where
    none_left : {all left steps k : ℕ} → left ≡ 0 → all ≡ left + k → k < steps → steps ≤ all → ⊥
    none_left none e less within = omega (arith, none, e, less, within)

-- what is kept of a run is what going back comes to
pub back_done : (old now : Stepping) (steps : ℕ) → IsSameRun old.bench now.bench
    → IsKept (setup_of old.bench) old.history now.history now.bench.state → old.history.steps ≡ now.history.steps + steps
    → IsDone old (commanding old (Back steps)) now
back_done old now steps same kept count =
    let is : now.history ≡ history (old.history.steps - steps) now.history.answers =
    ap (λ (n : ℕ). history n now.history.answers) (left_over old.history.steps now.history.steps steps count) in
    record {
      comes =
          inr (
            within old.history.steps now.history.steps steps count,
            (
              now.history.answers,
              now.bench.state,
              subst (λ (h : History). IsKept (setup_of old.bench) old.history h now.bench.state) is kept,
              ap (λ (h : History). Taken h now.bench.state) is,
            ),
          );
      same = same;
    }
  where
    left_over : (old now steps : ℕ) → old ≡ now + steps → now ≡ old - steps
    left_over old now steps e = omega (arith, e)

    within : (old now steps : ℕ) → old ≡ now + steps → steps ≤ old
    within old now steps e = omega (arith, e)

-- By running again

-- the next step of a run that is made again, and its answer, if it takes one
abbrev pub IsNextStep : Setup → BenchState → List ℤ → ℕ → Type 0
IsNextStep setup s answers taken =
    ((new : BenchState) × StepsTo setup s None new × (¬ IsAsking setup s))
    ⊎ ((answer : ℤ) × (new : BenchState) × StepsTo setup s (Some answer) new × IsAsking setup s
    × (slice_get answers taken ≡ Some answer))

first_dropped : (xs ys : List ℤ) (n : ℕ) (x : ℤ) → n ≤ length (xs) → xs ≡ take n xs ++ x ∷ ys → slice_get xs n ≡ Some x
first_dropped [] ys zero x within e = absurd (none-some x ys e)
  where
    none-some : (x : ℤ) (ys : List ℤ) → [] ≡ x ∷ ys → ⊥
    none-some x ys e = cc
first_dropped [] ys (suc n) x within e = absurd (omega (arith, within))
first_dropped (z ∷ zs) ys zero x within e = ap (λ (l : List ℤ). slice_get l 0) e
first_dropped (z ∷ zs) ys (suc n) x within e = first_dropped zs ys n x (omega (arith, within)) (rest_of z z zs (take n zs ++ x ∷ ys) e)
  where
    rest_of : (x y : ℤ) (xs ys : List ℤ) → x ∷ xs ≡ y ∷ ys → xs ≡ ys
    rest_of x y xs ys e = cc

cut : (n : ℕ) (xs : List ℤ) → take n xs ++ drop n xs ≡ xs
cut n xs = take-append-drop n xs

next_step : (setup : Setup) (s last : BenchState) (answers : List ℤ) (made i taken : ℕ) → taken ≤ length answers → i < made
    → Leads setup (start setup) made answers last → Leads setup (start setup) i (take taken answers) s
    → IsNextStep setup s answers taken
next_step setup s last answers made i taken within less whole here =
    let split = split_at setup i (suc ((made - i) - 1)) (start setup) last answers
    (subst (λ (n : ℕ). Leads setup (start setup) n answers last) (parts made i less) whole) in
    let same = same_front setup i (start setup) split.state s split.taken (take taken answers) split.later (drop taken answers)
    (sym split.is ∙ sym (cut taken answers)) split.first here in
    by_next split.later split.is same.0
    (begins setup s last (suc ((made - i) - 1)) split.later (subst (λ (x : BenchState). Leads setup x (suc ((made - i) - 1)) split.later last) same.1 split.second))
  where
    parts : (made i : ℕ) → i < made → made ≡ i + suc ((made - i) - 1)
    parts made i less = omega (arith, less)

    by_next : {front : List ℤ} (later : List ℤ) → answers ≡ front ++ later → front ≡ take taken answers
        → Begins setup s (suc ((made - i) - 1)) later last → IsNextStep setup s answers taken
    by_next later is front (inl (motion, new, called, rest)) =
        inl (new, (motion, called), (goes_unhalted setup s new (motion, called)).1)
    by_next later is front (inr (answer, others, new, e, called, rest)) =
        let asked = asked_for setup s new answer called in
        inr (
          answer,
          new,
          called,
          (asked.0, asked.1, asked.2),
          first_dropped answers others taken answer within
              (is ∙ ap (λ (l : List ℤ). l ++ later) front ∙ ap (λ (l : List ℤ). take taken answers ++ l) e),
        )

-- what is called with the answer that comes next makes a step
record IsNextCall (setup : Setup) (s : BenchState) (answers : List ℤ) (taken : ℕ) (answer : Option ℤ) : Type 0 where
  new : BenchState
  step : StepsTo setup s answer new
  more : take (taken_more answer taken) answers ≡ answers_more answer (take taken answers)
  within : taken_more answer taken ≤ length answers

one_more_taken : (xs : List ℤ) (n : ℕ) (x : ℤ) → slice_get xs n ≡ Some x → (take (suc n) xs ≡ take n xs ++ x ∷ []) × (suc n ≤ length xs)
one_more_taken [] zero x e = absurd (none-some x e)
  where
    none-some : (x : ℤ) → ◌≡◌ {A = Option ℤ} None (Some x) → ⊥
    none-some x e = cc
one_more_taken [] (suc n) x e = absurd (none-some x e)
  where
    none-some : (x : ℤ) → ◌≡◌ {A = Option ℤ} None (Some x) → ⊥
    none-some x e = cc
one_more_taken (y ∷ ys) zero x e = (ap (λ (z : ℤ). z ∷ []) (same y x e), omega arith)
  where
    same : (y x : ℤ) → Some y ≡ Some x → y ≡ x
    same y x e = cc
one_more_taken (y ∷ ys) (suc n) x e =
    let rest = one_more_taken ys n x e in (ap (λ (l : List ℤ). y ∷ l) rest.0, omega (arith, rest.1))

next_call : (setup : Setup) (s : BenchState) (answers : List ℤ) (taken : ℕ) (answer : Option ℤ) → taken ≤ length answers
    → IsNextStep setup s answers taken → IsNextAnswer setup s answers taken answer → IsNextCall setup s answers taken answer
next_call setup s answers taken answer within (inl (new, step, still)) (inl (asks, e)) = absurd (still asks)
next_call setup s answers taken answer within (inl (new, step, still)) (inr (also, e)) =
    subst (λ (o : Option ℤ). IsNextCall setup s answers taken o) (sym e)
    (record { new = new; step = step; more = refl; within = within })
next_call setup s answers taken answer within (inr (next, new, step, asks, there)) (inr (still, e)) = absurd (still asks)
next_call setup s answers taken answer within (inr (next, new, step, asks, there)) (inl (also, e)) =
    let more = subst (λ (n : ℕ). (take n answers ≡ take taken answers ++ next ∷ []) × (n ≤ length answers)) (one_up taken) (one_more_taken answers taken next there) in
    subst (λ (o : Option ℤ). IsNextCall setup s answers taken o) (sym (e ∙ there))
    (record { new = new; step = step; more = more.0; within = more.1 })
  where
    one_up : (n : ℕ) → suc n ≡ n + 1
    one_up n = omega arith

-- a call that leads on makes a step
made_one : (setup : Setup) (s new other : BenchState) (answer : Option ℤ) (told : Progress) → StepsTo setup s answer new
    → Called setup s answer (Ok told) other → MadeStep told
made_one setup s new other None told step called =
    subst MadeOne (call_is_one setup s new other None (Ok (progress.Went step.0)) (Ok told) step.1 called).0 tt
made_one setup s new other (Some answer) told step called =
    subst MadeOne (call_is_one setup s new other (Some answer) (Ok (progress.Went None)) (Ok told) step called).0 tt

pub again_none : (b : Benched) (answers : List ℤ) (undos : List Undo) → IsAtStart b → IsUnderWay (stepping b []) undos
    → IsAgain answers 0 0 b b undos
again_none b answers undos at under_way = record {
  same = record { assembly = refl; program = refl };
  steps = ap (λ (s : BenchState). s.steps) at.state;
  within = omega arith;
  under_way = subst (λ (l : List ℤ). IsUnderWay (stepping b l) undos) (none_taken answers) under_way;
}
  where
    none_taken : (xs : List ℤ) → [] ≡ take 0 xs
    none_taken [] = refl
    none_taken (x ∷ xs) = refl

-- the next call of a run that is made again
again_call : (old b : Benched) (answers : List ℤ) (answer : Option ℤ) (undos : List Undo) (steps i taken : ℕ) → IsAtStart old
    → HasRun old answers steps → i < steps → IsAgain answers i taken old b undos → IsNextAnswer (setup_of b) b.state answers taken answer
    → IsNextCall (setup_of b) b.state answers taken answer
again_call old b answers answer undos steps i taken at run less again is =
    let setup = same_setup old b again.same in
    let whole = subst (λ (x : BenchState). Leads (setup_of old) x run.0 answers run.1) at.state run.3 in
    let here = subst (λ (n : ℕ). Leads (setup_of b) (start (setup_of b)) n (take taken answers) b.state) again.steps again.under_way.state in
    next_call (setup_of b) b.state answers taken answer again.within
    (next_step (setup_of b) b.state run.1 answers run.0 i taken again.within (beyond less run.2)
    (subst (λ (x : Setup). Leads x (start x) run.0 answers run.1) (sym setup) whole) here) is
  where
    beyond : {i steps made : ℕ} → i < steps → steps ≤ made → i < made
    beyond less within = omega (arith, less, within)

-- it makes a step
pub again_steps : (old b c : Benched) (answers : List ℤ) (answer : Option ℤ) (undos left : List Undo) (steps i taken : ℕ)
    → IsAtStart old → HasRun old answers steps → i < steps → IsAgain answers i taken old b undos
    → IsNextAnswer (setup_of b) b.state answers taken answer → IsStill b answer undos c left → ⊥
again_steps old b c answers answer undos left steps i taken at run less again is still =
    let next = again_call old b answers answer undos steps i taken at run less again is in
    still.still (made_one (setup_of b) b.state next.new c.state answer still.told next.step still.called)

pub again_more : FittingIsFromContainer → (old b c : Benched) (answers : List ℤ) (answer : Option ℤ) (undos left : List Undo) (steps i taken : ℕ)
    → IsAtStart old → HasRun old answers steps → i < steps → IsAgain answers i taken old b undos
    → IsNextAnswer (setup_of b) b.state answers taken answer → IsStepOn b answer undos c left
    → IsAgain answers (i + 1) (taken_more answer taken) old c left
again_more given old b c answers answer undos left steps i taken at run less again is on =
    let next = again_call old b answers answer undos steps i taken at run less again is in
    let further = further_of given b c (take taken answers) answer undos left again.under_way on in
    record {
      same = same_twice old b c again.same on.same;
      steps = further.steps ∙ ap (λ (m : ℕ). m + 1) again.steps;
      within = next.within;
      under_way = subst (λ (l : List ℤ). IsUnderWay (stepping c l) left) (sym next.more) further.under_way;
    }

-- The start again

-- a machine at the start of the same run
pub restarted : (old : Stepping) (undos : List Undo) → IsUnderWay old undos → (b : Benched) → IsSameRun old.bench b → IsAtStart b
    → IsUnderWay (stepping b []) []
restarted old undos under_way b same at =
    at_its_start b (subst (λ (x : Benched). IsSafeBench (in_state (start (setup_of x)) x)) (same_run old.bench b same) under_way.start) at

-- the steps that were made, or fewer of them, can be made again from the start
pub has_run : (old : Stepping) (undos : List Undo) → IsUnderWay old undos → (b : Benched) → IsSameRun old.bench b → IsAtStart b
    → (steps : ℕ) → steps ≤ old.history.steps → HasRun b old.history.answers steps
has_run old undos under_way b same at steps within =
    let whole = subst (λ (x : Setup). Leads x (start x) old.history.steps old.history.answers old.bench.state) (sym (same_setup old.bench b same)) under_way.state in (
      old.history.steps,
      old.bench.state,
      within,
      subst (λ (x : BenchState). Leads (setup_of b) x old.history.steps old.history.answers old.bench.state) (sym at.state) whole,
    )

-- a run that is made again without its last `steps` steps has gone back by that many
pub again_done : (old : Stepping) (b now : Benched) (steps taken : ℕ) (undos : List Undo) → IsSameRun old.bench b → IsSameRun b now
    → IsUnderWay (stepping now (take taken old.history.answers)) undos → steps ≤ old.history.steps → now.state.steps ≡ old.history.steps - steps
    → IsDone old (commanding old (Back steps)) (stepping now (take taken old.history.answers))
again_done old b now steps taken undos first second under_way within count =
    let same = same_twice old.bench b now first second in
    back_done old (stepping now (take taken old.history.answers)) steps same
    (record {
      state = subst (λ (x : Setup). Leads x (start x) now.state.steps (take taken old.history.answers) now.state) (same_setup old.bench now same) under_way.state;
      later = drop taken old.history.answers;
      answers = sym (cut taken old.history.answers);
    })
    (whole old.history.steps now.state.steps steps within count)
  where
    whole : (old now steps : ℕ) → steps ≤ old → now ≡ old - steps → old ≡ now + steps
    whole old now steps within e = omega (arith, within, e)

pub not_asking : (setup : Setup) (s : BenchState) → IsQuestionOf setup s None → ¬ IsAsking setup s
not_asking setup s none asking = none asking.0 asking.1 asking.2

pub asking : (setup : Setup) (s : BenchState) (range : ℤ × ℤ) → IsQuestionOf setup s (Some range) → IsAsking setup s
asking setup s range asks = (range.0, range.1, asks)
