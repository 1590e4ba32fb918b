-- A drive under way: one move more, one answer more, and how many of both there can be.
use Rattle.std.proofs.Common.{◌≡◌, ℕ, suc, ◌+◌, ◌<◌, ◌≤◌, ℤ, List, [], ◌∷◌, ◌++◌, length, length-append, append-nil, append_assoc, Option, Some, None, Ok, refl, sym, ap, subst, ◌∙◌, inl, inr, arith}
use Rattle.std.specs.Prelude.{nat_le}
use Rattle.std.specs.Option.{option_to_list}
use Rattle.std.proofs.lemmas.Bool.{and_parts, leb-true}
use Rattle.burr_verify.specs.Laws.VerifyLaws.{FittingIsFromContainer}
use Rattle.burr_state.specs.declared.effect.Motion.{Motion}
use Rattle.burr_state.specs.declared.effect.Progress.TheVariants as progress
use Rattle.burr_state.specs.Rules.Bench.{BenchState, Program, Setup, start}
use Rattle.burr_state.specs.Rules.Step.{Called}
use Rattle.burr_state.specs.Views.Benches.{Benched, setup_of, in_state, IsAtStart, IsSameRun}
use Rattle.burr_code.specs.declared.limits.TheConstants.{MOST_BUDGET}
use Rattle.burr_container.proofs.Common.Containers.{plan_fits}
use Rattle.burr_bench.specs.Soundness.Machine.{IsSafeBench}
use Rattle.burr_bench.proofs.Common.Machine.{budgeted}
use Rattle.burr_sheet.specs.Rules.SheetText.{motions_of}
use Rattle.burr_sheet.proofs.Common.LineMotions.{length-motions_of}
use Rattle.burr_step.specs.declared.drive.Move.{Move}
use Rattle.burr_step.specs.Rules.Stepper.{Leads, stays as here, goes, takes, history, IsStateOf}
use Rattle.burr_step.specs.Rules.Moves.{Makes, stays, makes, Rests, ComesToRest, line_of, MakesMove, MakesMoves, rests, moves, IsLed, leg, asked, moves_of}
use Rattle.burr_step.specs.Rules.Drive.{Led, Moves, GoesTo}
use Rattle.burr_step.specs.Views.Driving.{Driving, driving, IsDriving, Goes}
use Rattle.burr_step.specs.Views.Stepping.{stepping, IsUnderWay}
use Rattle.burr_step.proofs.Commands.{leads_on}
use Rattle.burr_step.proofs.SomeCommand.{steps_are_counted}
use Rattle.burr_step.proofs.UnderWay.{is_safe, same_run, same_setup}

-- Steps that are counted

-- steps with these answers, and at least this many
pub record LeadsBy (setup : Setup) (s : BenchState) (least : ℕ) (answers : List ℤ) (last : BenchState) : Type 0 where
  pub steps : ℕ
  pub leads : Leads setup s steps answers last
  pub enough : least ≤ steps

leads_after : (setup : Setup) (s t u : BenchState) (a b : ℕ) (first second : List ℤ) → LeadsBy setup s a first t → LeadsBy setup t b second u
    → LeadsBy setup s (a + b) (first ++ second) u
leads_after setup s t u a b first second p q = record {
  steps = p.steps + q.steps;
  leads = leads_on setup s t u p.steps q.steps first second p.leads q.leads;
  enough = sums a b p.steps q.steps p.enough q.enough;
}
  where
    sums : (a b m n : ℕ) → a ≤ m → b ≤ n → a + b ≤ m + n
    sums a b m n p q = omega (arith, p, q)

makes_lead : (setup : Setup) (s t : BenchState) (motions : List Motion) → Makes setup s motions t → LeadsBy setup s (length motions) [] t
makes_lead setup _ _ _ (stays s) = record { steps = 0; leads = here s; enough = omega arith }
makes_lead setup _ _ _ (makes s new last motion motions called rest) =
    let more = makes_lead setup new last motions rest in
    record { steps = suc more.steps; leads = goes s new last motion more.steps [] called more.leads; enough = one_more motion motions more.steps more.enough }
  where
    one_more : (motion : Option Motion) (motions : List Motion) (n : ℕ) → length motions ≤ n → length (option_to_list motion ++ motions) ≤ suc n
    one_more None motions n few = omega (arith, few)
    one_more (Some motion) motions n few = omega (arith, few)

moves_lead : (setup : Setup) (n : ℕ) (s t : BenchState) (ms : List Move) → MakesMoves setup n s ms t → LeadsBy setup s (length ms) [] t
moves_lead setup _ _ _ _ (rests n s at) = record { steps = 0; leads = here s; enough = omega arith }
moves_lead setup _ _ _ _ (moves n s new last m ms made more) =
    let first = makes_lead setup s new (motions_of (line_of m)) made.makes in
    let some : 1 ≤ first.steps = at_least (length-motions_of (line_of m)) made.some first.enough in
    subst (λ (k : ℕ). LeadsBy setup s k [] last) (one_first (length ms))
    (leads_after setup s new last 1 (length ms) [] [] (record { steps = first.steps; leads = first.leads; enough = some })
    (moves_lead setup (n + 1) new last ms more))
  where
    one_first : (n : ℕ) → 1 + n ≡ suc n
    one_first n = omega arith

    at_least : {a b n : ℕ} → a ≡ b → 0 < b → a ≤ n → 1 ≤ n
    at_least same some few = omega (arith, same, some, few)

led_leads : (setup : Setup) (n : ℕ) (s last : BenchState) (legs : List (List Move)) (answers : List ℤ) → IsLed setup n s legs answers last
    → LeadsBy setup s (length (moves_of legs) + length answers) answers last
led_leads setup _ _ _ _ _ (leg n s first last ms at made) =
    let first_way = makes_lead setup s first [] at.0 in
    let all = leads_after setup s first last 0 (length ms) [] [] first_way (moves_lead setup n first last ms made) in
    record { steps = all.steps; leads = all.leads; enough = same_least (length ms) (length (ms ++ [])) all.steps (length-append ms []) all.enough }
  where
    same_least : (m k n : ℕ) → k ≡ m + 0 → 0 + m ≤ n → k + 0 ≤ n
    same_least m k n same few = omega (arith, same, few)
led_leads setup _ _ _ _ _ (asked n s first there new last ms legs answer answers at made called rest) =
    let first_way = makes_lead setup s first [] at.0 in
    let leg_way = leads_after setup s first there 0 (length ms) [] [] first_way (moves_lead setup n first there ms made) in
    let one : LeadsBy setup there 1 (answer ∷ []) new = record { steps = 1; leads = takes there new new answer 0 [] called (here new); enough = omega arith } in
    let more = led_leads setup (n + length ms) new last legs answers rest in
    let all = leads_after setup s there last (0 + length ms) (1 + (length (moves_of legs) + length answers)) [] (answer ∷ answers) leg_way
    (leads_after setup there new last 1 (length (moves_of legs) + length answers) (answer ∷ []) answers one more) in
    record {
      steps = all.steps;
      leads = all.leads;
      enough = sums (length ms) (length (moves_of legs)) (length answers) (length (ms ++ moves_of legs)) all.steps (length-append ms (moves_of legs)) all.enough;
    }
  where
    sums : (m k a both n : ℕ) → both ≡ m + k → (0 + m) + (1 + (k + a)) ≤ n → both + suc a ≤ n
    sums m k a both n same few = omega (arith, same, few)

module _ (given : FittingIsFromContainer) where
  led_there : (d : Driving) (is : IsDriving d) → LeadsBy (setup_of d.bench) (start (setup_of d.bench)) (length (moves_of is.legs) + length is.taken) is.taken d.bench.state
  led_there d is = led_leads (setup_of d.bench) 0 (start (setup_of d.bench)) d.bench.state is.legs is.taken is.run

  steps_are : (d : Driving) (is : IsDriving d) → d.bench.state.steps ≡ (led_there d is).steps
  steps_are d is = steps_are_counted given d.bench (history (led_there d is).steps is.taken) is.safe (led_there d is).leads

  -- a drive is a run under way that keeps no records
  pub under_way : (d : Driving) (is : IsDriving d) → IsUnderWay (stepping d.bench is.taken) []
  under_way d is = record {
    start = is.safe;
    state = subst (λ (n : ℕ). IsStateOf (setup_of d.bench) (history n is.taken) d.bench.state) (sym (steps_are d is)) (led_there d is).leads;
    records = tt;
  }

  -- moves and answers are steps
  pub few_made : (d : Driving) (is : IsDriving d) → d.moves + d.answers ≤ d.bench.state.steps
  few_made d is = few d.moves d.answers (length (moves_of is.legs)) (length is.taken) d.bench.state.steps (led_there d is).steps is.moves is.answers (steps_are d is) (led_there d is).enough
    where
      few : (m a l t s n : ℕ) → m ≡ l → a ≡ t → s ≡ n → l + t ≤ n → m + a ≤ s
      few m a l t s n made taken steps enough = omega (arith, made, taken, steps, enough)

-- One more

moves_more : (setup : Setup) (n : ℕ) (s last new : BenchState) (ms : List Move) (m : Move) → MakesMoves setup n s ms last
    → MakesMove setup (n + length ms) last m new → MakesMoves setup n s (ms ++ m ∷ []) new
moves_more setup _ _ _ new _ m (rests n s at) made =
    moves n s new new m [] (subst (λ (k : ℕ). MakesMove setup k s m new) (none_more n) made) (rests (n + 1) new made.rests)
  where
    none_more : (n : ℕ) → n + 0 ≡ n
    none_more n = omega arith
moves_more setup _ _ _ new _ m (moves n s next last k ms first rest) made =
    moves n s next new k (ms ++ m ∷ []) first
    (moves_more setup (n + 1) next last new ms m rest (subst (λ (k : ℕ). MakesMove setup k last m new) (one_first n (length ms)) made))
  where
    one_first : (n k : ℕ) → n + suc k ≡ (n + 1) + k
    one_first n k = omega arith

-- what a run is led by, with these moves more
pub record LedTo (setup : Setup) (n : ℕ) (s : BenchState) (legs : List (List Move)) (more : List Move) (answers : List ℤ) (last : BenchState) : Type 0 where
  pub all : List (List Move)
  pub run : IsLed setup n s all answers last
  pub moves : moves_of all ≡ moves_of legs ++ more

pub led_more : (setup : Setup) (n : ℕ) (s last new : BenchState) (legs : List (List Move)) (answers : List ℤ) (m : Move) → IsLed setup n s legs answers last
    → MakesMove setup (n + length (moves_of legs)) last m new → LedTo setup n s legs (m ∷ []) answers new
led_more setup _ _ _ new _ _ m (leg n s first last ms at made) more =
    let same : length (ms ++ []) ≡ length ms = ap length (append-nil ms) in
    record {
      all = (ms ++ m ∷ []) ∷ [];
      run = leg n s first new (ms ++ m ∷ []) at (moves_more setup n first last new ms m made (subst (λ (k : ℕ). MakesMove setup (n + k) last m new) same more));
      moves = append-nil (ms ++ m ∷ []) ∙ ap (λ (l : List Move). l ++ m ∷ []) (sym (append-nil ms));
    }
led_more setup _ _ _ new _ _ m (asked n s first there taken last ms legs answer answers at made called rest) more =
    let number : n + length (ms ++ moves_of legs) ≡ (n + length ms) + length (moves_of legs) = sums n (length ms) (length (moves_of legs)) (length (ms ++ moves_of legs)) (length-append ms (moves_of legs)) in
    let on = led_more setup (n + length ms) taken last new legs answers m rest (subst (λ (k : ℕ). MakesMove setup k last m new) number more) in
    record {
      all = ms ∷ on.all;
      run = asked n s first there taken new ms on.all answer answers at made called on.run;
      moves = ap (λ (l : List Move). ms ++ l) on.moves ∙ sym (append_assoc ms (moves_of legs) (m ∷ []));
    }
  where
    sums : (n a b both : ℕ) → both ≡ a + b → n + both ≡ (n + a) + b
    sums n a b both same = omega (arith, same)

pub led_answered : (setup : Setup) (n : ℕ) (s last taken new : BenchState) (legs : List (List Move)) (answers : List ℤ) (answer : ℤ) → IsLed setup n s legs answers last
    → Called setup last (Some answer) (Ok (progress.Went None)) taken → ComesToRest setup taken new → LedTo setup n s legs [] (answers ++ answer ∷ []) new
led_answered setup _ _ _ taken new _ _ answer (leg n s first last ms at made) called rest = record {
  all = ms ∷ [] ∷ [];
  run = asked n s first last taken new ms ([] ∷ []) answer [] at made called (leg (n + length ms) taken new new [] rest (rests (n + length ms) new rest.1));
  moves = sym (append-nil (ms ++ []));
}
led_answered setup _ _ _ taken new _ _ answer (asked n s first there next last ms legs reply replies at made was more) called rest =
    let on = led_answered setup (n + length ms) next last taken new legs replies answer more called rest in
    record {
      all = ms ∷ on.all;
      run = asked n s first there next new ms on.all reply (replies ++ answer ∷ []) at made was on.run;
      moves = ap (λ (l : List Move). ms ++ l) on.moves ∙ sym (append_assoc ms (moves_of legs) []);
    }

-- Bounds

module _ (given : FittingIsFromContainer) where
  -- no program of an accepted plan has a greater budget
  budget_is_small : (b : Benched) → IsSafeBench b → b.program.budget ≤ MOST_BUDGET
  budget_is_small b safe =
      let budget = (plan_fits safe.plan safe.fits).budget in
      let most = leb-true safe.plan.budget MOST_BUDGET (and_parts (nat_le 1 safe.plan.budget) (nat_le safe.plan.budget MOST_BUDGET) budget).1 in
      subst (λ (p : Program). p.budget ≤ MOST_BUDGET) (sym safe.program_is) most

  -- a safe bench has made no more steps than that
  pub steps_are_few : (b : Benched) → IsSafeBench b → b.state.steps ≤ MOST_BUDGET
  steps_are_few b safe = elim safe.state_is [
    | inl fact ↦ at_most (budgeted given b safe fact.mode) (budget_is_small b safe)
    | inr ended ↦ within ended.within (subst (λ (p : Program). p.budget ≤ MOST_BUDGET) safe.program_is (budget_is_small b safe))
  ]
    where
      at_most : {n budget most : ℕ} → n < budget → budget ≤ most → n ≤ most
      at_most less few = omega (arith, less, few)

      within : {n budget most : ℕ} → n ≤ budget → budget ≤ most → n ≤ most
      within less few = omega (arith, less, few)

  pub driving_safely : (d : Driving) → IsDriving d → IsSafeBench d.bench
  driving_safely d is = is_safe given (stepping d.bench is.taken) [] (under_way given d is)

  pub few_moves : (d : Driving) → IsDriving d → d.moves + d.answers ≤ MOST_BUDGET
  few_moves d is = both (few_made given d is) (steps_are_few d.bench (driving_safely d is))
    where
      both : {a n most : ℕ} → a ≤ n → n ≤ most → a ≤ most
      both less few = omega (arith, less, few)

-- A drive after one move more, or one answer more

same_run_led : (b c : Benched) (legs : List (List Move)) (taken : List ℤ) → IsSameRun b c → IsLed (setup_of b) 0 (start (setup_of b)) legs taken c.state
    → IsLed (setup_of c) 0 (start (setup_of c)) legs taken c.state
same_run_led b c legs taken same led = subst (λ (x : Setup). IsLed x 0 (start x) legs taken c.state) (sym (same_setup b c same)) led

same_start : (b c : Benched) → IsSameRun b c → IsSafeBench (in_state (start (setup_of b)) b) → IsSafeBench (in_state (start (setup_of c)) c)
same_start b c same safe = subst (λ (x : Benched). IsSafeBench (in_state (start (setup_of x)) x)) (same_run b c same) safe

pub drives_on : (b c : Benched) (moved answered : ℕ) (m : Move) → IsDriving (driving b moved answered) → IsSameRun b c
    → MakesMove (setup_of b) moved b.state m c.state → IsDriving (driving c (moved + 1) answered)
drives_on b c moved answered m is same made =
    let number : moved ≡ 0 + length (moves_of is.legs) = is.moves ∙ none_before (length (moves_of is.legs)) in
    let on = led_more (setup_of b) 0 (start (setup_of b)) b.state c.state is.legs is.taken m is.run (subst (λ (n : ℕ). MakesMove (setup_of b) n b.state m c.state) number made) in
    record {
      safe = same_start b c same is.safe;
      legs = on.all;
      taken = is.taken;
      run = same_run_led b c on.all is.taken same on.run;
      moves = ap (λ (n : ℕ). n + 1) is.moves ∙ sym (ap length on.moves ∙ length-append (moves_of is.legs) (m ∷ []));
      answers = is.answers;
    }
  where
    none_before : (n : ℕ) → n ≡ 0 + n
    none_before n = omega arith

pub drives_answered : (b c : Benched) (taken : BenchState) (moved answered : ℕ) (answer : ℤ) → IsDriving (driving b moved answered) → IsSameRun b c
    → Called (setup_of b) b.state (Some answer) (Ok (progress.Went None)) taken → ComesToRest (setup_of b) taken c.state
    → IsDriving (driving c moved (answered + 1))
drives_answered b c taken moved answered answer is same called rest =
    let on = led_answered (setup_of b) 0 (start (setup_of b)) b.state taken c.state is.legs is.taken answer is.run called rest in
    record {
      safe = same_start b c same is.safe;
      legs = on.all;
      taken = is.taken ++ answer ∷ [];
      run = same_run_led b c on.all (is.taken ++ answer ∷ []) same on.run;
      moves = is.moves ∙ sym (ap length on.moves ∙ ap length (append-nil (moves_of is.legs)));
      answers = ap (λ (n : ℕ). n + 1) is.answers ∙ sym (length-append is.taken (answer ∷ []));
    }

-- where it is led it rests
last_rests : (setup : Setup) (n : ℕ) (s last : BenchState) (ms : List Move) → MakesMoves setup n s ms last → Rests setup last
last_rests setup _ _ _ _ (rests n s at) = at
last_rests setup _ _ _ _ (moves n s new last m ms made more) = last_rests setup (n + 1) new last ms more

led_rests : (setup : Setup) (n : ℕ) (s last : BenchState) (legs : List (List Move)) (answers : List ℤ) → IsLed setup n s legs answers last → Rests setup last
led_rests setup _ _ _ _ _ (leg n s first last ms at made) = last_rests setup n first last ms made
led_rests setup _ _ _ _ _ (asked n s first there new last ms legs answer answers at made called rest) = led_rests setup (n + length ms) new last legs answers rest

pub drive_rests : (d : Driving) → IsDriving d → Rests (setup_of d.bench) d.bench.state
drive_rests d is = led_rests (setup_of d.bench) 0 (start (setup_of d.bench)) d.bench.state is.legs is.taken is.run

-- The start

pub ready : (b c : Benched) → IsSafeBench (in_state (start (setup_of b)) b) → IsAtStart b → IsSameRun b c → ComesToRest (setup_of b) b.state c.state
    → IsDriving (driving c 0 0)
ready b c safe at same rest =
    let here = subst (λ (s : BenchState). ComesToRest (setup_of b) s c.state) at.state rest in
    record {
      safe = same_start b c same safe;
      legs = [] ∷ [];
      taken = [];
      run = same_run_led b c ([] ∷ []) [] same (leg 0 (start (setup_of b)) c.state c.state [] here (rests 0 c.state here.1));
      moves = refl;
      answers = refl;
    }

-- What is told

pub move_told : (b c : Benched) (moved answered : ℕ) (m : Move) → IsSameRun b c → MakesMove (setup_of b) moved b.state m c.state
    → Goes (driving b moved answered) (driving c (moved + 1) answered) (λ setup d e. Moves setup d m e)
move_told b c moved answered m same made = record { same = same; comes = (c.state, made, refl) }

-- no move was made yet on the way to one
pub goes_nowhere : (d : Driving) (number : ℕ) → IsDriving d → d.moves ≤ number → Goes d d (λ setup e f. GoesTo setup number e f)
goes_nowhere d number is within = record {
  same = record { assembly = refl; program = refl };
  comes = record {
    ms = [];
    makes = rests d.moves d.bench.state (drive_rests d is);
    moves = none_more d.moves;
    answers = refl;
    within = within;
  };
}
  where
    none_more : (n : ℕ) → n ≡ n + 0
    none_more n = omega arith

-- one more
pub goes_farther : (d now new : Driving) (number : ℕ) (m : Move) → Goes d now (λ setup e f. GoesTo setup number e f)
    → Goes now new (λ setup e f. Moves setup e m f) → now.moves < number → Goes d new (λ setup e f. GoesTo setup number e f)
goes_farther d now new number m so_far on below =
    let old = so_far.comes in
    let setup : setup_of now.bench ≡ setup_of d.bench = same_setup d.bench now.bench so_far.same in
    let state : new.bench.state ≡ on.comes.0 = ap (λ (l : Led). l.state) on.comes.2 in
    let count : new.moves ≡ now.moves + 1 = ap (λ (l : Led). l.moves) on.comes.2 in
    let answered : new.answers ≡ now.answers = ap (λ (l : Led). l.answers) on.comes.2 in
    let made = subst (λ (s : BenchState). MakesMove (setup_of d.bench) (d.moves + length old.ms) now.bench.state m s) (sym state)
    (subst (λ (n : ℕ). MakesMove (setup_of d.bench) n now.bench.state m on.comes.0) old.moves
    (subst (λ (x : Setup). MakesMove x now.moves now.bench.state m on.comes.0) setup on.comes.1)) in record {
      same = record { assembly = on.same.assembly ∙ so_far.same.assembly; program = on.same.program ∙ so_far.same.program };
      comes = record {
        ms = old.ms ++ m ∷ [];
        makes = moves_more (setup_of d.bench) d.moves d.bench.state now.bench.state new.bench.state old.ms m old.makes made;
        moves = counted new.moves now.moves d.moves (length old.ms) (length (old.ms ++ m ∷ [])) count old.moves (length-append old.ms (m ∷ []));
        answers = answered ∙ old.answers;
        within = within new.moves now.moves number count below;
      };
    }
  where
    counted : (new now old n all : ℕ) → new ≡ now + 1 → now ≡ old + n → all ≡ n + 1 → new ≡ old + all
    counted new now old n all first second third = omega (arith, first, second, third)

    within : (new now number : ℕ) → new ≡ now + 1 → now < number → new ≤ number
    within new now number count below = omega (arith, count, below)
