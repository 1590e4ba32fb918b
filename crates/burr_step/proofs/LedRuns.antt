-- A run that is led by moves and answers is the bench's run with these answers.
use Rattle.std.proofs.Common.{◌≡◌, ℕ, suc, ◌+◌, ◌<◌, ℤ, List, [], ◌∷◌, ◌++◌, length, append-nil, append_assoc, Some, None, Ok, refl, sym, ap, subst, ◌∙◌, inl, inr, arith}
use Rattle.std.specs.Prelude.{◌⊎◌}
use Rattle.std.specs.Option.{option_to_list}
use Rattle.std.proofs.lemmas.List.Concat.{flat_map-append}
use Rattle.burr_verify.specs.Laws.VerifyLaws.{FittingIsFromContainer}
use Rattle.burr_state.specs.declared.effect.Closing.TheVariants.{Apart, Waiting}
use Rattle.burr_state.specs.declared.effect.Mode.{Mode}
use Rattle.burr_state.specs.declared.effect.Mode.TheVariants.{Running, Ended}
use Rattle.burr_state.specs.declared.effect.Motion.{Motion}
use Rattle.burr_state.specs.declared.effect.Progress.TheVariants as progress
use Rattle.burr_state.specs.Rules.Bench.{BenchState, Setup, start}
use Rattle.burr_state.specs.Rules.Calls.{Calls, begun, went, answered}
use Rattle.burr_state.specs.Rules.Next.{Asks}
use Rattle.burr_state.specs.Rules.Run.{Run, IsGoing}
use Rattle.burr_state.specs.Rules.Step.{AsksNow, Called, CallIn}
use Rattle.burr_state.specs.Views.Benches.{Benched, setup_of, in_state}
use Rattle.burr_state.proofs.Common.CallLaws.{run_is_calls}
use Rattle.burr_state.proofs.Common.StepCalls.{runs_where_went, same_answered}
use Rattle.burr_bench.specs.Soundness.Machine.{IsSafeBench}
use Rattle.burr_bench.proofs.Common.Machine.{budgeted, call_is_safe}
use Rattle.burr_sheet.specs.Rules.SheetText.{motion_count, motions_of}
use Rattle.burr_sheet.proofs.Common.LineMotions.{length-motions_of}
use Rattle.burr_step.specs.declared.drive.Halt.{Halt}
use Rattle.burr_step.specs.declared.drive.Halt.TheVariants as halts
use Rattle.burr_step.specs.declared.drive.Move.{Move}
use Rattle.burr_step.specs.Rules.Stepper.{IsHalted}
use Rattle.burr_step.specs.Rules.Moves.{Makes, stays, makes, ComesToRest, line_of, MakesMove, MakesMoves, rests, moves, IsLed, leg, asked, moves_of}
use Rattle.burr_step.specs.Rules.Drive.{led, HaltsAt}
use Rattle.burr_step.specs.Laws.MoveLaws.{motions_made, AreNumbered, MovesAreNumbered, MovesAreTheRuns, closing_of, LieWell, HaltIsTheClose, MoreAnswersGoOn}
use Rattle.burr_step.proofs.Answering.{asked_for}
use Rattle.burr_step.proofs.Going.{goes_unhalted}
use Rattle.burr_step.proofs.Making.{begins as steps_begin, same_rest}
use Rattle.burr_step.proofs.WholeMoves.{Begins, begins as moves_begin, moves_are_joined, one_move, same_more}

-- Lists of moves

made_on : (ms ks : List Move) → motions_made (ms ++ ks) ≡ motions_made ms ++ motions_made ks
made_on ms ks = flat_map-append (λ (m : Move). motions_of (line_of m)) ms ks

numbered_on : (n : ℕ) (ms ks : List Move) → AreNumbered n ms → AreNumbered (n + length ms) ks → AreNumbered n (ms ++ ks)
numbered_on n [] ks are more = subst (λ (k : ℕ). AreNumbered k ks) (none_more n) more
  where
    none_more : (n : ℕ) → n + 0 ≡ n
    none_more n = omega arith
numbered_on n (m ∷ ms) ks are more =
    (are.0, numbered_on (n + 1) ms ks are.1 (subst (λ (k : ℕ). AreNumbered k ks) (one_more n (length ms)) more))
  where
    one_more : (n k : ℕ) → n + suc k ≡ (n + 1) + k
    one_more n k = omega arith

numbered_leg : (setup : Setup) (n : ℕ) (s last : BenchState) (ms : List Move) → MakesMoves setup n s ms last → AreNumbered n ms
numbered_leg setup _ _ _ _ (rests n s at) = tt
numbered_leg setup _ _ _ _ (moves n s new last m ms made more) = (made.number, numbered_leg setup (n + 1) new last ms more)

pub moves_are_numbered : MovesAreNumbered
moves_are_numbered setup _ _ _ _ _ (leg n s first last ms at made) =
    subst (λ (l : List Move). AreNumbered n l) (sym (append-nil ms)) (numbered_leg setup n first last ms made)
moves_are_numbered setup _ _ _ _ _ (asked n s first here new last ms legs answer answers at made called rest) =
    numbered_on n ms (moves_of legs) (numbered_leg setup n first here ms made) (moves_are_numbered setup (n + length ms) new last legs answers rest)

-- Calls

-- a question, as a call
pub asks_called : (setup : Setup) (s : BenchState) (low high : ℤ) → AsksNow setup s low high → Called setup s None (Ok (progress.Asks low high)) s
asks_called setup s low high asks =
    subst (λ (m : Mode). CallIn m setup s None (Ok (progress.Asks low high)) s) (sym asks.0) (Asks low high, asks.1, refl, refl)

module _ (given : FittingIsFromContainer) (b : Benched) where
  going : (s : BenchState) → IsSafeBench (in_state s b) → s.mode ≡ Running → IsGoing b.program.budget s
  going s safe running = record { running = running; within = λ used. apart (budgeted given (in_state s b) safe running) used }
    where
      apart : {n most : ℕ} → n < most → n ≡ most → ⊥
      apart less same = absurd (omega (arith, less, same))

  pub safe_on : (s t : BenchState) (motions : List Motion) → Makes (setup_of b) s motions t → IsSafeBench (in_state s b) → IsSafeBench (in_state t b)
  safe_on _ _ _ (stays s) safe = safe
  safe_on _ _ _ (makes s new last motion motions called rest) safe =
      safe_on new last motions rest (call_is_safe given (in_state s b) None _ new safe called).1

  -- steps without an answer are calls, before those that follow
  calls_before : (s t last : BenchState) (motions more : List Motion) (answers left : List ℤ) → Makes (setup_of b) s motions t → IsSafeBench (in_state s b)
      → Calls (setup_of b) b.program.budget t answers more last left → Calls (setup_of b) b.program.budget s answers (motions ++ more) last left
  calls_before _ _ last _ more answers left (stays s) safe calls = calls
  calls_before _ _ last _ more answers left (makes s new t motion motions called rest) safe calls =
      subst (λ (l : List Motion). Calls (setup_of b) b.program.budget s answers l last left) (sym (append_assoc (option_to_list motion) motions more))
      (went s new last motion answers left (motions ++ more) (going s safe (runs_where_went (setup_of b) s new motion s.mode refl called)) called
      (calls_before new t last motions more answers left rest (call_is_safe given (in_state s b) None _ new safe called).1 calls))

  -- the moves of a leg are
  leg_before : (n : ℕ) (s first t last : BenchState) (ms : List Move) (more : List Motion) (answers left : List ℤ) → ComesToRest (setup_of b) s first
      → MakesMoves (setup_of b) n first ms t → IsSafeBench (in_state s b)
      → (IsSafeBench (in_state t b) → Calls (setup_of b) b.program.budget t answers more last left)
      → Calls (setup_of b) b.program.budget s answers (motions_made ms ++ more) last left
  leg_before n s first t last ms more answers left at made safe calls =
      let on = (moves_are_joined (setup_of b) n first t ms made).0 in
      let safe_first = safe_on s first [] at.0 safe in
      calls_before s first last [] (motions_made ms ++ more) answers left at.0 safe
      (calls_before first t last (motions_made ms) more answers left on safe_first (calls (safe_on first t (motions_made ms) on safe_first)))

  leg_safe : (n : ℕ) (s first t : BenchState) (ms : List Move) → ComesToRest (setup_of b) s first → MakesMoves (setup_of b) n first ms t
      → IsSafeBench (in_state s b) → IsSafeBench (in_state t b)
  leg_safe n s first t ms at made safe =
      safe_on first t (motions_made ms) (moves_are_joined (setup_of b) n first t ms made).0 (safe_on s first [] at.0 safe)

  pub led_safe : (n : ℕ) (s last : BenchState) (legs : List (List Move)) (answers : List ℤ) → IsLed (setup_of b) n s legs answers last
      → IsSafeBench (in_state s b) → IsSafeBench (in_state last b)
  led_safe _ _ _ _ _ (leg n s first last ms at made) safe = leg_safe n s first last ms at made safe
  led_safe _ _ _ _ _ (asked n s first here new last ms legs answer answers at made called rest) safe =
      led_safe (n + length ms) new last legs answers rest
      (call_is_safe given (in_state here b) (Some answer) _ new (leg_safe n s first here ms at made safe) called).1

  led_calls : (n : ℕ) (s last : BenchState) (legs : List (List Move)) (answers : List ℤ) → IsLed (setup_of b) n s legs answers last
      → IsSafeBench (in_state s b) → Calls (setup_of b) b.program.budget s answers (motions_made (moves_of legs)) last []
  led_calls _ _ _ _ _ (leg n s first last ms at made) safe =
      subst (λ (l : List Motion). Calls (setup_of b) b.program.budget s [] l last []) (sym (made_on ms []))
      (leg_before n s first last last ms [] [] [] at made safe (λ _. begun last []))
  led_calls _ _ _ _ _ (asked n s first here new last ms legs answer answers at made called rest) safe =
      subst (λ (l : List Motion). Calls (setup_of b) b.program.budget s (answer ∷ answers) l last []) (sym (made_on ms (moves_of legs)))
      (leg_before n s first here last ms (motions_made (moves_of legs)) (answer ∷ answers) [] at made safe λ safe_here.
      let question = asked_for (setup_of b) here new answer called in
      answered here new last question.0 question.1 answer (progress.Went None) answers [] (motions_made (moves_of legs))
      (going here safe_here question.2.0) (asks_called (setup_of b) here question.0 question.1 question.2) called
      (led_calls (n + length ms) new last legs answers rest (call_is_safe given (in_state here b) (Some answer) _ new safe_here called).1))

pub moves_are_the_runs : FittingIsFromContainer → MovesAreTheRuns
moves_are_the_runs given b last legs answers safe is = led_calls given b 0 (start (setup_of b)) last legs answers is safe

running-ended : Running ≡ Ended → ⊥
running-ended e = cc

pub halt_is_the_close : FittingIsFromContainer → HaltIsTheClose
halt_is_the_close given b last legs answers halt safe is at = by halt at
  where
    there : IsSafeBench (in_state last b)
    there = led_safe given b 0 (start (setup_of b)) last legs answers is safe

    by : (halt : Halt) → HaltsAt (setup_of b) (led last (length (moves_of legs)) (length answers)) halt
        → Run (setup_of b) b.program.budget (start (setup_of b)) answers (motions_made (moves_of legs)) last.steps (closing_of halt) × LieWell halt last
    by (halts.Asks q) at = (
      (run_is_calls (setup_of b) b.program.budget (start (setup_of b)) answers (motions_made (moves_of legs)) last.steps (Waiting q.low q.high)).1 (record {
        last = last;
        left = [];
        calls = moves_are_the_runs given b last legs answers safe is;
        counted = refl;
        closes = (going given b last there at.asks.0, asks_called (setup_of b) last q.low q.high at.asks, refl);
      }),
      tt,
    )
    by (halts.Ends steps) at = (
      (run_is_calls (setup_of b) b.program.budget (start (setup_of b)) answers (motions_made (moves_of legs)) last.steps Apart).1 (record {
        last = last;
        left = [];
        calls = moves_are_the_runs given b last legs answers safe is;
        counted = refl;
        closes = at.0;
      }),
      elim there.state_is [ inl fact ↦ absurd (running-ended (sym fact.mode ∙ at.0)) | inr ended ↦ ended.apart ],
    )

-- More answers

-- no move is made where a run has halted
never_moves : (setup : Setup) (n : ℕ) (s new : BenchState) (m : Move) → IsHalted setup s → MakesMove setup n s m new → ⊥
never_moves setup n s new m halted made = by_first (motions_of (line_of m)) refl made.makes
  where
    some : motions_of (line_of m) ≡ [] → ⊥
    some none = none_counted (motion_count (line_of m)) made.some (sym (length-motions_of (line_of m)) ∙ ap length none)
      where
        none_counted : (count : ℕ) → 0 < count → count ≡ 0 → ⊥
        none_counted count more none = absurd (omega (arith, more, none))

    by_first : (motions : List Motion) → motions_of (line_of m) ≡ motions → Makes setup s motions new → ⊥
    by_first motions is on = elim (steps_begin setup s new motions on) [
      | inl (none, here) ↦ some (is ∙ none)
      | inr (motion, rest, next, also, called, more) ↦
          let on = goes_unhalted setup s next (motion, called) in
          elim halted [ inl ended ↦ on.0 ended | inr asking ↦ on.1 asking ]
    ]

-- the moves up to where a run halts are the same
same_leg : (setup : Setup) (n : ℕ) (s last other : BenchState) (ms ks : List Move) → MakesMoves setup n s ms last → IsHalted setup last
    → MakesMoves setup n s ks other → IsHalted setup other → (ms ≡ ks) × (last ≡ other)
same_leg setup _ _ _ other _ ks (rests n s at) halted q also = by (moves_begin setup n s other ks q)
  where
    by : Begins setup n s ks other → ([] ≡ ks) × (s ≡ other)
    by (inl (none, here)) = (sym none, here)
    by (inr (m, rest, new, is, made, more)) = absurd (never_moves setup n s new m halted made)
same_leg setup _ _ _ other _ ks (moves n s new last m ms made more) halted q also =
    by (moves_begin setup n s other ks q) (λ ls on. same_leg setup (n + 1) new last other ms ls more halted on also)
  where
    by : Begins setup n s ks other → ((ls : List Move) → MakesMoves setup (n + 1) new ls other → (ms ≡ ls) × (last ≡ other)) → (m ∷ ms ≡ ks) × (last ≡ other)
    by (inl (none, here)) later = absurd (never_moves setup n s new m (subst (λ (x : BenchState). IsHalted setup x) (sym here) also) made)
    by (inr (k, ls, there, is, other_made, on)) later =
        let one = one_move setup n s new there m k made other_made in
        let rest = later ls (subst (λ (x : BenchState). MakesMoves setup (n + 1) x ls other) (sym one.1) on) in
        (same_more m k ms ls one.0 rest.0 ∙ sym is, rest.1)

-- where an answer is taken, the run has halted
halts_there : (setup : Setup) (s new : BenchState) (answer : ℤ) → Called setup s (Some answer) (Ok (progress.Went None)) new → IsHalted setup s
halts_there setup s new answer called = let asked = asked_for setup s new answer called in inr (asked.0, asked.1, asked.2)

-- a run that is led: its first leg alone, or that with an answer and what follows it
abbrev LedBegins : Setup → ℕ → BenchState → List (List Move) → List ℤ → BenchState → Type 0
LedBegins setup n s legs answers last =
    (first : BenchState) × (ms : List Move) × ComesToRest setup s first
    × (((answers ≡ []) × (legs ≡ ms ∷ []) × MakesMoves setup n first ms last)
    ⊎ ((there new : BenchState) × (rest : List (List Move)) × (answer : ℤ) × (more : List ℤ) × (answers ≡ answer ∷ more) × (legs ≡ ms ∷ rest)
    × MakesMoves setup n first ms there × Called setup there (Some answer) (Ok (progress.Went None)) new × IsLed setup (n + length ms) new rest more last))

led_begins : (setup : Setup) (n : ℕ) (s last : BenchState) (legs : List (List Move)) (answers : List ℤ) → IsLed setup n s legs answers last
    → LedBegins setup n s legs answers last
led_begins setup _ _ _ _ _ (leg n s first last ms at made) = (first, ms, at, inl (refl, refl, made))
led_begins setup _ _ _ _ _ (asked n s first there new last ms legs answer answers at made called rest) =
    (first, ms, at, inr (there, new, legs, answer, answers, refl, refl, made, called, rest))

same_head : (x y : ℤ) (xs ys : List ℤ) → x ∷ xs ≡ y ∷ ys → x ≡ y
same_head x y xs ys e = cc

same_tail : (x y : ℤ) (xs ys : List ℤ) → x ∷ xs ≡ y ∷ ys → xs ≡ ys
same_tail x y xs ys e = cc

some_none : (x : ℤ) (xs : List ℤ) → x ∷ xs ≡ [] → ⊥
some_none x xs e = cc

pub more_answers_go_on : MoreAnswersGoOn
more_answers_go_on setup _ _ _ later _ others _ more (leg n s first last ms at made) halted also end = by (led_begins setup n s later others more also)
  where
    by : LedBegins setup n s others more later → (rest : List Move) × (moves_of others ≡ (ms ++ []) ++ rest)
    by (there, ks, here, inl (none, is, on)) =
        let same = same_rest setup s first there [] at.0 at.1 here.0 here.1 in
        let one = same_leg setup n first last later ms ks made halted (subst (λ (x : BenchState). MakesMoves setup n x ks later) (sym same) on) end in
        ([], ap moves_of is ∙ ap (λ (l : List Move). l ++ []) (sym one.0) ∙ sym (append-nil (ms ++ [])))
    by (there, ks, here, inr (stand, new, rest, answer, answers, given, is, on, called, led)) =
        let same = same_rest setup s first there [] at.0 at.1 here.0 here.1 in
        let one = same_leg setup n first last stand ms ks made halted (subst (λ (x : BenchState). MakesMoves setup n x ks stand) (sym same) on)
        (halts_there setup stand new answer called) in
        (moves_of rest, ap moves_of is ∙ ap (λ (l : List Move). l ++ moves_of rest) (sym one.0 ∙ sym (append-nil ms)))
more_answers_go_on setup _ _ last later _ others _ more (asked n s first here new _ ms legs answer answers at made called led) halted also end =
    by (led_begins setup n s later others (answer ∷ (answers ++ more)) also)
    (λ ls on. more_answers_go_on setup (n + length ms) new last later legs ls answers more led halted on end)
  where
    by : LedBegins setup n s others (answer ∷ (answers ++ more)) later
        → ((ls : List (List Move)) → IsLed setup (n + length ms) new ls (answers ++ more) later → (rest : List Move) × (moves_of ls ≡ moves_of legs ++ rest))
        → (rest : List Move) × (moves_of others ≡ (ms ++ moves_of legs) ++ rest)
    by (there, ks, rest, inl (none, is, on)) after = absurd (some_none answer (answers ++ more) none)
    by (there, ks, rest, inr (stand, next, ls, reply, replies, all, is, on, taken, led)) after =
        let same = same_rest setup s first there [] at.0 at.1 rest.0 rest.1 in
        let one = same_leg setup n first here stand ms ks made (halts_there setup here new answer called)
        (subst (λ (x : BenchState). MakesMoves setup n x ks stand) (sym same) on) (halts_there setup stand next reply taken) in
        let reply_is = same_head answer reply (answers ++ more) replies all in
        let replies_are = same_tail answer reply (answers ++ more) replies all in
        let taken_here = subst (λ (x : BenchState). Called setup x (Some answer) (Ok (progress.Went None)) next) (sym one.1)
        (subst (λ (a : ℤ). Called setup stand (Some a) (Ok (progress.Went None)) next) (sym reply_is) taken) in
        let next_is = same_answered setup here new next answer called taken_here in
        let led_on = subst (λ (a : List ℤ). IsLed setup (n + length ms) new ls a later) (sym replies_are)
        (subst (λ (x : BenchState). IsLed setup (n + length ms) x ls replies later) (sym next_is)
        (subst (λ (k : List Move). IsLed setup (n + length k) next ls replies later) (sym one.0) led)) in
        let tail = after ls led_on in (
          tail.0,
          ap moves_of is ∙ ap (λ (k : List Move). k ++ moves_of ls) (sym one.0) ∙ ap (λ (l : List Move). ms ++ l) tail.1
              ∙ sym (append_assoc ms (moves_of legs) tail.0),
        )
