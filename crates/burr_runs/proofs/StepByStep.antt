-- A run and its sheet, taken step by step.
use Rattle.std.proofs.Common.{◌≡◌, ◌≢◌, ◌<◌, ◌≤◌, ◌+◌, ◌++◌, ◌∷◌, ◌∙◌, ◌⊎◌, ◌^◌, ℕ, ℤ, List, [], length, refl, sym, ap, subst, inl, inr, append_assoc, arith, false}
use Rattle.std.specs.Borrow.{Bor}
use Rattle.std.specs.Prelude.{Some, None, Result, Ok, OnOk}
use Rattle.std.specs.Io.KnownBytes.{Appends}
use Rattle.std.proofs.KnownBytes.{Appends-nil, Appends-trans}
use Rattle.burr_io.specs.Sink.{SinkView, FailsWithin}
use Rattle.burr_io.proofs.Common.Puts.{FailsWithin-more}
use Rattle.burr_assembly.specs.Rules.Text.{Assembly, IsAssembly}
use Rattle.burr_assembly.specs.Rules.Homes.{homes_of, names_of}
use Rattle.burr_state.specs.declared.effect.Mode.TheVariants.{Running, Ended, Trapped}
use Rattle.burr_state.specs.declared.effect.Motion.{Motion}
use Rattle.burr_state.specs.declared.effect.Trap.{Trap}
use Rattle.burr_state.specs.declared.effect.Closing.{Closing}
use Rattle.burr_state.specs.declared.effect.Closing.TheVariants as closings
use Rattle.burr_state.specs.Rules.Bench.{Program, BenchState, running}
use Rattle.burr_state.specs.Rules.Step.{NextIs, TakesAnswer, CallIn, Called}
use Rattle.burr_state.specs.declared.effect.Mode.{Mode}
use Rattle.burr_state.specs.declared.effect.Progress.{Progress as Told}
use Rattle.std.specs.declared.ops.ControlFlow.{ControlFlow}
use Rattle.std.specs.declared.ops.ControlFlow.TheVariants as turns
use Rattle.burr_state.specs.Rules.Next.{Goes, Asks, Traps}
use Rattle.burr_state.specs.Rules.Questions.{Fits}
use Rattle.burr_state.specs.Rules.Run.{Run, IsGoing, traps, waits, passes, takes, goes}
use Rattle.burr_state.specs.Laws.RunLaws.{RunOf, IsUnderWay}
use Rattle.burr_state.specs.Laws.StepLaws.{AfterCall}
use Rattle.burr_state.specs.Rules.Step.{IsStepFrom}
use Rattle.burr_state.specs.declared.effect.Progress.TheVariants.{Went}
use Rattle.burr_state.proofs.Common.CallLaws.{call_leaves}
use Rattle.burr_state.specs.Views.Benches.{Benched, GoesOn, motion_in, setup_of, IsSameRun, IsAtStart}
use Rattle.burr_state.proofs.Common.SomeRun.{counted_step, under_way_on, some_result}
use Rattle.burr_sheet.specs.Views.SheetUnderWay.{UnderWay, blank, still, outs_of, Closes, FailsInMotion}
use Rattle.burr_sheet.proofs.Common.FailedMotions.{fails_within_still}
use Rattle.burr_runs.specs.Rules.Output.{outcome_of}
use Rattle.burr_runs.specs.Views.Running.{RunState, run_state, RunsOn, Leads, PutsPart, FailsInRun, ClosesPart, IsInStep, left_to_take, TurnIs, AnswerIs, PutsSheet, FailsInSheet}
use Rattle.burr_runs.proofs.WholeInput.{sheet_of_run}

-- The same run

-- a run of the one bench is a run of the other
runs_same : (b new : Benched) (s : BenchState) (answers : List ℤ) (motions : List Motion) (steps : ℕ) (closing : Closing) → IsSameRun b new
    → Run (setup_of new) new.program.budget s answers motions steps closing → Run (setup_of b) b.program.budget s answers motions steps closing
runs_same b new s answers motions steps closing same run =
    subst (λ (p : Program). Run (running (homes_of b.assembly) p) p.budget s answers motions steps closing) same.program
    (subst (λ (a : Assembly). Run (running (homes_of a) new.program) new.program.budget s answers motions steps closing) same.assembly run)

pub same_run_on : (a b c : Benched) → IsSameRun a b → IsSameRun b c → IsSameRun a c
same_run_on a b c p q = record { assembly = q.assembly ∙ p.assembly; program = q.program ∙ p.program }

-- One step

pub leads_motion : (b new : Benched) (answers : List ℤ) (u more : UnderWay) (motion : Motion) (bytes : List ℕ)
    → IsGoing b.program.budget b.state → NextIs (setup_of b) b.state (Goes new.state (Some motion)) → IsSameRun b new → Closes u motion more bytes
    → Leads (run_state b answers u) bytes (run_state new answers more)
leads_motion b new answers u more motion bytes going next same closes motions steps closing run =
    (motion ∷ motions, goes b.state new.state (Some motion) answers motions steps closing going next (runs_same b new new.state answers motions steps closing same run), closes motions steps closing)

pub leads_still : (b new : Benched) (answers : List ℤ) (u : UnderWay)
    → IsGoing b.program.budget b.state → NextIs (setup_of b) b.state (Goes new.state None) → IsSameRun b new → Leads (run_state b answers u) [] (run_state new answers u)
leads_still b new answers u going next same motions steps closing run =
    (motions, goes b.state new.state None answers motions steps closing going next (runs_same b new new.state answers motions steps closing same run), refl)

-- an answer is taken
leads_taken : (b new : Benched) (answer : ℤ) (answers : List ℤ) (u : UnderWay)
    → IsGoing b.program.budget b.state → TakesAnswer (setup_of b) b.state answer new.state → IsSameRun b new → Leads (run_state b (answer ∷ answers) u) [] (run_state new answers u)
leads_taken b new answer answers u going taken same motions steps closing run =
    (motions, takes b.state new.state answer answers motions steps closing going taken (runs_same b new new.state answers motions steps closing same run), refl)

-- an answer is passed over
leads_passed : (b new : Benched) (low high answer : ℤ) (answers : List ℤ) (u : UnderWay)
    → IsGoing b.program.budget b.state → NextIs (setup_of b) b.state (Asks low high) → ¬ Fits low high answer → new.state ≡ b.state → IsSameRun b new
    → Leads (run_state b (answer ∷ answers) u) [] (run_state new answers u)
leads_passed b new low high answer answers u going asks unfit stays same motions steps closing run =
    let here = subst (λ (s : BenchState). Run (setup_of b) b.program.budget s answers motions steps closing) stays (runs_same b new new.state answers motions steps closing same run) in
    (motions, passes b.state low high answer answers motions steps closing going asks unfit here, refl)

-- a budget is counted
countable : (budget : ℕ) → budget ≤ 1000000 → budget < 2 ^ 64
countable budget few = omega (arith, few)

-- a step from a running state within the budget leaves one
pub under_way : (b new : Benched) (u : UnderWay) → IsInStep b u → b.state.mode ≡ Running → b.state.steps ≢ b.program.budget → IsStepFrom b.state new.state → IsSameRun b new
    → IsUnderWay new.program.budget new.state × (new.state.steps ≡ b.state.steps + 1)
under_way b new u in_step is_running some step same =
    let few = countable b.program.budget in_step.few in
    let under : IsUnderWay b.program.budget b.state = record { mode = inl is_running; within = in_step.within } in
    let going : IsGoing b.program.budget b.state = record { running = is_running; within = some } in
    (subst (λ (p : Program). IsUnderWay p.budget new.state) (sym same.program) (under_way_on b.program.budget b.state new.state few under going step), counted_step b.program.budget b.state new.state few under going step)

-- the rest of a run, from a state that did not trap
rest_of_run : (b : Benched) (answers : List ℤ) → b.program.budget ≤ 1000000 → IsUnderWay b.program.budget b.state → RunOf (setup_of b) b.program.budget b.state answers
rest_of_run b answers few under = some_result (setup_of b) b.program.budget b.state answers (countable b.program.budget few) under

module _ {S : Type 0} (sink : SinkView S) where
  -- where the sink fails at a motion, a front of the run's sheet was put
  pub fails_at_motion : (b new : Benched) (answers : List ℤ) (u : UnderWay) (motion : Motion) (before after : S)
      → IsInStep b u → IsGoing b.program.budget b.state → NextIs (setup_of b) b.state (Goes new.state (Some motion)) → IsSameRun b new → IsUnderWay new.program.budget new.state
      → FailsInMotion sink before after u motion → FailsInRun sink before after (run_state b answers u)
  fails_at_motion b new answers u motion before after in_step going next same under fails =
      let few = subst (λ (p : Program). p.budget ≤ 1000000) (sym same.program) in_step.few in
      let rest : RunOf (setup_of new) new.program.budget new.state answers = rest_of_run new answers few under in (
        motion ∷ rest.motions,
        rest.steps,
        rest.closing,
        goes b.state new.state (Some motion) answers rest.motions rest.steps rest.closing going next (runs_same b new new.state answers rest.motions rest.steps rest.closing same rest.run),
        fails_within_still sink before after u motion fails rest.motions rest.steps rest.closing,
      )

  -- Many steps

  pub parts_join : (p q r : RunState) (old mid now : S) → PutsPart sink old mid p q → PutsPart sink mid now q r → PutsPart sink old now p r
  parts_join p q r old mid now (a, puts_a, leads_a) (b, puts_b, leads_b) = (
    a ++ b,
    Appends-trans _ _ _ _ _ puts_a puts_b,
    λ motions steps closing run.
        let first = leads_b motions steps closing run in
        let whole = leads_a first.0 steps closing first.1 in
        (whole.0, whole.1, whole.2 ∙ ap (λ text. a ++ text) first.2 ∙ sym (append_assoc a b (still r.sheet motions steps closing))),
  )

  pub fails_after : (p q : RunState) (old mid now : S) → PutsPart sink old mid p q → FailsInRun sink mid now q → FailsInRun sink old now p
  fails_after p q old mid now (a, puts, leads) (motions, steps, closing, run, fails) =
      let whole = leads motions steps closing run in
      (whole.0, steps, closing, whole.1, rw whole.2 (FailsWithin-more a puts fails))

  -- where the run closes without a step, it closes after the steps before
  pub closes_after : (p q : RunState) (new : Benched) (more : UnderWay) (old mid now : S) (closing : Closing)
      → PutsPart sink old mid p q → RunsOn q [] new.state.steps closing → more ≡ q.sheet → sink.taken now ≡ sink.taken mid
      → ClosesPart sink old now p (run_state new [] more) closing
  closes_after p q new more old mid now closing (a, puts, leads) run sheet_same sink_same =
      let whole = leads [] new.state.steps closing run in
      rw (sheet_same, sink_same) (a, puts, (whole.0, whole.1, whole.2))

  -- The whole run

  pub sheet_of : (b : Benched) (answers : List ℤ) (q : RunState) (old mid now : S) (closing : Closing)
      → IsAssembly b.assembly → IsAtStart b
      → ClosesPart sink old mid (run_state b answers (blank (names_of b.assembly))) q closing → Appends (sink.taken mid) (sink.taken now) (still q.sheet [] q.bench.state.steps closing)
      → PutsSheet sink old now b.assembly b.program answers (outcome_of closing)
  sheet_of b answers q old mid now closing whole at_start (bytes, puts, (all, run, is)) closes =
      let started = subst (λ (t : BenchState). Run (setup_of b) b.program.budget t answers all q.bench.state.steps closing) at_start.state run in
      (still (blank (names_of b.assembly)) all q.bench.state.steps closing, sheet_of_run b.assembly b.program answers _ all q.bench.state.steps closing whole started refl, rw is (Appends-trans _ _ _ _ _ puts closes))

  pub fails_in_sheet : (b : Benched) (answers : List ℤ) (old now : S)
      → IsAssembly b.assembly → IsAtStart b → FailsInRun sink old now (run_state b answers (blank (names_of b.assembly))) → FailsInSheet sink old now b.assembly b.program answers
  fails_in_sheet b answers old now whole at_start (motions, steps, closing, run, fails) =
      let started = subst (λ (t : BenchState). Run (setup_of b) b.program.budget t answers motions steps closing) at_start.state run in
      (still (blank (names_of b.assembly)) motions steps closing, outcome_of closing, sheet_of_run b.assembly b.program answers _ motions steps closing whole started refl, fails)

  -- where closing the sheet fails, a front of it was put
  pub fails_at_close : (p q : RunState) (old mid now : S) (closing : Closing)
      → ClosesPart sink old mid p q closing → FailsWithin sink mid now (still q.sheet [] q.bench.state.steps closing) → FailsInRun sink old now p
  fails_at_close p q old mid now closing (bytes, puts, (all, run, is)) fails =
      (all, q.bench.state.steps, closing, run, rw is (FailsWithin-more bytes puts fails))

-- The bench and the sheet in step

pub in_step_still : (b new : Benched) (u : UnderWay) → IsInStep b u → IsSameRun b new → IsUnderWay new.program.budget new.state → b.state.steps ≤ new.state.steps → GoesOn b new None → IsInStep new u
in_step_still b new u step same under counted on = record {
  mode = under.mode;
  within = under.within;
  few = subst (λ (p : Program). p.budget ≤ 1000000) (sym same.program) step.few;
  motions = let m = step.motions in omega (arith, m, counted);
  outs = let o = step.outs in let p = on.outs in omega (arith, o, p);
  unfailed = step.unfailed;
}

pub in_step_motion : (b new : Benched) (u more : UnderWay) (motion : Motion) → IsInStep b u → IsSameRun b new → IsUnderWay new.program.budget new.state × (new.state.steps ≡ b.state.steps + 1) → GoesOn b new (Some motion)
    → (more.motions ≡ u.motions + 1) × (length more.levels ≡ length u.levels + outs_of motion) → more.failed ≡ false → IsInStep new more
in_step_motion b new u more motion step same (under, counted) on (motions, levels) unfailed = record {
  mode = under.mode;
  within = under.within;
  few = subst (λ (p : Program). p.budget ≤ 1000000) (sym same.program) step.few;
  motions = let m = step.motions in omega (arith, m, counted, motions);
  outs = let o = step.outs in let p = on.outs in omega (arith, o, p, levels);
  unfailed = unfailed;
}

-- a step is one less to take
pub one_step_less : (b new : Benched) (answers left : List ℤ) (u more : UnderWay) → b.state.steps ≤ b.program.budget → b.state.steps ≢ b.program.budget → IsSameRun b new → new.state.steps ≡ b.state.steps + 1 → length left ≤ length answers
    → left_to_take (run_state new left more) < left_to_take (run_state b answers u)
one_step_less b new answers left u more within some same counted fewer =
    let budget : new.program.budget ≡ b.program.budget = ap (λ (p : Program). p.budget) same.program in
    omega (arith, within, some, budget, counted, fewer)

-- The loop over the steps

-- a state that has not ended, and did not trap, runs
pub still_running : (s : BenchState) → (s.mode ≡ Running) ⊎ (s.mode ≡ Ended) → (¬ (s.mode ≡ Ended)) → s.mode ≡ Running
still_running s (inl is_running) open_end = is_running
still_running s (inr ended) open_end = absurd (open_end ended)

-- a trap closes the run, at the place of its instruction
pub trapped_run : (b new : Benched) (answers : List ℤ) (u : UnderWay) (trap : Trap) (procedure pc : ℕ) → IsGoing b.program.budget b.state → NextIs (setup_of b) b.state (Traps trap)
    → new.state ≡ record b.state { mode = Trapped trap } → procedure ≡ new.state.running.procedure → pc ≡ new.state.running.pc
    → RunsOn (run_state b answers u) [] new.state.steps (closings.Trapped trap procedure pc)
trapped_run b new answers u trap procedure pc going next state in_procedure at = rw (in_procedure, at, state) (traps b.state answers trap going next)

-- Questions

-- the bench has not changed
pub unchanged : (b mid : Benched) → IsSameRun b mid → mid.state ≡ b.state → mid ≡ b
unchanged b mid same stays i = record { assembly = same.assembly i; program = same.program i; state = stays i }

-- what a call that made a step leaves
leaves_of : {s new : BenchState} → AfterCall s (Ok (Went None)) new → IsStepFrom s new
leaves_of leaves = leaves

-- a question with a next answer: it is taken or passed over
pub answer_given : (b new : Benched) (low high answer : ℤ) (told : Result Told Trap) → b.state.mode ≡ Running → NextIs (setup_of b) b.state (Asks low high)
    → Called (setup_of b) b.state (Some answer) told new.state → OnOk told (GoesOn b new (motion_in told))
    → GoesOn b new None × ((TakesAnswer (setup_of b) b.state answer new.state × IsStepFrom b.state new.state) ⊎ ((¬ Fits low high answer) × (new.state ≡ b.state)))
answer_given b new low high answer told is_running asks called on = by_call (subst (λ (m : Mode). CallIn m (setup_of b) b.state (Some answer) told new.state) is_running called)
  where
    by_call : CallIn Running (setup_of b) b.state (Some answer) told new.state
        → GoesOn b new None × ((TakesAnswer (setup_of b) b.state answer new.state × IsStepFrom b.state new.state) ⊎ ((¬ Fits low high answer) × (new.state ≡ b.state)))
    by_call (inl (taken, went)) = (subst (λ (r : Result Told Trap). OnOk r (GoesOn b new (motion_in r))) went on, inl (taken, leaves_of (call_leaves (setup_of b) b.state new.state (Some answer) (Ok (Went None)) (subst (λ (r : Result Told Trap). Called (setup_of b) b.state (Some answer) r new.state) went called))))
    by_call (inr (unfit, passed, stays)) = (subst (λ (r : Result Told Trap). OnOk r (GoesOn b new (motion_in r))) passed on, inr (unfit low high asks, stays))

-- the bench and the sheet keep step where an answer is passed over
in_step_passed : (b new : Benched) (u : UnderWay) → IsInStep b u → IsSameRun b new → new.state ≡ b.state → IsInStep new u
in_step_passed b new u step same stays =
    let whole : b ≡ new = sym (unchanged b new same stays) in
    subst (λ (c : Benched). IsInStep c u) whole step

module _ {S : Type 0} (sink : SinkView S) where
  -- a turn at a question
  pub asked_turn : (b new : Benched) (answers : List ℤ) (u : UnderWay) (low high : ℤ) (now : S) (turn : ControlFlow Closing (Bor (List ℤ)))
      → IsInStep b u → IsGoing b.program.budget b.state → NextIs (setup_of b) b.state (Asks low high) → AnswerIs b answers low high new turn
      → TurnIs sink now now (run_state b answers u) new u turn
  asked_turn b new answers u low high now (turns.Continue left) step going asks (answer, are, same, on, inl (taken, from)) =
      let under = under_way b new u step going.running going.within from same in
      rw are (
        record {
          in_step = in_step_still b new u step same under.0 (let counted = under.1 in omega (arith, counted)) on;
          same = same;
          puts = ([], Appends-nil _, leads_taken b new answer left.now u going taken same);
        },
        one_step_less b new (answer ∷ left.now) left.now u u step.within going.within same under.1 (omega arith),
      )
  asked_turn b new answers u low high now (turns.Continue left) step going asks (answer, are, same, on, inr (unfit, stays)) =
      let budget : new.program.budget ≡ b.program.budget = ap (λ (p : Program). p.budget) same.program in
      let steps : new.state.steps ≡ b.state.steps = ap (λ (s : BenchState). s.steps) stays in
      rw are (
        record {
          in_step = in_step_passed b new u step same stays;
          same = same;
          puts = ([], Appends-nil _, leads_passed b new low high answer left.now u going asks unfit stays same);
        },
        omega (arith, budget, steps),
      )
  asked_turn b new answers u low high now (turns.Break closing) step going asks (none, is, stays) =
      let steps = ap (λ (c : Benched). c.state.steps) stays in
      (rw (none, is, steps) (waits b.state low high going asks), refl, refl)
