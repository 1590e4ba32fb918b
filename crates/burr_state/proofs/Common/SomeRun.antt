-- For crates above: a run has a result.
use Rattle.std.proofs.Common.{◌≡◌, ◌⊎◌, ℕ, zero, suc, ◌+◌, ◌<◌, ◌≤◌, ◌^◌, List, [], ◌∷◌, ◌++◌, inl, inr, arith}
use Rattle.std.specs.Prelude.{ℤ}
use Rattle.std.specs.Option.{option_to_list}
use Rattle.std.proofs.lemmas.Int.{ints, by_lt_z}
use Rattle.burr_text.proofs.Common.Decisions.{Decided, decide_same}
use Rattle.burr_state.specs.declared.effect.Mode.TheVariants.{Running, Ended}
use Rattle.burr_state.specs.Rules.Bench.{BenchState, Setup}
use Rattle.burr_state.specs.Rules.Next.{Next, Goes, Asks, Traps}
use Rattle.burr_state.specs.Rules.Step.{NextIs}
use Rattle.burr_state.specs.Rules.Questions.{Fits}
use Rattle.burr_state.specs.Rules.Run.{IsGoing, ends, stops, traps, waits, passes, takes, goes}
use Rattle.burr_state.specs.Laws.RunLaws.{IsUnderWay, RunOf, SomeResult}
use Rattle.burr_state.specs.Rules.Step.{IsStepFrom}
use Rattle.burr_state.proofs.Common.Existence.SomeStep.{some_next}
use Rattle.burr_state.specs.declared.effect.Closing.TheVariants as closings
use Rattle.burr_state.proofs.Common.Leading.{leads_from}

pub decide_fits : (low high answer : ℤ) → Decided (Fits low high answer)
decide_fits low high answer =
    by_lt_z answer low (λ below. inr (λ fits. omega (arith, ints, fits.0)))
    (λ least. by_lt_z high answer (λ above. inr (λ fits. omega (arith, ints, fits.1))) (λ greatest. inl (least, greatest)))

-- a state one step on has a run with any answers
abbrev RunsOn : Setup → ℕ → BenchState → Type 0
RunsOn setup budget s = (new : BenchState) (answers : List ℤ) → IsStepFrom s new → RunOf setup budget new answers

-- A question, with the answers that are left: those that do not fit are passed over, and the first that fits is taken.
asked_run : (setup : Setup) (budget : ℕ) (s : BenchState) (low high : ℤ) → IsGoing budget s → NextIs setup s (Asks low high) → RunsOn setup budget s → (answers : List ℤ) → RunOf setup budget s answers
asked_run setup budget s low high going is on [] = record { motions = []; steps = s.steps; closing = closings.Waiting low high; run = waits s low high going is }
asked_run setup budget s low high going is on (answer ∷ answers) = by_fit (asked_run setup budget s low high going is on answers) (decide_fits low high answer)
  where
    by_fit : RunOf setup budget s answers → Decided (Fits low high answer) → RunOf setup budget s (answer ∷ answers)
    by_fit rest (inr unfit) = record {
      motions = rest.motions;
      steps = rest.steps;
      closing = rest.closing;
      run = passes s low high answer answers rest.motions rest.steps rest.closing going is unfit rest.run;
    }
    by_fit rest (inl fits) =
        let taken = leads_from setup s (Asks low high) going.running is answer fits in
        let more = on taken.0 answers taken.2 in
        record {
          motions = more.motions;
          steps = more.steps;
          closing = more.closing;
          run = takes s taken.0 answer answers more.motions more.steps more.closing going taken.1 more.run;
        }

going_run : (setup : Setup) (budget : ℕ) (s : BenchState) (answers : List ℤ) → IsGoing budget s → RunsOn setup budget s → (next : Next) → NextIs setup s next → RunOf setup budget s answers
going_run setup budget s answers going on (Traps trap) is =
    record { motions = []; steps = s.steps; closing = closings.Trapped trap s.running.procedure s.running.pc; run = traps s answers trap going is }
going_run setup budget s answers going on (Asks low high) is = asked_run setup budget s low high going is on answers
going_run setup budget s answers going on (Goes new motion) is =
    let more = on new answers (leads_from setup s (Goes new motion) going.running is) in
    record {
      motions = option_to_list motion ++ more.motions;
      steps = more.steps;
      closing = more.closing;
      run = goes s new motion answers more.motions more.steps more.closing going is more.run;
    }

-- a state under way has a run, where going on it has one
run_under_way : (setup : Setup) (budget : ℕ) (s : BenchState) (answers : List ℤ) → IsUnderWay budget s → (IsGoing budget s → RunsOn setup budget s) → RunOf setup budget s answers
run_under_way setup budget s answers under_way on = by_mode under_way.mode (decide_same s.steps budget)
  where
    by_mode : (s.mode ≡ Running) ⊎ (s.mode ≡ Ended) → Decided (s.steps ≡ budget) → RunOf setup budget s answers
    by_mode (inr ended) d = record { motions = []; steps = s.steps; closing = closings.Apart; run = ends s answers ended }
    by_mode (inl running) (inl spent) = record { motions = []; steps = s.steps; closing = closings.Stopped; run = stops s answers running spent }
    by_mode (inl running) (inr within) =
        let going : IsGoing budget s = record { running = running; within = within } in
        let next = some_next setup s in
        going_run setup budget s answers going (on going) next.0 next.1

-- a step within a budget that can be counted is counted
pub counted_step : (budget : ℕ) (s new : BenchState) → budget < 2 ^ 64 → IsUnderWay budget s → IsGoing budget s → IsStepFrom s new → new.steps ≡ s.steps + 1
counted_step budget s new countable under_way going step =
    let within = under_way.within in
    let unspent = going.within in
    let steps = step.steps in
    omega arith

-- a step within the budget leaves a state under way
pub under_way_on : (budget : ℕ) (s new : BenchState) → budget < 2 ^ 64 → IsUnderWay budget s → IsGoing budget s → IsStepFrom s new → IsUnderWay budget new
under_way_on budget s new countable under_way going step =
    let steps = counted_step budget s new countable under_way going step in
    let within = under_way.within in
    let unspent = going.within in
    record { mode = step.mode; within = omega arith }

run_within : (setup : Setup) (budget : ℕ) → budget < 2 ^ 64 → (left : ℕ) (s : BenchState) (answers : List ℤ) → budget ≤ s.steps + left → IsUnderWay budget s → RunOf setup budget s answers
run_within setup budget countable zero s answers near under_way = run_under_way setup budget s answers under_way none_left
  where
    none_left : IsGoing budget s → RunsOn setup budget s
    none_left going =
        let within = under_way.within in
        let unspent = going.within in
        absurd (omega arith)
run_within setup budget countable (suc left) s answers near under_way = run_under_way setup budget s answers under_way (on (run_within setup budget countable left))
  where
    on : ((new : BenchState) (more : List ℤ) → budget ≤ new.steps + left → IsUnderWay budget new → RunOf setup budget new more) → IsGoing budget s → RunsOn setup budget s
    on run going new more step =
        let steps = counted_step budget s new countable under_way going step in
        run new more (omega arith) (under_way_on budget s new countable under_way going step)

pub some_result : SomeResult
some_result setup budget s answers countable under_way = run_within setup budget countable budget s answers (omega arith) under_way
