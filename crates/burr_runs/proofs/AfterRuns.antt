-- Where a bench stands in a run, and at its end.
use Rattle.std.proofs.Common.{◌≡◌, ◌++◌, ◌∷◌, ◌∙◌, ℕ, ℤ, List, [], refl, sym, ap, subst, inl, inr, append_assoc}
use Rattle.std.specs.Prelude.{Option, Some, None, Result, Ok, Err}
use Rattle.std.specs.Option.{option_to_list}
use Rattle.burr_assembly.specs.Rules.Text.{Assembly}
use Rattle.burr_assembly.specs.Rules.Homes.{homes_of}
use Rattle.burr_state.specs.declared.effect.Mode.{Mode}
use Rattle.burr_state.specs.declared.effect.Mode.TheVariants.{Running, Trapped}
use Rattle.burr_state.specs.declared.effect.Motion.{Motion}
use Rattle.burr_state.specs.declared.effect.Trap.{Trap}
use Rattle.burr_state.specs.declared.effect.Progress.{Progress as Told}
use Rattle.burr_state.specs.declared.effect.Progress.TheVariants as progress
use Rattle.burr_state.specs.declared.effect.Closing.{Closing}
use Rattle.burr_state.specs.declared.effect.Closing.TheVariants as closings
use Rattle.burr_state.specs.Rules.Bench.{Program, BenchState, Activation, Setup, running}
use Rattle.burr_state.specs.Rules.Next.{Asks}
use Rattle.burr_state.specs.Rules.Step.{NextIs, CallIn, Called}
use Rattle.burr_state.specs.Rules.Run.{IsGoing}
use Rattle.burr_state.specs.Rules.Calls.{Calls, begun, went, answered, ClosesAt}
use Rattle.burr_state.specs.Views.Benches.{Benched, setup_of, IsSameRun}
use Rattle.burr_runs.specs.declared.text_runs.Outcome.{Outcome}
use Rattle.burr_runs.specs.Rules.Output.{outcome_of}
use Rattle.burr_runs.specs.Views.AfterRuns.{HasComeOn, IsAtRunEnd, IsInRun, closed_state}
use Rattle.burr_runs.proofs.StepByStep.{same_run_on}

-- Calls after calls

calls_join : (setup : Setup) (budget : ℕ) (s mid last : BenchState) (answers between left : List ℤ) (motions more : List Motion)
    → Calls setup budget s answers motions mid between → Calls setup budget mid between more last left → Calls setup budget s answers (motions ++ more) last left
calls_join setup budget _ _ last _ _ left _ more (begun s answers) later = later
calls_join setup budget _ _ last _ _ left _ more (went s new mid motion answers between motions going called calls) later =
    subst (λ (all : List Motion). Calls setup budget s answers all last left) (sym (append_assoc (option_to_list motion) motions more))
    (went s new last motion answers left (motions ++ more) going called (calls_join setup budget new mid last answers between left motions more calls later))
calls_join setup budget _ _ last _ _ left _ more (answered s new mid low high answer told answers between motions going asks called calls) later =
    answered s new last low high answer told answers left (motions ++ more) going asks called (calls_join setup budget new mid last answers between left motions more calls later)

-- The same run

-- calls of the one bench are calls of the other
calls_same : (b new : Benched) (s last : BenchState) (answers left : List ℤ) (motions : List Motion) → IsSameRun b new
    → Calls (setup_of new) new.program.budget s answers motions last left → Calls (setup_of b) b.program.budget s answers motions last left
calls_same b new s last answers left motions same calls =
    subst (λ (p : Program). Calls (running (homes_of b.assembly) p) p.budget s answers motions last left) same.program
    (subst (λ (a : Assembly). Calls (running (homes_of a) new.program) new.program.budget s answers motions last left) same.assembly calls)

-- the one closes where the other does
closes_same : (b new : Benched) (last : BenchState) (left : List ℤ) (closing : Closing) → IsSameRun b new
    → ClosesAt (setup_of new) new.program.budget last left closing → ClosesAt (setup_of b) b.program.budget last left closing
closes_same b new last left closing same closes =
    subst (λ (p : Program). ClosesAt (running (homes_of b.assembly) p) p.budget last left closing) same.program
    (subst (λ (a : Assembly). ClosesAt (running (homes_of a) new.program) new.program.budget last left closing) same.assembly closes)

-- Further on

pub come_further : (a b c : Benched) (answers between left : List ℤ) → HasComeOn a answers b between → HasComeOn b between c left → HasComeOn a answers c left
come_further a b c answers between left first next = record {
  same = same_run_on a b c first.same next.same;
  motions = first.motions ++ next.motions;
  calls = calls_join (setup_of a) a.program.budget a.state b.state c.state answers between left first.motions next.motions first.calls (calls_same a b b.state c.state between left next.motions first.same next.calls);
}

pub end_further : (a b c : Benched) (answers between : List ℤ) (outcome : Outcome) → HasComeOn a answers b between → IsAtRunEnd b between c outcome → IsAtRunEnd a answers c outcome
end_further a b c answers between outcome first end = record {
  same = same_run_on a b c first.same end.same;
  motions = first.motions ++ end.motions;
  last = end.last;
  left = end.left;
  closing = end.closing;
  calls = calls_join (setup_of a) a.program.budget a.state b.state end.last answers between end.left first.motions end.motions first.calls (calls_same a b b.state end.last between end.left end.motions first.same end.calls);
  closes = closes_same a b end.last end.left end.closing first.same end.closes;
  stands = end.stands;
  is = end.is;
}

pub in_run_further : (a b c : Benched) (answers between : List ℤ) → HasComeOn a answers b between → IsInRun b between c → IsInRun a answers c
in_run_further a b c answers between first (inl (left, next)) = inl (left, come_further a b c answers between left first next)
in_run_further a b c answers between first (inr (outcome, end)) = inr (outcome, end_further a b c answers between outcome first end)

-- Where it stands

-- no call was made
pub still_here : (b : Benched) (answers : List ℤ) → HasComeOn b answers b answers
still_here b answers = record { same = record { assembly = refl; program = refl }; motions = []; calls = begun b.state answers }

-- the run closes where the bench stands
pub closes_here : (b new : Benched) (answers : List ℤ) (closing : Closing) → IsSameRun b new → ClosesAt (setup_of b) b.program.budget b.state answers closing → new.state ≡ closed_state closing b.state
    → IsAtRunEnd b answers new (outcome_of closing)
closes_here b new answers closing same closes stands = record {
  same = same;
  motions = [];
  last = b.state;
  left = answers;
  closing = closing;
  calls = begun b.state answers;
  closes = closes;
  stands = stands;
  is = refl;
}

-- and closes there after the calls before
pub end_there : (a b : Benched) (answers left : List ℤ) (closing : Closing) → HasComeOn a answers b left → ClosesAt (setup_of b) b.program.budget b.state left closing → b.state ≡ closed_state closing b.state
    → IsAtRunEnd a answers b (outcome_of closing)
end_there a b answers left closing come closes stands =
    end_further a b b answers left (outcome_of closing) come (closes_here b b left closing (record { assembly = refl; program = refl }) closes stands)

-- One call

-- a call of a running state
of_running : (setup : Setup) (s new : BenchState) (answer : Option ℤ) (result : Result Told Trap) → s.mode ≡ Running → CallIn Running setup s answer result new → Called setup s answer result new
of_running setup s new answer result is_running call = subst (λ (m : Mode). CallIn m setup s answer result new) (sym is_running) call

pub one_step_on : (b new : Benched) (answers : List ℤ) (motion : Option Motion) → IsGoing b.program.budget b.state → IsSameRun b new → Called (setup_of b) b.state None (Ok (progress.Went motion)) new.state
    → HasComeOn b answers new answers
one_step_on b new answers motion going same called = record {
  same = same;
  motions = option_to_list motion ++ [];
  calls = went b.state new.state new.state motion answers answers [] going called (begun new.state answers);
}

pub trapped_there : (b new : Benched) (answers : List ℤ) (trap : Trap) (procedure pc : ℕ) → IsGoing b.program.budget b.state → IsSameRun b new → Called (setup_of b) b.state None (Err trap) new.state
    → new.state ≡ record b.state { mode = Trapped trap } → procedure ≡ new.state.running.procedure → pc ≡ new.state.running.pc
    → IsAtRunEnd b answers new (outcome_of (closings.Trapped trap procedure pc))
trapped_there b new answers trap procedure pc going same called stands in_procedure at =
    let here : new.state.running ≡ b.state.running = ap (λ (s : BenchState). s.running) stands in
    closes_here b new answers (closings.Trapped trap procedure pc) same
    (going, (new.state, called), in_procedure ∙ ap (λ (a : Activation). a.procedure) here, at ∙ ap (λ (a : Activation). a.pc) here) stands

-- a question is asked where it stands next
asked_there : (b : Benched) (low high : ℤ) → IsGoing b.program.budget b.state → NextIs (setup_of b) b.state (Asks low high) → Called (setup_of b) b.state None (Ok (progress.Asks low high)) b.state
asked_there b low high going asks = of_running (setup_of b) b.state b.state None (Ok (progress.Asks low high)) going.running (Asks low high, asks, refl, refl)

-- it waits where no answer is left
pub waits_there : (b : Benched) (low high : ℤ) (answers : List ℤ) → answers ≡ [] → IsGoing b.program.budget b.state → NextIs (setup_of b) b.state (Asks low high)
    → IsAtRunEnd b answers b (outcome_of (closings.Waiting low high))
waits_there b low high answers none going asks =
    closes_here b b answers (closings.Waiting low high) (record { assembly = refl; program = refl }) (going, asked_there b low high going asks, none) refl

-- what a call with an answer tells of a running state is no trap
told_in_running : (setup : Setup) (s new : BenchState) (answer : ℤ) (result : Result Told Trap) → CallIn Running setup s (Some answer) result new → (told : Told) × (result ≡ Ok told)
told_in_running setup s new answer result (inl taken) = (progress.Went None, taken.1)
told_in_running setup s new answer result (inr unfit) = (progress.Again, unfit.1)

-- an answer was given
pub answer_on : (b new : Benched) (low high answer : ℤ) (result : Result Told Trap) (left : List ℤ) → IsGoing b.program.budget b.state → NextIs (setup_of b) b.state (Asks low high) → IsSameRun b new
    → Called (setup_of b) b.state (Some answer) result new.state → HasComeOn b (answer ∷ left) new left
answer_on b new low high answer result left going asks same called =
    let told = told_in_running (setup_of b) b.state new.state answer result (subst (λ (m : Mode). CallIn m (setup_of b) b.state (Some answer) result new.state) going.running called) in
    let given = subst (λ (r : Result Told Trap). Called (setup_of b) b.state (Some answer) r new.state) told.1 called in
    record {
      same = same;
      motions = [];
      calls = answered b.state new.state new.state low high answer told.0 left left [] going (asked_there b low high going asks) given (begun new.state left);
    }
