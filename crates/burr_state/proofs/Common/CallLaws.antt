-- For crates above: what calls of the bench leave, and runs as chains of calls.
use Rattle.std.proofs.Common.{◌≡◌, ℕ, ℤ, List, [], ◌∷◌, ◌++◌, Option, Some, None, Result, Ok, Err, refl, sym, ap, subst, ◌∙◌, inl, inr}
use Rattle.std.specs.Option.{option_to_list}
use Rattle.burr_state.specs.declared.effect.Mode.{Mode}
use Rattle.burr_state.specs.declared.effect.Mode.TheVariants.{Running, Ended, Trapped}
use Rattle.burr_state.specs.declared.effect.Motion.{Motion}
use Rattle.burr_state.specs.declared.effect.Closing.{Closing}
use Rattle.burr_state.specs.declared.effect.Closing.TheVariants as closings
use Rattle.burr_state.specs.declared.effect.Progress.{Progress}
use Rattle.burr_state.specs.declared.effect.Progress.TheVariants as progress
use Rattle.burr_state.specs.declared.effect.Trap.{Trap}
use Rattle.burr_state.specs.Rules.Bench.{BenchState, Setup}
use Rattle.burr_state.specs.Rules.Next.{Goes, Asks, Traps}
use Rattle.burr_state.specs.Rules.Step.{NextIs, TakesAnswer, CallIn, Called, IsStepFrom}
use Rattle.burr_state.specs.Rules.Run.{Run, ends, stops, traps, waits, passes, takes, goes, IsGoing}
use Rattle.burr_state.specs.Laws.RunLaws.{RunIsCalls}
use Rattle.burr_state.specs.Rules.Calls.{CallsTo, ClosesAt, answered, went, begun, Calls}
use Rattle.burr_state.specs.Laws.StepLaws.{AfterCall, CallIsOneStep}
use Rattle.burr_state.proofs.Uniqueness.OneStep.{one_way_on, asks_where_taken}
use Rattle.burr_state.proofs.Common.Existence.SomeCall.{unfit_there}
use Rattle.burr_state.proofs.Common.Calls.{Tells, tells}
use Rattle.burr_state.proofs.Common.Leading.{leads_from}

-- What a call leaves

-- an answer that is taken makes a step
pub step_where_taken : (setup : Setup) (s new : BenchState) (answer : ℤ) → s.mode ≡ Running → TakesAnswer setup s answer new → IsStepFrom s new
step_where_taken setup s new answer running taken =
    let asked = asks_where_taken setup s new answer taken in
    let led = leads_from setup s (Asks asked.0 asked.1) running asked.2 answer asked.3 in
    subst (λ (t : BenchState). IsStepFrom s t) (one_way_on setup s answer led.0 new led.1 taken) led.2

-- a call of a state in this mode
in_mode : (setup : Setup) (s new : BenchState) (answer : Option ℤ) (result : Result Progress Trap) (mode : Mode) → s.mode ≡ mode → CallIn mode setup s answer result new → Called setup s answer result new
in_mode setup s new answer result mode is called = subst (λ (m : Mode). CallIn m setup s answer result new) (sym is) called

leaves_told : (setup : Setup) (s new : BenchState) (result : Result Progress Trap) → s.mode ≡ Running → Tells setup s result new → AfterCall s result new
leaves_told setup s new (Ok (progress.Went motion)) running told = leads_from setup s (Goes new motion) running told
leaves_told setup s new (Ok (progress.Asks low high)) running told = told.1
leaves_told setup s new (Ok progress.Again) running told = absurd told
leaves_told setup s new (Ok progress.Ended) running told = absurd told
leaves_told setup s new (Err trap) running told = told.1

leaves_in : (setup : Setup) (s new : BenchState) (answer : Option ℤ) (result : Result Progress Trap) (mode : Mode) → s.mode ≡ mode → CallIn mode setup s answer result new → AfterCall s result new
leaves_in setup s new None result Running is called = leaves_told setup s new result is (tells setup s new result is (in_mode setup s new None result Running is called))
leaves_in setup s new (Some answer) result Running is (inl taken) = subst (λ (r : Result Progress Trap). AfterCall s r new) (sym taken.1) (step_where_taken setup s new answer is taken.0)
leaves_in setup s new (Some answer) result Running is (inr unfit) = subst (λ (r : Result Progress Trap). AfterCall s r new) (sym unfit.1) unfit.2
leaves_in setup s new answer result Ended is called = subst (λ (r : Result Progress Trap). AfterCall s r new) (sym called.0) called.1
leaves_in setup s new answer result (Trapped trap) is called =
    subst (λ (r : Result Progress Trap). AfterCall s r new) (sym called.0) (called.1 ∙ ap (λ (m : Mode). record s { mode = m }) is)

pub call_leaves : CallIsOneStep
call_leaves setup s new answer result called = leaves_in setup s new answer result s.mode refl called

-- Runs and chains of calls

-- where something stands next, a call without an answer tells it
tells_going : (setup : Setup) (budget : ℕ) (s new : BenchState) (motion : Option Motion) → IsGoing budget s → NextIs setup s (Goes new motion) → Called setup s None (Ok (progress.Went motion)) new
tells_going setup budget s new motion going is = in_mode setup s new None _ Running going.running (Goes new motion, is, refl, refl)

tells_asking : (setup : Setup) (budget : ℕ) (s : BenchState) (low high : ℤ) → IsGoing budget s → NextIs setup s (Asks low high) → Called setup s None (Ok (progress.Asks low high)) s
tells_asking setup budget s low high going is = in_mode setup s s None _ Running going.running (Asks low high, is, refl, refl)

tells_trap : (setup : Setup) (budget : ℕ) (s : BenchState) (trap : Trap) → IsGoing budget s → NextIs setup s (Traps trap) → (new : BenchState) × Called setup s None (Err trap) new
tells_trap setup budget s trap going is = (_, in_mode setup s (record s { mode = Trapped trap }) None _ Running going.running (Traps trap, is, refl, refl))

-- one more call before others
going_first : {setup : Setup} {budget : ℕ} {s new : BenchState} (motion : Option Motion) {answers : List ℤ} {motions : List Motion} {steps : ℕ} {closing : Closing}
    → IsGoing budget s → Called setup s None (Ok (progress.Went motion)) new
    → CallsTo setup budget new answers motions steps closing → CallsTo setup budget s answers (option_to_list motion ++ motions) steps closing
going_first {s} {new} motion {answers} {motions} going called to =
    record { last = to.last; left = to.left; calls = went s new to.last motion answers to.left motions going called to.calls; counted = to.counted; closes = to.closes }

asking_first : {setup : Setup} {budget : ℕ} {s new : BenchState} (low high : ℤ) (told : Progress) {answer : ℤ} {answers : List ℤ} {motions : List Motion} {steps : ℕ} {closing : Closing}
    → IsGoing budget s → Called setup s None (Ok (progress.Asks low high)) s → Called setup s (Some answer) (Ok told) new
    → CallsTo setup budget new answers motions steps closing → CallsTo setup budget s (answer ∷ answers) motions steps closing
asking_first {s} {new} low high told {answer} {answers} {motions} going asks called to =
    record { last = to.last; left = to.left; calls = answered s new to.last low high answer told answers to.left motions going asks called to.calls; counted = to.counted; closes = to.closes }

-- a run closes where it stands
closing_here : {setup : Setup} {budget : ℕ} (s : BenchState) (answers : List ℤ) (closing : Closing) → ClosesAt setup budget s answers closing → CallsTo setup budget s answers [] s.steps closing
closing_here s answers closing closes = record { last = s; left = answers; calls = begun s answers; counted = refl; closes = closes }

calls_of : (setup : Setup) (budget : ℕ) (s : BenchState) (answers : List ℤ) (motions : List Motion) (steps : ℕ) (closing : Closing)
    → Run setup budget s answers motions steps closing → CallsTo setup budget s answers motions steps closing
calls_of setup budget _ answers _ _ _ (ends s _ ended) = closing_here s answers closings.Apart ended
calls_of setup budget _ answers _ _ _ (stops s _ running used) = closing_here s answers closings.Stopped (running, used)
calls_of setup budget _ answers _ _ _ (traps s _ trap going is) =
    closing_here s answers (closings.Trapped trap s.running.procedure s.running.pc) (going, tells_trap setup budget s trap going is, refl, refl)
calls_of setup budget _ _ _ _ _ (waits s low high going is) = closing_here s [] (closings.Waiting low high) (going, tells_asking setup budget s low high going is, refl)
calls_of setup budget _ _ _ steps closing (passes s low high answer answers motions _ _ going is unfit run) =
    asking_first low high progress.Again going (tells_asking setup budget s low high going is)
    (in_mode setup s s (Some answer) (Ok progress.Again) Running going.running (inr (unfit_there setup s low high answer is unfit, refl, refl)))
    (calls_of setup budget s answers motions steps closing run)
calls_of setup budget _ _ _ steps closing (takes s new answer answers motions _ _ going taken run) =
    let asked = asks_where_taken setup s new answer taken in
    asking_first asked.0 asked.1 (progress.Went None) going (tells_asking setup budget s asked.0 asked.1 going asked.2)
    (in_mode setup s new (Some answer) (Ok (progress.Went None)) Running going.running (inl (taken, refl)))
    (calls_of setup budget new answers motions steps closing run)
calls_of setup budget _ answers _ steps closing (goes s new motion _ motions _ _ going is run) =
    going_first motion going (tells_going setup budget s new motion going is) (calls_of setup budget new answers motions steps closing run)

-- a run that has come to where it closes
run_there : (setup : Setup) (budget : ℕ) (s : BenchState) (answers : List ℤ) (closing : Closing) → ClosesAt setup budget s answers closing → Run setup budget s answers [] s.steps closing
run_there setup budget s answers closings.Apart closes = ends s answers closes
run_there setup budget s answers (closings.Waiting low high) closes =
    subst (λ (left : List ℤ). Run setup budget s left [] s.steps (closings.Waiting low high)) (sym closes.2) (waits s low high closes.0 (tells setup s s _ closes.0.running closes.1).0)
run_there setup budget s answers (closings.Trapped trap procedure pc) closes =
    subst (λ (n : ℕ). Run setup budget s answers [] s.steps (closings.Trapped trap n pc)) (sym closes.2)
    (subst (λ (n : ℕ). Run setup budget s answers [] s.steps (closings.Trapped trap s.running.procedure n)) (sym closes.3)
    (traps s answers trap closes.0 (tells setup s closes.1.0 _ closes.0.running closes.1.1).0))
run_there setup budget s answers closings.Stopped closes = stops s answers closes.0 closes.1

-- a run that an answer leads on
run_answered : (setup : Setup) (budget : ℕ) (s new : BenchState) (low high answer : ℤ) (told : Progress) (answers : List ℤ) (motions : List Motion) (steps : ℕ) (closing : Closing)
    → IsGoing budget s → NextIs setup s (Asks low high) → CallIn Running setup s (Some answer) (Ok told) new
    → Run setup budget new answers motions steps closing → Run setup budget s (answer ∷ answers) motions steps closing
run_answered setup budget s new low high answer told answers motions steps closing going is (inl taken) run = takes s new answer answers motions steps closing going taken.0 run
run_answered setup budget s new low high answer told answers motions steps closing going is (inr unfit) run =
    passes s low high answer answers motions steps closing going is (unfit.0 low high is) (subst (λ (t : BenchState). Run setup budget t answers motions steps closing) unfit.2 run)

run_of : (setup : Setup) (budget : ℕ) (s last : BenchState) (answers left : List ℤ) (motions : List Motion) (closing : Closing)
    → Calls setup budget s answers motions last left → ClosesAt setup budget last left closing → Run setup budget s answers motions last.steps closing
run_of setup budget _ _ _ _ _ closing (begun s answers) closes = run_there setup budget s answers closing closes
run_of setup budget _ _ _ _ _ closing (went s new last motion answers left motions going called calls) closes =
    goes s new motion answers motions last.steps closing going (tells setup s new _ going.running called) (run_of setup budget new last answers left motions closing calls closes)
run_of setup budget _ _ _ _ _ closing (answered s new last low high answer told answers left motions going asks called calls) closes =
    run_answered setup budget s new low high answer told answers motions last.steps closing going (tells setup s s _ going.running asks).0
    (subst (λ (m : Mode). CallIn m setup s (Some answer) (Ok told) new) going.running called) (run_of setup budget new last answers left motions closing calls closes)

pub run_is_calls : RunIsCalls
run_is_calls setup budget s answers motions steps closing = (
  calls_of setup budget s answers motions steps closing,
  λ to. subst (λ (n : ℕ). Run setup budget s answers motions n closing) (sym to.counted) (run_of setup budget s to.last answers to.left motions closing to.calls to.closes),
)
