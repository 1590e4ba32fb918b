-- For crates above: a run has one result, and goes on with more answers: by what it does first.
use Rattle.std.proofs.Common.{◌≡◌, ◌≢◌, ℕ, List, [], ◌∷◌, ◌++◌, append_assoc, refl, sym, ap, subst, ◌∙◌, inl, inr}
use Rattle.std.specs.Prelude.{ℤ}
use Rattle.std.specs.Option.{option_to_list}
use Rattle.burr_text.specs.Checks.{needs}
use Rattle.burr_state.specs.declared.effect.Mode.{Mode}
use Rattle.burr_state.specs.declared.effect.Mode.TheVariants.{Running, Ended, Trapped}
use Rattle.burr_state.specs.declared.effect.Motion.{Motion}
use Rattle.burr_state.specs.Rules.Bench.{BenchState, Setup}
use Rattle.burr_state.specs.Rules.Next.{Next, Goes, Asks, Traps}
use Rattle.burr_state.specs.Rules.Step.{NextIs, TakesAnswer}
use Rattle.burr_state.specs.Rules.Questions.{Fits}
use Rattle.burr_state.specs.Rules.Run.{Run, ends, stops, traps, waits, passes, takes, goes, IsGoing}
use Rattle.burr_state.specs.declared.effect.Closing.{Closing}
use Rattle.burr_state.specs.Laws.RunLaws.{OneResult, MoreAnswersGoOn}
use Rattle.burr_state.specs.declared.effect.Closing.TheVariants as closings
use Rattle.burr_code.proofs.Common.OneAnswer.{IsOne, one_given, one_needed}
use Rattle.burr_state.proofs.Uniqueness.OneStep.{one_next, one_way_on, asks_where_taken}

-- what a run does first: it closes, or goes on at a state with the answers that are left and makes these motions
data Turn : Type 0 where
  Closes : (closing : Closing) → Turn
  GoesOn : (new : BenchState) (left : List ℤ) (made : List Motion) → Turn

-- what a run does where this stands next
abbrev After : Setup → BenchState → List ℤ → Next → Turn → Type 0
After setup s answers (Goes new motion) turn = turn ≡ GoesOn new answers (option_to_list motion)
After setup s answers (Traps trap) turn = turn ≡ Closes (closings.Trapped trap s.running.procedure s.running.pc)
After setup s [] (Asks low high) turn = turn ≡ Closes (closings.Waiting low high)
After setup s (answer ∷ answers) (Asks low high) turn =
    needs (Fits low high answer) (GoesOn s answers []) (λ (turn : Turn). (new : BenchState) × TakesAnswer setup s answer new × (turn ≡ GoesOn new answers [])) turn

-- what a run does in this mode
abbrev TurnIn : Mode → Setup → ℕ → BenchState → List ℤ → Turn → Type 0
TurnIn Running setup budget s answers turn = needs (s.steps ≢ budget) (Closes closings.Stopped) (λ (turn : Turn). (next : Next) × NextIs setup s next × After setup s answers next turn) turn
TurnIn Ended setup budget s answers turn = turn ≡ Closes closings.Apart
TurnIn (Trapped trap) setup budget s answers turn = ⊥

one_after : (setup : Setup) (s : BenchState) (answers : List ℤ) (next : Next) → IsOne (After setup s answers next)
one_after setup s answers (Goes new motion) = one_given _
one_after setup s answers (Traps trap) = one_given _
one_after setup s [] (Asks low high) = one_given _
one_after setup s (answer ∷ answers) (Asks low high) = one_needed _ _ _ λ turn other p q.
    p.2 ∙ ap (λ (new : BenchState). GoesOn new answers []) (one_way_on setup s answer p.0 q.0 p.1 q.1) ∙ sym q.2

one_turn : (mode : Mode) (setup : Setup) (budget : ℕ) (s : BenchState) (answers : List ℤ) → IsOne (TurnIn mode setup budget s answers)
one_turn Running setup budget s answers = one_needed _ _ _ λ turn other p q.
    one_after setup s answers p.0 turn other p.2 (subst (λ (next : Next). After setup s answers next other) (one_next setup s q.0 p.0 q.1 p.1) q.2)
one_turn Ended setup budget s answers = one_given _
one_turn (Trapped trap) setup budget s answers = λ turn other p q. absurd p

-- a run that does this first has this result
abbrev Follows : Setup → ℕ → BenchState → Turn → List Motion → ℕ → Closing → Type 0
Follows setup budget s (Closes given) motions steps closing = (motions ≡ []) × (steps ≡ s.steps) × (closing ≡ given)
Follows setup budget s (GoesOn new left made) motions steps closing = (rest : List Motion) × (motions ≡ made ++ rest) × Run setup budget new left rest steps closing

-- what a run does first, and what follows
record Begins (setup : Setup) (budget : ℕ) (s : BenchState) (answers : List ℤ) (motions : List Motion) (steps : ℕ) (closing : Closing) : Type 0 where
  turn : Turn
  is : TurnIn s.mode setup budget s answers turn
  follows : Follows setup budget s turn motions steps closing

-- a state that is going does what stands next
going : (setup : Setup) (budget : ℕ) (s : BenchState) (answers : List ℤ) (next : Next) (turn : Turn) → IsGoing budget s → NextIs setup s next → After setup s answers next turn → TurnIn s.mode setup budget s answers turn
going setup budget s answers next turn g is after = subst (λ (mode : Mode). TurnIn mode setup budget s answers turn) (sym g.running) (inr (g.within, (next, is, after)))

begins : (setup : Setup) (budget : ℕ) (s : BenchState) (answers : List ℤ) (motions : List Motion) (steps : ℕ) (closing : Closing) → Run setup budget s answers motions steps closing → Begins setup budget s answers motions steps closing
begins setup budget s answers _ _ _ (ends _ _ ended) =
    record { turn = Closes closings.Apart; is = subst (λ (mode : Mode). TurnIn mode setup budget s answers (Closes closings.Apart)) (sym ended) refl; follows = (refl, refl, refl) }
begins setup budget s answers _ _ _ (stops _ _ running used) =
    record { turn = Closes closings.Stopped; is = subst (λ (mode : Mode). TurnIn mode setup budget s answers (Closes closings.Stopped)) (sym running) (inl (λ within. within used, refl)); follows = (refl, refl, refl) }
begins setup budget s answers _ _ _ (traps _ _ trap g is) = record { turn = _; is = going setup budget s answers (Traps trap) _ g is refl; follows = (refl, refl, refl) }
begins setup budget s _ _ _ _ (waits _ low high g is) = record { turn = _; is = going setup budget s [] (Asks low high) _ g is refl; follows = (refl, refl, refl) }
begins setup budget s _ motions steps closing (passes _ low high answer answers _ _ _ g is unfit rest) =
    record { turn = GoesOn s answers []; is = going setup budget s (answer ∷ answers) (Asks low high) _ g is (inl (unfit, refl)); follows = (motions, refl, rest) }
begins setup budget s _ motions steps closing (takes _ new answer answers _ _ _ g taken rest) =
    let asked = asks_where_taken setup s new answer taken in
    record { turn = GoesOn new answers []; is = going setup budget s (answer ∷ answers) (Asks asked.0 asked.1) _ g asked.2 (inr (asked.3, (new, taken, refl))); follows = (motions, refl, rest) }
begins setup budget s answers _ steps closing (goes _ new motion _ motions _ _ g is rest) =
    record { turn = GoesOn new answers (option_to_list motion); is = going setup budget s answers (Goes new motion) _ g is refl; follows = (motions, refl, rest) }

-- a run from there does this first
does_first : {setup : Setup} {budget : ℕ} {s : BenchState} {answers : List ℤ} {others : List Motion} {count : ℕ} {other : Closing}
    → (turn : Turn) → TurnIn s.mode setup budget s answers turn → Run setup budget s answers others count other → Follows setup budget s turn others count other
does_first {setup} {budget} {s} {answers} {others} {count} {other} turn is run =
    let also = begins setup budget s answers others count other run in
    subst (λ (turn : Turn). Follows setup budget s turn others count other) (one_turn s.mode setup budget s answers also.turn turn also.is is) also.follows

-- another run from there does the same first
same_first : {setup : Setup} {budget : ℕ} {s : BenchState} {answers : List ℤ} {motions others : List Motion} {steps count : ℕ} {closing other : Closing}
    → (first : Run setup budget s answers motions steps closing) → Run setup budget s answers others count other → Follows setup budget s (begins setup budget s answers motions steps closing first).turn others count other
same_first {setup} {budget} {s} {answers} {motions} {others} {steps} {count} {closing} {other} first run =
    let known = begins setup budget s answers motions steps closing first in
    does_first known.turn known.is run

-- two results are the same
abbrev Same : List Motion → List Motion → ℕ → ℕ → Closing → Closing → Type 0
Same motions others steps count closing other = (motions ≡ others) × (steps ≡ count) × (closing ≡ other)

-- the result where a run closes
closed : (setup : Setup) (budget : ℕ) (s : BenchState) (others : List Motion) (count : ℕ) (closing other : Closing) → Follows setup budget s (Closes closing) others count other → Same [] others s.steps count closing other
closed setup budget s others count closing other f = (sym f.0, sym f.1, sym f.2)

-- where it goes on, its motions come first
led : (made motions rest others : List Motion) (steps count : ℕ) (closing other : Closing) → others ≡ made ++ rest → Same motions rest steps count closing other → Same (made ++ motions) others steps count closing other
led made motions rest others steps count closing other e same = (ap (λ (ms : List Motion). made ++ ms) same.0 ∙ sym e, same.1, same.2)

pub one_result : OneResult
unfolding begins
one_result setup budget s answers _ others _ count _ other (ends _ _ ended) run = closed setup budget s others count closings.Apart other (same_first (ends s answers ended) run)
one_result setup budget s answers _ others _ count _ other (stops _ _ running used) run = closed setup budget s others count closings.Stopped other (same_first (stops s answers running used) run)
one_result setup budget s answers _ others _ count _ other (traps _ _ trap g is) run =
    closed setup budget s others count (closings.Trapped trap s.running.procedure s.running.pc) other (same_first (traps s answers trap g is) run)
one_result setup budget s _ _ others _ count _ other (waits _ low high g is) run = closed setup budget s others count (closings.Waiting low high) other (same_first (waits s low high g is) run)
one_result setup budget s _ motions others steps count closing other (passes _ low high answer answers _ _ _ g is unfit left) run =
    let f = same_first (passes s low high answer answers motions steps closing g is unfit left) run in
    led [] motions f.0 others steps count closing other f.1 (one_result setup budget s answers motions f.0 steps count closing other left f.2)
one_result setup budget s _ motions others steps count closing other (takes _ new answer answers _ _ _ g taken left) run =
    let f = same_first (takes s new answer answers motions steps closing g taken left) run in
    led [] motions f.0 others steps count closing other f.1 (one_result setup budget new answers motions f.0 steps count closing other left f.2)
one_result setup budget s answers _ others steps count closing other (goes _ new motion _ motions _ _ g is left) run =
    let f = same_first (goes s new motion answers motions steps closing g is left) run in
    led (option_to_list motion) motions f.0 others steps count closing other f.1 (one_result setup budget new answers motions f.0 steps count closing other left f.2)

-- With more answers

-- where both go on at the same state, after the same motions
gone_on : (made motions rest all : List Motion) → all ≡ made ++ rest → (later : List Motion) × (rest ≡ motions ++ later)
    → (later : List Motion) × (all ≡ (made ++ motions) ++ later)
gone_on made motions rest all e so =
    (so.0, e ∙ ap (λ (ms : List Motion). made ++ ms) so.1 ∙ sym (append_assoc made motions so.0))

pub more_answers_go_on : MoreAnswersGoOn
more_answers_go_on setup budget s answers more _ all _ count _ other (ends _ _ ended) run = (all, refl)
more_answers_go_on setup budget s answers more _ all _ count _ other (stops _ _ running used) run = (all, refl)
more_answers_go_on setup budget s answers more _ all _ count _ other (traps _ _ trap g is) run = (all, refl)
more_answers_go_on setup budget s _ more _ all _ count _ other (waits _ low high g is) run = (all, refl)
more_answers_go_on setup budget s _ more motions all steps count closing other (passes _ low high answer answers _ _ _ g is unfit left) run =
    let f = does_first (GoesOn s (answers ++ more) []) (going setup budget s (answer ∷ (answers ++ more)) (Asks low high) _ g is (inl (unfit, refl))) run in
    gone_on [] motions f.0 all f.1 (more_answers_go_on setup budget s answers more motions f.0 steps count closing other left f.2)
more_answers_go_on setup budget s _ more motions all steps count closing other (takes _ new answer answers _ _ _ g taken left) run =
    let asked = asks_where_taken setup s new answer taken in
    let f = does_first (GoesOn new (answers ++ more) []) (going setup budget s (answer ∷ (answers ++ more)) (Asks asked.0 asked.1) _ g asked.2 (inr (asked.3, (new, taken, refl)))) run in
    gone_on [] motions f.0 all f.1 (more_answers_go_on setup budget new answers more motions f.0 steps count closing other left f.2)
more_answers_go_on setup budget s answers more _ all steps count closing other (goes _ new motion _ motions _ _ g is left) run =
    let f = does_first (GoesOn new (answers ++ more) (option_to_list motion)) (going setup budget s (answers ++ more) (Goes new motion) _ g is refl) run in
    gone_on (option_to_list motion) motions f.0 all f.1 (more_answers_go_on setup budget new answers more motions f.0 steps count closing other left f.2)
