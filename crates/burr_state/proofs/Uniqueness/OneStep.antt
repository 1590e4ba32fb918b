-- One thing stands next at a state, and a call of the bench has one result.
use Rattle.std.proofs.Common.{Result, ◌≡◌, ℕ, Option, Some, None, sym, ap, subst, ◌∙◌, inl, inr}
use Rattle.std.specs.Prelude.{ℤ, pos, slice_get}
use Rattle.std.proofs.lemmas.Option.{same_Some}
use Rattle.burr_code.specs.Instruction.{Instruction, Ask, Pick, StandsAt}
use Rattle.burr_code.proofs.Common.OneAnswer.{IsOne, one_given}
use Rattle.burr_code.proofs.Common.Reading.{one_stands_at}
use Rattle.burr_state.specs.declared.effect.Mode.{Mode}
use Rattle.burr_state.specs.declared.effect.Mode.TheVariants.{Running, Ended, Trapped}
use Rattle.burr_state.specs.Rules.Bench.{BenchState, Setup, BenchProcedure}
use Rattle.burr_state.specs.Rules.Step.{Executes, IsAt, AsksFor, TakesAnswer, IsUnfit, call_result, left_by, CallIn}
use Rattle.burr_state.specs.Rules.Questions.{Takes, Fits}
use Rattle.burr_state.specs.declared.effect.Progress.{Progress}
use Rattle.burr_state.specs.declared.effect.Trap.{Trap}
use Rattle.burr_state.specs.Rules.Next.{at_label}
use Rattle.burr_state.specs.Laws.StepLaws.{OneExecution}
use Rattle.burr_state.specs.Laws.RunLaws.{OneNext, OneCall}
use Rattle.burr_state.proofs.Common.Built.{executes_is_built}
use Rattle.burr_code.proofs.Common.Checked.{one_built}

-- one thing stands next where an instruction is carried out
pub one_execution : OneExecution
one_execution setup here s i = one_built (executes_is_built setup here s i)

-- what holds at a procedure and an instruction at which a state stands holds at any others at which it stands
at_others : (setup : Setup) (s : BenchState) (IsSo : BenchProcedure → Instruction → Type 0) (here there : BenchProcedure) (i j : Instruction) → IsAt setup s here i → IsAt setup s there j → IsSo there j → IsSo here i
at_others setup s IsSo here there i j at also_at holds =
    let runs : there ≡ here = same_Some there here (sym also_at.0 ∙ at.0) in
    let stands = subst (λ (p : BenchProcedure). StandsAt p.code s.running.pc j) runs also_at.1 in
    subst (λ (k : Instruction). IsSo here k) (one_stands_at here.code s.running.pc j i stands at.1) (subst (λ (p : BenchProcedure). IsSo p j) runs holds)

pub one_next : OneNext
one_next setup s next other (inl p) (inl q) = one_execution setup p.0 s p.1 next other p.3 (at_others setup s (λ here i. Executes setup here s i other) p.0 q.0 p.1 q.1 p.2 q.2 q.3)
one_next setup s next other (inl p) (inr q) = absurd (q.0 p.0 p.1 p.2)
one_next setup s next other (inr p) (inl q) = absurd (p.0 q.0 q.1 q.2)
one_next setup s next other (inr p) (inr q) = p.1 ∙ sym q.1

same_number : (m n : ℕ) → pos m ≡ pos n → m ≡ n
same_number m n e = cc

-- an answer leads to one state
one_taken : (here : BenchProcedure) (s : BenchState) (i : Instruction) (answer : ℤ) → IsOne (Takes here s i answer)
one_taken here s (Ask low high) answer = one_given _
one_taken here s (Pick labels) answer = λ new other p q.
    let n : q.0 ≡ p.0 = same_number q.0 p.0 (sym q.3 ∙ p.3) in
    let label : q.1 ≡ p.1 = same_Some q.1 p.1 (sym q.4 ∙ ap (slice_get labels) n ∙ p.4) in
    let to : q.2 ≡ p.2 = same_Some q.2 p.2 (sym q.5 ∙ ap (slice_get here.labels) label ∙ p.5) in
    p.6 ∙ ap (λ (pc : ℕ). at_label pc s.running s) (sym to) ∙ sym q.6
one_taken here s i answer = λ new other p q. absurd p

-- an answer is taken in one way
pub one_way_on : (setup : Setup) (s : BenchState) (answer : ℤ) → IsOne (TakesAnswer setup s answer)
one_way_on setup s answer new other p q =
    one_taken p.0 s p.1 answer new other p.7 (at_others setup s (λ here i. Takes here s i answer other) p.0 q.0 p.1 q.1 p.4 q.4 q.7)

-- an answer that is taken is one that the state asks for
pub asks_where_taken : (setup : Setup) (s new : BenchState) (answer : ℤ) → TakesAnswer setup s answer new → (low high : ℤ) × AsksFor setup s low high × Fits low high answer
asks_where_taken setup s new answer p = (p.2, p.3, inl (p.0, p.1, p.4, p.5), p.6)

-- a call tells one thing and leaves one state, by what the bench does
one_call_in : (setup : Setup) (s new other : BenchState) (answer : Option ℤ) (mode : Mode) (result more : Result Progress Trap)
    → CallIn mode setup s answer result new → CallIn mode setup s answer more other → (result ≡ more) × (new ≡ other)
one_call_in setup s new other None Running result more p q =
    let same : p.0 ≡ q.0 = one_next setup s p.0 q.0 p.1 q.1 in
    (p.2 ∙ ap call_result same ∙ sym q.2, p.3 ∙ ap (left_by s) same ∙ sym q.3)
one_call_in setup s new other (Some answer) Running result more p q = either p q
  where
    unfit : (taken : BenchState) → TakesAnswer setup s answer taken → ¬ IsUnfit setup s answer
    unfit taken takes none = let asked = asks_where_taken setup s taken answer takes in none asked.0 asked.1 asked.2 asked.3

    either : CallIn Running setup s (Some answer) result new → CallIn Running setup s (Some answer) more other → (result ≡ more) × (new ≡ other)
    either (inl p) (inl q) = (p.1 ∙ sym q.1, one_way_on setup s answer new other p.0 q.0)
    either (inl p) (inr q) = absurd (unfit new p.0 q.0)
    either (inr p) (inl q) = absurd (unfit other q.0 p.0)
    either (inr p) (inr q) = (p.1 ∙ sym q.1, p.2 ∙ sym q.2)
one_call_in setup s new other answer Ended result more p q = (p.0 ∙ sym q.0, p.1 ∙ sym q.1)
one_call_in setup s new other answer (Trapped trap) result more p q = (p.0 ∙ sym q.0, p.1 ∙ sym q.1)

pub one_call : OneCall
one_call setup s new other answer result more = one_call_in setup s new other answer s.mode result more
