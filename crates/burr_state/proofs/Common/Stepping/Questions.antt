-- Which instructions ask, and which answers they take.
use Rattle.std.proofs.Common.{◌≡◌, ◌<◌, ◌⊎◌, ℕ, ℤ, pos, ◌-ℤ◌, List, length, inl, inr, refl, subst, arith, Bool, true, false, Some, None, Result, Ok, Err}
use Rattle.burr_text.proofs.Common.Decisions.{Decided, decide_below}
use Rattle.burr_code.specs.Instruction.{Ask, Pick}
use Rattle.burr_code.specs.Labels.{labelled}
use Rattle.burr_code.proofs.Common.Labels.{picked}
use Rattle.burr_state.specs.declared.effect.Effect.{Effect}
use Rattle.burr_state.specs.declared.effect.Effect.TheVariants as effects
use Rattle.burr_state.specs.declared.effect.Mode.TheVariants.{Running}
use Rattle.burr_state.specs.declared.effect.Trap.{Trap}
use Rattle.burr_state.specs.declared.effect.Trap.TheVariants as traps
use Rattle.burr_state.specs.Rules.Bench.{BenchProcedure, BenchState, Setup}
use Rattle.burr_state.specs.Rules.Next.{Next, Goes, Asks, Traps}
use Rattle.burr_state.specs.Rules.Numbers.{HasRoom}
use Rattle.burr_state.specs.Rules.Questions.{Fits}
use Rattle.burr_state.specs.Rules.Step.{IsAt, NextIs, IsUnfit, IsQuestionOf}
use Rattle.burr_state.specs.Views.Effects.{next_of, question_in, TakesNumber, TakesLabel, IsPicked}
use Rattle.burr_state.specs.Views.Benches.{Answered}
use Rattle.std.proofs.lemmas.Int.{ints}
use Rattle.std.proofs.lemmas.Option.{slice_get_within}
use Rattle.burr_state.proofs.Uniqueness.OneStep.{one_next}
use Rattle.burr_state.proofs.Common.Built.{answer_number}
use Rattle.burr_state.proofs.Offers.{labelled_all, all_labelled, none_or_some}
use Rattle.burr_state.proofs.Common.Existence.SomeCall.{IsQuestion, unfit_elsewhere, unfit_there}

-- where no question stands next, the run waits for none
waits_for_none : (setup : Setup) (s : BenchState) (next : Next) → NextIs setup s next → ¬ IsQuestion next → IsQuestionOf setup s None
waits_for_none setup s next is none low high asks = none (subst IsQuestion (one_next setup s (Asks low high) next asks.1 is) tt)

-- what the next instruction of a running bench comes to tells the question for which the run waits
pub waits_for : (setup : Setup) (s new : BenchState) (outcome : Result Effect Trap) → s.mode ≡ Running → NextIs setup s (next_of outcome new) → IsQuestionOf setup s (question_in outcome)
waits_for setup s new (Ok (effects.Goes motion)) runs is = waits_for_none setup s (Goes new motion) is (λ asks. asks)
waits_for setup s new (Ok (effects.Asks low high)) runs is = (runs, is)
waits_for setup s new (Err trap) runs is = waits_for_none setup s (Traps trap) is (λ asks. asks)

-- an answer to `ask`
pub number_answered : (setup : Setup) (here : BenchProcedure) (s new : BenchState) (low high answer : ℤ) (taken : Bool) → IsAt setup s here (Ask low high) → TakesNumber s low high answer taken new → Answered setup s answer taken new
number_answered setup here s new low high answer true at takes = (here, Ask low high, low, high, at, inr (takes.0, refl), takes.1, takes.2)
number_answered setup here s new low high answer false at takes = (by_room (decide_below (length s.running.operands) 8), takes.1)
  where
    by_room : Decided (HasRoom s.running) → IsUnfit setup s answer
    by_room (inl room) = unfit_there setup s low high answer (inl (here, Ask low high, at, inr (room, refl))) (λ fits. takes.0 (room, fits))
    by_room (inr full) = unfit_elsewhere setup s (Traps traps.StackFull) answer (inl (here, Ask low high, at, inl (full, refl))) (λ asks. asks)

-- a number of a list's elements is that of one
is_picked : (positions labels to : List ℕ) (answer : ℤ) → labelled positions labels ≡ Some to → Fits (pos 0) (pos (length to) -ℤ pos 1) answer → IsPicked positions labels answer
is_picked positions labels to answer all fits =
    let number = answer_number (length to) answer fits in
    let at = picked positions labels to number.0 all number.2 in
    (at.1, (number.0, at.0, number.1, at.2, at.3))

-- the number of an element lies between those of the first and the last
number_fits : (n count : ℕ) (answer : ℤ) → answer ≡ pos n → n < count → Fits (pos 0) (pos count -ℤ pos 1) answer
number_fits n count answer is less = rw is (omega (arith, ints), omega (arith, ints, less))

-- an answer to `pick`
pub label_answered : (setup : Setup) (here : BenchProcedure) (s new : BenchState) (labels : List ℕ) (answer : ℤ) (taken : Bool) → IsAt setup s here (Pick labels) → TakesLabel here s labels answer taken new → Answered setup s answer taken new
label_answered setup here s new labels answer true at takes =
    let all = labelled_all here.labels labels takes.0 in
    let n = takes.1.1.0 in
    (here, Pick labels, pos 0, pos (length all.0) -ℤ pos 1, at, inr (all.0, all.1, refl), number_fits n (length all.0) answer takes.1.1.2 (rw all.2 (slice_get_within labels n takes.1.1.1 takes.1.1.3)), (n, takes.1.1.1, takes.1.0, takes.1.1.2, takes.1.1.3, takes.1.1.4, takes.1.2))
label_answered setup here s new labels answer false at takes = (by_labels (none_or_some (labelled here.labels labels)), takes.1)
  where
    by_labels : (labelled here.labels labels ≡ None) ⊎ ((to : List ℕ) × (labelled here.labels labels ≡ Some to)) → IsUnfit setup s answer
    by_labels (inl none) = unfit_elsewhere setup s (Traps traps.BadJump) answer (inl (here, Pick labels, at, inl (none, refl))) (λ asks. asks)
    by_labels (inr all) =
        unfit_there setup s (pos 0) (pos (length all.0) -ℤ pos 1) answer (inl (here, Pick labels, at, inr (all.0, all.1, refl)))
        (λ fits. takes.0 (all_labelled here.labels labels all.0 all.1, is_picked here.labels labels all.0 answer all.1 fits))
