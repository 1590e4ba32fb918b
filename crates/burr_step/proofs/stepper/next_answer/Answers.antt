use Rattle.std.proofs.Common.{◌≡◌, ◌<◌, ◌∙◌, ℕ, ℤ, List, Some, length, get_or, slice_get, inl, inr, refl, sym, ap, rules, FitsSigned, to_z, of_z, w32}
use Rattle.std.proofs.lemmas.Int.{to_z-of_z}
use Rattle.std.proofs.lemmas.Option.{slice_get_read, slice_get_past}
use Rattle.burr_state.specs.Views.Benches.{setup_of}
use Rattle.burr_step.proofs.Returning.{asking, not_asking}
use Rattle.burr_step.proofs.stepper.next_answer.Goals as goal

read : (answers : List ℤ) (taken : ℕ) (answer : ℤ) → FitsSigned w32 answer → taken < length answers → answer ≡ get_or answers taken answer
    → Some (to_z w32 (of_z w32 answer)) ≡ slice_get answers taken
read answers taken answer fits within is =
    ap (λ (n : ℤ). Some n) (to_z-of_z w32 answer fits) ∙ sym (slice_get_read answers (length answers) taken answer refl within is)

pub returns-in-Some-get-clause-answer : goal.returns-in-Some-get-clause-answer
returns-in-Some-get-clause-answer c =
    let found = c.in-Some-get.ensures.lookup in
    inl (
      asking (setup_of c.args.machine.now) c.args.machine.now.state c.in-Some._question c.in-Some.ensures,
      read c.args.answers.now c.args.taken c.in-Some-get.answer.now (search rules) found.3.0 found.1,
    )

pub returns-in-Some-get-clause-taken : goal.returns-in-Some-get-clause-taken
returns-in-Some-get-clause-taken c = refl

pub returns-in-None-get-clause-answer : goal.returns-in-None-get-clause-answer
returns-in-None-get-clause-answer c =
    inl (
      asking (setup_of c.args.machine.now) c.args.machine.now.state c.in-Some._question c.in-Some.ensures,
      sym (slice_get_past c.args.answers.now c.args.taken c.in-None-get.ensures.lookup.3),
    )

pub returns-in-None-get-clause-taken : goal.returns-in-None-get-clause-taken
returns-in-None-get-clause-taken c = refl

pub returns-in-None-clause-answer : goal.returns-in-None-clause-answer
returns-in-None-clause-answer c = inr (not_asking (setup_of c.args.machine.now) c.args.machine.now.state c.in-None.ensures, refl)

pub returns-in-None-clause-taken : goal.returns-in-None-clause-taken
returns-in-None-clause-taken c = refl
