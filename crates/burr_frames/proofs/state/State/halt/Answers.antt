-- In main, all pieces apart, and the step is paid for.
use Rattle.std.proofs.Common.{◌≡◌, ◌∙◌, refl, sym, ap, inl, inr}
use Rattle.std.proofs.lemmas.Result.{err_from_is_err_and}
use Rattle.burr_text.proofs.Common.Tests.{yes_of, no_of}
use Rattle.burr_frames.specs.Rules.Verdicts.{Breaks, NoSuccessor, no_successor}
use Rattle.burr_frames.proofs.Paying.{paying_on, paying_breaks}
use Rattle.burr_frames.proofs.state.State.halt.Goals as goal

pub returns-then-number-ne0 : goal.returns-then-number-ne0
returns-then-number-ne0 c = inl (λ main. c.if-number-ne0.true (c.number.ensures.number ∙ main), ap Breaks c.plain.ensures)

pub returns-then-not-are_all_apart : goal.returns-then-not-are_all_apart
returns-then-not-are_all_apart c =
    let main : c.args.procedure.number ≡ 0 = sym c.number.ensures.number ∙ c.if-number-ne0.false in
    inr (main, inl ((rw c.places.ensures.places at (no_of c.if-not-are_all_apart.ensures)), ap Breaks c.plain-then-not-are_all_apart.ensures))

pub returns-in_err-paid : goal.returns-in_err-paid
returns-in_err-paid c =
    let main : c.args.procedure.number ≡ 0 = sym c.number.ensures.number ∙ c.if-number-ne0.false in
    let r = err_from_is_err_and c.from_residual.result c.from_residual.ensures.1 in
    rw (r.1, r.2)
    (inr (main, inr (rw c.places.ensures.places at (yes_of c.if-not-are_all_apart.ensures), paying_breaks c.args.self.now c.in_err-paid.field-0.0 (λ paid. no_successor) c.in_err-paid.ensures)))

pub returns : goal.returns
returns c =
    let main : c.args.procedure.number ≡ 0 = sym c.number.ensures.number ∙ c.if-number-ne0.false in
    inr (main, inr (rw c.places.ensures.places at (yes_of c.if-not-are_all_apart.ensures), paying_on c.args.self.now c.in_ok-paid.field-0 (λ paid. no_successor) NoSuccessor c.in_ok-paid.ensures refl))
