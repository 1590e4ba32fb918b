-- A parameter, nothing known, and a form.
use Rattle.std.proofs.Common.{◌≡◌, Result, inl, sym, subst, arith}
use Rattle.std.specs.Prelude.{IfOk}
use Rattle.burr_forms.specs.Rules.Forms.{Form, IsSmallForm}
use Rattle.burr_frames.specs.declared.rule.Break.{Break}
use Rattle.burr_frames.specs.Views.Breaks.{FindsCounter}
use Rattle.burr_frames.proofs.Common.Heres.{parameters_read}
use Rattle.burr_frames.proofs.Counters.{known_or, small_or}
use Rattle.burr_frames.proofs.state.State.counter.Goals as goal

pub returns-then-slot-params-clause-counter : goal.returns-then-slot-params-clause-counter
returns-then-slot-params-clause-counter c = λ p here is e.
    let parameters : here.parameters ≡ c.params.result = parameters_read c.args.procedure c.params.result c.params.ensures.plan p here is e in
    inl (λ no_parameter. absurd (omega (arith, no_parameter, parameters, c.if-slot-params.true)), c.plain.ensures)

pub returns-clause-counter : goal.returns-clause-counter
returns-clause-counter c = λ p here is e.
    let parameters : here.parameters ≡ c.params.result = parameters_read c.args.procedure c.params.result c.params.ensures.plan p here is e in
    subst (FindsCounter here c.args.self.now c.args.slot) (sym c.ok_or.ensures.value)
    (known_or here c.args.self.now c.args.slot c.form_in.result c.plain-2.result (omega (arith, parameters, c.if-slot-params.false)) c.form_in.ensures.slot c.plain-2.ensures)

pub returns-clause-small : goal.returns-clause-small
returns-clause-small c =
    subst (λ (r : Result Form Break). IfOk r IsSmallForm) (sym c.ok_or.ensures.value) (small_or c.form_in.result c.plain-2.result c.form_in.ensures.small)
