-- Forms that are small from the top are small from the bottom.
use Rattle.std.proofs.Common.{◌≡◌, ◌-◌, ℕ, List, length, get_or, sym, ap, subst, ◌∙◌, arith}
use Rattle.std.specs.Prelude.{reverse}
use Rattle.std.proofs.lemmas.List.{get_or-reverse, length-reverse}
use Rattle.burr_forms.specs.Rules.Forms.{Form, IsSmallForm, AllSmallForms}
use Rattle.burr_frames.proofs.state.State.operands.Goals as goal

small_reversed : (forms : List Form) → AllSmallForms (reverse forms) → AllSmallForms forms
small_reversed forms small k d within =
    let back : ℕ = length forms - 1 - k in
    let again : length forms - 1 - back ≡ k = omega (arith, within) in
    subst IsSmallForm (get_or-reverse forms back d (omega (arith, within)) ∙ ap (λ (n : ℕ). get_or forms n d) again)
    (small back d (omega (arith, within, length-reverse forms)))

pub returns-clause-small : goal.returns-clause-small
returns-clause-small c =
    small_reversed c.as_slice.result.now (subst (λ (forms : List Form). AllSmallForms (reverse forms)) (sym c.as_slice.ensures.value) c.self.invariant.operands)
