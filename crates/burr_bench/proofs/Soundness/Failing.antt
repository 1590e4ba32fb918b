-- Checks of a bench whose conditions hold.
use Rattle.std.proofs.Common.{◌≡◌, ◌⊎◌, Option, Some, None, sym, subst, ◌∙◌, inl, inr}
use Rattle.std.proofs.lemmas.Option.{none-some, same_Some}

-- a check whose condition holds goes on
pub goes_past : {Answer C Q : Type 0} {failure answer : Answer} → C → ((¬ C) × (answer ≡ failure))
    ⊎ (C × Q) → Q
goes_past c (inl p) = absurd (p.0 c)
goes_past c (inr p) = p.1

pub goes_with : {Answer A : Type 0} {o : Option A} {x : A} {Q : A
    → Type 0} {failure answer : Answer} → o ≡ Some x → ((o ≡ None) × (answer ≡ failure))
    ⊎ ((y : A) × (o ≡ Some y) × Q y) → Q x
goes_with e (inl p) = absurd (none-some _ (sym p.0 ∙ e))
goes_with {Q = Q} e (inr p) = subst Q (same_Some _ _ (sym p.1 ∙ e)) p.2
