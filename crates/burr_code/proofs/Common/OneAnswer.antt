-- For crates above: how many answers checks have, one by one.
use Rattle.std.proofs.Common.{◌≡◌, Option, sym, subst, ◌∙◌, inl, inr}
use Rattle.std.proofs.lemmas.Option.{none-some, same_Some}
use Rattle.burr_text.specs.Checks.{needs, finds}

-- one value at most is so
abbrev pub IsOne : {A : Type 0} → (A → Type 0) → Type 0
IsOne {A} IsSo = (x y : A) → IsSo x → IsSo y → x ≡ y

-- a value that is given is one
pub one_given : {A : Type 0} (v : A) → IsOne (λ x. x ≡ v)
one_given v x y p q = p ∙ sym q

-- a check gives one answer where what follows does
pub one_needed : {A : Type 0} (C : Type 0) (v : A) (rest : A → Type 0) → IsOne rest → IsOne (needs C v rest)
one_needed C v rest one x y (inl p) (inl q) = p.1 ∙ sym q.1
one_needed C v rest one x y (inl p) (inr q) = absurd (p.0 q.0)
one_needed C v rest one x y (inr p) (inl q) = absurd (q.0 p.0)
one_needed C v rest one x y (inr p) (inr q) = one x y p.1 q.1

-- a look for a value gives one answer where what follows from it does
pub one_found : {A B : Type 0} (found : Option B) (v : A) (rest : B → A → Type 0) → ((b : B) → IsOne (rest b))
    → IsOne (finds found v rest)
one_found found v rest one x y (inl p) (inl q) = p.1 ∙ sym q.1
one_found found v rest one x y (inl p) (inr q) = absurd (none-some q.0 (sym p.0 ∙ q.1))
one_found found v rest one x y (inr p) (inl q) = absurd (none-some p.0 (sym q.0 ∙ p.1))
one_found found v rest one x y (inr p) (inr q) = one p.0 x y p.2 (subst (λ b. rest b y) (same_Some q.0 p.0 (sym q.1 ∙ p.1)) q.2)
