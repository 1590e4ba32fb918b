-- For crates above: checks in their order, each of them decided, and what holds at their ends.
use Rattle.std.proofs.Common.{◌≡◌, ◌⊎◌, Option, Some, None, refl, sym, subst, ◌∙◌, inl, inr}
use Rattle.std.proofs.lemmas.Option.{none-some, same_Some}
use Rattle.burr_text.specs.Checks.{needs, finds}
use Rattle.burr_text.proofs.Common.Decisions.{Decided}
use Rattle.burr_code.proofs.Common.OneAnswer.{IsOne}

-- there is something that is so
abbrev pub HasOne : {A : Type 0} → (A → Type 0) → Type 0
HasOne {A} IsSo = (x : A) × IsSo x

-- A check holds, or fails in one way, for a cause.
pub record IsCheck {Answer Cause : Type 0} (Fails : Cause → Answer) (Holds : Type 0) (IsFailed : Answer → Type 0) : Type 0 where
  pub either : HasOne IsFailed ⊎ Holds
  pub one : IsOne IsFailed
  pub apart : (v : Answer) → IsFailed v → ¬ Holds
  pub cause : (v : Answer) → IsFailed v → (cause : Cause) × (v ≡ Fails cause)

-- Checks in their order, and at the end an answer for which `Ends` holds.
pub data IsBuilt {Answer Cause : Type 0} (Fails : Cause → Answer) (Ends : Answer → Type 0) : (Answer → Type 0) → Type 1 where
  checked : {Holds : Type 0} {IsFailed rest : Answer → Type 0} → IsCheck Fails Holds IsFailed
      → (Holds → IsBuilt Fails Ends rest) → IsBuilt Fails Ends (λ v. IsFailed v ⊎ (Holds × rest v))
  looked_up : {A : Type 0} {found : Option A} {cause : Cause} {rest : A → Answer → Type 0}
      → ((x : A) → found ≡ Some x → IsBuilt Fails Ends (rest x)) → IsBuilt Fails Ends (finds found (Fails cause) rest)
  ends : {v : Answer} → Ends v → IsBuilt Fails Ends (λ answer. answer ≡ v)

pub needed : {Answer Cause : Type 0} {Fails : Cause → Answer} {Ends rest : Answer → Type 0} {C : Type 0} {cause : Cause}
    → Decided C → (C → IsBuilt Fails Ends rest) → IsBuilt Fails Ends (needs C (Fails cause) rest)
needed {Fails} {C} {cause} decided f =
    checked {IsFailed = λ v. (¬ C) × (v ≡ Fails cause)} (record {
      either = elim decided [ inl c ↦ inr c | inr h ↦ inl (Fails cause, (h, refl)) ];
      one = λ x y p q. p.1 ∙ sym q.1;
      apart = λ v failed. failed.0;
      cause = λ v failed. (cause, failed.1);
    }) f

-- What is built has one answer at most,
pub one_built : {Answer Cause : Type 0} {Fails : Cause → Answer} {Ends rest : Answer → Type 0} → IsBuilt Fails Ends rest
    → IsOne rest
one_built (checked is f) x y (inl p) (inl q) = is.one x y p q
one_built (checked is f) x y (inl p) (inr q) = absurd (is.apart x p q.0)
one_built (checked is f) x y (inr p) (inl q) = absurd (is.apart y q p.0)
one_built (checked is f) x y (inr p) (inr q) = one_built (f p.0) x y p.1 q.1
one_built (looked_up f) x y (inl p) (inl q) = p.1 ∙ sym q.1
one_built (looked_up f) x y (inl p) (inr q) = absurd (none-some q.0 (sym p.0 ∙ q.1))
one_built (looked_up f) x y (inr p) (inl q) = absurd (none-some p.0 (sym q.0 ∙ p.1))
one_built (looked_up {rest} f) x y (inr p) (inr q) =
    one_built (f p.0 p.1) x y p.2 (subst (λ b. rest b y) (same_Some q.0 p.0 (sym q.1 ∙ p.1)) q.2)
one_built (ends so) x y p q = p ∙ sym q

-- a value that is given
pub some_given : {A : Type 0} (v : A) → HasOne (λ x. x ≡ v)
some_given v = (v, refl)

pub some_needed : {A : Type 0} (C : Type 0) (v : A) (rest : A → Type 0) → Decided C → HasOne rest → HasOne (needs C v rest)
some_needed C v rest (inr h) one = (v, inl (h, refl))
some_needed C v rest (inl c) one = (one.0, inr (c, one.1))

pub some_found : {A B : Type 0} (found : Option B) (v : A) (rest : B → A → Type 0) → ((b : B) → found ≡ Some b → HasOne (rest b))
    → HasOne (finds found v rest)
some_found None v rest one = (v, inl (refl, refl))
some_found (Some b) v rest one = let next = one b refl in (next.0, inr (b, refl, next.1))

some_checked : {A Holds : Type 0} {IsFailed rest : A → Type 0} → HasOne IsFailed ⊎ Holds → (Holds → HasOne rest)
    → HasOne (λ v. IsFailed v ⊎ (Holds × rest v))
some_checked (inl failed) one = (failed.0, inl failed.1)
some_checked (inr holds) one = let next = one holds in (next.0, inr (holds, next.1))

-- and one at least,
pub some_built : {Answer Cause : Type 0} {Fails : Cause → Answer} {Ends rest : Answer → Type 0} → IsBuilt Fails Ends rest
    → HasOne rest
some_built (checked is f) = some_checked is.either λ holds. some_built (f holds)
some_built (looked_up f) = some_found _ _ _ λ x is. some_built (f x is)
some_built (ends {v} so) = (v, refl)

-- an answer that fails, or is so
pub record FailsOr {Answer Cause : Type 0} (Fails : Cause → Answer) (IsSo : Answer → Type 0) (v : Answer) : Type 0 where
  pub cases : ((cause : Cause) × (v ≡ Fails cause)) ⊎ IsSo v

-- which fails, or is so.
pub fails_or_ends : {Answer Cause : Type 0} {Fails : Cause → Answer} {Ends rest : Answer → Type 0} → IsBuilt Fails Ends rest
    → (v : Answer) → rest v → FailsOr Fails Ends v
fails_or_ends (checked is f) v (inl h) = record { cases = inl (is.cause v h) }
fails_or_ends (checked is f) v (inr h) = fails_or_ends (f h.0) v h.1
fails_or_ends (looked_up {cause} f) v (inl h) = record { cases = inl (cause, h.1) }
fails_or_ends (looked_up f) v (inr h) = fails_or_ends (f h.0 h.1) v h.2
fails_or_ends {Ends} (ends so) v e = record { cases = inr (subst Ends (sym e) so) }
