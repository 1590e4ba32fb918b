-- For crates above: what a test of a fact answers.
use Rattle.std.proofs.Common.{◌↔◌, ◌<◌, ◌+◌, ℕ, List, length, get_or, true, false, IsTrue, refl, subst, arith}
use Rattle.std.proofs.lemmas.List.{get_or_default}
use Rattle.std.specs.Prelude.{Result, Ok, Err, OnErr}
use native.Mathlib.Decide.{ℕ_discrete}

-- it holds
pub yes_iff : {X : Type 0} → X → IsTrue true ↔ X
yes_iff x = (λ _. x, λ _. refl)

-- it does not hold
pub no_iff : {X : Type 0} → ¬ X → IsTrue false ↔ X
no_iff none = ((λ e. grind arith), (λ x. absurd (none x)))

-- the test failed
pub no_of : {X : Type 0} → IsTrue false ↔ X → ¬ X
no_of iff x = let e = iff.1 x in grind arith

-- the test passed
pub yes_of : {X : Type 0} → IsTrue true ↔ X → X
yes_of iff = iff.0 refl

-- what holds of the numbers below n and of n holds of one more
pub one_more_number : (P : ℕ → Type 0) (n : ℕ) → ((k : ℕ) → k < n → P k) → P n → (k : ℕ) → k < n + 1 → P k
one_more_number P n so_far next k below = elim (ℕ_discrete k n) [
  | yes same ↦ rw same next
  | no other ↦ so_far k (omega arith)
]

-- the same of the first n of a list
pub one_more : {A : Type 0} (P : A → Type 0) (xs : List A) (n : ℕ) (e : A)
    → n < length xs → ((k : ℕ) (d : A) → k < n → P (get_or xs k d)) → P (get_or xs n e) → (k : ℕ) (d : A) → k < n + 1 → P (get_or xs k d)
one_more P xs n e inside so_far next k d below = one_more_number (λ j. P (get_or xs j d)) n (λ j. so_far j d) (subst P (get_or_default xs n e d inside) next) k below

-- what holds anyway holds of a failure
pub on_err : {A E : Type 0} {X : Type 0} (r : Result A E) → X → OnErr r X
on_err (Ok a) x = tt
on_err (Err e) x = x
