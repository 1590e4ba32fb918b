-- Checks in an order, each with what is answered where it fails.
use Rattle.std.specs.Prelude.{◌≡◌, ◌⊎◌, Option, Some, None}

-- Where the condition does not hold, this failure; where it holds, what follows.
abbrev pub needs : {Answer : Type 0} → Type 0 → Answer → (Answer → Type 0) → Answer → Type 0
needs condition failure rest answer =
    ((¬ condition) × (answer ≡ failure)) ⊎ (condition × rest answer)

-- Where there is no such value, this failure; where there is one, what follows from it.
abbrev pub finds : {Answer A : Type 0} → Option A → Answer → (A → Answer → Type 0) → Answer → Type 0
finds {A = A} found failure rest answer =
    ((found ≡ None) × (answer ≡ failure)) ⊎ ((x : A) × (found ≡ Some x) × rest x answer)

-- Where no value is so, this failure; where one is, what follows from it.
abbrev pub looks_for : {Answer A : Type 0} → (A → Type 0) → Answer → (A → Answer → Type 0) → Answer
    → Type 0
looks_for {A = A} IsSo failure rest answer =
    (((x : A) → ¬ IsSo x) × (answer ≡ failure)) ⊎ ((x : A) × IsSo x × rest x answer)
