-- An answer that is no fault has passed its checks.
use Rattle.std.proofs.Common.{◌≡◌, ◌⊎◌, inl, inr}
use Rattle.std.specs.Prelude.{Result, Ok, Err}

-- no answer is both a value and a fault
pub no_fault : {A V F : Type 0} {v : V} {b : F} → Ok v ≡ Err b → A
no_fault h = cc

-- an answer gives one value
pub same_ok : {V F : Type 0} {v u : V} (given : Result V F) → given ≡ Ok v → given ≡ Ok u → v ≡ u
same_ok given h k = cc

-- where what follows a check is taken, the condition holds
pub needs_ok : {V F C Q : Type 0} {v : V} {b : F} → ((¬ C) × (Ok v ≡ Err b)) ⊎ (C × Q) → C × Q
needs_ok (inl h) = no_fault h.1
needs_ok (inr h) = h

-- where what follows a search is taken, there is such a value
pub looks_ok : {V F A : Type 0} {C Q : A → Type 0} {v : V} {b : F} → (((x : A) → ¬ C x) × (Ok v ≡ Err b)) ⊎ ((x : A) × C x × Q x) → (x : A) × C x × Q x
looks_ok (inl h) = no_fault h.1
looks_ok (inr h) = h
