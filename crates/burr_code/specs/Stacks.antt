-- Stacks over any element, the top first: operands on the bench, forms in the verifier.
use Rattle.std.specs.Prelude.{ℕ, List, [], ◌∷◌, length, take, drop, Option, Some, None, if◌then◌else◌, nat_le}

-- the top of a stack, and what is below
abbrev pub top : {A : Type 0} → List A → Option (A × List A)
top [] = None
top (x ∷ below) = Some (x, below)

-- the top of a stack, the next, and what is below
abbrev pub top_two : {A : Type 0} → List A → Option (A × A × List A)
top_two [] = None
top_two (b ∷ []) = None
top_two (b ∷ a ∷ below) = Some (b, a, below)

-- the first n elements, and the others
abbrev pub split_at : {A : Type 0} → ℕ → List A → List A × List A
split_at n xs = (take n xs, drop n xs)

-- the n topmost elements of a stack, and what is below, if it has at least n
abbrev pub top_many : {A : Type 0} → ℕ → List A → Option (List A × List A)
top_many n stack = if nat_le n (length stack) then Some (split_at n stack) else None
