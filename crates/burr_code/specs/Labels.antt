-- What labels and calls name, over any element: positions and values on the bench, frames and forms
-- in the verifier.
use Rattle.std.specs.Prelude.{ℕ, ◌-◌, List, [], ◌∷◌, ◌++◌, length, map, reverse, replicate, Option, Some, None, slice_get, if◌then◌else◌, nat_lt}
use Rattle.burr_code.specs.declared.limits.TheConstants.{SLOTS}

-- one more in front, if both are there
abbrev pub with_first : {A : Type 0} → Option A → Option (List A) → Option (List A)
with_first None more = None
with_first (Some x) None = None
with_first (Some x) (Some xs) = Some (x ∷ xs)

-- what stands at these labels, in their order, if all are there
abbrev pub labelled : {A : Type 0} → List A → List ℕ → Option (List A)
labelled all [] = Some []
labelled all (label ∷ labels) = with_first (slice_get all label) (labelled all labels)

-- the procedure of this number, where it is higher than that of the running one
abbrev pub callee_of : {A : Type 0} → List A → ℕ → ℕ → Option A
callee_of procedures running callee = if nat_lt running callee then slice_get procedures callee
    else None

-- the slots of a callee: its arguments, given with the last of them first, and then empty ones
abbrev pub argument_slots : {A : Type 0} → List A → List (Option A)
argument_slots arguments = map Some (reverse arguments) ++ replicate (SLOTS - length arguments) None
