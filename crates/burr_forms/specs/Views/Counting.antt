-- Searches that count how often they look.
use Rattle.std.specs.Prelude.{◌≡◌, ◌⊎◌, ◌+◌, ◌*◌, ◌≤◌, ◌^◌, ℕ, suc, ℤ, List, [], ◌∷◌, false}
use Rattle.burr_forms.specs.Rules.Conditions.{Region, NoneNegative}
use Rattle.burr_forms.specs.Rules.Forms.{Form, Point, values}
use Rattle.burr_forms.specs.Rules.Points.{points_of}
use Rattle.burr_forms.specs.Views.Rising.{left, count_after}

-- How many looks there are in all at these elements, in order; the first at which the condition
-- fails is the last that is looked at.
abbrev pub searched : {A : Type 0} → (A → Type 0) → (A → ℕ → Type 0) → List A → ℕ → Type 0
searched Holds Looks [] looks = looks ≡ 0
searched Holds Looks (x ∷ xs) looks =
    (own after : ℕ) × Looks x own
    × (((¬ Holds x) × (after ≡ 0)) ⊎ (Holds x × searched Holds Looks xs after))
    × (looks ≡ own + after)

-- looks of the values of forms at a point
abbrev pub looks_at_values : (List ℤ → ℕ → Type 0) → List Form → Point → ℕ → Type 0
looks_at_values Looks forms point looks = Looks (values point forms) looks

-- the looks at a point whose guards have these signs: none where one is negative
abbrev pub LooksUnder : List ℤ → (ℕ → Type 0) → ℕ → Type 0
LooksUnder signs Looks looks =
    (NoneNegative signs × Looks looks) ⊎ ((¬ NoneNegative signs) × (looks ≡ 0))

-- A search that began with the count `start` and stands at a point with the count `now`. The looks
-- so far and the looks from there on are together the looks of the whole search; and there is room
-- to count at most `most` looks at each point that is left.
pub record CountsOn (s : Region) (Holds : Point → Type 0) (Looks : Point → ℕ → Type 0) (most : ℕ)
    (point : Point) (start now : ℕ) : Type 0 where
  pub so_far : ℕ
  pub is : now ≡ start + so_far
  pub on : (looks : ℕ) → searched Holds Looks (left s.ranges s.guards point false) looks
      → searched Holds Looks (points_of s.ranges s.guards) (so_far + looks)
  pub room : now + most * suc (count_after s.ranges point) ≤ 2 ^ 61

-- the looks of a whole search, by the counts before and after it
abbrev pub Counted : Region → (Point → Type 0) → (Point → ℕ → Type 0) → ℕ → ℕ → Type 0
Counted s Holds Looks start now =
    (looks : ℕ) × searched Holds Looks (points_of s.ranges s.guards) looks
    × (now ≡ start + looks)
