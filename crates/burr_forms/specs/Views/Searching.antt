-- A search over the points of a region, which carries values along the last symbol.
use Rattle.std.specs.Prelude.{◌≡◌, ◌⊎◌, ◌↔◌, ◌^◌, ◌≤◌, ◌-◌, ℕ, suc, ℤ, pos, ◌+ℤ◌, ◌<ℤ◌, List, [], ◌∷◌, map, All, length, Some, slice_index_or}
use Rattle.std.specs.Int.RustNames.{unsigned_abs}
use Rattle.burr_forms.specs.Rules.Forms.{Form, Point, value, values}
use Rattle.burr_forms.specs.Rules.Points.{InBox, GuardsHold, IsPointOf, Precedes}
use Rattle.burr_forms.specs.Views.Rising.{following}
use Rattle.burr_forms.specs.Rules.Conditions.{Region}

-- no value of a small form at a near point is greater, either way
abbrev pub IsBounded : ℤ → Type 0
IsBounded v = unsigned_abs v ≤ 2 ^ 59

abbrev pub AllBounded : List ℤ → Type 0
AllBounded numbers = All IsBounded numbers

-- how far the value of a form goes as this symbol goes one up
abbrev pub step_of : ℕ → Form → ℤ
step_of k f = slice_index_or f.coefs k (pos 0)

abbrev pub steps_of : ℕ → List Form → List ℤ
steps_of k forms = map (step_of k) forms

-- two lists of as many numbers, added place by place
abbrev pub sums : List ℤ → List ℤ → List ℤ
sums [] steps = []
sums (v ∷ numbers) [] = v ∷ numbers
sums (v ∷ numbers) (s ∷ steps) = (v +ℤ s) ∷ sums numbers steps

-- a point goes on to the one that follows, where this symbol goes up; if it is the last, each form is its
-- own step further
pub record IsRaised (ranges : List (ℤ × ℤ)) (old new : Point) (symbol : ℕ) : Type 0 where
  pub follows : following ranges old ≡ Some new
  pub carries : symbol ≡ length ranges - 1 → (forms : List Form)
      → values new forms ≡ sums (values old forms) (steps_of symbol forms)

-- the condition holds at each point before this one
abbrev pub HoldsBefore : Region → (Point → Type 0) → Point → Type 0
HoldsBefore s P point = (q : Point) → IsPointOf s.ranges s.guards q → Precedes q point → P q

-- the search stands at this point
pub record StandsAt (s : Region) (P : Point → Type 0) (point : Point) : Type 0 where
  pub inside : InBox s.ranges point
  pub before : HoldsBefore s P point

-- what is kept, if anything, are the values at the point before, one step along the last symbol
abbrev pub IsAfter : List ℤ → List Form → Point → List ℤ → Type 0
IsAfter steps forms point row = (row ≡ []) ⊎ (values point forms ≡ sums row steps)

-- what is kept, if anything, are the values at this point
abbrev pub IsHere : List Form → Point → List ℤ → Type 0
IsHere forms point row = (row ≡ []) ⊎ (row ≡ values point forms)

-- the form is negative at a point of the box, guards not counted
abbrev pub IsNegativeIn : List (ℤ × ℤ) → Form → Type 0
IsNegativeIn ranges f = (point : Point) × InBox ranges point × (value point f <ℤ pos 0)

-- guards that hold at the same points of a box
abbrev pub HoldAlike : List (ℤ × ℤ) → List Form → List Form → Type 0
HoldAlike ranges guards others =
    (point : Point) → InBox ranges point → GuardsHold guards point ↔ GuardsHold others point

-- no form has this symbol
abbrev pub AllLack : ℕ → List Form → Type 0
AllLack k forms = All (λ f. step_of k f ≡ pos 0) forms

-- the range; or its lowest number alone, where that is enough
abbrev pub IsNarrowRange : Type 0 → ℤ × ℤ → ℤ × ℤ → Type 0
IsNarrowRange IsEnough range n = (n ≡ range) ⊎ ((n ≡ (range.0, range.0)) × IsEnough)

-- each range; or its lowest number alone, where that is enough for its symbol
abbrev pub AreNarrowRanges : (ℕ → Type 0) → List (ℤ × ℤ) → List (ℤ × ℤ) → Type 0
AreNarrowRanges IsEnough [] [] = Unit {0}
AreNarrowRanges IsEnough [] (n ∷ narrowed) = ⊥
AreNarrowRanges IsEnough (range ∷ ranges) [] = ⊥
AreNarrowRanges IsEnough (range ∷ ranges) (n ∷ narrowed) =
    IsNarrowRange (IsEnough 0) range n × AreNarrowRanges (λ k. IsEnough (suc k)) ranges narrowed
