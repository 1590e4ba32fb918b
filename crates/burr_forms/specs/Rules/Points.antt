-- The points of a box of ranges, under guards.
use Rattle.std.specs.Prelude.{ℕ, zero, suc, ◌+◌, ◌-◌, ◌*◌, ◌≤◌, ℤ, pos, neg_ℤ, ◌+ℤ◌, ◌-ℤ◌, ◌≤ℤ◌, ◌<ℤ◌, nat_abs, ◌≡◌, ◌⊎◌, Bool, not, List, [], ◌∷◌, ◌++◌, length, map, filter, flat_map, replicate, All, int_lt}
use Rattle.std.specs.List.{list_all}
use Rattle.std.specs.Int.{int_gap}
use Rattle.burr_forms.specs.declared.limits.TheConstants.{MOST_SYMBOL_VALUE}
use Rattle.burr_forms.specs.Rules.Forms.{Form, Point, value, AllSmallForms}

-- Boxes

-- a range that holds a number, and only numbers of a code
pub record IsRange (range : ℤ × ℤ) : Type 0 where
  pub rising : range.0 ≤ℤ range.1
  pub low : neg_ℤ (pos MOST_SYMBOL_VALUE) ≤ℤ range.0
  pub high : range.1 ≤ℤ pos MOST_SYMBOL_VALUE

abbrev pub AreRanges : List (ℤ × ℤ) → Type 0
AreRanges ranges = All IsRange ranges

-- at most eight ranges
abbrev pub IsBox : List (ℤ × ℤ) → Type 0
IsBox ranges = (length ranges ≤ 8) × AreRanges ranges

-- at most eight forms, all small
abbrev pub AreGuards : List Form → Type 0
AreGuards guards = (length guards ≤ 8) × AllSmallForms guards

abbrev pub InRange : ℤ × ℤ → ℤ → Type 0
InRange range x = (range.0 ≤ℤ x) × (x ≤ℤ range.1)

-- each number is in its range, and there are as many
abbrev pub InBox : List (ℤ × ℤ) → Point → Type 0
InBox [] [] = Unit {0}
InBox [] (x ∷ point) = ⊥
InBox (range ∷ ranges) [] = ⊥
InBox (range ∷ ranges) (x ∷ point) = InRange range x × InBox ranges point

-- no guard is negative
abbrev pub GuardsHold : List Form → Point → Type 0
GuardsHold guards point = All (λ g. pos 0 ≤ℤ value point g) guards

-- a point of the box at which no guard is negative
abbrev pub IsPointOf : List (ℤ × ℤ) → List Form → Point → Type 0
IsPointOf ranges guards point = InBox ranges point × GuardsHold guards point

-- the first number slowest
abbrev pub Precedes : Point → Point → Type 0
Precedes [] q = ⊥
Precedes (x ∷ p) [] = ⊥
Precedes (x ∷ p) (y ∷ q) = (x <ℤ y) ⊎ ((x ≡ y) × Precedes p q)

-- eight ranges: those that are given, and for each symbol that isn't there that of 0 alone
abbrev pub padded : List (ℤ × ℤ) → List (ℤ × ℤ)
padded ranges = ranges ++ replicate (8 - length ranges) (pos 0, pos 0)

-- how many points are in a box, guards not counted
abbrev pub box_size : List (ℤ × ℤ) → ℕ
box_size [] = 1
box_size (range ∷ ranges) = (nat_abs (range.1 -ℤ range.0) + 1) * box_size ranges

-- All points, rising

-- the whole numbers from a number on, as many as given
abbrev pub count_from : ℤ → ℕ → List ℤ
count_from a zero = []
count_from a (suc n) = a ∷ count_from (a +ℤ pos 1) n

-- the numbers above x, up to the last one
abbrev pub above : ℤ → ℤ → List ℤ
above x last = count_from (x +ℤ pos 1) (int_gap x last)

-- the points that begin with one of these numbers
abbrev pub beginning_with : List ℤ → List Point → List Point
beginning_with xs points = flat_map (λ x. map (λ p. x ∷ p) points) xs

-- each point of the box once, rising, the first number slowest
abbrev pub box_points : List (ℤ × ℤ) → List Point
box_points [] = [] ∷ []
box_points (range ∷ ranges) =
    beginning_with (range.0 ∷ above range.0 range.1) (box_points ranges)

-- no guard is negative, as a test
abbrev pub guards_hold : List Form → Point → Bool
guards_hold guards point = list_all (λ g. not (int_lt (value point g) (pos 0))) guards

-- the points of a box at which the guards hold
abbrev pub points_of : List (ℤ × ℤ) → List Form → List Point
points_of ranges guards = filter (guards_hold guards) (box_points ranges)
