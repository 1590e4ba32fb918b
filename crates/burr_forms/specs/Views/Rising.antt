-- What is left of the points from one on.
use Rattle.std.specs.Prelude.{ℕ, ◌+◌, ◌*◌, ℤ, pos, ◌+ℤ◌, Bool, cond, List, [], ◌∷◌, ◌++◌, map, filter, Option, Some, None, int_lt}
use Rattle.std.specs.Int.{int_gap}
use Rattle.burr_forms.specs.Rules.Forms.{Form, Point}
use Rattle.burr_forms.specs.Rules.Points.{above, beginning_with, box_points, guards_hold}

-- the points of the box from this one on
abbrev pub points_from : List (ℤ × ℤ) → Point → List Point
points_from [] point = [] ∷ []
points_from (range ∷ ranges) [] = []
points_from (range ∷ ranges) (x ∷ point) =
    map (λ p. x ∷ p) (points_from ranges point)
    ++ beginning_with (above x range.1) (box_points ranges)

-- what is left where so far a point was come to, or the end
abbrev pub left : List (ℤ × ℤ) → List Form → Point → Bool → List Point
left ranges guards point ended =
    cond ended [] (filter (guards_hold guards) (points_from ranges point))

abbrev pub lows : List (ℤ × ℤ) → Point
lows ranges = map (λ range. range.0) ranges

-- the next point where the numbers after have a next, and else one more here
abbrev pub carried : ℤ × ℤ → List (ℤ × ℤ) → ℤ → Option Point → Option Point
carried range ranges x (Some p) = Some (x ∷ p)
carried range ranges x None = cond (int_lt x range.1) (Some ((x +ℤ pos 1) ∷ lows ranges)) None

-- the point after this one
abbrev pub following : List (ℤ × ℤ) → Point → Option Point
following [] point = None
following (range ∷ ranges) [] = None
following (range ∷ ranges) (x ∷ point) = carried range ranges x (following ranges point)

-- the points from a next one on
abbrev pub from_next : List (ℤ × ℤ) → Option Point → List Point
from_next ranges None = []
from_next ranges (Some point) = points_from ranges point

-- how many points are in a box
abbrev pub count_in : List (ℤ × ℤ) → ℕ
count_in [] = 1
count_in (range ∷ ranges) = count_in ranges + int_gap range.0 range.1 * count_in ranges

-- how many points of a box come after this one
abbrev pub count_after : List (ℤ × ℤ) → Point → ℕ
count_after [] point = 0
count_after (range ∷ ranges) [] = 0
count_after (range ∷ ranges) (x ∷ point) =
    int_gap x range.1 * count_in ranges + count_after ranges point
