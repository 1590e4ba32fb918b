-- The points of a box under guards, by what is wanted of them.
use Rattle.std.specs.Prelude.{◌≡◌, ℤ, List, [], ◌∷◌, length, All, Contains}
use Rattle.burr_forms.specs.Rules.Forms.{Form, Point}
use Rattle.burr_forms.specs.Rules.Points.{AreRanges, IsPointOf, Precedes, box_size, points_of}

-- each point comes before all after it
abbrev pub IsRising : List Point → Type 0
IsRising [] = Unit {0}
IsRising (p ∷ points) = All (Precedes p) points × IsRising points

-- the points of a box under guards, each once, rising, and no other
pub record AreThePoints (ranges : List (ℤ × ℤ)) (guards : List Form) (points : List Point)
    : Type 0 where
  pub inside : All (IsPointOf ranges guards) points
  pub each : (point : Point) → IsPointOf ranges guards point → Contains points point
  pub rising : IsRising points

abbrev pub ThePointsAreGiven : Type 0
ThePointsAreGiven =
    (ranges : List (ℤ × ℤ)) (guards : List Form) → AreRanges ranges
    → AreThePoints ranges guards (points_of ranges guards)

-- a box without guards has as many points as its size says
abbrev pub SizeCountsPoints : Type 0
SizeCountsPoints =
    (ranges : List (ℤ × ℤ)) (points : List Point)
    → AreRanges ranges → AreThePoints ranges [] points → box_size ranges ≡ length points

-- such a list is one at most
abbrev pub OneListOfPoints : Type 0
OneListOfPoints =
    (ranges : List (ℤ × ℤ)) (guards : List Form) (points others : List Point)
    → AreThePoints ranges guards points → AreThePoints ranges guards others → points ≡ others
