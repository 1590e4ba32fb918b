-- Conditions at every point of a box under guards.
use Rattle.std.specs.Prelude.{ℤ, pos, ◌≤ℤ◌, List, All}
use Rattle.burr_forms.specs.Rules.Forms.{Form, Point, values}
use Rattle.burr_forms.specs.Rules.Points.{IsPointOf, Precedes}

-- a box under guards
pub record Region : Type 0 where
  pub ranges : List (ℤ × ℤ)
  pub guards : List Form

abbrev pub region : List (ℤ × ℤ) → List Form → Region
region ranges guards = record { ranges = ranges; guards = guards }

-- the condition holds at each point
abbrev pub Throughout : Region → (Point → Type 0) → Type 0
Throughout s P = (point : Point) → IsPointOf s.ranges s.guards point → P point

-- the first point at which a condition fails
pub record FailsFirstAt (s : Region) (P : Point → Type 0) (point : Point) : Type 0 where
  pub is_point : IsPointOf s.ranges s.guards point
  pub fails : ¬ P point
  pub before : (q : Point) → IsPointOf s.ranges s.guards q → Precedes q point → P q

-- a condition on values, of the values of forms at a point
abbrev pub at_values : (List ℤ → Type 0) → List Form → Point → Type 0
at_values P forms point = P (values point forms)

-- no number is negative
abbrev pub NoneNegative : List ℤ → Type 0
NoneNegative numbers = All (λ n. pos 0 ≤ℤ n) numbers
