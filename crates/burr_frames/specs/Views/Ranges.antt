-- Numbers that are not farther than so much from 0.
use Rattle.std.specs.Prelude.{ℕ, ℤ, pos, neg_ℤ, ◌≤ℤ◌, List, All}
use Rattle.burr_forms.specs.Rules.Forms.{Form, Point, value}
use Rattle.burr_forms.specs.Rules.Points.{InBox}

abbrev pub IsInReach : ℕ → ℤ → Type 0
IsInReach reach n = (neg_ℤ (pos reach) ≤ℤ n) × (n ≤ℤ pos reach)

abbrev pub AllInReach : ℕ → List ℤ → Type 0
AllInReach reach numbers = All (IsInReach reach) numbers

-- no value of the form at a point of the box is farther than so much from 0
abbrev pub LiesWithin : List (ℤ × ℤ) → ℕ → Form → Type 0
LiesWithin ranges reach f =
    (point : Point) → InBox ranges point → IsInReach reach (value point f)
