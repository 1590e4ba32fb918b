-- What the values of a form at the points of a box lie between.
use Rattle.std.specs.Prelude.{◌≡◌, ℤ, pos, ◌≤ℤ◌, Bool, true, false, List, [], ◌∷◌, cond, int_lt}
use Rattle.burr_forms.specs.Rules.Forms.{Form, Point, value}
use Rattle.burr_forms.specs.Rules.Points.{InBox}

-- the least value at a point of the box, guards not counted
pub record IsLeastIn (ranges : List (ℤ × ℤ)) (f : Form) (least : ℤ) : Type 0 where
  pub below : (point : Point) → InBox ranges point → least ≤ℤ value point f
  pub met : (point : Point) × InBox ranges point × (least ≡ value point f)

-- the greatest value at a point of the box, guards not counted
pub record IsGreatestIn (ranges : List (ℤ × ℤ)) (f : Form) (greatest : ℤ) : Type 0 where
  pub above : (point : Point) → InBox ranges point → value point f ≤ℤ greatest
  pub met : (point : Point) × InBox ranges point × (greatest ≡ value point f)

-- the end of a range at which a multiple of a number is greatest, or least
abbrev pub end_at : Bool → ℤ → ℤ × ℤ → ℤ
end_at true coef range = cond (int_lt coef (pos 0)) range.0 range.1
end_at false coef range = cond (int_lt coef (pos 0)) range.1 range.0

-- the point of a box at which the sum of the multiples of these numbers is greatest, or least
abbrev pub corner : Bool → List ℤ → List (ℤ × ℤ) → Point
corner is_greatest [] ranges = []
corner is_greatest (c ∷ coefs) [] = []
corner is_greatest (c ∷ coefs) (range ∷ ranges) =
    end_at is_greatest c range ∷ corner is_greatest coefs ranges
