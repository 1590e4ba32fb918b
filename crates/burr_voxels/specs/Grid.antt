-- Cells of the cubic grid, by the coordinates of their centres.
use Rattle.std.specs.Prelude.{◌≡◌, ◌≤◌, ℕ, ℤ, pos, ◌+ℤ◌, ◌-ℤ◌, neg_ℤ, List, map, ◌∷◌, [], FitsSigned}
use Rattle.std.specs.Int.{w32}
use Rattle.burr_voxels.specs.declared.cell.Cell.{Cell}
use Rattle.burr_voxels.specs.declared.direction.Direction.{Direction}
use Rattle.burr_voxels.specs.declared.direction.Direction.TheVariants.{PlusX, MinusX, PlusY, MinusY, PlusZ, MinusZ}

-- the cell with these coordinates
abbrev pub at : ℤ → ℤ → ℤ → Cell
at x y z = record { x = x; y = y; z = z }

abbrev pub origin : Cell
origin = at (pos 0) (pos 0) (pos 0)

abbrev pub plus : Cell → Cell → Cell
plus a b = at (a.x +ℤ b.x) (a.y +ℤ b.y) (a.z +ℤ b.z)

abbrev pub minus : Cell → Cell → Cell
minus a b = at (a.x -ℤ b.x) (a.y -ℤ b.y) (a.z -ℤ b.z)

-- k units along a direction, from the origin
abbrev pub along : Direction → ℤ → Cell
along PlusX k = at k (pos 0) (pos 0)
along MinusX k = at (neg_ℤ k) (pos 0) (pos 0)
along PlusY k = at (pos 0) k (pos 0)
along MinusY k = at (pos 0) (neg_ℤ k) (pos 0)
along PlusZ k = at (pos 0) (pos 0) k
along MinusZ k = at (pos 0) (pos 0) (neg_ℤ k)

-- The numbers of the directions.
abbrev pub number_of : Direction → ℕ
number_of PlusX = 0
number_of MinusX = 1
number_of PlusY = 2
number_of MinusY = 3
number_of PlusZ = 4
number_of MinusZ = 5

-- The names of the directions: a sign and an axis.
abbrev pub name_of : Direction → List ℕ
name_of PlusX = 43 ∷ 120 ∷ []
name_of MinusX = 45 ∷ 120 ∷ []
name_of PlusY = 43 ∷ 121 ∷ []
name_of MinusY = 45 ∷ 121 ∷ []
name_of PlusZ = 43 ∷ 122 ∷ []
name_of MinusZ = 45 ∷ 122 ∷ []

-- all cells, moved by d
abbrev pub shifted : Cell → List Cell → List Cell
shifted d cells = map (λ c. plus c d) cells

-- the coordinates fit 32 bits
pub record FitsCell (c : Cell) : Type 0 where
  pub x : FitsSigned w32 c.x
  pub y : FitsSigned w32 c.y
  pub z : FitsSigned w32 c.z

-- one cell lies a whole number of units, at least 1, from another along a direction
abbrev pub IsAhead : Cell → Cell → Direction → Type 0
IsAhead from to direction = (k : ℕ) × (1 ≤ k) × (to ≡ plus from (along direction (pos k)))
