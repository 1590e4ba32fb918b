-- For crates above: one cell ahead of another along an axis.
use Rattle.std.proofs.Common.{◌≡◌, ℕ, ◌≤◌, ap, ◌∙◌, arith}
use Rattle.std.specs.Prelude.{ℤ, pos, negsuc, ◌+ℤ◌, IsTrue, ◌↔◌, int_lt}
use Rattle.std.specs.Int.{int_gap}
use Rattle.std.proofs.lemmas.Int.{ints}
use Rattle.burr_voxels.specs.declared.cell.Cell.{Cell}
use Rattle.burr_voxels.specs.declared.direction.Direction.TheVariants.{PlusX, MinusX, PlusY, MinusY, PlusZ, MinusZ}
use Rattle.burr_voxels.specs.Grid.{at, IsAhead}

-- cells of equal coordinates are one
pub same_cell : (a b : Cell) → a.x ≡ b.x → a.y ≡ b.y → a.z ≡ b.z → a ≡ b
same_cell a b x y z = ap (λ t. at t a.y a.z) x ∙ ap (λ t. at b.x t a.z) y ∙ ap (λ t. at b.x b.y t) z

-- the greater of two numbers lies at least one unit above the smaller
units_above : (a b : ℤ) → IsTrue (int_lt a b) → (k : ℕ) × (1 ≤ k) × (b ≡ a +ℤ pos k)
units_above (pos a) (pos b) h = (int_gap (pos a) (pos b), grind (arith, ints), grind (arith, ints))
units_above (pos a) (negsuc b) h = cc
units_above (negsuc a) (pos b) h = (int_gap (negsuc a) (pos b), omega (arith, ints), omega (arith, ints))
units_above (negsuc a) (negsuc b) h = (int_gap (negsuc a) (negsuc b), grind (arith, ints), grind (arith, ints))

-- a number that lies at least one unit above another is greater
above_lt : (a b : ℤ) (k : ℕ) → 1 ≤ k → b ≡ a +ℤ pos k → IsTrue (int_lt a b)
above_lt a b k h e = grind (arith, ints)

-- in one row, the cell with the greater x is ahead along +x
pub ahead_plus_x : (from to : Cell) → to.y ≡ from.y → to.z ≡ from.z → IsTrue (int_lt from.x to.x) ↔ IsAhead from to PlusX
ahead_plus_x from to y z = (
  λ h. let up = units_above from.x to.x h in (up.0, up.1, same_cell _ _ (omega (arith, ints, up.2)) (omega (arith, ints)) (omega (arith, ints))),
  λ a. above_lt from.x to.x a.0 a.1 (omega (arith, ints, ap (λ (c : Cell). c.x) a.2)),
)

-- in one row, the cell with the smaller x is ahead along -x
pub ahead_minus_x : (from to : Cell) → to.y ≡ from.y → to.z ≡ from.z → IsTrue (int_lt to.x from.x) ↔ IsAhead from to MinusX
ahead_minus_x from to y z = (
  λ h. let up = units_above to.x from.x h in (up.0, up.1, same_cell _ _ (omega (arith, ints, up.2)) (omega (arith, ints)) (omega (arith, ints))),
  λ a. above_lt to.x from.x a.0 a.1 (omega (arith, ints, ap (λ (c : Cell). c.x) a.2)),
)

-- in one file, the cell with the greater y is ahead along +y
pub ahead_plus_y : (from to : Cell) → to.x ≡ from.x → to.z ≡ from.z → IsTrue (int_lt from.y to.y) ↔ IsAhead from to PlusY
ahead_plus_y from to x z = (
  λ h. let up = units_above from.y to.y h in (up.0, up.1, same_cell _ _ (omega (arith, ints)) (omega (arith, ints, up.2)) (omega (arith, ints))),
  λ a. above_lt from.y to.y a.0 a.1 (omega (arith, ints, ap (λ (c : Cell). c.y) a.2)),
)

-- in one file, the cell with the smaller y is ahead along -y
pub ahead_minus_y : (from to : Cell) → to.x ≡ from.x → to.z ≡ from.z → IsTrue (int_lt to.y from.y) ↔ IsAhead from to MinusY
ahead_minus_y from to x z = (
  λ h. let up = units_above to.y from.y h in (up.0, up.1, same_cell _ _ (omega (arith, ints)) (omega (arith, ints, up.2)) (omega (arith, ints))),
  λ a. above_lt to.y from.y a.0 a.1 (omega (arith, ints, ap (λ (c : Cell). c.y) a.2)),
)

-- in one column, the cell with the greater z is ahead along +z
pub ahead_plus_z : (from to : Cell) → to.x ≡ from.x → to.y ≡ from.y → IsTrue (int_lt from.z to.z) ↔ IsAhead from to PlusZ
ahead_plus_z from to x y = (
  λ h. let up = units_above from.z to.z h in (up.0, up.1, same_cell _ _ (omega (arith, ints)) (omega (arith, ints)) (omega (arith, ints, up.2))),
  λ a. above_lt from.z to.z a.0 a.1 (omega (arith, ints, ap (λ (c : Cell). c.z) a.2)),
)

-- in one column, the cell with the smaller z is ahead along -z
pub ahead_minus_z : (from to : Cell) → to.x ≡ from.x → to.y ≡ from.y → IsTrue (int_lt to.z from.z) ↔ IsAhead from to MinusZ
ahead_minus_z from to x y = (
  λ h. let up = units_above to.z from.z h in (up.0, up.1, same_cell _ _ (omega (arith, ints)) (omega (arith, ints)) (omega (arith, ints, up.2))),
  λ a. above_lt to.z from.z a.0 a.1 (omega (arith, ints, ap (λ (c : Cell). c.z) a.2)),
)
