-- For crates above: offsets near home.
use Rattle.std.proofs.Common.{ℕ, ◌+◌, arith}
use Rattle.std.specs.Prelude.{ℤ, pos, neg_ℤ, ◌-ℤ◌, ◌≤ℤ◌}
use Rattle.std.proofs.lemmas.Int.{ints}
use Rattle.burr_voxels.specs.declared.cell.Cell.{Cell}
use Rattle.burr_voxels.specs.Grid.{minus}
use Rattle.burr_voxels.specs.Near.{IsWithin}

-- the difference of two numbers within a bound is within twice the bound
below_difference : (n : ℕ) (a b : ℤ) → neg_ℤ (pos n) ≤ℤ a → b ≤ℤ pos n → neg_ℤ (pos (n + n)) ≤ℤ (a -ℤ b)
below_difference n a b least greatest = omega (arith, ints)

above_difference : (n : ℕ) (a b : ℤ) → a ≤ℤ pos n → neg_ℤ (pos n) ≤ℤ b → (a -ℤ b) ≤ℤ pos (n + n)
above_difference n a b greatest least = omega (arith, ints)

-- the difference of two offsets within 256 is within 512
pub near_difference : (a b : Cell) → IsWithin 256 a → IsWithin 256 b → IsWithin 512 (minus a b)
near_difference a b near also = record {
  x_above = below_difference 256 a.x b.x near.x_above also.x_below;
  x_below = above_difference 256 a.x b.x near.x_below also.x_above;
  y_above = below_difference 256 a.y b.y near.y_above also.y_below;
  y_below = above_difference 256 a.y b.y near.y_below also.y_above;
  z_above = below_difference 256 a.z b.z near.z_above also.z_below;
  z_below = above_difference 256 a.z b.z near.z_below also.z_above;
}
