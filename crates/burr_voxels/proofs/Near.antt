-- Cells near the origin, and their sums.
use Rattle.std.proofs.Common.{ℕ, ◌<◌, ◌^◌, arith, FitsSigned, w32}
use Rattle.std.specs.Prelude.{ℤ, pos, negsuc, neg_ℤ, ◌≤ℤ◌}
use Rattle.std.proofs.lemmas.Int.{ints}
use Rattle.burr_voxels.specs.declared.cell.Cell.{Cell}
use Rattle.burr_voxels.specs.Grid.{FitsCell}
use Rattle.burr_voxels.specs.Near.{IsWithin}

-- a number within a bound that fits
fits_within : (n : ℕ) (a : ℤ) → neg_ℤ (pos n) ≤ℤ a → a ≤ℤ pos n → n < 2 ^ 31 → FitsSigned w32 a
fits_within n (pos a) p q lt = record { sfits = omega (arith, ints) }
fits_within n (negsuc a) p q lt = record { sfits = omega (arith, ints) }

-- the coordinates of a cell near the origin fit
pub IsWithin_fits : (n : ℕ) (c : Cell) → IsWithin n c → n < 2 ^ 31 → FitsCell c
IsWithin_fits n c h lt = record {
  x = fits_within n c.x h.x_above h.x_below lt;
  y = fits_within n c.y h.y_above h.y_below lt;
  z = fits_within n c.z h.z_above h.z_below lt;
}
