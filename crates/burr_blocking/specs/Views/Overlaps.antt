-- What is kept of two pieces: the displacements of the one against the other at which they overlap.
use Rattle.std.specs.Prelude.{◌↔◌, ℕ, ◌≤◌, pos, List}
use Rattle.burr_voxels.specs.declared.cell.Cell.{Cell}
use Rattle.burr_voxels.specs.declared.direction.Direction.{Direction}
use Rattle.burr_voxels.specs.Grid.{plus, along}
use Rattle.burr_blocking.specs.Rules.Pairs.{IsBlocked}

-- they are those at which the first cells overlap the second
abbrev pub AreOverlapsOf : (Cell → Type 0) → List Cell → List Cell → Type 0
AreOverlapsOf Overlaps ps qs = (d : Cell) → Overlaps d ↔ IsBlocked ps qs d

-- none of them lies any whole number of units, at least 1, from a displacement along a direction
abbrev pub HasNoneAhead : (Cell → Type 0) → Cell → Direction → Type 0
HasNoneAhead Overlaps d direction = (k : ℕ) → 1 ≤ k → ¬ Overlaps (plus d (along direction (pos k)))
