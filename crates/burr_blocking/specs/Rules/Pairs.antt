-- Queries of two pieces, one displaced against the other: this project's own.
use Rattle.std.specs.Prelude.{ℕ, ◌≤◌, pos, List}
use Rattle.burr_voxels.specs.declared.cell.Cell.{Cell}
use Rattle.burr_voxels.specs.declared.direction.Direction.{Direction}
use Rattle.burr_voxels.specs.Grid.{plus, along, shifted}
use Rattle.burr_voxels.specs.CellSets.{Overlap}
use Rattle.burr_blocking.specs.declared.blocking.Query.{Query}
use Rattle.burr_blocking.specs.declared.blocking.Query.TheVariants as queries

-- the first piece, displaced by d, overlaps the second
abbrev pub IsBlocked : List Cell → List Cell → Cell → Type 0
IsBlocked ps qs d = Overlap (shifted d ps) qs

-- The first piece, displaced by d and from there any whole number of units, at least 1, along the
-- direction, never overlaps the second.
abbrev pub IsFreeFrom : List Cell → List Cell → Cell → Direction → Type 0
IsFreeFrom ps qs d direction =
    (k : ℕ) → 1 ≤ k → ¬ IsBlocked ps qs (plus d (along direction (pos k)))

-- the first piece, displaced by d, keeps clear of the second: there, or all the way out from there
abbrev pub Clears : Query → List Cell → List Cell → Cell → Type 0
Clears queries.Overlap ps qs d = ¬ IsBlocked ps qs d
Clears (queries.Exit direction) ps qs d = IsFreeFrom ps qs d direction
