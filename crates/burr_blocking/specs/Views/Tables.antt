-- Tables of two pieces: at which displacements of the one against the other they overlap.
use Rattle.std.specs.Prelude.{◌≡◌, ◌↔◌, ◌⊎◌, ℕ, ◌+◌, Bool, false, List, Contains, IsTrue, slice_index_or}
use Rattle.burr_voxels.specs.declared.cell.Cell.{Cell}
use Rattle.burr_blocking.specs.declared.extent.Extent.{Extent}
use Rattle.burr_blocking.specs.Views.Boxes.{IsInBox, place_of}

-- there is a mark at a place
abbrev pub HasMark : List Bool → ℕ → Type 0
HasMark marks k = IsTrue (slice_index_or marks k false)

-- the marks that were set are set, and those at these places, counted from the first; no others
abbrev pub SetsMarks : List Bool → List Bool → ℕ → List ℕ → Type 0
SetsMarks old new first places = (k : ℕ) →
    HasMark new k ↔ (HasMark old k ⊎ ((n : ℕ) × Contains places n × (k ≡ first + n)))

-- the displacement is of the box, and the table has a mark where it stands
pub record IsMarked (e : Extent) (marks : List Bool) (d : Cell) : Type 0 where
  pub inside : IsInBox e d
  pub marked : HasMark marks (place_of e d)
