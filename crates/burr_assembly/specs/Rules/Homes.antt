-- The names of an assembly's pieces, and their cells at home.
use Rattle.std.specs.Prelude.{◌≡◌, ℕ, Some, slice_get, slice_index_or, List, [], ◌∷◌, map, if◌then◌else◌, bytes_eq, Contains}
use Rattle.burr_voxels.specs.declared.cell.Cell.{Cell}
use Rattle.burr_voxels.specs.Grid.{minus}
use Rattle.burr_voxels.specs.Near.{IsWithin}
use Rattle.burr_assembly.specs.Rules.Text.{HasCells, Assembly, Drawing, Piece, home_cells, drawn_cells}

-- the cells of a piece of the first shape with its shape's name
abbrev pub home_of : List Drawing → Piece → List Cell
home_of [] p = []
home_of (s ∷ shapes) p = if bytes_eq s.name p.shape
    then home_cells p.turn p.position (drawn_cells s.layers) else home_of shapes p

abbrev pub homes_of : Assembly → List (List Cell)
homes_of a = map (home_of a.shapes) a.pieces

-- the home cells of piece p
abbrev pub HasHome : List (List Cell) → ℕ → List Cell → Type 0
HasHome homes p cells = slice_get homes p ≡ Some cells

-- the same as a function of the homes: no cells where there is no such piece
abbrev pub home_at : List (List Cell) → ℕ → List Cell
home_at homes p = slice_index_or homes p []

-- no two of the cells lie farther than n from each other, a coordinate
abbrev pub DiameterAtMost : ℕ → List Cell → Type 0
DiameterAtMost n cells =
    (a b : Cell) → Contains cells a → Contains cells b → IsWithin n (minus a b)

abbrev pub names_of : Assembly → List (List ℕ)
names_of a = map (λ (p : Piece). p.name) a.pieces

-- each piece has these cells at home
abbrev pub HaveCells : Assembly → List Piece → List (List Cell) → Type 0
HaveCells a [] [] = Unit {0}
HaveCells a (p ∷ ps) (cells ∷ homes) = HasCells a.shapes p cells × HaveCells a ps homes
HaveCells a [] (cells ∷ homes) = ⊥
HaveCells a (p ∷ ps) [] = ⊥
