-- Pieces with their cells at home, and which of them has a cell.
use Rattle.std.specs.Prelude.{◌≡◌, ℕ, ◌<◌, min, Bool, List, [], ◌∷◌, map, length, slice_index_or, All, MatchOption, Option, Some, None, if◌then◌else◌}
use Rattle.std.specs.List.{list_any}
use Rattle.burr_voxels.specs.declared.cell.Cell.{Cell}
use Rattle.burr_voxels.specs.declared.direction.Orientation.{Orientation}
use Rattle.burr_voxels.specs.contracts.cell.CellPartialEq.TheImpl as cell_eq
use Rattle.burr_voxels.specs.CellSets.{Overlap}
use Rattle.burr_assembly.specs.Rules.Text.{Drawing, Turn, Piece, HasCells}

-- a piece with its cells at home
pub record HomedPiece : Type 0 where
  pub piece : Piece
  pub cells : List Cell

abbrev pub turn_of : Orientation → Turn
turn_of o = record { x = o.x; y = o.y; z = o.z }

-- the piece with these parts
abbrev pub homed_piece : List ℕ → List ℕ → Orientation → Cell → List Cell → HomedPiece
homed_piece name shape orientation position cells =
    record {
      piece = record {
        name = name;
        shape = shape;
        turn = turn_of orientation;
        position = position;
      };
      cells = cells;
    }

-- the pieces without their cells
abbrev pub pieces_of : List HomedPiece → List Piece
pieces_of placed = map (λ (p : HomedPiece). p.piece) placed

-- each piece has its cells at home
abbrev pub AreAtHome : List Drawing → List HomedPiece → Type 0
AreAtHome shapes placed = All (λ (p : HomedPiece). HasCells shapes p.piece p.cells) placed

-- the cells of the q-th of the pieces
abbrev pub cells_of : List HomedPiece → ℕ → HomedPiece → List Cell
cells_of placed q d = (slice_index_or placed q d).cells

-- the first of the pieces that has one of these cells
abbrev pub IsFirstMeeting : List HomedPiece → List Cell → Option ℕ → Type 0
IsFirstMeeting placed cells found =
    MatchOption found
    ((q : ℕ) (d : HomedPiece) → q < length placed → ¬ Overlap (cells_of placed q d) cells)
    (λ q. (q < length placed)
    × ((d : HomedPiece) → Overlap (cells_of placed q d) cells)
    × ((r : ℕ) (d : HomedPiece) → r < q → ¬ Overlap (cells_of placed r d) cells))

-- whether two cells are the same
abbrev pub same_cell : Cell → Cell → Bool
same_cell = (cell_eq.ghosts).eq

-- of each cell the first of the pieces that has it
abbrev pub AreOwners : List HomedPiece → (Cell → Option ℕ) → Type 0
AreOwners placed owner = (c : Cell) → IsFirstMeeting placed (c ∷ []) (owner c)

-- the lesser of two numbers, or the one that is there
abbrev pub lesser : Option ℕ → Option ℕ → Option ℕ
lesser None b = b
lesser (Some a) None = Some a
lesser (Some a) (Some b) = Some (min a b)

-- the piece has become the owner of these cells, and of each other cell the owner is the old one
abbrev pub Owns : ℕ → List Cell → (Cell → Option ℕ) → (Cell → Option ℕ) → Type 0
Owns piece cells old new =
    (c : Cell) → new c ≡ if list_any (λ x. same_cell x c) cells then Some piece else old c
