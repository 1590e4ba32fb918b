-- What holds of all assembly texts.
use Rattle.std.specs.Prelude.{◌≡◌, ◌⊎◌, ◌↔◌, ◌<◌, ℕ, pos, ◌≤ℤ◌, ◌<ℤ◌, List, ◌∷◌, ◌++◌, length, slice_index_or, IsTrue, All}
use Rattle.burr_voxels.specs.declared.cell.Cell.{Cell}
use Rattle.burr_text.specs.Names.{IsName}
use Rattle.burr_assembly.specs.declared.fault.AssemblyFault.{AssemblyFault}
use Rattle.burr_assembly.specs.declared.fault.AssemblyFault.TheVariants.{A8}
use Rattle.burr_assembly.specs.Rules.Text.{Assembly, Drawing, Piece, IsAssembly, IsDrawing, IsPiece, IsText, text_of, drawn_cells, drawn_sides}
use Rattle.burr_assembly.specs.Rules.Homes.{homes_of, HasHome, DiameterAtMost}
use Rattle.burr_assembly.specs.Rules.Lines.{PieceWords, PieceLine, IsPieceWords, IsLine, form_text}
use Rattle.burr_assembly.specs.Rules.Faults.{FirstFault}
use Rattle.burr_assembly.specs.Rules.PieceNames.{is_piece_line, name_in, name_at}

-- no text is that of two assemblies
abbrev pub OneAssembly : Type 0
OneAssembly = (text : List ℕ) (a b : Assembly) → IsText text a → IsText text b → a ≡ b

-- each text is an assembly's, or has a fault
abbrev pub FaultOrAssembly : Type 0
FaultOrAssembly =
    (text : List ℕ) → ((a : Assembly) × IsText text a)
    ⊎ ((fault : AssemblyFault) × FirstFault text fault)

-- an assembly's text has no fault
abbrev pub NoFault : Type 0
NoFault =
    (text : List ℕ) (a : Assembly) (fault : AssemblyFault) → IsText text a → ¬ FirstFault text fault

-- a text has one first fault
abbrev pub OneFault : Type 0
OneFault = (text : List ℕ) (f g : AssemblyFault) → FirstFault text f → FirstFault text g → f ≡ g

-- an assembly's text is read as no other assembly
abbrev pub ReadsBack : Type 0
ReadsBack = (a b : Assembly) → IsAssembly a → IsText (text_of a) b → b ≡ a

-- what a text is read as is written as this text
abbrev pub WritesBack : Type 0
WritesBack = (text : List ℕ) (a : Assembly) → IsText text a → text_of a ≡ text

-- the test of a piece's line passes exactly where a line is of that form
abbrev pub PieceLineIsTold : Type 0
PieceLineIsTold =
    (line : List ℕ) → IsTrue (is_piece_line line) ↔ ((w : PieceWords) × IsLine line (PieceLine w))

-- and the name in the line is then the piece's
abbrev pub PieceLineIsNamed : Type 0
PieceLineIsNamed =
    (line : List ℕ) (w : PieceWords) → IsLine line (PieceLine w) → name_in line ≡ w.name

-- The text begins with that of an assembly so far and the line of a next piece, and the names in
-- it are those of an earlier piece and of this one.
pub record NamesBoth (text : List ℕ) (earlier piece : ℕ) (so_far : Assembly)
    (next : PieceWords) : Type 0 where
  pub title : IsName so_far.name
  pub shapes : All IsDrawing so_far.shapes
  pub pieces : All (IsPiece so_far.shapes) so_far.pieces
  pub words : IsPieceWords next
  pub begins : (rest : List ℕ)
      × (text ≡ text_of so_far ++ (form_text (PieceLine next) ++ 10 ∷ rest))
  pub is_earlier : earlier < piece
  pub is_next : piece ≡ length so_far.pieces
  pub first : (d : Piece) → name_at text earlier ≡ (slice_index_or so_far.pieces earlier d).name
  pub second : name_at text piece ≡ next.name

-- where a text's first fault is that a piece shares a cell with an earlier one, it names both
abbrev pub SharingPiecesAreNamed : Type 0
SharingPiecesAreNamed =
    (text : List ℕ) (n earlier piece : ℕ) → FirstFault text (A8 n earlier piece)
    → (so_far : Assembly) × (next : PieceWords) × NamesBoth text earlier piece so_far next

-- a cell lies in the box with these sides and a corner in the origin
pub record IsInBox (sides c : Cell) : Type 0 where
  pub x : (pos 0 ≤ℤ c.x) × (c.x <ℤ sides.x)
  pub y : (pos 0 ≤ℤ c.y) × (c.y <ℤ sides.y)
  pub z : (pos 0 ≤ℤ c.z) × (c.z <ℤ sides.z)

-- each cell of a drawing lies in its box
abbrev pub DrawnInBox : Type 0
DrawnInBox =
    (s : Drawing) → IsDrawing s → All (IsInBox (drawn_sides s.layers)) (drawn_cells s.layers)

-- no two cells of a piece at home lie more than 15 apart, a coordinate
abbrev pub HomesAreSmall : Type 0
HomesAreSmall =
    (a : Assembly) → IsAssembly a → (p : ℕ) (cells : List Cell) → HasHome (homes_of a) p cells
    → DiameterAtMost 15 cells
