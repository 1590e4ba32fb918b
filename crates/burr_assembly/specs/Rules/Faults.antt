-- The first fault of an assembly text: what the lines so far have been, and what is wrong with the
-- next.
use Rattle.burr_text.specs.Lines.{IsUnended}
use Rattle.std.specs.Prelude.{◌≡◌, ◌≢◌, ℕ, ◌+◌, ◌<◌, ◌≤◌, List, [], ◌∷◌, ◌++◌, length, Option, Some, None, Result, Ok, Err, slice_get, slice_index_or, IfSome, ◌⊎◌}
use Rattle.std.specs.List.{flat_map}
use Rattle.burr_voxels.specs.declared.cell.Cell.{Cell}
use Rattle.burr_text.specs.Checks.{needs, looks_for}
use Rattle.burr_assembly.specs.declared.fault.AssemblyFault.{AssemblyFault}
use Rattle.burr_assembly.specs.declared.fault.AssemblyFault.TheVariants.{A1, A2, A3, A4, A5, A6, A7, A8}
use Rattle.burr_text.specs.Names.{IsName}
use Rattle.burr_assembly.specs.Rules.Text.{Drawing, Turn, Piece, Assembly, turn_name, drawn_cells, IsTurn, IsPositionText, IsShapeName, IsPieceName, Shares}
use Rattle.burr_assembly.specs.Rules.Lines.{LineForm, PieceWords, AssemblyLine, ShapeLine, LayerLine, RowLine, EndLine, PieceLine, IsLine}

-- what the lines so far have been
pub data Beginning : Type 0 where
  -- no line yet
  Blank : Beginning
  -- the assembly's name, and shapes that have ended
  Shapes : (name : List ℕ) (shapes : List Drawing) → Beginning
  -- after them a shape that has not: its finished layers, and the rows of a layer that has begun
  Drawn : (name : List ℕ) (shapes : List Drawing) (drawing : Drawing)
      (begun : Option (List (List ℕ))) → Beginning
  -- the shapes, and after them a piece at least
  Pieces : (name : List ℕ) (shapes : List Drawing) (pieces : List Piece) → Beginning

-- what a line gives: the beginning with it, or its first fault
abbrev pub LineResult : Type 0
LineResult = Result Beginning AssemblyFault

-- it is this beginning
abbrev pub gives : Beginning → LineResult → Type 0
gives next answer = answer ≡ Ok next

-- a layer may be finished: it has rows, as many as the first
abbrev pub IsFinishedLayer : List (List (List ℕ)) → List (List ℕ) → Type 0
IsFinishedLayer layers rows = (1 ≤ length rows) × IfSome (slice_get layers 0) (λ first.
    length rows ≡ length first)

-- a row may stand after these: it is as wide as the shape's first, and there is room
pub record IsRow (layers : List (List (List ℕ))) (rows : List (List ℕ))
    (marks : List ℕ) : Type 0 where
  pub narrow : length marks ≤ 16
  pub room : length rows < 16
  pub like_first : IfSome (slice_get (flat_map (λ layer. layer) layers ++ rows) 0)
      (λ (first : List ℕ). length marks ≡ length first)

abbrev pub with_layer : Drawing → List (List ℕ) → Drawing
with_layer d rows = record d { layers = d.layers ++ rows ∷ [] }

abbrev pub HasCellCount : Drawing → Type 0
HasCellCount d = (1 ≤ length (drawn_cells d.layers)) × (length (drawn_cells d.layers) ≤ 512)

-- the earliest of the pieces that shares a cell with this one
pub record IsFirstSharing (shapes : List Drawing) (pieces : List Piece) (p : Piece)
    (q : ℕ) : Type 0 where
  pub inside : q < length pieces
  pub shares : Shares shapes (slice_index_or pieces q p) p
  pub first : (r : ℕ) → r < q → ¬ Shares shapes (slice_index_or pieces r p) p

-- the numbers of the line are the coordinates of this position
abbrev pub IsPositionOf : PieceWords → Cell → Type 0
IsPositionOf w c = IsPositionText w.x w.y w.z c

-- a piece after these; no piece yet among them is one that may stand first
abbrev pub PieceRule : ℕ → List ℕ → List Drawing → List Piece → PieceWords → LineResult → Type 0
PieceRule n name shapes pieces w =
    needs (length pieces < 32) (Err (A7 n))
    (needs (IsName w.name × (¬ IsPieceName pieces w.name)) (Err (A2 n))
    (needs (IsShapeName shapes w.shape) (Err (A6 n))
    (looks_for (λ (t : Turn). IsTurn t × (w.orientation ≡ turn_name t)) (Err (A4 n)) λ t.
    looks_for (IsPositionOf w) (Err (A5 n)) λ position.
    λ answer.
    let p : Piece = record { name = w.name; shape = w.shape; turn = t; position = position } in
    ((q : ℕ) × IsFirstSharing shapes pieces p q × (answer ≡ Err (A8 n q (length pieces))))
    ⊎ (((q : ℕ) → ¬ IsFirstSharing shapes pieces p q)
    × gives (Pieces name shapes (pieces ++ p ∷ [])) answer))))

-- What a line of a form gives after a beginning: the faults in their order, and then the beginning
-- with it.
abbrev pub FormGives : ℕ → Beginning → LineForm → LineResult → Type 0
FormGives n Blank (AssemblyLine name) = needs (IsName name) (Err (A2 n)) (gives (Shapes name []))
FormGives n (Shapes name shapes) (ShapeLine shape) =
    needs (length shapes < 32) (Err (A7 n))
    (needs (IsName shape × (¬ IsShapeName shapes shape)) (Err (A2 n))
    (gives (Drawn name shapes (record { name = shape; layers = [] }) None)))
FormGives n (Drawn name shapes d None) LayerLine = gives (Drawn name shapes d (Some []))
FormGives n (Drawn name shapes d (Some rows)) LayerLine =
    needs (IsFinishedLayer d.layers rows × (length d.layers + 1 < 16)) (Err (A3 n))
    (gives (Drawn name shapes (with_layer d rows) (Some [])))
FormGives n (Drawn name shapes d (Some rows)) (RowLine marks) =
    needs (IsRow d.layers rows marks) (Err (A3 n))
    (gives (Drawn name shapes d (Some (rows ++ marks ∷ []))))
FormGives n (Drawn name shapes d (Some rows)) EndLine =
    needs (IsFinishedLayer d.layers rows × HasCellCount (with_layer d rows)) (Err (A3 n))
    (gives (Shapes name (shapes ++ with_layer d rows ∷ [])))
FormGives n (Shapes name (s ∷ shapes)) (PieceLine w) = PieceRule n name (s ∷ shapes) [] w
FormGives n (Pieces name shapes pieces) (PieceLine w) = PieceRule n name shapes pieces w
FormGives n so_far form = λ answer. answer ≡ Err (A1 n)

-- the n-th line after a beginning, without its end
abbrev pub LineGives : ℕ → Beginning → List ℕ → LineResult → Type 0
LineGives n so_far bytes = looks_for (IsLine bytes) (Err (A1 n)) (λ form. FormGives n so_far form)

-- the text ends after a beginning; n is the line after the last
abbrev pub EndGives : ℕ → Beginning → Result Assembly AssemblyFault → Type 0
EndGives n Blank answer = answer ≡ Err (A1 n)
EndGives n (Shapes name []) answer = answer ≡ Err (A1 n)
EndGives n (Shapes name (s ∷ shapes)) answer = answer ≡ Err (A7 n)
EndGives n (Drawn name shapes d begun) answer = answer ≡ Err (A1 n)
EndGives n (Pieces name shapes pieces) answer =
    needs (2 ≤ length pieces) (Err (A7 n))
    (λ (given : Result Assembly AssemblyFault).
    given ≡ Ok (record { name = name; shapes = shapes; pieces = pieces }))
    answer

-- What the rest of a text gives, from the n-th line on, after a beginning.
pub data TextGives : ℕ → Beginning → List ℕ → Result Assembly AssemblyFault → Type 0 where
  ends : (n : ℕ) (so_far : Beginning) (answer : Result Assembly AssemblyFault)
      → EndGives n so_far answer → TextGives n so_far [] answer
  breaks_off : (n : ℕ) (so_far : Beginning) (rest : List ℕ)
      → rest ≢ [] → IsUnended rest → TextGives n so_far rest (Err (A1 n))
  fails : (n : ℕ) (so_far : Beginning) (bytes rest : List ℕ) (fault : AssemblyFault)
      → IsUnended bytes → LineGives n so_far bytes (Err fault)
      → TextGives n so_far (bytes ++ 10 ∷ rest) (Err fault)
  goes_on : (n : ℕ) (so_far next : Beginning) (bytes rest : List ℕ)
      (answer : Result Assembly AssemblyFault)
      → IsUnended bytes → LineGives n so_far bytes (Ok next)
      → TextGives (n + 1) next rest answer → TextGives n so_far (bytes ++ 10 ∷ rest) answer

-- The first fault of a text.
abbrev pub FirstFault : List ℕ → AssemblyFault → Type 0
FirstFault text fault = TextGives 1 Blank text (Err fault)
