-- Assemblies and their texts: this project's own.
use Rattle.burr_text.specs.Words.{text_line}
use Rattle.std.specs.Prelude.{◌≡◌, ◌≢◌, ℕ, suc, ◌≤◌, ℤ, pos, neg_ℤ, ◌≤ℤ◌, List, [], ◌∷◌, ◌++◌, length, map, codes, All, AllPairs, Any, Contains, ◌==◌, if◌then◌else◌, ◌⊎◌, slice_index_or}
use Rattle.std.specs.Fmt.{signed_decimal}
use Rattle.std.specs.List.{flat_map}
use Rattle.burr_voxels.specs.declared.cell.Cell.{Cell}
use Rattle.burr_voxels.specs.declared.direction.Direction.{Direction}
use Rattle.burr_voxels.specs.Grid.{at, plus}
use Rattle.burr_voxels.specs.Turns.{turned, axes_name, IsRotation}
use Rattle.burr_voxels.specs.CellSets.{Overlap}
use Rattle.burr_text.specs.Names.{IsName}

-- a shape as it is drawn: layers upwards, in each its rows, in each a mark a cell
pub record Drawing : Type 0 where
  pub name : List ℕ
  pub layers : List (List (List ℕ))

-- the images of the three axes
pub record Turn : Type 0 where
  pub x : Direction
  pub y : Direction
  pub z : Direction

pub record Piece : Type 0 where
  pub name : List ℕ
  pub shape : List ℕ
  pub turn : Turn
  pub position : Cell

pub record Assembly : Type 0 where
  pub name : List ℕ
  pub shapes : List Drawing
  pub pieces : List Piece

-- The text

abbrev pub layer_text : List (List ℕ) → List ℕ
layer_text rows = text_line (codes "layer" ∷ []) ++ flat_map (λ row. row ++ 10 ∷ []) rows

abbrev pub shape_text : Drawing → List ℕ
shape_text s = text_line (codes "shape" ∷ s.name ∷ []) ++ flat_map layer_text s.layers
    ++ text_line (codes "end" ∷ [])

abbrev pub turn_name : Turn → List ℕ
turn_name t = axes_name t.x t.y t.z

abbrev pub piece_words : Piece → List (List ℕ)
piece_words p =
    codes "piece" ∷ p.name ∷ p.shape ∷ turn_name p.turn ∷ signed_decimal p.position.x
    ∷ signed_decimal p.position.y ∷ signed_decimal p.position.z ∷ []

abbrev pub piece_text : Piece → List ℕ
piece_text p = text_line (piece_words p)

-- The one text of an assembly.
abbrev pub text_of : Assembly → List ℕ
text_of a = text_line (codes "assembly" ∷ a.name ∷ []) ++ flat_map shape_text a.shapes
    ++ flat_map piece_text a.pieces

-- The cells

-- the cells of a row, from x on: `#` is 35
abbrev pub row_cells : ℕ → ℕ → ℕ → List ℕ → List Cell
row_cells x y z [] = []
row_cells x y z (mark ∷ row) = if mark == 35
    then (at (pos x) (pos y) (pos z) ∷ row_cells (suc x) y z row) else row_cells (suc x) y z row

-- the cells of a layer's rows, from y on
abbrev pub layer_cells : ℕ → ℕ → List (List ℕ) → List Cell
layer_cells y z [] = []
layer_cells y z (row ∷ rows) = row_cells 0 y z row ++ layer_cells (suc y) z rows

-- the cells of layers, from z on
abbrev pub cells_from : ℕ → List (List (List ℕ)) → List Cell
cells_from z [] = []
cells_from z (layer ∷ layers) = layer_cells 0 z layer ++ cells_from (suc z) layers

-- the cells of a drawing: layers upwards, in each its rows, in each x rising
abbrev pub drawn_cells : List (List (List ℕ)) → List Cell
drawn_cells layers = cells_from 0 layers

-- the sides of a drawing's box: the width of its first row, the number of rows of its first layer,
-- and that of its layers
abbrev pub drawn_sides : List (List (List ℕ)) → Cell
drawn_sides layers =
    let rows = slice_index_or layers 0 [] in
    at (pos (length (slice_index_or rows 0 []))) (pos (length rows)) (pos (length layers))

-- a piece's cells at home: its shape's, turned and moved
abbrev pub home_cells : Turn → Cell → List Cell → List Cell
home_cells t position cells = map (λ c. plus (turned t.x t.y t.z c) position) cells

-- the piece is of one of the shapes, and these are its cells at home
abbrev pub HasCells : List Drawing → Piece → List Cell → Type 0
HasCells shapes p cells = (s : Drawing) × Contains shapes s × (s.name ≡ p.shape)
    × (cells ≡ home_cells p.turn p.position (drawn_cells s.layers))

-- What is an assembly

abbrev pub IsMark : ℕ → Type 0
IsMark b = (b ≡ 35) ⊎ (b ≡ 46)

-- each row is as long as any other, and each layer has as many rows, within the limits
pub record IsDrawing (s : Drawing) : Type 0 where
  pub name : IsName s.name
  pub layers : (1 ≤ length s.layers) × (length s.layers ≤ 16)
  pub rows : (height : ℕ) × (1 ≤ height) × (height ≤ 16) × All (λ layer.
      length layer ≡ height) s.layers
  pub width : (width : ℕ) × (1 ≤ width) × (width ≤ 16)
      × All (All (λ (row : List ℕ). length row ≡ width)) s.layers
  pub marks : All (All (All IsMark)) s.layers
  pub cells : (1 ≤ length (drawn_cells s.layers)) × (length (drawn_cells s.layers) ≤ 512)

abbrev pub IsTurn : Turn → Type 0
IsTurn t = IsRotation t.x t.y t.z

-- a coordinate of a position
pub record IsCoordinate (z : ℤ) : Type 0 where
  pub low : neg_ℤ (pos 64) ≤ℤ z
  pub high : z ≤ℤ pos 64

abbrev pub IsPosition : Cell → Type 0
IsPosition c = IsCoordinate c.x × IsCoordinate c.y × IsCoordinate c.z

-- the words are the coordinates of the position
abbrev pub IsPositionText : List ℕ → List ℕ → List ℕ → Cell → Type 0
IsPositionText x y z c =
    IsPosition c × (x ≡ signed_decimal c.x) × (y ≡ signed_decimal c.y) × (z ≡ signed_decimal c.z)

-- one of the shapes has the name
abbrev pub IsShapeName : List Drawing → List ℕ → Type 0
IsShapeName shapes name = Any (λ (s : Drawing). s.name ≡ name) shapes

-- one of the pieces has the name
abbrev pub IsPieceName : List Piece → List ℕ → Type 0
IsPieceName pieces name = Any (λ (p : Piece). p.name ≡ name) pieces

pub record IsPiece (shapes : List Drawing) (p : Piece) : Type 0 where
  pub name : IsName p.name
  pub shape : IsShapeName shapes p.shape
  pub turn : IsTurn p.turn
  pub position : IsPosition p.position

-- the pieces share a home cell
abbrev pub Shares : List Drawing → Piece → Piece → Type 0
Shares shapes p q = (ps : List Cell) × (qs : List Cell) × HasCells shapes p ps
    × HasCells shapes q qs × Overlap ps qs

pub record IsAssembly (a : Assembly) : Type 0 where
  pub name : IsName a.name
  pub shapes : (1 ≤ length a.shapes) × (length a.shapes ≤ 32)
  pub pieces : (2 ≤ length a.pieces) × (length a.pieces ≤ 32)
  pub each_shape : All IsDrawing a.shapes
  pub each_piece : All (IsPiece a.shapes) a.pieces
  pub shape_names : AllPairs (λ (s t : Drawing). s.name ≢ t.name) a.shapes
  pub piece_names : AllPairs (λ (p q : Piece). p.name ≢ q.name) a.pieces
  pub disjoint : AllPairs (λ p q. ¬ Shares a.shapes p q) a.pieces

-- The text is that of the assembly.
abbrev pub IsText : List ℕ → Assembly → Type 0
IsText text a = IsAssembly a × (text ≡ text_of a)
