-- The lines of an assembly text by their form alone.
use Rattle.burr_text.specs.Numbers.{IsNumber}
use Rattle.burr_text.specs.Words.{IsWord}
use Rattle.std.specs.Prelude.{◌≡◌, ◌≢◌, ℕ, List, [], ◌∷◌, ◌++◌, codes, All}
use Rattle.std.specs.List.{join_with_byte}
use Rattle.burr_assembly.specs.Rules.Text.{IsMark}

-- the words of a piece's line; its coordinates are numbers of any length
pub record PieceWords : Type 0 where
  pub name : List ℕ
  pub shape : List ℕ
  pub orientation : List ℕ
  pub x : List ℕ
  pub y : List ℕ
  pub z : List ℕ

pub data LineForm : Type 0 where
  AssemblyLine : (name : List ℕ) → LineForm
  ShapeLine : (name : List ℕ) → LineForm
  LayerLine : LineForm
  RowLine : (marks : List ℕ) → LineForm
  EndLine : LineForm
  PieceLine : (words : PieceWords) → LineForm

-- the words of a piece's line, after the first
abbrev pub piece_words_text : PieceWords → List ℕ
piece_words_text w = join_with_byte 32 (w.name ∷ w.shape ∷ w.orientation ∷ w.x ∷ w.y ∷ w.z ∷ [])

-- the bytes of a line, without its end
abbrev pub form_text : LineForm → List ℕ
form_text (AssemblyLine name) = join_with_byte 32 (codes "assembly" ∷ name ∷ [])
form_text (ShapeLine name) = join_with_byte 32 (codes "shape" ∷ name ∷ [])
form_text LayerLine = codes "layer"
form_text (RowLine marks) = marks
form_text EndLine = codes "end"
form_text (PieceLine w) = codes "piece" ++ 32 ∷ piece_words_text w

-- a row has a mark at least
abbrev pub IsMarks : List ℕ → Type 0
IsMarks bytes = (bytes ≢ []) × All IsMark bytes

-- the words of a piece's line are words, and its coordinates are numbers
pub record IsPieceWords (w : PieceWords) : Type 0 where
  pub name : IsWord w.name
  pub shape : IsWord w.shape
  pub orientation : IsWord w.orientation
  pub x : IsNumber w.x
  pub y : IsNumber w.y
  pub z : IsNumber w.z

abbrev pub IsLineForm : LineForm → Type 0
IsLineForm (AssemblyLine name) = IsWord name
IsLineForm (ShapeLine name) = IsWord name
IsLineForm LayerLine = Unit {0}
IsLineForm (RowLine marks) = IsMarks marks
IsLineForm EndLine = Unit {0}
IsLineForm (PieceLine w) = IsPieceWords w

-- the bytes are a line of this form
abbrev pub IsLine : List ℕ → LineForm → Type 0
IsLine bytes form = IsLineForm form × (bytes ≡ form_text form)
