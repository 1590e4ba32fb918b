-- The text of the lines so far, and how a line makes it longer.
use Rattle.std.proofs.Common.{◌≡◌, List, [], ◌∷◌, ◌++◌, codes, refl, sym, ap, ◌∙◌, append_assoc, ℕ}
use Rattle.std.specs.Prelude.{Option, Some, None}
use Rattle.std.specs.Fmt.{signed_decimal}
use Rattle.std.specs.List.{flat_map}
use Rattle.std.proofs.lemmas.List.{append-nil, flat_map_more}
use Rattle.std.proofs.lemmas.Grind.{flat_map-append}
use Rattle.burr_voxels.specs.declared.cell.Cell.{Cell}
use Rattle.burr_assembly.specs.Rules.Text.{Drawing, Turn, Piece, layer_text, shape_text, piece_text, turn_name}
use Rattle.burr_text.specs.Words.{text_line}
use Rattle.burr_assembly.specs.Rules.Lines.{PieceWords, PieceLine, form_text}
use Rattle.burr_assembly.specs.Rules.Faults.{IsPositionOf}

-- the name of the assembly, and the shapes that have ended
abbrev pub shapes_text : List ℕ → List Drawing → List ℕ
shapes_text name shapes = text_line (codes "assembly" ∷ name ∷ []) ++ flat_map shape_text shapes

-- the layer that has begun, if one has
abbrev pub begun_text : Option (List (List ℕ)) → List ℕ
begun_text None = []
begun_text (Some rows) = layer_text rows

-- one more is written after the others
pub more_text : {X : Type 0} (f : X → List ℕ) (before : List ℕ) (xs : List X) (x : X) (words : List ℕ) → f x ≡ words ++ 10 ∷ []
    → before ++ flat_map f (xs ++ x ∷ []) ≡ before ++ flat_map f xs ++ words ++ 10 ∷ []
more_text f before xs x words e = sym (flat_map_more f before xs x) ∙ ap (λ t. (before ++ flat_map f xs) ++ t) e ∙ sym (append_assoc (before ++ flat_map f xs) words (10 ∷ []))

-- a shape begins, with nothing after its name
pub shape_text_begins : (before words : List ℕ) → before ++ (words ++ 10 ∷ []) ++ [] ++ [] ≡ before ++ words ++ 10 ∷ []
shape_text_begins before words = simp (append_assoc, append-nil)

-- the first layer begins
pub first_layer_text : (before words : List ℕ) → before ++ ((words ++ 10 ∷ []) ++ []) ≡ (before ++ []) ++ words ++ 10 ∷ []
first_layer_text before words = simp (append_assoc, append-nil)

-- a layer ends and one more begins
pub next_layer_text : (before words : List ℕ) (layers : List (List (List ℕ))) (rows : List (List ℕ))
    → before ++ flat_map layer_text (layers ++ rows ∷ []) ++ ((words ++ 10 ∷ []) ++ []) ≡ before ++ flat_map layer_text layers ++ layer_text rows ++ words ++ 10 ∷ []
next_layer_text before words layers rows = rw (flat_map-append layer_text layers (rows ∷ [])) (regroup before (flat_map layer_text layers) (layer_text rows) words)
  where
    regroup : (before layers rows words : List ℕ) → before ++ (layers ++ (rows ++ [])) ++ ((words ++ 10 ∷ []) ++ []) ≡ before ++ layers ++ rows ++ words ++ 10 ∷ []
    regroup before layers rows words = simp (append_assoc, append-nil)

-- one more row
pub row_text_more : (before : List ℕ) (rows : List (List ℕ)) (marks : List ℕ) → before ++ layer_text (rows ++ marks ∷ []) ≡ before ++ layer_text rows ++ marks ++ 10 ∷ []
row_text_more before rows marks =
    ap (λ t. before ++ t) (more_text (λ (row : List ℕ). row ++ 10 ∷ []) (text_line (codes "layer" ∷ [])) rows marks marks refl) ∙ regroup before (layer_text rows) marks
  where
    regroup : (before rows marks : List ℕ) → before ++ (rows ++ marks ++ 10 ∷ []) ≡ before ++ rows ++ marks ++ 10 ∷ []
    regroup before rows marks = simp append_assoc

-- a shape ends
pub shape_text_ends : (before head words : List ℕ) (layers : List (List (List ℕ))) (rows : List (List ℕ))
    → before ++ (head ++ flat_map layer_text (layers ++ rows ∷ []) ++ (words ++ 10 ∷ [])) ≡ before ++ head ++ flat_map layer_text layers ++ layer_text rows ++ words ++ 10 ∷ []
shape_text_ends before head words layers rows = rw (flat_map-append layer_text layers (rows ∷ [])) (regroup before head (flat_map layer_text layers) (layer_text rows) words)
  where
    regroup : (before head layers rows words : List ℕ) → before ++ (head ++ (layers ++ (rows ++ [])) ++ (words ++ 10 ∷ [])) ≡ before ++ head ++ layers ++ rows ++ words ++ 10 ∷ []
    regroup before head layers rows words = simp (append_assoc, append-nil)

-- the piece of a line's words, its turn and its position
abbrev pub piece_of : PieceWords → Turn → Cell → Piece
piece_of w t position = record { name = w.name; shape = w.shape; turn = t; position = position }

-- its line is that of the words
pub piece_line : (w : PieceWords) (t : Turn) (position : Cell) → w.orientation ≡ turn_name t → IsPositionOf w position → piece_text (piece_of w t position) ≡ form_text (PieceLine w) ++ 10 ∷ []
piece_line w t position e is = words (w.name) (w.shape) (turn_name t) w.orientation (signed_decimal position.x) w.x (signed_decimal position.y) w.y (signed_decimal position.z) w.z e is.1 is.2 is.3
  where
    words : (name shape turn turn_word x x_word y y_word z z_word : List ℕ) → turn_word ≡ turn → x_word ≡ x → y_word ≡ y → z_word ≡ z
        → text_line (codes "piece" ∷ name ∷ shape ∷ turn ∷ x ∷ y ∷ z ∷ []) ≡ text_line (codes "piece" ∷ name ∷ shape ∷ turn_word ∷ x_word ∷ y_word ∷ z_word ∷ [])
    words name shape turn turn_word x x_word y y_word z z_word of_turn of_x of_y of_z = rw (of_turn, of_x, of_y, of_z)
