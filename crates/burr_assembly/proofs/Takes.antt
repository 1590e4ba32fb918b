-- The text of each assembly is taken.
use Rattle.std.proofs.Common.{ℕ, ◌+◌, ◌≤◌, List, [], ◌∷◌, ◌++◌, length, Ok, codes, flat_map, refl, sym, subst, ◌∙◌, arith, inr, append-nil}
use Rattle.burr_assembly.specs.Rules.Text.{Assembly, shape_text, piece_text, text_of, IsAssembly, IsText}
use Rattle.burr_text.specs.Words.{text_line}
use Rattle.burr_assembly.specs.Rules.Lines.{AssemblyLine}
use Rattle.burr_assembly.specs.Rules.Faults.{Blank, Shapes, Pieces, TextGives, ends}
use Rattle.burr_assembly.proofs.Clear.{word_of_name}
use Rattle.burr_assembly.proofs.Stretches.{Goes, goes_further, goes_line}
use Rattle.burr_assembly.proofs.TakesShapes.{goes_shapes}
use Rattle.burr_assembly.proofs.TakesPieces.{goes_pieces}

-- the first line and the shapes
goes_name_and_shapes : (a : Assembly) → IsAssembly a → Goes Blank (text_line (codes "assembly" ∷ a.name ∷ []) ++ flat_map shape_text a.shapes) (Shapes a.name a.shapes)
goes_name_and_shapes a is =
    goes_further Blank (Shapes a.name []) (Shapes a.name a.shapes) (text_line (codes "assembly" ∷ a.name ∷ [])) (flat_map shape_text a.shapes)
    (goes_line Blank (Shapes a.name []) (AssemblyLine a.name) (word_of_name a.name is.name) (λ n. inr (is.name, refl)))
    (goes_shapes a.name a.shapes [] is.each_shape is.shape_names (few (length a.shapes) is.shapes.1))
  where
    few : (n : ℕ) → n ≤ 32 → 0 + n ≤ 32
    few n le = omega arith

-- the whole text
goes_text : (a : Assembly) → IsAssembly a → Goes Blank (text_of a) (Pieces a.name a.shapes a.pieces)
goes_text a is =
    goes_further Blank (Shapes a.name a.shapes) (Pieces a.name a.shapes a.pieces) (text_line (codes "assembly" ∷ a.name ∷ []) ++ flat_map shape_text a.shapes) (flat_map piece_text a.pieces)
    (goes_name_and_shapes a is)
    (goes_pieces a.name a.shapes is.shapes.0 (λ k d lt. (is.each_shape k d lt).name) a.pieces (some (length a.pieces) is.pieces.0) is.each_piece is.piece_names is.disjoint is.pieces.1)
  where
    some : (n : ℕ) → 2 ≤ n → 1 ≤ n
    some n le = omega arith

-- The text of each assembly is taken.
pub text_complete : (text : List ℕ) (a : Assembly) → IsText text a → TextGives 1 Blank text (Ok a)
text_complete text a is =
    subst (λ (whole : List ℕ). TextGives 1 Blank whole (Ok a)) (append-nil (text_of a) ∙ sym is.1)
    ((goes_text a is.0).on [] (Ok a) (λ m. ends m (Pieces a.name a.shapes a.pieces) (Ok a) (inr (is.0.pieces.0, refl))) 1)
