-- The lines of pieces are taken one after the other.
use Rattle.std.proofs.Common.{◌≢◌, ℕ, suc, ◌+◌, ◌<◌, ◌≤◌, List, [], ◌∷◌, ◌++◌, length, All, AllPairs, Ok, flat_map, refl, sym, subst, ap, ◌∙◌, arith, inr, append_assoc, append-nil, lit<}
use Rattle.std.proofs.lemmas.List.{length-append}
use Rattle.std.proofs.lemmas.List.Elements.{All-head, All-tail}
use Rattle.std.specs.Fmt.{signed_decimal}
use Rattle.burr_text.specs.Names.{IsName}
use Rattle.burr_assembly.specs.Rules.Text.{Drawing, Piece, turn_name, piece_text, IsPiece, IsShapeName, IsPieceName, Shares}
use Rattle.burr_assembly.specs.Rules.Lines.{PieceWords, PieceLine}
use Rattle.burr_assembly.specs.Rules.Faults.{Beginning, Shapes, Pieces, FormGives, PieceRule, IsFirstSharing}
use Rattle.burr_assembly.proofs.Clear.{word_of_name, word_of_turn}
use Rattle.burr_assembly.proofs.Numbers.{number_of_coordinate}
use Rattle.burr_assembly.proofs.Stretches.{Goes, goes_nowhere, goes_further, goes_line, goes_to, pair_before}

-- the words of a piece's line
abbrev words_of : Piece → PieceWords
words_of p = record { name = p.name; shape = p.shape; orientation = turn_name p.turn; x = signed_decimal p.position.x; y = signed_decimal p.position.y; z = signed_decimal p.position.z }

-- the two have other names
abbrev DifferInName : Piece → Piece → Type 0
DifferInName p q = p.name ≢ q.name

-- the two share no cell
abbrev AreApart : List Drawing → Piece → Piece → Type 0
AreApart shapes p q = ¬ Shares shapes p q

-- a name that no piece before has
is_new_piece : (pieces : List Piece) (p : Piece) (more : List Piece) → AllPairs DifferInName (pieces ++ p ∷ more) → ¬ IsPieceName pieces p.name
is_new_piece pieces p more pairs (k, x, lt, at, same) = pair_before DifferInName pieces p more pairs k x lt (ap (λ (q : Piece). q.name) at ∙ same)

-- no piece before shares a cell
none_shares : (shapes : List Drawing) (pieces : List Piece) (p : Piece) (more : List Piece) → AllPairs (AreApart shapes) (pieces ++ p ∷ more) → (q : ℕ) → ¬ IsFirstSharing shapes pieces p q
none_shares shapes pieces p more pairs q f = pair_before (AreApart shapes) pieces p more pairs q p f.inside f.shares

-- a name that a shape has is a name
shape_word : (shapes : List Drawing) (name : List ℕ) → All (λ (s : Drawing). IsName s.name) shapes → IsShapeName shapes name → IsName name
shape_word shapes name names (k, x, lt, at, same) = subst IsName (ap (λ (s : Drawing). s.name) at ∙ same) (names k x lt)

-- the rule of a piece's line
piece_rule : (n : ℕ) (name : List ℕ) (shapes : List Drawing) (pieces : List Piece) (p : Piece) (more : List Piece) → IsPiece shapes p → length pieces < 32
    → AllPairs DifferInName (pieces ++ p ∷ more) → AllPairs (AreApart shapes) (pieces ++ p ∷ more) → PieceRule n name shapes pieces (words_of p) (Ok (Pieces name shapes (pieces ++ p ∷ [])))
piece_rule n name shapes pieces p more is room names apart =
    inr (room, inr ((is.name, is_new_piece pieces p more names), inr (is.shape, inr (p.turn, (is.turn, refl), inr (p.position, (is.position, refl, refl, refl), inr (none_shares shapes pieces p more apart, refl))))))

-- a piece, after shapes or pieces
goes_piece : (name : List ℕ) (shapes : List Drawing) (pieces : List Piece) (p : Piece) → All (λ (s : Drawing). IsName s.name) shapes → IsPiece shapes p
    → (from : Beginning) → ((n : ℕ) → FormGives n from (PieceLine (words_of p)) (Ok (Pieces name shapes (pieces ++ p ∷ []))))
    → Goes from (piece_text p) (Pieces name shapes (pieces ++ p ∷ []))
goes_piece name shapes pieces p names is from rule =
    goes_line from (Pieces name shapes (pieces ++ p ∷ [])) (PieceLine (words_of p)) (record {
      name = word_of_name p.name is.name;
      shape = word_of_name p.shape (shape_word shapes p.shape names is.shape);
      orientation = word_of_turn p.turn;
      x = number_of_coordinate p.position.x is.position.0;
      y = number_of_coordinate p.position.y is.position.1;
      z = number_of_coordinate p.position.z is.position.2;
    }) rule

-- the pieces still to come, after the first
goes_others : (name : List ℕ) (shapes : List Drawing) → All (λ (s : Drawing). IsName s.name) shapes → (more pieces : List Piece) → All (IsPiece shapes) more
    → AllPairs DifferInName (pieces ++ more) → AllPairs (AreApart shapes) (pieces ++ more) → length pieces + length more ≤ 32
    → Goes (Pieces name shapes pieces) (flat_map piece_text more) (Pieces name shapes (pieces ++ more))
goes_others name shapes words [] pieces are names apart room =
    goes_to (Pieces name shapes pieces) (Pieces name shapes pieces) (Pieces name shapes (pieces ++ [])) [] (ap (λ (all : List Piece). Pieces name shapes all) (sym (append-nil pieces))) (goes_nowhere (Pieces name shapes pieces))
goes_others name shapes words (p ∷ more) pieces are names apart room =
    let is = All-head (IsPiece shapes) p more are in
    let e = append_assoc pieces (p ∷ []) more in
    goes_to (Pieces name shapes pieces) (Pieces name shapes ((pieces ++ p ∷ []) ++ more)) (Pieces name shapes (pieces ++ p ∷ more)) (piece_text p ++ flat_map piece_text more)
    (ap (λ (all : List Piece). Pieces name shapes all) e)
    (goes_further (Pieces name shapes pieces) (Pieces name shapes (pieces ++ p ∷ [])) (Pieces name shapes ((pieces ++ p ∷ []) ++ more)) (piece_text p) (flat_map piece_text more)
    (goes_piece name shapes pieces p words is (Pieces name shapes pieces) (λ n. piece_rule n name shapes pieces p more is (room_for (length pieces) (length more) room) names apart))
    (goes_others name shapes words more (pieces ++ p ∷ []) (All-tail (IsPiece shapes) p more are) (subst (AllPairs DifferInName) (sym e) names) (subst (AllPairs (AreApart shapes)) (sym e) apart)
    (one_more pieces p (length more) room)))
  where
    room_for : (a b : ℕ) → a + suc b ≤ 32 → a < 32
    room_for a b le = omega arith

    one_more : (pieces : List Piece) (p : Piece) (b : ℕ) → length pieces + suc b ≤ 32 → length (pieces ++ p ∷ []) + b ≤ 32
    one_more pieces p b le = omega (arith, length-append pieces (p ∷ []))

-- all pieces, after the shapes
pub goes_pieces : (name : List ℕ) (shapes : List Drawing) → 1 ≤ length shapes → All (λ (s : Drawing). IsName s.name) shapes → (pieces : List Piece) → 1 ≤ length pieces → All (IsPiece shapes) pieces
    → AllPairs DifferInName pieces → AllPairs (AreApart shapes) pieces → length pieces ≤ 32
    → Goes (Shapes name shapes) (flat_map piece_text pieces) (Pieces name shapes pieces)
goes_pieces name [] some words pieces any are names apart room = absurd (omega arith)
goes_pieces name (s ∷ shapes) some words [] any are names apart room = absurd (omega arith)
goes_pieces name (s ∷ shapes) some words (p ∷ more) any are names apart room =
    let is = All-head (IsPiece (s ∷ shapes)) p more are in
    goes_further (Shapes name (s ∷ shapes)) (Pieces name (s ∷ shapes) (p ∷ [])) (Pieces name (s ∷ shapes) (p ∷ more)) (piece_text p) (flat_map piece_text more)
    (goes_piece name (s ∷ shapes) [] p words is (Shapes name (s ∷ shapes)) (λ n. piece_rule n name (s ∷ shapes) [] p more is (lit< tt) names apart))
    (goes_others name (s ∷ shapes) words more (p ∷ []) (All-tail (IsPiece (s ∷ shapes)) p more are) names apart (one_more (length more) room))
  where
    one_more : (b : ℕ) → suc b ≤ 32 → 1 + b ≤ 32
    one_more b le = omega arith
