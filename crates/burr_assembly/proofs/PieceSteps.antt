-- The answers to a piece's line, one a way out.
use Rattle.std.proofs.Common.{◌≡◌, ◌<◌, ◌++◌, ◌∷◌, [], ℕ, List, length, refl, sym, ◌∙◌, subst, inl, inr, Ok, Err, Some, None}
use Rattle.std.specs.List.{Any}
use Rattle.burr_voxels.specs.declared.cell.Cell.{Cell}
use Rattle.burr_assembly.specs.declared.fault.AssemblyFault.TheVariants.{A2, A4, A5, A6, A8}
use Rattle.burr_text.specs.Names.{IsName}
use Rattle.burr_assembly.specs.Rules.Text.{Drawing, Turn, Piece, HasCells, IsTurn, IsShapeName, IsPositionText, turn_name}
use Rattle.burr_assembly.specs.Views.HomedPieces.{HomedPiece, pieces_of, AreAtHome, IsFirstMeeting}
use Rattle.burr_assembly.specs.Rules.Lines.{PieceWords}
use Rattle.burr_assembly.specs.Rules.Faults.{PieceRule, Pieces}
use Rattle.burr_assembly.specs.Views.Drawings.{AreDistinct}
use Rattle.burr_assembly.proofs.Sharing.{length-pieces_of, kept_name, name_of_kept, first_shares, none_shares}

-- the piece may come, and its name is right
pub record IsNamed (placed : List HomedPiece) (w : PieceWords) : Type 0 where
  pub room : length placed < 32
  pub name : IsName w.name
  pub free : ¬ Any (λ (p : HomedPiece). p.piece.name ≡ w.name) placed

-- the words are those of a turned and placed shape
pub record IsPlaced (shapes : List Drawing) (w : PieceWords) (t : Turn) (position : Cell) : Type 0 where
  pub shape : IsShapeName shapes w.shape
  pub turn : IsTurn t
  pub spelled : w.orientation ≡ turn_name t
  pub place : IsPositionText w.x w.y w.z position

-- the piece with these words
abbrev pub piece_of : PieceWords → Turn → Cell → Piece
piece_of w t position = record { name = w.name; shape = w.shape; turn = t; position = position }

-- no room is lost by leaving the cells out
room : (placed : List HomedPiece) (w : PieceWords) → IsNamed placed w → length (pieces_of placed) < 32
room placed w named = subst (λ (n : ℕ). n < 32) (sym (length-pieces_of placed)) named.room

pub wrong_name : (n : ℕ) (name : List ℕ) (shapes : List Drawing) (placed : List HomedPiece) (w : PieceWords)
    → length placed < 32 → ¬ (IsName w.name × (¬ Any (λ (p : HomedPiece). p.piece.name ≡ w.name) placed)) → PieceRule n name shapes (pieces_of placed) w (Err (A2 n))
wrong_name n name shapes placed w some wrong =
    inr (subst (λ (m : ℕ). m < 32) (sym (length-pieces_of placed)) some, inl (λ right. wrong (right.0, λ taken. right.1 (name_of_kept placed w.name taken)), refl))

pub unknown_shape : (n : ℕ) (name : List ℕ) (shapes : List Drawing) (placed : List HomedPiece) (w : PieceWords)
    → IsNamed placed w → ¬ IsShapeName shapes w.shape → PieceRule n name shapes (pieces_of placed) w (Err (A6 n))
unknown_shape n name shapes placed w named unknown =
    inr (room placed w named, inr ((named.name, λ taken. named.free (kept_name placed w.name taken)), inl (unknown, refl)))

pub unknown_turn : (n : ℕ) (name : List ℕ) (shapes : List Drawing) (placed : List HomedPiece) (w : PieceWords)
    → IsNamed placed w → IsShapeName shapes w.shape → ((t : Turn) → ¬ (IsTurn t × (w.orientation ≡ turn_name t)))
    → PieceRule n name shapes (pieces_of placed) w (Err (A4 n))
unknown_turn n name shapes placed w named known none =
    inr (room placed w named, inr ((named.name, λ taken. named.free (kept_name placed w.name taken)), inr (known, inl (none, refl))))

pub unknown_place : (n : ℕ) (name : List ℕ) (shapes : List Drawing) (placed : List HomedPiece) (w : PieceWords) (t : Turn)
    → IsNamed placed w → IsShapeName shapes w.shape → IsTurn t → w.orientation ≡ turn_name t → ((c : Cell) → ¬ IsPositionText w.x w.y w.z c)
    → PieceRule n name shapes (pieces_of placed) w (Err (A5 n))
unknown_place n name shapes placed w t named known turn spelled none =
    inr (room placed w named, inr ((named.name, λ taken. named.free (kept_name placed w.name taken)), inr (known, inr (t, (turn, spelled), inl (none, refl)))))

pub shared : (n : ℕ) (name : List ℕ) (shapes : List Drawing) (placed : List HomedPiece) (w : PieceWords) (t : Turn) (position : Cell) (cells : List Cell) (q count : ℕ)
    → IsNamed placed w → IsPlaced shapes w t position → AreDistinct shapes → AreAtHome shapes placed → HasCells shapes (piece_of w t position) cells
    → IsFirstMeeting placed cells (Some q) → count ≡ length placed → PieceRule n name shapes (pieces_of placed) w (Err (A8 n q count))
shared n name shapes placed w t position cells q count named is distinct homes home first counted =
    subst (λ (k : ℕ). PieceRule n name shapes (pieces_of placed) w (Err (A8 n q k))) (length-pieces_of placed ∙ sym counted)
    (inr (
      room placed w named,
      inr (
        (named.name, λ taken. named.free (kept_name placed w.name taken)),
        inr (
          is.shape,
          inr (
            t,
            (is.turn, is.spelled),
            inr (
              position,
              is.place,
              inl (q, first_shares shapes placed (piece_of w t position) cells q distinct homes home first, refl),
            ),
          ),
        ),
      ),
    ))

pub taken : (n : ℕ) (name : List ℕ) (shapes : List Drawing) (placed : List HomedPiece) (w : PieceWords) (t : Turn) (position : Cell) (cells : List Cell)
    → IsNamed placed w → IsPlaced shapes w t position → AreDistinct shapes → AreAtHome shapes placed → HasCells shapes (piece_of w t position) cells
    → IsFirstMeeting placed cells None → PieceRule n name shapes (pieces_of placed) w (Ok (Pieces name shapes (pieces_of placed ++ piece_of w t position ∷ [])))
taken n name shapes placed w t position cells named is distinct homes home none =
    inr (
      room placed w named,
      inr (
        (named.name, λ taken. named.free (kept_name placed w.name taken)),
        inr (
          is.shape,
          inr (
            t,
            (is.turn, is.spelled),
            inr (
              position,
              is.place,
              inr (none_shares shapes placed (piece_of w t position) cells distinct homes home none, refl),
            ),
          ),
        ),
      ),
    )
