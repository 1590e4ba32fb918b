-- Pieces that share a cell, by the cells that are kept with them.
use Rattle.std.proofs.Common.{◌≡◌, ◌≢◌, ◌<◌, ◌⊎◌, ℕ, List, [], ◌∷◌, ◌++◌, length, get_or, sym, ◌∙◌, ap, subst, arith, inl, inr, Option, Some, None}
use Rattle.std.proofs.lemmas.Option.{slice_get-get_or}
use Rattle.std.specs.Prelude.{IfSome, slice_get}
use Rattle.std.proofs.lemmas.List.{get_or-map, get_or_default, length-map, map-append}
use Rattle.std.specs.List.{Any}
use Rattle.std.proofs.lemmas.Bool.{cases_lt}
use native.Mathlib.Decide.{ℕ_discrete}
use Rattle.burr_voxels.specs.declared.cell.Cell.{Cell}
use Rattle.burr_voxels.specs.CellSets.{Overlap}
use Rattle.burr_assembly.specs.Rules.Text.{Drawing, Piece, HasCells, Shares, IsPieceName, home_cells, drawn_cells}
use Rattle.burr_assembly.specs.Views.HomedPieces.{HomedPiece, pieces_of, AreAtHome, IsFirstMeeting}
use Rattle.burr_assembly.specs.Rules.Faults.{IsFirstSharing}
use Rattle.burr_assembly.specs.Views.Drawings.{AreDistinct}

-- of two numbers that differ one is below the other
below_or : (i j : ℕ) → i ≢ j → (i < j) ⊎ (j < i)
below_or i j ne = elim (cases_lt i j) [ inl before ↦ inl before | inr after ↦ inr (omega arith) ]

-- a piece among the pieces that are kept with their cells
pub piece_at : (placed : List HomedPiece) (q : ℕ) (p : Piece) (d : HomedPiece) → q < length placed → get_or (pieces_of placed) q p ≡ (get_or placed q d).piece
piece_at placed q p d inside = get_or-map (λ (x : HomedPiece). x.piece) placed q d p inside

pub length-pieces_of : (placed : List HomedPiece) → length (pieces_of placed) ≡ length placed
length-pieces_of placed = length-map placed (λ (x : HomedPiece). x.piece)

-- a name of a piece is that of one of the pieces that are kept
pub kept_name : (placed : List HomedPiece) (name : List ℕ) → IsPieceName (pieces_of placed) name → Any (λ (p : HomedPiece). p.piece.name ≡ name) placed
kept_name placed name (k, x, inside, at, is) =
    let within : k < length placed = subst (λ (n : ℕ). k < n) (length-pieces_of placed) inside in
    let d : HomedPiece = record { piece = x; cells = [] } in
    let kept : HomedPiece = get_or placed k d in
    let same : kept.piece ≡ x = sym (piece_at placed k x d within) ∙ at in
    (k, kept, within, get_or_default placed k kept d within, ap (λ (p : Piece). p.name) same ∙ is)

-- and the other way round
pub name_of_kept : (placed : List HomedPiece) (name : List ℕ) → Any (λ (p : HomedPiece). p.piece.name ≡ name) placed → IsPieceName (pieces_of placed) name
name_of_kept placed name (k, p, inside, at, is) =
    (k, p.piece, subst (λ (n : ℕ). k < n) (sym (length-pieces_of placed)) inside, piece_at placed k p.piece p inside ∙ ap (λ (x : HomedPiece). x.piece) at, is)

-- two shapes of one name, in two places, are none among distinct ones
two_names : (shapes : List Drawing) (i j : ℕ) (s t : Drawing) → AreDistinct shapes → i < j → j < length shapes
    → get_or shapes i s ≡ s → get_or shapes j t ≡ t → s.name ≡ t.name → ⊥
two_names shapes i j s t distinct before inside at_i at_j same =
    let within : i < length shapes = omega arith in
    let first : get_or shapes i t ≡ s = get_or_default shapes i t s within ∙ at_i in
    distinct i j t before inside (ap (λ (d : Drawing). d.name) first ∙ same ∙ sym (ap (λ (d : Drawing). d.name) at_j))

-- among distinct shapes one has a name
one_shape : (shapes : List Drawing) (i j : ℕ) (s t : Drawing) → AreDistinct shapes → i < length shapes → j < length shapes
    → get_or shapes i s ≡ s → get_or shapes j t ≡ t → s.name ≡ t.name → s ≡ t
one_shape shapes i j s t distinct in_i in_j at_i at_j same =
    elim (ℕ_discrete i j) [
      | yes e ↦ sym at_i ∙ ap (λ (k : ℕ). get_or shapes k s) e ∙ get_or_default shapes j s t in_j ∙ at_j
      | no ne ↦ absurd (apart (below_or i j ne))
    ]
  where
    apart : (i < j) ⊎ (j < i) → ⊥
    apart (inl before) = two_names shapes i j s t distinct before in_j at_i at_j same
    apart (inr after) = two_names shapes j i t s distinct after in_i at_j at_i (sym same)

-- the cells of a piece at home are one list
pub one_cells : (shapes : List Drawing) (p : Piece) (ps qs : List Cell) → AreDistinct shapes → HasCells shapes p ps → HasCells shapes p qs → ps ≡ qs
one_cells shapes p ps qs distinct (s, (i, in_i, at_i), of_s, cells_s) (t, (j, in_j, at_j), of_t, cells_t) =
    let same : s ≡ t = one_shape shapes i j s t distinct in_i in_j at_i at_j (of_s ∙ sym of_t) in
    cells_s ∙ ap (λ (d : Drawing). home_cells p.turn p.position (drawn_cells d.layers)) same ∙ sym cells_t

-- pieces share a cell exactly where the cells that are kept with them overlap
pub shares_of_overlap : (shapes : List Drawing) (p q : Piece) (ps qs : List Cell) → HasCells shapes p ps → HasCells shapes q qs → Overlap ps qs → Shares shapes p q
shares_of_overlap shapes p q ps qs home_p home_q both = (ps, qs, home_p, home_q, both)

pub overlap_of_shares : (shapes : List Drawing) (p q : Piece) (ps qs : List Cell) → AreDistinct shapes → HasCells shapes p ps → HasCells shapes q qs → Shares shapes p q → Overlap ps qs
overlap_of_shares shapes p q ps qs distinct home_p home_q (xs, ys, home_x, home_y, both) =
    subst (λ (l : List Cell). Overlap l qs) (one_cells shapes p xs ps distinct home_x home_p)
    (subst (λ (l : List Cell). Overlap xs l) (one_cells shapes q ys qs distinct home_y home_q) both)

-- the first piece that has one of the cells is the first that shares a cell
pub first_shares : (shapes : List Drawing) (placed : List HomedPiece) (p : Piece) (cells : List Cell) (q : ℕ)
    → AreDistinct shapes → AreAtHome shapes placed → HasCells shapes p cells → IsFirstMeeting placed cells (Some q) → IsFirstSharing shapes (pieces_of placed) p q
first_shares shapes placed p cells q distinct homes home (inside, meets, first) =
    let d : HomedPiece = record { piece = p; cells = cells } in
    record {
      inside = subst (λ (n : ℕ). q < n) (sym (length-pieces_of placed)) inside;
      shares = subst (λ (x : Piece). Shares shapes x p) (sym (piece_at placed q p d inside)) (shares_of_overlap shapes (get_or placed q d).piece p (get_or placed q d).cells cells (homes q d inside) home (meets d));
      first = λ r before shares.
          let within : r < length placed = omega arith in
          first r d before (overlap_of_shares shapes (get_or placed r d).piece p (get_or placed r d).cells cells distinct (homes r d within) home (subst (λ (x : Piece). Shares shapes x p) (piece_at placed r p d within) shares));
    }

-- where no piece has one of the cells, none shares a cell
pub none_shares : (shapes : List Drawing) (placed : List HomedPiece) (p : Piece) (cells : List Cell)
    → AreDistinct shapes → AreAtHome shapes placed → HasCells shapes p cells → IsFirstMeeting placed cells None → (q : ℕ) → ¬ IsFirstSharing shapes (pieces_of placed) p q
none_shares shapes placed p cells distinct homes home none q first =
    let d : HomedPiece = record { piece = p; cells = cells } in
    let within : q < length placed = subst (λ (n : ℕ). q < n) (length-pieces_of placed) first.inside in
    none q d within (overlap_of_shares shapes (get_or placed q d).piece p (get_or placed q d).cells cells distinct (homes q d within) home (subst (λ (x : Piece). Shares shapes x p) (piece_at placed q p d within) first.shares))

-- one piece more that is kept with its cells
pub pieces_of-push : (placed : List HomedPiece) (p : HomedPiece) → pieces_of (placed ++ p ∷ []) ≡ pieces_of placed ++ p.piece ∷ []
pieces_of-push placed p = map-append (λ (x : HomedPiece). x.piece) placed (p ∷ [])

-- the cells that are kept with a piece are its cells at home
pub cells_at : (shapes : List Drawing) (placed : List HomedPiece) (k : ℕ) (x : HomedPiece) (cells : List Cell)
    → AreAtHome shapes placed → k < length placed → x ≡ get_or placed k x → cells ≡ x.cells
    → IfSome (slice_get (pieces_of placed) k) (λ p. HasCells shapes p cells)
cells_at shapes placed k x cells homes inside is same =
    let P : Option Piece → Type 0 = λ o. IfSome o (λ p. HasCells shapes p cells) in
    let within : k < length (pieces_of placed) = subst (λ (n : ℕ). k < n) (sym (length-pieces_of placed)) inside in
    let found = slice_get-get_or (pieces_of placed) k x.piece within ∙ ap (λ (p : Piece). Some p) (piece_at placed k x.piece x inside ∙ ap (λ (y : HomedPiece). y.piece) (sym is)) in
    let kept : HasCells shapes x.piece x.cells = subst (λ (y : HomedPiece). HasCells shapes y.piece y.cells) (sym is) (homes k x inside) in
    subst P (sym found) (subst (λ (l : List Cell). HasCells shapes x.piece l) (sym same) kept)
