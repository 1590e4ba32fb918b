-- For crates above: the cells at home that an assembly's pieces have.
use Rattle.std.proofs.Common.{◌≡◌, ◌<◌, ◌∙◌, ℕ, zero, suc, List, [], ◌∷◌, length, map, get_or, refl, sym, ap, subst, inl, inr, arith, Bool, true, false}
use Rattle.std.specs.Prelude.{Some, Option, slice_get, IfSome, bytes_eq, All}
use Rattle.std.proofs.lemmas.Option.{slice_get-map, slice_get_cases, same_Some, none-some}
use Rattle.std.proofs.lemmas.List.Elements.{All-head, All-tail, All-contains, Contains-append_right}
use Rattle.std.proofs.lemmas.Slice.Eq.{bytes_eq-Decides}
use Rattle.burr_voxels.specs.declared.cell.Cell.{Cell}
use Rattle.burr_assembly.specs.Rules.Text.{Assembly, IsAssembly, Drawing, Piece, IsPiece, HasCells}
use Rattle.burr_assembly.proofs.Sharing.{one_cells}
use Rattle.burr_assembly.specs.Rules.Homes.{HasHome}
use Rattle.burr_assembly.specs.Rules.Homes.{HaveCells}
use Rattle.burr_assembly.specs.Rules.Homes.{home_of, homes_of}

-- the cells of the first shape of this name
home_of_named : (s : Drawing) (shapes : List Drawing) (p : Piece) → s.name ≡ p.shape → HasCells (s ∷ shapes) p (home_of (s ∷ shapes) p)
home_of_named s shapes p named = (s, (0, omega arith, refl), named, rw ((bytes_eq-Decides s.name p.shape).1 named) refl)

home_of_after : (s : Drawing) (shapes : List Drawing) (p : Piece) → bytes_eq s.name p.shape ≡ false → HasCells shapes p (home_of shapes p) → HasCells (s ∷ shapes) p (home_of (s ∷ shapes) p)
home_of_after s shapes p other (t, has, named, cells) = (t, Contains-append_right (s ∷ []) shapes t has, named, rw other cells)

home_of_first : (test : Bool) (s : Drawing) (shapes : List Drawing) (p : Piece) → bytes_eq s.name p.shape ≡ test → HasCells shapes p (home_of shapes p) → HasCells (s ∷ shapes) p (home_of (s ∷ shapes) p)
home_of_first true s shapes p same home = home_of_named s shapes p ((bytes_eq-Decides s.name p.shape).0 same)
home_of_first false s shapes p other home = home_of_after s shapes p other home

-- where a shape has the name, the cells are those of the piece
pub home_has : (shapes : List Drawing) (p : Piece) (k : ℕ) (t : Drawing) → k < length shapes → get_or shapes k t ≡ t → t.name ≡ p.shape → HasCells shapes p (home_of shapes p)
home_has [] p k t inside at named = absurd (omega arith)
home_has (s ∷ shapes) p zero t inside is named = home_of_named s shapes p (ap (λ (d : Drawing). d.name) is ∙ named)
home_has (s ∷ shapes) p (suc k) t inside is named = home_of_first (bytes_eq s.name p.shape) s shapes p refl (home_has shapes p k t (omega arith) is named)

-- the cells of a piece are those of the function
pub home_is : (a : Assembly) (p : Piece) (cells : List Cell) → IsAssembly a → HasCells a.shapes p cells → cells ≡ home_of a.shapes p
home_is a p cells whole (t, (k, inside, is), named, cells_are) =
    one_cells a.shapes p cells (home_of a.shapes p) whole.shape_names (t, (k, inside, is), named, cells_are) (home_has a.shapes p k t inside is named)

pub has_home : (a : Assembly) (p : ℕ) (cells : List Cell) → IsAssembly a → p < length a.pieces → IfSome (slice_get a.pieces p) (λ piece. HasCells a.shapes piece cells) → HasHome (homes_of a) p cells
has_home a p cells whole inside has = elim (slice_get_cases a.pieces p).1 [
  | inl found ↦
      let is : HasCells a.shapes found.0 cells = subst (λ (o : Option Piece). IfSome o (λ piece. HasCells a.shapes piece cells)) found.2 has in
      rw (slice_get-map (home_of a.shapes) a.pieces p, found.2) (ap Some (sym (home_is a found.0 cells whole is)))
  | inr past ↦ absurd (omega (arith, past.0, inside))
]

-- the cells of a home are those of a piece
pub piece_of_home : (a : Assembly) (p : ℕ) (cells : List Cell) → IsAssembly a → HasHome (homes_of a) p cells → (piece : Piece) × IsPiece a.shapes piece × HasCells a.shapes piece cells
piece_of_home a p cells whole home = elim (slice_get_cases a.pieces p).1 [
  | inl (piece, inside, found, at) ↦
      let is : IsPiece a.shapes piece = All-contains (IsPiece a.shapes) a.pieces piece whole.each_piece (p, inside, at) in
      let given = rw (slice_get-map (home_of a.shapes) a.pieces p, found) at home in
      let named = is.shape in
      (piece, is, subst (HasCells a.shapes piece) (same_Some _ _ given) (home_has a.shapes piece named.0 named.1 named.2 named.3 named.4))
  | inr (past, none) ↦ absurd (none-some cells (rw (slice_get-map (home_of a.shapes) a.pieces p, none) at home))
]

-- each piece has its cells
pub have_homes : (a : Assembly) → IsAssembly a → HaveCells a a.pieces (homes_of a)
have_homes a whole = each a.pieces whole.each_piece
  where
    each : (pieces : List Piece) → All (IsPiece a.shapes) pieces → HaveCells a pieces (map (home_of a.shapes) pieces)
    each [] all = tt
    each (p ∷ pieces) all =
        let named = (All-head (IsPiece a.shapes) p pieces all).shape in
        (home_has a.shapes p named.0 named.1 named.2 named.3 named.4, each pieces (All-tail (IsPiece a.shapes) p pieces all))
