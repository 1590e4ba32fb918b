-- What is known of the shapes and the pieces after the lines so far.
use Rattle.std.proofs.Common.{◌≡◌, ◌≢◌, ℕ, zero, suc, ◌<◌, ◌≤◌, List, [], ◌∷◌, ◌++◌, length, subst, arith, length-append}
use Rattle.std.specs.Prelude.{All, AllPairs, Any, Option, Some, None, slice_index_or}
use Rattle.std.proofs.lemmas.List.{get_or_default}
use Rattle.std.proofs.lemmas.List.Elements.{All-push}
use Rattle.std.proofs.lemmas.List.Quantifiers.{all_pairs_push}
use Rattle.burr_text.specs.Names.{IsName}
use Rattle.burr_assembly.specs.Rules.Text.{Drawing, Piece, IsDrawing, IsShapeName, IsPieceName, IsPiece, Shares}
use Rattle.burr_assembly.specs.Rules.Faults.{IsFirstSharing}
use Rattle.burr_assembly.proofs.Drawings.{AreRows}

-- the name of the assembly, and the shapes that have ended
pub record AreShapes (title : List ℕ) (shapes : List Drawing) : Type 0 where
  pub title_is : IsName title
  pub few : length shapes ≤ 32
  pub each : All IsDrawing shapes
  pub names : AllPairs (λ (s t : Drawing). s.name ≢ t.name) shapes

-- the rows of the layer that has begun, none where none has
abbrev pub begun_rows : Option (List (List ℕ)) → List (List ℕ)
begun_rows None = []
begun_rows (Some rows) = rows

-- finished shapes, and after them one that is being drawn, with a new name
pub record IsDrawn (title : List ℕ) (shapes : List Drawing) (d : Drawing) (begun : Option (List (List ℕ))) : Type 0 where
  pub before : AreShapes title shapes
  pub room : length shapes < 32
  pub name : IsName d.name
  pub new : ¬ IsShapeName shapes d.name
  pub rows : AreRows d.layers (begun_rows begun)

-- finished shapes, and after them the pieces; no two pieces share a cell
pub record ArePieces (name : List ℕ) (shapes : List Drawing) (pieces : List Piece) : Type 0 where
  pub before : AreShapes name shapes
  pub shape : 1 ≤ length shapes
  pub piece : 1 ≤ length pieces
  pub few : length pieces ≤ 32
  pub each : All (IsPiece shapes) pieces
  pub names : AllPairs (λ (p q : Piece). p.name ≢ q.name) pieces
  pub disjoint : AllPairs (λ p q. ¬ Shares shapes p q) pieces

-- a name that none has differs from each
pub new_name : {X : Type 0} (name_of : X → List ℕ) (xs : List X) (name : List ℕ) → ¬ Any (λ x. name_of x ≡ name) xs → All (λ x. name_of x ≢ name) xs
new_name name_of xs name none k d small same = none (k, slice_index_or xs k d, small, get_or_default xs k (slice_index_or xs k d) d small, same)

-- a shape that ends after these
pub shape_kept : (name : List ℕ) (shapes : List Drawing) (d : Drawing) → AreShapes name shapes → length shapes < 32 → IsDrawing d → ¬ IsShapeName shapes d.name → AreShapes name (shapes ++ d ∷ [])
shape_kept name shapes d b room is new = record {
  title_is = b.title_is;
  few = omega (arith, length-append shapes (d ∷ []));
  each = All-push IsDrawing shapes d b.each is;
  names = all_pairs_push (λ (s t : Drawing). s.name ≢ t.name) shapes d b.names (new_name (λ (s : Drawing). s.name) shapes d.name new);
}

-- where no piece is the earliest that shares a cell with this one, none shares one
pub none_shares : (shapes : List Drawing) (pieces : List Piece) (p : Piece) → ((q : ℕ) → ¬ IsFirstSharing shapes pieces p q) → (n r : ℕ) → r < n → r < length pieces → ¬ Shares shapes (slice_index_or pieces r p) p
none_shares shapes pieces p none zero r small inside shares = absurd (omega arith)
none_shares shapes pieces p none (suc n) r small inside shares =
    none r (record { inside = inside; shares = shares; first = λ k before. none_shares shapes pieces p none n k (omega arith) (omega arith) })

-- a piece after these that shares no cell with them
pub piece_kept : (name : List ℕ) (shapes : List Drawing) (pieces : List Piece) (p : Piece) → AreShapes name shapes → 1 ≤ length shapes
    → length pieces < 32 → All (IsPiece shapes) pieces → AllPairs (λ (p q : Piece). p.name ≢ q.name) pieces → AllPairs (λ p q. ¬ Shares shapes p q) pieces
    → IsPiece shapes p → ¬ IsPieceName pieces p.name → ((q : ℕ) → ¬ IsFirstSharing shapes pieces p q) → ArePieces name shapes (pieces ++ p ∷ [])
piece_kept name shapes pieces p b some room each names disjoint is new none = record {
  before = b;
  shape = some;
  piece = omega (arith, length-append pieces (p ∷ []));
  few = omega (arith, length-append pieces (p ∷ []));
  each = All-push (IsPiece shapes) pieces p each is;
  names = all_pairs_push (λ (p q : Piece). p.name ≢ q.name) pieces p names (new_name (λ (q : Piece). q.name) pieces p.name new);
  disjoint = all_pairs_push (λ p q. ¬ Shares shapes p q) pieces p disjoint
      (λ k d small. subst (λ (q : Piece). ¬ Shares shapes q p) (get_or_default pieces k p d small) (none_shares shapes pieces p none (suc k) k (omega arith) small));
}
