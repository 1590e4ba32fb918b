-- The rows and layers of a shape that is being drawn.
use Rattle.std.proofs.Common.{◌≡◌, ◌≢◌, ℕ, ◌<◌, ◌≤◌, List, [], ◌∷◌, ◌++◌, length, refl, ◌∙◌, arith, length-append}
use Rattle.std.specs.Prelude.{All}
use Rattle.std.proofs.lemmas.List.Elements.{All-nil, All-push, All-head}
use Rattle.burr_text.specs.Names.{IsName}
use Rattle.burr_assembly.specs.Rules.Text.{Drawing, IsMark, IsDrawing}
use Rattle.burr_assembly.specs.Rules.Faults.{IsFinishedLayer, IsRow, HasCellCount}

-- finished layers: as many rows in each, each row as wide, and only marks
pub record AreLayers (layers : List (List (List ℕ))) : Type 0 where
  pub rows : (height : ℕ) × (1 ≤ height) × (height ≤ 16) × All (λ layer. length layer ≡ height) layers
  pub width : (width : ℕ) × (1 ≤ width) × (width ≤ 16) × All (All (λ (row : List ℕ). length row ≡ width)) layers
  pub marks : All (All (All IsMark)) layers

-- finished layers, and after them the rows of one that has begun
pub record AreRows (layers : List (List (List ℕ))) (begun : List (List ℕ)) : Type 0 where
  pub room : length layers < 16
  pub few : length begun ≤ 16
  pub rows : (height : ℕ) × (1 ≤ height) × (height ≤ 16) × All (λ layer. length layer ≡ height) layers
  pub width : (width : ℕ) × (1 ≤ width) × (width ≤ 16) × All (All (λ (row : List ℕ). length row ≡ width)) layers × All (λ (row : List ℕ). length row ≡ width) begun
  pub marks : All (All (All IsMark)) layers × All (All IsMark) begun

-- a row after these has the width of those before it
pub like_first : (layers : List (List (List ℕ))) (rows : List (List ℕ)) (marks : List ℕ) → AreRows layers rows → IsRow layers rows marks → 1 ≤ length marks
    → (width : ℕ) × (1 ≤ width) × (width ≤ 16) × All (All (λ (row : List ℕ). length row ≡ width)) layers × All (λ (row : List ℕ). length row ≡ width) (rows ++ marks ∷ [])
like_first [] [] marks b r some = (length marks, some, r.narrow, All-nil _, All-push (λ (row : List ℕ). length row ≡ length marks) [] marks (All-nil _) refl)
like_first [] (row ∷ rows) marks b r some =
    let w = b.width in
    (w.0, w.1, w.2, w.3, All-push (λ (row : List ℕ). length row ≡ w.0) (row ∷ rows) marks w.4 (r.like_first ∙ All-head (λ (row : List ℕ). length row ≡ w.0) row rows w.4))
like_first ([] ∷ layers) rows marks b r some = absurd (let e = All-head (λ (layer : List (List ℕ)). length layer ≡ b.rows.0) [] layers b.rows.3 in omega arith)
like_first ((row ∷ layer) ∷ layers) rows marks b r some =
    let w = b.width in (
      w.0,
      w.1,
      w.2,
      w.3,
      All-push (λ (row : List ℕ). length row ≡ w.0) rows marks w.4
          (r.like_first ∙ All-head (λ (row : List ℕ). length row ≡ w.0) row layer (All-head (All (λ (row : List ℕ). length row ≡ w.0)) (row ∷ layer) layers w.3)),
    )

-- a layer after these has as many rows as those before it
pub as_high : (layers : List (List (List ℕ))) (rows : List (List ℕ)) → AreRows layers rows → IsFinishedLayer layers rows
    → (height : ℕ) × (1 ≤ height) × (height ≤ 16) × All (λ layer. length layer ≡ height) (layers ++ rows ∷ [])
as_high [] rows b whole = (length rows, whole.0, b.few, All-push (λ (layer : List (List ℕ)). length layer ≡ length rows) [] rows (All-nil _) refl)
as_high (layer ∷ layers) rows b whole =
    let h = b.rows in
    (h.0, h.1, h.2, All-push (λ (layer : List (List ℕ)). length layer ≡ h.0) (layer ∷ layers) rows h.3 (whole.1 ∙ All-head (λ (layer : List (List ℕ)). length layer ≡ h.0) layer layers h.3))

-- one or more
pub some_of : {X : Type 0} (xs : List X) → xs ≢ [] → 1 ≤ length xs
some_of [] h = absurd (h refl)
some_of (x ∷ xs) h = omega arith

-- a row that may stand after these
pub row_kept : (layers : List (List (List ℕ))) (rows : List (List ℕ)) (marks : List ℕ) → AreRows layers rows → IsRow layers rows marks → marks ≢ [] → All IsMark marks
    → AreRows layers (rows ++ marks ∷ [])
row_kept layers rows marks b r some each = record {
  room = b.room;
  few = let room = r.room in omega (arith, length-append rows (marks ∷ []));
  rows = b.rows;
  width = like_first layers rows marks b r (some_of marks some);
  marks = (b.marks.0, All-push (All IsMark) rows marks b.marks.1 each);
}

-- a layer that may be finished
pub layer_kept : (layers : List (List (List ℕ))) (rows : List (List ℕ)) → AreRows layers rows → IsFinishedLayer layers rows → AreLayers (layers ++ rows ∷ [])
layer_kept layers rows b whole = record {
  rows = as_high layers rows b whole;
  width = (b.width.0, b.width.1, b.width.2, All-push (All (λ (row : List ℕ). length row ≡ b.width.0)) layers rows b.width.3 b.width.4);
  marks = All-push (All (All IsMark)) layers rows b.marks.0 b.marks.1;
}

-- after finished layers one begins
pub layer_begins : (layers : List (List (List ℕ))) → AreLayers layers → length layers < 16 → AreRows layers []
layer_begins layers b room = record {
  room = room;
  few = omega arith;
  rows = b.rows;
  width = (b.width.0, b.width.1, b.width.2, b.width.3, All-nil _);
  marks = (b.marks, All-nil _);
}

-- no layer yet
pub no_layers : AreRows [] []
no_layers = record {
  room = omega arith;
  few = omega arith;
  rows = (1, omega arith, omega arith, All-nil _);
  width = (1, omega arith, omega arith, All-nil _, All-nil _);
  marks = (All-nil _, All-nil _);
}

-- a shape whose layers are finished
pub drawn : (d : Drawing) → IsName d.name → AreLayers d.layers → 1 ≤ length d.layers → length d.layers ≤ 16 → HasCellCount d → IsDrawing d
drawn d name b some few count = record { name = name; layers = (some, few); rows = b.rows; width = b.width; marks = b.marks; cells = count }
