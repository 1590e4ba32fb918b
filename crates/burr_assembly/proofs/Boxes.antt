-- The cells of a drawing lie in its box.
use Rattle.std.proofs.Common.{◌≡◌, ◌<◌, ◌≤◌, ◌+◌, ℕ, suc, Bool, true, false, cond, ◌==◌, List, [], ◌∷◌, length, pos, arith, sym, subst}
use Rattle.std.specs.Prelude.{All}
use Rattle.std.proofs.lemmas.Int.{ints}
use Rattle.std.proofs.lemmas.List.Elements.{All-nil, All-cons, All-append, All-head, All-tail}
use Rattle.burr_voxels.specs.declared.cell.Cell.{Cell}
use Rattle.burr_voxels.specs.Grid.{at}
use Rattle.burr_assembly.specs.Rules.Text.{Drawing, IsDrawing, row_cells, layer_cells, cells_from, drawn_cells, drawn_sides}
use Rattle.burr_assembly.specs.Laws.Texts.{IsInBox, DrawnInBox}

-- in the box of these sides
abbrev pub Boxed : ℕ → ℕ → ℕ → Cell → Type 0
Boxed w h d c = IsInBox (at (pos w) (pos h) (pos d)) c

boxed : (w h d x y z : ℕ) → x < w → y < h → z < d → Boxed w h d (at (pos x) (pos y) (pos z))
boxed w h d x y z in_x in_y in_z = record {
  x = (omega (arith, ints), omega (arith, ints));
  y = (omega (arith, ints), omega (arith, ints));
  z = (omega (arith, ints), omega (arith, ints));
}

-- one mark more
marked : (test : Bool) (P : Cell → Type 0) (c : Cell) (cells : List Cell) → P c → All P cells → All P (cond test (c ∷ cells) cells)
marked true P c cells here rest = All-cons P c cells here rest
marked false P c cells here rest = rest

row_boxed : (w h d x y z : ℕ) (row : List ℕ) → x + length row ≤ w → y < h → z < d → All (Boxed w h d) (row_cells x y z row)
row_boxed w h d x y z [] in_x in_y in_z = All-nil (Boxed w h d)
row_boxed w h d x y z (mark ∷ row) in_x in_y in_z =
    marked (mark == 35) (Boxed w h d) (at (pos x) (pos y) (pos z)) (row_cells (suc x) y z row) (boxed w h d x y z (omega arith) in_y in_z)
    (row_boxed w h d (suc x) y z row (omega arith) in_y in_z)

-- a row of this width
abbrev IsWide : ℕ → List ℕ → Type 0
IsWide w row = length row ≡ w

layer_boxed : (w h d y z : ℕ) (rows : List (List ℕ)) → All (IsWide w) rows → y + length rows ≤ h → z < d → All (Boxed w h d) (layer_cells y z rows)
layer_boxed w h d y z [] wide in_y in_z = All-nil (Boxed w h d)
layer_boxed w h d y z (row ∷ rows) wide in_y in_z =
    let width = All-head (IsWide w) row rows wide in
    All-append (Boxed w h d) (row_cells 0 y z row) (layer_cells (suc y) z rows) (row_boxed w h d 0 y z row (omega arith) (omega arith) in_z)
    (layer_boxed w h d (suc y) z rows (All-tail (IsWide w) row rows wide) (omega arith) in_z)

-- a layer of this height
abbrev IsHigh : ℕ → List (List ℕ) → Type 0
IsHigh h layer = length layer ≡ h

layers_boxed : (w h d z : ℕ) (layers : List (List (List ℕ))) → All (All (IsWide w)) layers → All (IsHigh h) layers → z + length layers ≤ d → All (Boxed w h d) (cells_from z layers)
layers_boxed w h d z [] wide high in_z = All-nil (Boxed w h d)
layers_boxed w h d z (layer ∷ layers) wide high in_z =
    let height = All-head (IsHigh h) layer layers high in
    All-append (Boxed w h d) (layer_cells 0 z layer) (cells_from (suc z) layers) (layer_boxed w h d 0 z layer (All-head (All (IsWide w)) layer layers wide) (omega arith) (omega arith))
    (layers_boxed w h d (suc z) layers (All-tail (All (IsWide w)) layer layers wide) (All-tail (IsHigh h) layer layers high) (omega arith))

-- the sides of a box are those of each row and each layer
sides_are : (w h : ℕ) (layers : List (List (List ℕ))) → All (All (IsWide w)) layers → All (IsHigh h) layers → 1 ≤ length layers → 1 ≤ h → drawn_sides layers ≡ at (pos w) (pos h) (pos (length layers))
sides_are w h [] wide high some low = absurd (omega arith)
sides_are w h ([] ∷ layers) wide high some low = absurd (let e = All-head (IsHigh h) [] layers high in omega arith)
sides_are w h ((row ∷ rows) ∷ layers) wide high some low =
    let width : length row ≡ w = All-head (IsWide w) row rows (All-head (All (IsWide w)) (row ∷ rows) layers wide) in
    let height : length (row ∷ rows) ≡ h = All-head (IsHigh h) (row ∷ rows) layers high in
    λ i. at (pos (width i)) (pos (height i)) (pos (length ((row ∷ rows) ∷ layers)))

-- the cells of a drawing lie in the box of its width, its height and its number of layers
pub drawn_boxed : (s : Drawing) (is : IsDrawing s) → All (Boxed is.width.0 is.rows.0 (length s.layers)) (drawn_cells s.layers)
drawn_boxed s is = layers_boxed is.width.0 is.rows.0 (length s.layers) 0 s.layers is.width.3 is.rows.3 (omega arith)

pub drawn_in_box : DrawnInBox
drawn_in_box s is =
    subst (λ (sides : Cell). All (IsInBox sides) (drawn_cells s.layers)) (sym (sides_are is.width.0 is.rows.0 s.layers is.width.3 is.rows.3 is.layers.0 is.rows.1))
    (drawn_boxed s is)
