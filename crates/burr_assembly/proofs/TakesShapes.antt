-- The lines of shapes are taken one after the other.
use Rattle.std.proofs.Common.{◌≡◌, ◌≢◌, ℕ, suc, ◌+◌, ◌<◌, ◌≤◌, List, [], ◌∷◌, ◌++◌, length, All, AllPairs, slice_get, IfSome, Some, None, Ok, codes, flat_map, refl, sym, subst, ap, ◌∙◌, arith, inr, append_assoc, append-nil}
use Rattle.std.proofs.lemmas.List.{length-append}
use Rattle.std.proofs.lemmas.List.Elements.{All-nil, All-head, All-tail, All-append, All-push}
use Rattle.burr_assembly.specs.Rules.Text.{Drawing, layer_text, shape_text, IsMark, IsDrawing, IsShapeName}
use Rattle.burr_text.specs.Words.{text_line}
use Rattle.burr_assembly.specs.Rules.Lines.{ShapeLine, LayerLine, RowLine, EndLine}
use Rattle.burr_assembly.specs.Rules.Faults.{Beginning, Shapes, Drawn, FormGives, IsFinishedLayer, IsRow, with_layer, HasCellCount}
use Rattle.burr_assembly.proofs.Clear.{word_of_name}
use Rattle.burr_assembly.proofs.Stretches.{Goes, goes_nowhere, goes_further, goes_line, goes_to, goes_regrouped, pair_before}

-- what is so of each element is so of the first
of_first : {X : Type 0} (P : X → Type 0) (xs : List X) → All P xs → IfSome (slice_get xs 0) P
of_first P [] all = tt
of_first P (x ∷ xs) all = All-head P x xs all

-- what is so of each row of each layer is so of each row
of_rows : {X : Type 0} (P : X → Type 0) (layers : List (List X)) → All (All P) layers → All P (flat_map (λ (layer : List X). layer) layers)
of_rows P [] all = All-nil P
of_rows {X} P (layer ∷ layers) all = All-append P layer (flat_map (λ (layer : List X). layer) layers) (All-head (All P) layer layers all) (of_rows P layers (All-tail (All P) layer layers all))

-- a list of a length above 0 is not empty
some_length : (width : ℕ) (row : List ℕ) → 1 ≤ width → length row ≡ width → row ≢ []
some_length width row low is e = omega (arith, ap length e)

-- a row of this width
abbrev IsWide : ℕ → List ℕ → Type 0
IsWide width row = length row ≡ width

-- a layer of this height
abbrev IsHigh : ℕ → List (List ℕ) → Type 0
IsHigh height layer = length layer ≡ height

-- a row as wide as all before it may stand after them
is_row : (width : ℕ) → width ≤ 16 → (layers : List (List (List ℕ))) (rows : List (List ℕ)) (row : List ℕ) → All (All (IsWide width)) layers → All (IsWide width) rows → IsWide width row → length rows < 16 → IsRow layers rows row
is_row width high layers rows row before here wide room = record {
  narrow = omega arith;
  room = room;
  like_first = of_first (λ (first : List ℕ). length row ≡ length first) (flat_map (λ (layer : List (List ℕ)). layer) layers ++ rows)
      (λ k d lt. wide ∙ sym (All-append (IsWide width) (flat_map (λ (layer : List (List ℕ)). layer) layers) rows (of_rows (IsWide width) layers before) here k d lt));
}

-- the rows still to come of a layer
goes_rows : (width : ℕ) → 1 ≤ width → width ≤ 16 → (name : List ℕ) (shapes : List Drawing) (d : Drawing) → All (All (IsWide width)) d.layers
    → (more rows : List (List ℕ)) → All (IsWide width) rows → All (IsWide width) more → All (All IsMark) more → length rows + length more ≤ 16
    → Goes (Drawn name shapes d (Some rows)) (flat_map (λ (row : List ℕ). row ++ 10 ∷ []) more) (Drawn name shapes d (Some (rows ++ more)))
goes_rows width low high name shapes d before [] rows here wide marks room =
    goes_to (Drawn name shapes d (Some rows)) (Drawn name shapes d (Some rows)) (Drawn name shapes d (Some (rows ++ []))) []
    (ap (λ (all : List (List ℕ)). Drawn name shapes d (Some all)) (sym (append-nil rows))) (goes_nowhere (Drawn name shapes d (Some rows)))
goes_rows width low high name shapes d before (row ∷ more) rows here wide marks room =
    let width_of = All-head (IsWide width) row more wide in
    goes_to (Drawn name shapes d (Some rows)) (Drawn name shapes d (Some ((rows ++ row ∷ []) ++ more))) (Drawn name shapes d (Some (rows ++ row ∷ more)))
    ((row ++ 10 ∷ []) ++ flat_map (λ (line : List ℕ). line ++ 10 ∷ []) more)
    (ap (λ (all : List (List ℕ)). Drawn name shapes d (Some all)) (append_assoc rows (row ∷ []) more))
    (goes_further (Drawn name shapes d (Some rows)) (Drawn name shapes d (Some (rows ++ row ∷ []))) (Drawn name shapes d (Some ((rows ++ row ∷ []) ++ more)))
    (row ++ 10 ∷ []) (flat_map (λ (line : List ℕ). line ++ 10 ∷ []) more)
    (goes_line (Drawn name shapes d (Some rows)) (Drawn name shapes d (Some (rows ++ row ∷ []))) (RowLine row) (some_length width row low width_of, All-head (All IsMark) row more marks)
    (λ n. inr (is_row width high d.layers rows row before here width_of (room_for (length rows) (length more) room), refl)))
    (goes_rows width low high name shapes d before more (rows ++ row ∷ []) (All-push (IsWide width) rows row here width_of) (All-tail (IsWide width) row more wide) (All-tail (All IsMark) row more marks)
    (one_more rows row (length more) room)))
  where
    room_for : (a b : ℕ) → a + suc b ≤ 16 → a < 16
    room_for a b le = omega arith

    one_more : (rows : List (List ℕ)) (row : List ℕ) (b : ℕ) → length rows + suc b ≤ 16 → length (rows ++ row ∷ []) + b ≤ 16
    one_more rows row b le = omega (arith, length-append rows (row ∷ []))

-- what is so of a drawing's layers: their rows' width and height, and the marks
record AreLayers (width height : ℕ) (layers : List (List (List ℕ))) : Type 0 where
  wide : All (All (IsWide width)) layers
  high : All (IsHigh height) layers
  marks : All (All (All IsMark)) layers

-- what is so of the first layer
first_layer : (width height : ℕ) (layer : List (List ℕ)) (layers : List (List (List ℕ))) → AreLayers width height (layer ∷ layers) → All (IsWide width) layer × IsHigh height layer × All (All IsMark) layer
first_layer width height layer layers are = (All-head (All (IsWide width)) layer layers are.wide, All-head (IsHigh height) layer layers are.high, All-head (All (All IsMark)) layer layers are.marks)

-- what is so of the layers after it
other_layers : (width height : ℕ) (layer : List (List ℕ)) (layers : List (List (List ℕ))) → AreLayers width height (layer ∷ layers) → AreLayers width height layers
other_layers width height layer layers are = record { wide = All-tail (All (IsWide width)) layer layers are.wide; high = All-tail (IsHigh height) layer layers are.high; marks = All-tail (All (All IsMark)) layer layers are.marks }

-- a layer as high as all before it may be finished
is_finished_layer : (height : ℕ) → 1 ≤ height → (layers : List (List (List ℕ))) (rows : List (List ℕ)) → All (IsHigh height) layers → IsHigh height rows → IsFinishedLayer layers rows
is_finished_layer height low layers rows before here = (omega arith, of_first (λ (first : List (List ℕ)). length rows ≡ length first) layers (λ k d lt. here ∙ sym (before k d lt)))

-- the bounds on a drawing's sizes
record AreSizes (width height : ℕ) : Type 0 where
  thin : 1 ≤ width
  broad : width ≤ 16
  low : 1 ≤ height
  tall : height ≤ 16

-- a layer, from its first line on
goes_layer : (width height : ℕ) → AreSizes width height → (name : List ℕ) (shapes : List Drawing) (d : Drawing) → All (All (IsWide width)) d.layers
    → (from : Beginning) (layer : List (List ℕ)) → All (IsWide width) layer × IsHigh height layer × All (All IsMark) layer
    → ((n : ℕ) → FormGives n from LayerLine (Ok (Drawn name shapes d (Some []))))
    → Goes from (layer_text layer) (Drawn name shapes d (Some layer))
goes_layer width height sizes name shapes d before from layer is rule =
    goes_further from (Drawn name shapes d (Some [])) (Drawn name shapes d (Some layer)) (text_line (codes "layer" ∷ [])) (flat_map (λ (row : List ℕ). row ++ 10 ∷ []) layer)
    (goes_line from (Drawn name shapes d (Some [])) LayerLine tt rule)
    (goes_rows width sizes.thin sizes.broad name shapes d before layer [] (All-nil (IsWide width)) is.0 is.2 (in_room (length layer) is.1))
  where
    in_room : (n : ℕ) → n ≡ height → 0 + n ≤ 16
    in_room n e = let tall = sizes.tall in omega arith

-- a drawing with these layers on top
abbrev with_layers : Drawing → List (List (List ℕ)) → Drawing
with_layers d layers = record d { layers = d.layers ++ layers }

-- the layers still to come of a shape, and its end
goes_layers : (width height : ℕ) → AreSizes width height → (name : List ℕ) (shapes : List Drawing) (more : List (List (List ℕ))) (d : Drawing) (rows : List (List ℕ))
    → AreLayers width height more → All (All (IsWide width)) d.layers → All (IsHigh height) d.layers → All (IsWide width) rows → IsHigh height rows
    → length d.layers + 1 + length more ≤ 16 → HasCellCount (with_layers d (rows ∷ more))
    → Goes (Drawn name shapes d (Some rows)) (flat_map layer_text more ++ text_line (codes "end" ∷ [])) (Shapes name (shapes ++ with_layers d (rows ∷ more) ∷ []))
goes_layers width height sizes name shapes [] d rows are before before_high wide high room cells =
    goes_line (Drawn name shapes d (Some rows)) (Shapes name (shapes ++ with_layer d rows ∷ [])) EndLine tt
    (λ n. inr ((is_finished_layer height sizes.low d.layers rows before_high high, cells), refl))
goes_layers width height sizes name shapes (layer ∷ more) d rows are before before_high wide high room cells =
    let this = first_layer width height layer more are in
    let e : with_layers (with_layer d rows) (layer ∷ more) ≡ with_layers d (rows ∷ layer ∷ more) = same_layers d rows (layer ∷ more) in
    let from = Drawn name shapes d (Some rows) in
    goes_to from (Shapes name (shapes ++ with_layers (with_layer d rows) (layer ∷ more) ∷ [])) (Shapes name (shapes ++ with_layers d (rows ∷ layer ∷ more) ∷ [])) (flat_map layer_text (layer ∷ more) ++ text_line (codes "end" ∷ []))
    (ap (λ (s : Drawing). Shapes name (shapes ++ s ∷ [])) e)
    (goes_regrouped from (Shapes name (shapes ++ with_layers (with_layer d rows) (layer ∷ more) ∷ [])) (layer_text layer) (flat_map layer_text more) (text_line (codes "end" ∷ []))
    (goes_further from (Drawn name shapes (with_layer d rows) (Some layer)) (Shapes name (shapes ++ with_layers (with_layer d rows) (layer ∷ more) ∷ []))
    (layer_text layer) (flat_map layer_text more ++ text_line (codes "end" ∷ []))
    (goes_layer width height sizes name shapes (with_layer d rows) (All-push (All (IsWide width)) d.layers rows before wide) from layer this
    (λ n. inr ((is_finished_layer height sizes.low d.layers rows before_high high, room_for (length d.layers) (length more) room), refl)))
    (goes_layers width height sizes name shapes more (with_layer d rows) layer (other_layers width height layer more are)
    (All-push (All (IsWide width)) d.layers rows before wide) (All-push (IsHigh height) d.layers rows before_high high) this.0 this.1
    (one_more d.layers rows (length more) room) (subst HasCellCount (sym e) cells))))
  where
    room_for : (a b : ℕ) → a + 1 + suc b ≤ 16 → a + 1 < 16
    room_for a b le = omega arith

    one_more : (layers : List (List (List ℕ))) (layer : List (List ℕ)) (b : ℕ) → length layers + 1 + suc b ≤ 16 → length (layers ++ layer ∷ []) + 1 + b ≤ 16
    one_more layers layer b le = omega (arith, length-append layers (layer ∷ []))

    same_layers : (d : Drawing) (rows : List (List ℕ)) (more : List (List (List ℕ))) → with_layers (with_layer d rows) more ≡ with_layers d (rows ∷ more)
    same_layers d rows more = ap (λ (layers : List (List (List ℕ))). record d { layers = layers }) (append_assoc d.layers (rows ∷ []) more)

-- the layers of a shape that has begun, and its end
goes_drawing : (width height : ℕ) → AreSizes width height → (name : List ℕ) (shapes : List Drawing) (shape : List ℕ) (layers : List (List (List ℕ))) → AreLayers width height layers
    → 1 ≤ length layers → length layers ≤ 16 → HasCellCount (record { name = shape; layers = layers })
    → Goes (Drawn name shapes (record { name = shape; layers = [] }) None) (flat_map layer_text layers ++ text_line (codes "end" ∷ [])) (Shapes name (shapes ++ record { name = shape; layers = layers } ∷ []))
goes_drawing width height sizes name shapes shape [] are some few cells = absurd (omega arith)
goes_drawing width height sizes name shapes shape (layer ∷ more) are some few cells =
    let this = first_layer width height layer more are in
    let d : Drawing = record { name = shape; layers = [] } in
    let from = Drawn name shapes d None in
    let to = Shapes name (shapes ++ record { name = shape; layers = layer ∷ more } ∷ []) in
    goes_regrouped from to (layer_text layer) (flat_map layer_text more) (text_line (codes "end" ∷ []))
    (goes_further from (Drawn name shapes d (Some layer)) to (layer_text layer) (flat_map layer_text more ++ text_line (codes "end" ∷ []))
    (goes_layer width height sizes name shapes d (All-nil (All (IsWide width))) from layer this (λ n. refl))
    (goes_layers width height sizes name shapes more d layer (other_layers width height layer more are) (All-nil (All (IsWide width))) (All-nil (IsHigh height)) this.0 this.1 (room_for (length more) few) cells))
  where
    room_for : (b : ℕ) → suc b ≤ 16 → 0 + 1 + b ≤ 16
    room_for b le = omega arith

-- a name that no shape before has
is_new_shape : (shapes : List Drawing) (s : Drawing) (more : List Drawing) → AllPairs (λ (s t : Drawing). s.name ≢ t.name) (shapes ++ s ∷ more) → ¬ IsShapeName shapes s.name
is_new_shape shapes s more pairs (k, x, lt, at, same) = pair_before (λ (s t : Drawing). s.name ≢ t.name) shapes s more pairs k x lt (ap (λ (t : Drawing). t.name) at ∙ same)

-- a shape, from its first line to its end
goes_shape : (name : List ℕ) (shapes : List Drawing) (s : Drawing) → IsDrawing s → length shapes < 32 → ¬ IsShapeName shapes s.name → Goes (Shapes name shapes) (shape_text s) (Shapes name (shapes ++ s ∷ []))
goes_shape name shapes s is room new =
    let begun : Drawing = record { name = s.name; layers = [] } in
    goes_regrouped (Shapes name shapes) (Shapes name (shapes ++ s ∷ [])) (text_line (codes "shape" ∷ s.name ∷ [])) (flat_map layer_text s.layers) (text_line (codes "end" ∷ []))
    (goes_further (Shapes name shapes) (Drawn name shapes begun None) (Shapes name (shapes ++ s ∷ [])) (text_line (codes "shape" ∷ s.name ∷ [])) (flat_map layer_text s.layers ++ text_line (codes "end" ∷ []))
    (goes_line (Shapes name shapes) (Drawn name shapes begun None) (ShapeLine s.name) (word_of_name s.name is.name) (λ n. inr (room, inr ((is.name, new), refl))))
    (goes_drawing is.width.0 is.rows.0 (record { thin = is.width.1; broad = is.width.2; low = is.rows.1; tall = is.rows.2 }) name shapes s.name s.layers
    (record { wide = is.width.3; high = is.rows.3; marks = is.marks }) is.layers.0 is.layers.1 is.cells))

-- the shapes still to come
pub goes_shapes : (name : List ℕ) (more shapes : List Drawing) → All IsDrawing more → AllPairs (λ (s t : Drawing). s.name ≢ t.name) (shapes ++ more) → length shapes + length more ≤ 32
    → Goes (Shapes name shapes) (flat_map shape_text more) (Shapes name (shapes ++ more))
goes_shapes name [] shapes are new room = goes_to (Shapes name shapes) (Shapes name shapes) (Shapes name (shapes ++ [])) [] (ap (λ (all : List Drawing). Shapes name all) (sym (append-nil shapes))) (goes_nowhere (Shapes name shapes))
goes_shapes name (s ∷ more) shapes are new room =
    goes_to (Shapes name shapes) (Shapes name ((shapes ++ s ∷ []) ++ more)) (Shapes name (shapes ++ s ∷ more)) (shape_text s ++ flat_map shape_text more)
    (ap (λ (all : List Drawing). Shapes name all) (append_assoc shapes (s ∷ []) more))
    (goes_further (Shapes name shapes) (Shapes name (shapes ++ s ∷ [])) (Shapes name ((shapes ++ s ∷ []) ++ more)) (shape_text s) (flat_map shape_text more)
    (goes_shape name shapes s (All-head IsDrawing s more are) (room_for (length shapes) (length more) room) (is_new_shape shapes s more new))
    (goes_shapes name more (shapes ++ s ∷ []) (All-tail IsDrawing s more are)
    (subst (AllPairs (λ (s t : Drawing). s.name ≢ t.name)) (sym (append_assoc shapes (s ∷ []) more)) new)
    (one_more shapes s (length more) room)))
  where
    room_for : (a b : ℕ) → a + suc b ≤ 32 → a < 32
    room_for a b le = omega arith

    one_more : (shapes : List Drawing) (s : Drawing) (b : ℕ) → length shapes + suc b ≤ 32 → length (shapes ++ s ∷ []) + b ≤ 32
    one_more shapes s b le = omega (arith, length-append shapes (s ∷ []))
