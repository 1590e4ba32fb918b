-- Whether the conditions of the rules hold.
use Rattle.std.proofs.Common.{◌≡◌, ℕ, ◌<◌, List, ◌++◌, length, slice_index, slice_index_or, slice_get, Contains, ◌⊎◌, inl, inr, refl, ap, subst}
use Rattle.std.specs.List.{list_all, flat_map}
use Rattle.burr_voxels.specs.declared.cell.Cell.{Cell}
use Rattle.burr_voxels.specs.CellSets.{Overlap}
use Rattle.burr_text.specs.Names.{IsName, is_letter, is_name_byte}
use Rattle.burr_assembly.specs.Rules.Text.{Drawing, Piece, IsShapeName, IsPieceName, HasCells, Shares, home_cells, drawn_cells}
use Rattle.burr_assembly.specs.Rules.Faults.{IsFinishedLayer, IsRow, HasCellCount, IsFirstSharing}
use Rattle.burr_text.proofs.Common.Decisions.{Decided, decided_like, decided_and, decided_and_three, decide_test, decide_same, decide_below, decide_at_most, decide_same_whole, decide_same_bytes, decide_if_some, decide_contains, decide_any, decide_first_below}

-- whether bytes are a name
pub decide_name : (bytes : List ℕ) → Decided (IsName bytes)
decide_name bytes =
    decided_like (λ t. record { first = t.0; each = t.1; short = t.2 }) (λ h. (h.first, h.each, h.short)) (decided_and_three (decide_test (is_letter (slice_index bytes 0))) (decide_test (list_all is_name_byte bytes)) (decide_at_most (length bytes) 32))

-- whether one of the shapes has the name
pub decide_shape_name : (shapes : List Drawing) (name : List ℕ) → Decided (IsShapeName shapes name)
decide_shape_name shapes name = decide_any (λ (s : Drawing). s.name ≡ name) (λ s. decide_same_bytes s.name name) shapes

-- whether one of the pieces has the name
pub decide_piece_name : (pieces : List Piece) (name : List ℕ) → Decided (IsPieceName pieces name)
decide_piece_name pieces name = decide_any (λ (p : Piece). p.name ≡ name) (λ p. decide_same_bytes p.name name) pieces

-- whether a layer may be finished
pub decide_finished_layer : (layers : List (List (List ℕ))) (rows : List (List ℕ)) → Decided (IsFinishedLayer layers rows)
decide_finished_layer layers rows =
    decided_and (decide_at_most 1 (length rows)) (decide_if_some (λ first. length rows ≡ length first) (λ first. decide_same (length rows) (length first)) (slice_get layers 0))

-- whether a row may stand after these
pub decide_row : (layers : List (List (List ℕ))) (rows : List (List ℕ)) (marks : List ℕ) → Decided (IsRow layers rows marks)
decide_row layers rows marks =
    decided_like (λ t. record { narrow = t.0; room = t.1; like_first = t.2 }) (λ h. (h.narrow, h.room, h.like_first)) (decided_and_three (decide_at_most (length marks) 16) (decide_below (length rows) 16) (decide_if_some (λ (first : List ℕ). length marks ≡ length first) (λ first. decide_same (length marks) (length first)) (slice_get (flat_map (λ layer. layer) layers ++ rows) 0)))

-- whether a shape has as many cells as it may
pub decide_cell_count : (d : Drawing) → Decided (HasCellCount d)
decide_cell_count d = decided_and (decide_at_most 1 (length (drawn_cells d.layers))) (decide_at_most (length (drawn_cells d.layers)) 512)

-- cells with the same coordinates are the same
same_cell : (a b : Cell) → (a.x ≡ b.x) × (a.y ≡ b.y) × (a.z ≡ b.z) → a ≡ b
same_cell a b h = λ i. record { x = h.0 i; y = h.1 i; z = h.2 i }

-- whether two cells are the same
decide_same_cell : (a b : Cell) → Decided (a ≡ b)
decide_same_cell a b =
    decided_like (same_cell a b) (λ e. (ap (λ (c : Cell). c.x) e, ap (λ (c : Cell). c.y) e, ap (λ (c : Cell). c.z) e)) (decided_and_three (decide_same_whole a.x b.x) (decide_same_whole a.y b.y) (decide_same_whole a.z b.z))

-- whether a cell is among the cells
decide_has_cell : (cells : List Cell) (c : Cell) → Decided (Contains cells c)
decide_has_cell cells c =
    decided_like (λ t. subst (Contains cells) t.2 t.1) (λ h. (c, h, refl)) (decide_contains (λ (b : Cell). b ≡ c) (λ b. decide_same_cell b c) cells)

-- whether two sets of cells overlap
decide_overlap : (ps qs : List Cell) → Decided (Overlap ps qs)
decide_overlap ps qs = decided_like (λ t. t) (λ t. t) (decide_contains (Contains qs) (decide_has_cell qs) ps)

-- the cells at home of a piece as this shape
abbrev as_shape : Piece → Drawing → List Cell
as_shape p s = home_cells p.turn p.position (drawn_cells s.layers)

-- shapes of the two pieces' names overlap at home
abbrev SharesAs : List Drawing → Piece → Piece → Type 0
SharesAs shapes p q = (s : Drawing) × Contains shapes s × ((s.name ≡ p.shape) × ((t : Drawing) × Contains shapes t × ((t.name ≡ q.shape) × Overlap (as_shape p s) (as_shape q t))))

-- whether they do
decide_shares_as : (shapes : List Drawing) (p q : Piece) → Decided (SharesAs shapes p q)
decide_shares_as shapes p q =
    decide_contains (λ (s : Drawing). (s.name ≡ p.shape) × ((t : Drawing) × Contains shapes t × ((t.name ≡ q.shape) × Overlap (as_shape p s) (as_shape q t)))) (λ s. decided_and (decide_same_bytes s.name p.shape) (decide_contains (λ (t : Drawing). (t.name ≡ q.shape) × Overlap (as_shape p s) (as_shape q t)) (λ t. decided_and (decide_same_bytes t.name q.shape) (decide_overlap (as_shape p s) (as_shape q t))) shapes)) shapes

-- such shapes are those by which the pieces share a cell
shares_from_as : (shapes : List Drawing) (p q : Piece) → SharesAs shapes p q → Shares shapes p q
shares_from_as shapes p q h =
    let first = h.2 in
    let second = first.1 in
    (as_shape p h.0, as_shape q second.0, (h.0, h.1, first.0, refl), (second.0, second.1, second.2.0, refl), second.2.1)

-- and the other way round
as_from_shares : (shapes : List Drawing) (p q : Piece) → Shares shapes p q → SharesAs shapes p q
as_from_shares shapes p q h = take h.0 h.1 h.2 h.3 h.4
  where
    take : (ps qs : List Cell) → HasCells shapes p ps → HasCells shapes q qs → Overlap ps qs → SharesAs shapes p q
    take ps qs s t o = (s.0, s.1, (s.2, (t.0, t.1, (t.2, subst (λ a. Overlap a (as_shape q t.0)) s.3 (subst (Overlap ps) t.3 o)))))

-- whether two pieces share a home cell
pub decide_shares : (shapes : List Drawing) (p q : Piece) → Decided (Shares shapes p q)
decide_shares shapes p q = decided_like (shares_from_as shapes p q) (as_from_shares shapes p q) (decide_shares_as shapes p q)

-- the earliest of the pieces that shares a cell with this one, or no piece does
pub decide_first_sharing : (shapes : List Drawing) (pieces : List Piece) (p : Piece) → Decided ((q : ℕ) × IsFirstSharing shapes pieces p q)
decide_first_sharing shapes pieces p = from (decide_first_below (λ q. Shares shapes (slice_index_or pieces q p) p) (λ q. decide_shares shapes (slice_index_or pieces q p) p) (length pieces))
  where
    from : ((q : ℕ) × (q < length pieces) × Shares shapes (slice_index_or pieces q p) p × ((r : ℕ) → r < q → ¬ Shares shapes (slice_index_or pieces r p) p)) ⊎ ((q : ℕ) → q < length pieces → ¬ Shares shapes (slice_index_or pieces q p) p) → Decided ((q : ℕ) × IsFirstSharing shapes pieces p q)
    from (inl found) = inl (found.0, record { inside = found.1; shares = found.2; first = found.3 })
    from (inr none) = inr (λ found. none found.0 found.1.inside found.1.shares)
