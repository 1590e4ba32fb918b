-- The lines of home cells, one after the other.
use Rattle.std.proofs.Common.{◌≡◌, ℕ, zero, suc, ◌<◌, List, [], ◌∷◌, ◌++◌, length, map, drop, arith, sym, ap, ◌∙◌, append_assoc}
use Rattle.std.specs.Prelude.{Some, IfSome, slice_get}
use Rattle.std.specs.List.{flat_map}
use Rattle.burr_voxels.specs.declared.cell.Cell.{Cell}
use Rattle.burr_assembly.specs.Rules.Text.{Piece}
use Rattle.burr_program.specs.CellEnds.{cell_line, cell_lines}

pub line_added : (text name x y z end : List ℕ) → ((((text ++ name) ++ x) ++ y) ++ z) ++ end ≡ text ++ (name ++ (x ++ (y ++ (z ++ end))))
line_added text name x y z end =
    append_assoc (((text ++ name) ++ x) ++ y) z end ∙ append_assoc ((text ++ name) ++ x) y (z ++ end) ∙ append_assoc (text ++ name) x (y ++ (z ++ end))
    ∙ append_assoc text name (x ++ (y ++ (z ++ end)))

-- the lines from a piece on are its own and those of the pieces after it
pub lines_from : (pieces : List Piece) (homes : List (List Cell)) (i : ℕ) (name : List ℕ) (cells : List Cell) → i < length pieces → IfSome (slice_get pieces i) (λ p. name ≡ p.name) → slice_get homes i ≡ Some cells
    → cell_lines (drop i (map (λ (p : Piece). p.name) pieces)) (drop i homes) ≡ flat_map (cell_line name) cells ++ cell_lines (drop (suc i) (map (λ (p : Piece). p.name) pieces)) (drop (suc i) homes)
lines_from [] homes i name cells within is has = absurd (omega (arith, within))
lines_from (p ∷ pieces) [] zero name cells within is has = absurd (cc)
lines_from (p ∷ pieces) [] (suc i) name cells within is has = absurd (cc)
lines_from (p ∷ pieces) (home ∷ homes) zero name cells within is has = cc
lines_from (p ∷ pieces) (home ∷ homes) (suc i) name cells within is has = lines_from pieces homes i name cells (omega (arith, within)) is has

pub lines_next : (pieces : List Piece) (homes : List (List Cell)) (i next : ℕ) (name : List ℕ) (cells : List Cell) (old new : List ℕ) → i < length pieces → next ≡ suc i → IfSome (slice_get pieces i) (λ p. name ≡ p.name) → slice_get homes i ≡ Some cells
    → new ≡ old ++ flat_map (cell_line name) cells → old ++ cell_lines (drop i (map (λ (p : Piece). p.name) pieces)) (drop i homes) ≡ cell_lines (map (λ (p : Piece). p.name) pieces) homes
    → new ++ cell_lines (drop next (map (λ (p : Piece). p.name) pieces)) (drop next homes) ≡ cell_lines (map (λ (p : Piece). p.name) pieces) homes
lines_next pieces homes i next name cells old new within more is has added before =
    rw (more, added)
    (append_assoc old (flat_map (cell_line name) cells) (cell_lines (drop (suc i) (map (λ (p : Piece). p.name) pieces)) (drop (suc i) homes))
    ∙ ap (λ (t : List ℕ). old ++ t) (sym (lines_from pieces homes i name cells within is has)) ∙ before)
