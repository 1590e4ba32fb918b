-- When a cell of some lies ahead of one of others.
use Rattle.std.proofs.Common.{◌≡◌, ◌<◌, ℕ, zero, suc, List, [], ◌∷◌, length, get_or, refl, sym, subst, arith}
use Rattle.std.specs.Prelude.{Contains}
use Rattle.std.proofs.lemmas.List.{get_or_default}
use Rattle.burr_voxels.specs.declared.cell.Cell.{Cell}
use Rattle.burr_voxels.specs.declared.direction.Direction.{Direction}
use Rattle.burr_voxels.specs.Grid.{plus, shifted, IsAhead}
use Rattle.burr_voxels.specs.CellSets.{IsAheadOfSome, Overlap}
use Rattle.burr_voxels.proofs.Common.Freedom.{Contains-map, Contains-from_map}

one_contains : (from : Cell) → Contains (from ∷ []) from
one_contains from = (0, search arith, refl)

contains_one : (from c : Cell) → Contains (from ∷ []) c → c ≡ from
contains_one from c (zero, lt, is) = sym is
contains_one from c (suc k, lt, is) = absurd (omega arith)

pub meets_none : (from : Cell) (cells : List Cell) (direction : Direction)
    → ((k : ℕ) (d : Cell) → k < length cells → ¬ IsAhead from (get_or cells k d) direction) → ¬ IsAheadOfSome (from ∷ []) cells direction
meets_none from cells direction none (f, to, is, has, ahead) =
    let at_from : IsAhead from to direction = subst (λ (c : Cell). IsAhead c to direction) (contains_one from f is) ahead in
    none has.0 to has.1 (rw has.2 at_from)

pub group_meets_none : (cells : List Cell) (offset : Cell) (others : List Cell) (direction : Direction)
    → ((k : ℕ) (d : Cell) → k < length cells → ¬ IsAheadOfSome (plus (get_or cells k d) offset ∷ []) others direction) → ¬ IsAheadOfSome (shifted offset cells) others direction
group_meets_none cells offset others direction none (f, to, is, has, ahead) =
    let found = Contains-from_map (λ c. plus c offset) cells f is in
    none found.1.0 found.0 found.1.1 (rw (found.1.2, found.2) (f, to, one_contains f, has, ahead))

-- no cell of a list that is displaced is among the others, where each is not
pub overlap_none : (cells : List Cell) (offset : Cell) (others : List Cell)
    → ((k : ℕ) (d : Cell) → k < length cells → ¬ Contains others (plus (get_or cells k d) offset)) → ¬ Overlap (shifted offset cells) others
overlap_none cells offset others none (c, is, has) =
    let found = Contains-from_map (λ c. plus c offset) cells c is in
    none found.1.0 found.0 found.1.1 (rw (found.1.2, found.2) has)

-- a cell of a list that is displaced is among the others
pub overlap_some : (cells : List Cell) (offset : Cell) (others : List Cell) (k : ℕ) (d moved : Cell)
    → k < length cells → moved ≡ plus (get_or cells k d) offset → Contains others moved → Overlap (shifted offset cells) others
overlap_some cells offset others k d moved inside is has =
    let here : Contains cells (get_or cells k d) = (k, inside, get_or_default cells k (get_or cells k d) d inside) in
    (moved, subst (λ (c : Cell). Contains (shifted offset cells) c) (sym is) (Contains-map (λ (c : Cell). plus c offset) cells (get_or cells k d) here), has)
