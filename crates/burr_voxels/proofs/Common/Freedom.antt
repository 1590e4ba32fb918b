-- For crates above: a group is free of others exactly where no cell of the others lies ahead of a cell of the group.
use Rattle.std.proofs.Common.{◌≡◌, ℕ, zero, suc, ◌<◌, List, [], ◌∷◌, length, get_or, map, Contains, refl, sym, subst, ap, ◌∙◌, arith}
use Rattle.std.specs.Prelude.{pos}
use Rattle.std.proofs.lemmas.List.{length-map, get_or-map}
use Rattle.burr_voxels.specs.declared.cell.Cell.{Cell}
use Rattle.burr_voxels.specs.declared.direction.Direction.{Direction}
use Rattle.burr_voxels.specs.Grid.{plus, along, shifted, IsAhead}
use Rattle.burr_voxels.specs.CellSets.{IsFree}

-- what is in a list is in the list of values at its value
pub Contains-map : {A B : Type 0} (f : A → B) (xs : List A) (x : A) → Contains xs x → Contains (map f xs) (f x)
Contains-map f xs x c = (c.0, subst (λ n. c.0 < n) (sym (length-map xs f)) c.1, get_or-map f xs c.0 x (f x) c.1 ∙ ap f c.2)

-- what is in a list of values is the value at something in the list
pub Contains-from_map : {A B : Type 0} (f : A → B) (xs : List A) (y : B) → Contains (map f xs) y → (x : A) × Contains xs x × (f x ≡ y)
Contains-from_map f [] y c = let h = c.1 in absurd (omega arith)
Contains-from_map {A = A} {B = B} f (x ∷ xs) y c = by_place (Contains-from_map f xs y) c.0 c.1 c.2
  where
    by_place : (Contains (map f xs) y → (z : A) × Contains xs z × (f z ≡ y)) → (k : ℕ) → k < length (map f (x ∷ xs)) → get_or (map f (x ∷ xs)) k y ≡ y → (z : A) × Contains (x ∷ xs) z × (f z ≡ y)
    by_place ih zero lt is = (x, (0, omega arith, refl), is)
    by_place ih (suc k) lt is = let r = ih (k, omega arith, is) in (r.0, (suc r.1.0, let h = r.1.1 in omega arith, r.1.2), r.2)

pub free_where_none_ahead : (group others : List Cell) (direction : Direction) → ((from to : Cell) → Contains group from → Contains others to → ¬ IsAhead from to direction) → IsFree group others direction
free_where_none_ahead group others direction none k least overlap =
    let from = Contains-from_map (λ (c : Cell). plus c (along direction (pos k))) group overlap.0 overlap.1 in
    none from.0 overlap.0 from.1 overlap.2 (k, least, sym from.2)

pub none_ahead_where_free : (group others : List Cell) (direction : Direction) → IsFree group others direction → (from to : Cell) → Contains group from → Contains others to → ¬ IsAhead from to direction
none_ahead_where_free group others direction free from to here there ahead =
    let moved = Contains-map (λ (c : Cell). plus c (along direction (pos ahead.0))) group from here in
    free ahead.0 ahead.1 (to, subst (λ c. Contains (shifted (along direction (pos ahead.0)) group) c) (sym ahead.2) moved, there)
