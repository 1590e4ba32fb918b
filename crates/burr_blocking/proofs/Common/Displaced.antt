-- For crates above: two pieces at offsets, and one displaced against the other by the difference.
use Rattle.std.proofs.Common.{◌≡◌, ◌↔◌, List, [], ◌∷◌, Contains, refl, sym, ap, subst, ◌∙◌, arith}
use Rattle.std.specs.Prelude.{ℤ, pos, ◌+ℤ◌, ◌-ℤ◌}
use Rattle.std.proofs.lemmas.Int.{ints}
use Rattle.burr_voxels.specs.declared.cell.Cell.{Cell}
use Rattle.burr_voxels.specs.declared.direction.Direction.{Direction}
use Rattle.burr_voxels.specs.Grid.{plus, minus, along, shifted}
use Rattle.burr_voxels.specs.CellSets.{Overlap, IsFree, IsAheadOfSome}
use Rattle.burr_voxels.proofs.Common.Freedom.{Contains-map, Contains-from_map, free_where_none_ahead, none_ahead_where_free}
use Rattle.burr_blocking.specs.Rules.Pairs.{IsBlocked, IsFreeFrom}

-- cells with the same coordinates are the same
same_cell : (c d : Cell) → c.x ≡ d.x → c.y ≡ d.y → c.z ≡ d.z → c ≡ d
same_cell c d x y z i = record { x = x i; y = y i; z = z i }

-- Numbers

moved_back : (x a y b : ℤ) → (x +ℤ a) ≡ (y +ℤ b) → (x +ℤ (a -ℤ b)) ≡ y
moved_back x a y b e = omega (arith, ints)

moved_on : (x a b : ℤ) → ((x +ℤ (a -ℤ b)) +ℤ b) ≡ (x +ℤ a)
moved_on x a b = omega (arith, ints)

moved_twice : (x a u : ℤ) → ((x +ℤ a) +ℤ u) ≡ (x +ℤ (a +ℤ u))
moved_twice x a u = omega (arith, ints)

later_less : (a u b : ℤ) → ((a +ℤ u) -ℤ b) ≡ ((a -ℤ b) +ℤ u)
later_less a u b = omega (arith, ints)

-- Cells

cell_back : (x a y b : Cell) → plus x a ≡ plus y b → plus x (minus a b) ≡ y
cell_back x a y b e =
    same_cell _ _ (moved_back x.x a.x y.x b.x (ap (λ (c : Cell). c.x) e)) (moved_back x.y a.y y.y b.y (ap (λ (c : Cell). c.y) e)) (moved_back x.z a.z y.z b.z (ap (λ (c : Cell). c.z) e))

cell_on : (x a b : Cell) → plus (plus x (minus a b)) b ≡ plus x a
cell_on x a b = same_cell _ _ (moved_on x.x a.x b.x) (moved_on x.y a.y b.y) (moved_on x.z a.z b.z)

cell_twice : (x a u : Cell) → plus (plus x a) u ≡ plus x (plus a u)
cell_twice x a u = same_cell _ _ (moved_twice x.x a.x u.x) (moved_twice x.y a.y u.y) (moved_twice x.z a.z u.z)

cell_less : (a u b : Cell) → minus (plus a u) b ≡ plus (minus a b) u
cell_less a u b = same_cell _ _ (later_less a.x u.x b.x) (later_less a.y u.y b.y) (later_less a.z u.z b.z)

-- Lists of cells

pub shifted_twice : (u a : Cell) (ps : List Cell) → shifted u (shifted a ps) ≡ shifted (plus a u) ps
shifted_twice u a [] = refl
shifted_twice u a (p ∷ ps) = ap (λ (c : Cell). c ∷ shifted u (shifted a ps)) (cell_twice p a u) ∙ ap (λ (cs : List Cell). plus p (plus a u) ∷ cs) (shifted_twice u a ps)

-- two pieces at offsets overlap where the one, displaced by the difference, overlaps the other at home
pub blocked_of_overlap : (a b : Cell) (ps qs : List Cell) → Overlap (shifted a ps) (shifted b qs) → IsBlocked ps qs (minus a b)
blocked_of_overlap a b ps qs (c, in_ps, in_qs) =
    let x = Contains-from_map (λ (d : Cell). plus d a) ps c in_ps in
    let y = Contains-from_map (λ (d : Cell). plus d b) qs c in_qs in
    let same : plus x.0 (minus a b) ≡ y.0 = cell_back x.0 a y.0 b (x.2 ∙ sym y.2) in
    (y.0, subst (λ (d : Cell). Contains (shifted (minus a b) ps) d) same (Contains-map (λ (d : Cell). plus d (minus a b)) ps x.0 x.1), y.1)

pub overlap_of_blocked : (a b : Cell) (ps qs : List Cell) → IsBlocked ps qs (minus a b) → Overlap (shifted a ps) (shifted b qs)
overlap_of_blocked a b ps qs (c, in_ps, in_qs) =
    let x = Contains-from_map (λ (d : Cell). plus d (minus a b)) ps c in_ps in
    let same : plus c b ≡ plus x.0 a = ap (λ (d : Cell). plus d b) (sym x.2) ∙ cell_on x.0 a b in
    (plus c b, subst (λ (d : Cell). Contains (shifted a ps) d) (sym same) (Contains-map (λ (d : Cell). plus d a) ps x.0 x.1), Contains-map (λ (d : Cell). plus d b) qs c in_qs)

-- shifted from its displacement, the one overlaps the other as it does displaced further
further : (d u : Cell) (ps qs : List Cell) → Overlap (shifted u (shifted d ps)) qs ↔ IsBlocked ps qs (plus d u)
further d u ps qs = (λ o. subst (λ (cs : List Cell). Overlap cs qs) (shifted_twice u d ps) o, λ o. subst (λ (cs : List Cell). Overlap cs qs) (sym (shifted_twice u d ps)) o)

-- the one is free of the other from its displacement on where it is free of it there
pub free_from : (d : Cell) (ps qs : List Cell) (direction : Direction) → IsFree (shifted d ps) qs direction ↔ IsFreeFrom ps qs d direction
free_from d ps qs direction = (
  λ free k least blocked. free k least ((further d (along direction (pos k)) ps qs).1 blocked),
  λ free k least overlap. free k least ((further d (along direction (pos k)) ps qs).0 overlap),
)

-- two pieces at offsets are free of each other where the one is from the difference on
pub free_of_difference : (a b : Cell) (ps qs : List Cell) (direction : Direction) → IsFreeFrom ps qs (minus a b) direction → IsFree (shifted a ps) (shifted b qs) direction
free_of_difference a b ps qs direction free k least overlap =
    let u = along direction (pos k) in
    let moved : Overlap (shifted (plus a u) ps) (shifted b qs) = subst (λ (cs : List Cell). Overlap cs (shifted b qs)) (shifted_twice u a ps) overlap in
    free k least (subst (λ (d : Cell). IsBlocked ps qs d) (cell_less a u b) (blocked_of_overlap (plus a u) b ps qs moved))

pub difference_of_free : (a b : Cell) (ps qs : List Cell) (direction : Direction) → IsFree (shifted a ps) (shifted b qs) direction → IsFreeFrom ps qs (minus a b) direction
difference_of_free a b ps qs direction free k least blocked =
    let u = along direction (pos k) in
    let overlap = overlap_of_blocked (plus a u) b ps qs (subst (λ (d : Cell). IsBlocked ps qs d) (sym (cell_less a u b)) blocked) in
    free k least (subst (λ (cs : List Cell). Overlap cs (shifted b qs)) (sym (shifted_twice u a ps)) overlap)

-- the one is free of the other where none of the other's cells lies ahead
pub free_where_unmet : (d : Cell) (ps qs : List Cell) (direction : Direction) → (¬ IsAheadOfSome (shifted d ps) qs direction) → IsFreeFrom ps qs d direction
free_where_unmet d ps qs direction none = (free_from d ps qs direction).0 (free_where_none_ahead (shifted d ps) qs direction (λ from to here there ahead. none (from, to, here, there, ahead)))

pub unmet_where_free : (d : Cell) (ps qs : List Cell) (direction : Direction) → IsFreeFrom ps qs d direction → ¬ IsAheadOfSome (shifted d ps) qs direction
unmet_where_free d ps qs direction free (from, to, here, there, ahead) = none_ahead_where_free (shifted d ps) qs direction ((free_from d ps qs direction).1 free) from to here there ahead

-- Two pieces that moved alike

same_difference : (a b u : ℤ) → ((a +ℤ u) -ℤ (b +ℤ u)) ≡ (a -ℤ b)
same_difference a b u = omega (arith, ints)

moved_alike : (a b u : Cell) → minus (plus a u) (plus b u) ≡ minus a b
moved_alike a b u = same_cell _ _ (same_difference a.x b.x u.x) (same_difference a.y b.y u.y) (same_difference a.z b.z u.z)

-- two pieces that moved alike overlap only where they did before
pub overlap_before : (a b u : Cell) (ps qs : List Cell) → Overlap (shifted (plus a u) ps) (shifted (plus b u) qs) → Overlap (shifted a ps) (shifted b qs)
overlap_before a b u ps qs over = overlap_of_blocked a b ps qs (subst (λ (d : Cell). IsBlocked ps qs d) (moved_alike a b u) (blocked_of_overlap (plus a u) (plus b u) ps qs over))
