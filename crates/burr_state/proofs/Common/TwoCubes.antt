-- Two cubes side by side: what holds of them at home, and apart.
use Rattle.std.proofs.Common.{◌≡◌, ◌≢◌, ℕ, zero, suc, List, [], ◌∷◌, refl, sym, ap, subst, arith, lit<, lit≤}
use Rattle.std.specs.Prelude.{ℤ, pos, negsuc, neg_ℤ, ◌≤ℤ◌, Contains}
use Rattle.std.proofs.lemmas.Int.{ints}
use Rattle.std.proofs.lemmas.Option.{none-some, same_Some}
use Rattle.burr_voxels.specs.declared.cell.Cell.{Cell}
use Rattle.burr_voxels.specs.declared.direction.Direction.TheVariants.{PlusX, MinusX}
use Rattle.burr_voxels.specs.Grid.{at, origin, shifted, IsAhead}
use Rattle.burr_voxels.specs.CellSets.{Overlap, IsFree}
use Rattle.burr_voxels.proofs.Common.Freedom.{free_where_none_ahead}
use Rattle.burr_code.specs.PieceSets.{IsInSet}
use Rattle.burr_code.specs.declared.placement.Placement.{Placement}
use Rattle.burr_code.specs.declared.placement.Placement.TheVariants.{Apart, On}
use Rattle.burr_code.specs.Places.{LiesIn, AllLieIn, AllApart, IsPartOfTray, IsEmptyTray}
use Rattle.burr_code.proofs.Common.PieceSets.{no_bit_above}
use Rattle.burr_state.specs.Rules.Space.{NoOverlapIn, AllOnBench, IsFreeGroup}
use Rattle.burr_code.proofs.Common.Conditions.{same_tray, same_position, apart-on}

-- A at the origin, and B beside it along x
abbrev pub homes : List (List Cell)
homes = (origin ∷ []) ∷ (at (pos 1) (pos 0) (pos 0) ∷ []) ∷ []

-- the same, with B three units away
abbrev pub far_homes : List (List Cell)
far_homes = (origin ∷ []) ∷ (at (pos 3) (pos 0) (pos 0) ∷ []) ∷ []

abbrev pub both_here : List (Placement Cell)
both_here = On 0 origin ∷ On 0 origin ∷ []

-- A so far along x, and B at home
abbrev pub a_along_x : ℤ → List (Placement Cell)
a_along_x x = On 0 (at x (pos 0) (pos 0)) ∷ On 0 origin ∷ []

abbrev pub both_apart : List (Placement Cell)
both_apart = Apart ∷ Apart ∷ []

-- Sets and places

pub one_some : ◌≢◌ {A = ℕ} 1 0
one_some e = omega (arith, e)

pub a_is_in : IsInSet 1 0
a_is_in e = omega (arith, e)

pub b_is_not : ¬ IsInSet 1 1
b_is_not bit = bit refl

pub a_lies : AllLieIn both_here 0 1
a_lies zero bit = (origin, refl)
a_lies (suc p) bit = absurd (no_bit_above 1 1 (suc p) (lit< tt) (omega arith) bit)

pub b_stays : IsPartOfTray 1 both_here 0
b_stays = (one_some, 1, (origin, refl), b_is_not)

pub tray_is_free : IsEmptyTray both_here 1
tray_is_free zero (o, lies) = let other = same_tray 0 1 origin o (same_Some _ _ lies) in omega (arith, other)
tray_is_free (suc zero) (o, lies) = let other = same_tray 0 1 origin o (same_Some _ _ lies) in omega (arith, other)
tray_is_free (suc (suc p)) (o, lies) = absurd (none-some _ lies)

pub both_are_apart : AllApart both_apart
both_are_apart zero place found = sym (same_Some _ _ found)
both_are_apart (suc zero) place found = sym (same_Some _ _ found)
both_are_apart (suc (suc p)) place found = absurd (none-some _ found)

none_left : (p : ℕ) → LiesIn both_here p 0 → ¬ (¬ IsInSet 3 p)
none_left zero lies out = out (λ e. omega (arith, e))
none_left (suc zero) lies out = out (λ e. omega (arith, e))
none_left (suc (suc p)) lies out = none-some _ lies.1

-- A and B are the whole tray
pub none_stays : ¬ IsPartOfTray 3 both_here 0
none_stays part = none_left part.1 part.2 part.3

-- Freedom

b_is_not_after : ¬ IsAhead origin (at (pos 1) (pos 0) (pos 0)) MinusX
b_is_not_after (k, least, is) = let x = ap (λ (c : Cell). c.x) is in omega (arith, ints, x)

only : (c x : Cell) → Contains (c ∷ []) x → x ≡ c
only c x (zero, lt, is) = sym is
only c x (suc k, lt, is) = absurd (omega arith)

a_is_free : IsFree (shifted origin (origin ∷ [])) (shifted origin (at (pos 1) (pos 0) (pos 0) ∷ [])) MinusX
a_is_free =
    free_where_none_ahead (shifted origin (origin ∷ [])) (shifted origin (at (pos 1) (pos 0) (pos 0) ∷ [])) MinusX
    (λ from to in_a in_b ahead. b_is_not_after (subst (λ (c : Cell). IsAhead origin c MinusX) (only _ to in_b) (subst (λ (c : Cell). IsAhead c to MinusX) (only _ from in_a) ahead)))

-- the same, where homes and offsets are found to be these
a_is_free_so : (p_home q_home : List Cell) (p_offset q_offset : Cell) → p_home ≡ origin ∷ [] → q_home ≡ at (pos 1) (pos 0) (pos 0) ∷ [] → p_offset ≡ origin → q_offset ≡ origin
    → IsFree (shifted p_offset p_home) (shifted q_offset q_home) MinusX
a_is_free_so p_home q_home p_offset q_offset a b c d =
    subst (λ (x : Cell). IsFree (shifted x p_home) (shifted q_offset q_home) MinusX) (sym c)
    (subst (λ (y : Cell). IsFree (shifted origin p_home) (shifted y q_home) MinusX) (sym d) (rw (a, b) a_is_free))

pub group_is_free : IsFreeGroup homes both_here 0 1 MinusX
group_is_free zero zero = λ p_home q_home p_offset q_offset bit rest. absurd (rest a_is_in)
group_is_free zero (suc zero) = λ p_home q_home p_offset q_offset bit rest has_p has_q lies_p lies_q.
    a_is_free_so p_home q_home p_offset q_offset (sym (same_Some _ _ has_p)) (sym (same_Some _ _ has_q)) (sym (same_position 0 0 origin p_offset (same_Some _ _ lies_p)))
    (sym (same_position 0 0 origin q_offset (same_Some _ _ lies_q)))
group_is_free zero (suc (suc q)) = λ p_home q_home p_offset q_offset bit rest has_p has_q. absurd (none-some _ has_q)
group_is_free (suc p) q = λ p_home q_home p_offset q_offset bit. absurd (no_bit_above 1 1 (suc p) (lit< tt) (omega arith) bit)

pub group_is_blocked : ¬ IsFreeGroup homes both_here 0 1 PlusX
group_is_blocked free =
    free 0 1 (origin ∷ []) (at (pos 1) (pos 0) (pos 0) ∷ []) origin origin a_is_in b_is_not refl refl refl refl 1 (lit≤ tt)
    (at (pos 1) (pos 0) (pos 0), (0, lit< tt, refl), (0, lit< tt, refl))

-- all the way out, and not at the first unit alone
pub group_is_blocked_far : ¬ IsFreeGroup far_homes both_here 0 1 PlusX
group_is_blocked_far free =
    free 0 1 (origin ∷ []) (at (pos 3) (pos 0) (pos 0) ∷ []) origin origin a_is_in b_is_not refl refl refl refl 3 (lit≤ tt)
    (at (pos 3) (pos 0) (pos 0), (0, lit< tt, refl), (0, lit< tt, refl))

pub a_is_gone : ¬ AllLieIn both_apart 0 1
a_is_gone lie = let lies = lie 0 a_is_in in apart-on 0 lies.0 (same_Some _ _ lies.1)

-- One unit

pub a_is_on_bench : (x : ℤ) → neg_ℤ (pos 256) ≤ℤ x → x ≤ℤ pos 256 → AllOnBench (a_along_x x) 0
a_is_on_bench x least greatest zero offset lies = rw (sym (same_position 0 0 (at x (pos 0) (pos 0)) offset (same_Some _ _ lies))) (record {
  x_above = least;
  x_below = greatest;
  y_above = omega (arith, ints);
  y_below = omega (arith, ints);
  z_above = omega (arith, ints);
  z_below = omega (arith, ints);
})
a_is_on_bench x least greatest (suc zero) offset lies = rw (sym (same_position 0 0 origin offset (same_Some _ _ lies))) (record {
  x_above = omega (arith, ints);
  x_below = omega (arith, ints);
  y_above = omega (arith, ints);
  y_below = omega (arith, ints);
  z_above = omega (arith, ints);
  z_below = omega (arith, ints);
})
a_is_on_bench x least greatest (suc (suc p)) offset lies = absurd (none-some _ lies)

pub a_meets_b : ¬ NoOverlapIn homes (a_along_x (pos 1)) 0
a_meets_b none =
    none 0 1 (origin ∷ []) (at (pos 1) (pos 0) (pos 0) ∷ []) (at (pos 1) (pos 0) (pos 0)) origin (λ e. omega (arith, e)) refl refl refl refl
    (at (pos 1) (pos 0) (pos 0), (0, lit< tt, refl), (0, lit< tt, refl))

cells_are_apart : ¬ Overlap (shifted (at (negsuc 0) (pos 0) (pos 0)) (origin ∷ [])) (shifted origin (at (pos 1) (pos 0) (pos 0) ∷ []))
cells_are_apart (c, in_a, in_b) =
    let x = ap (λ (d : Cell). d.x) (only _ c in_a) in
    let also = ap (λ (d : Cell). d.x) (only _ c in_b) in
    omega (arith, ints, x, also)

-- the same, where homes and offsets are found to be these
cells_are_apart_so : (a_home b_home : List Cell) (a_offset b_offset : Cell) → origin ∷ [] ≡ a_home → at (pos 1) (pos 0) (pos 0) ∷ [] ≡ b_home → at (negsuc 0) (pos 0) (pos 0) ≡ a_offset → origin ≡ b_offset
    → ¬ Overlap (shifted a_offset a_home) (shifted b_offset b_home)
cells_are_apart_so a_home b_home a_offset b_offset a b c d over =
    cells_are_apart
    (subst (λ (x : List Cell). Overlap (shifted (at (negsuc 0) (pos 0) (pos 0)) x) (shifted origin (at (pos 1) (pos 0) (pos 0) ∷ []))) (sym a)
    (subst (λ (x : List Cell). Overlap (shifted (at (negsuc 0) (pos 0) (pos 0)) a_home) (shifted origin x)) (sym b)
    (subst (λ (x : Cell). Overlap (shifted x a_home) (shifted origin b_home)) (sym c) (subst (λ (x : Cell). Overlap (shifted a_offset a_home) (shifted x b_home)) (sym d) over))))

pub a_misses_b : NoOverlapIn homes (a_along_x (negsuc 0)) 0
a_misses_b zero zero = λ p_home q_home p_offset q_offset other. absurd (other refl)
a_misses_b zero (suc zero) = λ p_home q_home p_offset q_offset other p_has q_has p_lies q_lies.
    cells_are_apart_so p_home q_home p_offset q_offset (same_Some _ _ p_has) (same_Some _ _ q_has) (same_position 0 0 (at (negsuc 0) (pos 0) (pos 0)) p_offset (same_Some _ _ p_lies))
    (same_position 0 0 origin q_offset (same_Some _ _ q_lies))
a_misses_b (suc zero) zero = λ p_home q_home p_offset q_offset other p_has q_has p_lies q_lies over.
    cells_are_apart_so q_home p_home q_offset p_offset (same_Some _ _ q_has) (same_Some _ _ p_has) (same_position 0 0 (at (negsuc 0) (pos 0) (pos 0)) q_offset (same_Some _ _ q_lies))
    (same_position 0 0 origin p_offset (same_Some _ _ p_lies)) (over.0, over.2, over.1)
a_misses_b (suc zero) (suc zero) = λ p_home q_home p_offset q_offset other. absurd (other refl)
a_misses_b (suc (suc p)) q = λ p_home q_home p_offset q_offset other p_has. absurd (none-some _ p_has)
a_misses_b p (suc (suc q)) = λ p_home q_home p_offset q_offset other p_has q_has. absurd (none-some _ q_has)
