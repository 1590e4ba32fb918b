-- Two pieces that are translates of others overlap where those do, displaced accordingly.
use Rattle.std.proofs.Common.{◌≡◌, ◌↔◌, ◌∙◌, ℕ, ◌+◌, ◌<◌, List, [], ◌∷◌, ◌++◌, length, take, get_or, Bool, true, false, not, ◌&&◌, refl, sym, ap, subst, arith}
use Rattle.std.specs.Prelude.{ℤ, pos, ◌+ℤ◌, ◌-ℤ◌}
use Rattle.std.specs.Ordering.{int_eq}
use Rattle.std.proofs.lemmas.Int.{ints}
use Rattle.std.proofs.lemmas.Bool.Decides.{Decides-and, Decides-int_eq}
use Rattle.std.proofs.lemmas.List.{take_more, map-append, get_or-map}
use Rattle.burr_voxels.specs.declared.cell.Cell.{Cell}
use Rattle.burr_voxels.specs.declared.direction.Direction.{Direction}
use Rattle.burr_voxels.specs.Grid.{plus, minus, along, origin, shifted}
use Rattle.burr_voxels.specs.CellSets.{Overlap}
use Rattle.burr_voxels.proofs.Common.Ahead.{same_cell}
use Rattle.burr_blocking.specs.Rules.Pairs.{IsBlocked, IsFreeFrom}
use Rattle.burr_blocking.specs.Views.Translates.{IsTranslate, displacement_of}
use Rattle.burr_blocking.proofs.Common.Displaced.{shifted_twice, blocked_of_overlap, overlap_of_blocked}
use Rattle.burr_blocking.proofs.Marks.{plus_minus, minus_plus}

-- Overlap

pub blocked_translates : (ms ns : List Cell) (s t d : Cell) → IsBlocked (shifted s ms) (shifted t ns) d ↔ IsBlocked ms ns (displacement_of s t d)
blocked_translates ms ns s t d = (
  λ blocked. blocked_of_overlap (plus s d) t ms ns (subst (λ (cs : List Cell). Overlap cs (shifted t ns)) (shifted_twice d s ms) blocked),
  λ blocked. subst (λ (cs : List Cell). Overlap cs (shifted t ns)) (sym (shifted_twice d s ms)) (overlap_of_blocked (plus s d) t ms ns blocked),
)

-- further along, and further between the others
further_on : (s t d u : ℤ) → ((s +ℤ (d +ℤ u)) -ℤ t) ≡ (((s +ℤ d) -ℤ t) +ℤ u)
further_on s t d u = omega (arith, ints)

displaced_further : (s t d u : Cell) → displacement_of s t (plus d u) ≡ plus (displacement_of s t d) u
displaced_further s t d u = same_cell _ _ (further_on s.x t.x d.x u.x) (further_on s.y t.y d.y u.y) (further_on s.z t.z d.z u.z)

pub free_translates : (ms ns : List Cell) (s t d : Cell) (direction : Direction) → IsFreeFrom (shifted s ms) (shifted t ns) d direction ↔ IsFreeFrom ms ns (displacement_of s t d) direction
free_translates ms ns s t d direction = (
  λ free k least blocked.
      let u = along direction (pos k) in
      free k least ((blocked_translates ms ns s t (plus d u)).1 (subst (IsBlocked ms ns) (sym (displaced_further s t d u)) blocked)),
  λ free k least blocked.
      let u = along direction (pos k) in
      free k least (subst (IsBlocked ms ns) (displaced_further s t d u) ((blocked_translates ms ns s t (plus d u)).0 blocked)),
)

-- Cells that are compared

not_moved : (z : ℤ) → z ≡ z +ℤ pos 0
not_moved z = omega (arith, ints)

-- cells are a translate of themselves
pub translate_of_itself : (cells : List Cell) → IsTranslate cells origin cells
translate_of_itself [] = refl
translate_of_itself (c ∷ cells) =
    ap (λ (d : Cell). d ∷ cells) (same_cell c (plus c origin) (not_moved c.x) (not_moved c.y) (not_moved c.z)) ∙ ap (λ (cs : List Cell). plus c origin ∷ cs) (translate_of_itself cells)

not_false : (b : Bool) → not b ≡ false → b ≡ true
not_false true is = refl
not_false false is = sym is

-- cells that are compared with no difference are the same
pub same_where_equal : (a b : Cell) (r : Bool) → r ≡ not (int_eq a.x b.x && (int_eq a.y b.y && int_eq a.z b.z)) → r ≡ false → a ≡ b
same_where_equal a b r is none =
    let yes = not_false (int_eq a.x b.x && (int_eq a.y b.y && int_eq a.z b.z)) (sym is ∙ none) in
    let across = Decides-and (int_eq a.y b.y) (int_eq a.z b.z) (Decides-int_eq a.y b.y) (Decides-int_eq a.z b.z) in
    let all = (Decides-and (int_eq a.x b.x) (int_eq a.y b.y && int_eq a.z b.z) (Decides-int_eq a.x b.x) across).0 yes in
    same_cell a b all.0 all.1.0 all.1.1

not_true : (b : Bool) → b ≡ true → ¬ (not b ≡ true)
not_true true is other = grind arith
not_true false is other = grind arith

-- cells that are compared with a difference are not the same
pub others_where_unequal : (a b : Cell) (r : Bool) → r ≡ not (int_eq a.x b.x && (int_eq a.y b.y && int_eq a.z b.z)) → r ≡ true → ¬ (a ≡ b)
others_where_unequal a b r is differ same =
    let across = Decides-and (int_eq a.y b.y) (int_eq a.z b.z) (Decides-int_eq a.y b.y) (Decides-int_eq a.z b.z) in
    let all = (Decides-and (int_eq a.x b.x) (int_eq a.y b.y && int_eq a.z b.z) (Decides-int_eq a.x b.x) across).1 (ap (λ (c : Cell). c.x) same, (ap (λ (c : Cell). c.y) same, ap (λ (c : Cell). c.z) same)) in
    not_true (int_eq a.x b.x && (int_eq a.y b.y && int_eq a.z b.z)) all (sym is ∙ differ)

-- a translate's cells lie as far from the others as it is displaced
translate_at : (from to : List Cell) (d : Cell) (k : ℕ) → IsTranslate from d to → k < length from → minus (get_or to k origin) (get_or from k origin) ≡ d
translate_at from to d k is lt =
    let at_k : get_or to k origin ≡ plus (get_or from k origin) d = ap (λ (cs : List Cell). get_or cs k origin) is ∙ get_or-map (λ (c : Cell). plus c d) from k origin origin lt in
    ap (λ (c : Cell). minus c (get_or from k origin)) at_k ∙ minus_plus (get_or from k origin) d

-- where one cell lies otherwise than the first, there is no translate
pub no_translate : (from to : List Cell) (i : ℕ) (first other s way : Cell) → i < length from → first ≡ get_or from 0 origin → other ≡ get_or to 0 origin → s ≡ minus other first → way ≡ minus (get_or to i origin) (get_or from i origin) → ¬ (way ≡ s) → (d : Cell) → ¬ IsTranslate from d to
no_translate from to i first other s way lt first_is other_is s_is way_is differ d is =
    let start : s ≡ minus (get_or to 0 origin) (get_or from 0 origin) = s_is ∙ ap (λ (c : Cell). minus c first) other_is ∙ ap (minus (get_or to 0 origin)) first_is in
    differ (way_is ∙ translate_at from to d i is lt ∙ sym (translate_at from to d 0 is (omega arith)) ∙ sym start)

-- one cell more is displaced alike
pub translate_more : (from to : List Cell) (i : ℕ) (d e f : Cell) → i < length from → i < length to → minus (get_or to i f) (get_or from i e) ≡ d → IsTranslate (take i from) d (take i to) → IsTranslate (take (i + 1) from) d (take (i + 1) to)
translate_more from to i d e f lt lt_to is so_far =
    let here : get_or to i f ≡ plus (get_or from i e) d = sym (plus_minus (get_or from i e) (get_or to i f)) ∙ ap (plus (get_or from i e)) is in
    take_more to i f lt_to ∙ ap (λ (cs : List Cell). cs ++ get_or to i f ∷ []) so_far ∙ ap (λ (c : Cell). shifted d (take i from) ++ c ∷ []) here ∙ sym (ap (shifted d) (take_more from i e lt) ∙ map-append (λ (c : Cell). plus c d) (take i from) (get_or from i e ∷ []))

-- Distances
