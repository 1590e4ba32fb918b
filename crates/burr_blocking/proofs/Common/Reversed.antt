-- For crates above: of two pieces either may be displaced, the one by what the other is displaced back.
use Rattle.std.proofs.Common.{◌≡◌, ◌↔◌, List, Contains, subst, sym, ap, ◌∙◌, arith}
use Rattle.std.specs.Prelude.{ℤ, pos}
use Rattle.std.proofs.lemmas.Int.{ints}
use Rattle.burr_voxels.specs.declared.cell.Cell.{Cell}
use Rattle.burr_voxels.specs.declared.direction.Direction.{Direction}
use Rattle.burr_voxels.specs.Grid.{plus, minus, along, origin}
use Rattle.burr_voxels.proofs.Common.Ahead.{same_cell}
use Rattle.burr_voxels.proofs.Common.Freedom.{Contains-map, Contains-from_map}
use Rattle.burr_blocking.specs.Rules.Pairs.{IsBlocked, IsFreeFrom}

-- Cells

plus_back : (p d : Cell) → plus (plus p d) (minus origin d) ≡ p
plus_back p d = same_cell _ _ (omega (arith, ints)) (omega (arith, ints)) (omega (arith, ints))

back_twice : (d : Cell) → minus origin (minus origin d) ≡ d
back_twice d = same_cell _ _ (omega (arith, ints)) (omega (arith, ints)) (omega (arith, ints))

back_plus : (d u : Cell) → plus (minus origin d) (minus origin u) ≡ minus origin (plus d u)
back_plus d u = same_cell _ _ (omega (arith, ints)) (omega (arith, ints)) (omega (arith, ints))

-- Overlap

-- a cell of the one, displaced, is one of the other
pub blocked_from : (ps qs : List Cell) (d p : Cell) → Contains ps p → Contains qs (plus p d) → IsBlocked ps qs d
blocked_from ps qs d p in_ps in_qs = (plus p d, Contains-map (λ (c : Cell). plus c d) ps p in_ps, in_qs)

pub blocked_gives : (ps qs : List Cell) (d : Cell) → IsBlocked ps qs d → (p : Cell) × Contains ps p × Contains qs (plus p d)
blocked_gives ps qs d (c, in_shifted, in_qs) =
    let r = Contains-from_map (λ (p : Cell). plus p d) ps c in_shifted in
    (r.0, r.1, subst (Contains qs) (sym r.2) in_qs)

blocked_back : (ps qs : List Cell) (d : Cell) → IsBlocked ps qs d → IsBlocked qs ps (minus origin d)
blocked_back ps qs d blocked =
    let r = blocked_gives ps qs d blocked in
    blocked_from qs ps (minus origin d) (plus r.0 d) r.2 (subst (Contains ps) (sym (plus_back r.0 d)) r.1)

-- the one displaced overlaps the other where the other displaced back overlaps the one
pub blocked_either : (ps qs : List Cell) (d : Cell) → IsBlocked ps qs d ↔ IsBlocked qs ps (minus origin d)
blocked_either ps qs d = (
  blocked_back ps qs d,
  λ blocked. subst (IsBlocked ps qs) (back_twice d) (blocked_back qs ps (minus origin d) blocked),
)

-- Freedom

-- further along a direction, and further back
further_back : (d : Cell) (direction back : Direction) (k : ℤ) → along back k ≡ minus origin (along direction k) → plus (minus origin d) (along back k) ≡ minus origin (plus d (along direction k))
further_back d direction back k is = ap (plus (minus origin d)) is ∙ back_plus d (along direction k)

-- the one is free of the other along a direction where the other is free of the one the other way
pub free_either : (ps qs : List Cell) (d : Cell) (direction back : Direction) → ((k : ℤ) → along back k ≡ minus origin (along direction k)) → IsFreeFrom ps qs d direction ↔ IsFreeFrom qs ps (minus origin d) back
free_either ps qs d direction back is = (
  λ free k least blocked.
      free k least ((blocked_either ps qs (plus d (along direction (pos k)))).1 (subst (IsBlocked qs ps) (further_back d direction back (pos k) (is (pos k))) blocked)),
  λ free k least blocked.
      free k least (subst (IsBlocked qs ps) (sym (further_back d direction back (pos k) (is (pos k)))) ((blocked_either ps qs (plus d (along direction (pos k)))).0 blocked)),
)
