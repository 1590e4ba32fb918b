-- Points of a box.
use Rattle.std.proofs.Common.{◌≡◌, suc, List, [], ◌∷◌, length, refl, ap, arith}
use Rattle.std.specs.Prelude.{ℤ}
use Rattle.std.proofs.lemmas.Int.{ints}
use Rattle.std.proofs.lemmas.List.Elements.{All-head, All-tail, All-nil, All-cons}
use Rattle.burr_forms.specs.Rules.Forms.{Point, IsNear, AllNear}
use Rattle.burr_forms.specs.Rules.Points.{IsRange, InRange, InBox, AreRanges}

pub length_inside : (ranges : List (ℤ × ℤ)) (point : Point) → InBox ranges point → length point ≡ length ranges
length_inside [] [] b = refl
length_inside [] (x ∷ point) b = absurd b
length_inside (range ∷ ranges) [] b = absurd b
length_inside (range ∷ ranges) (x ∷ point) b = ap (λ n. suc n) (length_inside ranges point b.1)

near_in : (range : ℤ × ℤ) (x : ℤ) → IsRange range → InRange range x → IsNear x
near_in range x r b = let low = r.low in let high = r.high in let above = b.0 in let below = b.1 in omega (arith, ints)

pub near_inside : (ranges : List (ℤ × ℤ)) (point : Point) → AreRanges ranges → InBox ranges point → AllNear point
near_inside [] [] r b = All-nil IsNear
near_inside [] (x ∷ point) r b = absurd b
near_inside (range ∷ ranges) [] r b = absurd b
near_inside (range ∷ ranges) (x ∷ point) r b =
    All-cons IsNear x point (near_in range x (All-head IsRange range ranges r) b.0)
    (near_inside ranges point (All-tail IsRange range ranges r) b.1)
