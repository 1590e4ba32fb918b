-- Counts of looks: none more, and some and then others.
use Rattle.std.proofs.Common.{◌≡◌, ◌∙◌, ℕ, ◌+◌, ap, arith}
use Rattle.burr_blocking.specs.Rules.Counted.{Counted, counted, with_more}

pub none_more : (looks : Counted) → looks ≡ with_more 0 looks
none_more looks = ap (counted looks.assembly) (plain looks.count)
  where
    plain : (n : ℕ) → n ≡ n + 0
    plain n = omega arith

pub both_more : (old mid new : Counted) (a b : ℕ) → mid ≡ with_more a old → new ≡ with_more b mid
    → new ≡ with_more (a + b) old
both_more old mid new a b e f =
    f ∙ ap (with_more b) e ∙ ap (counted old.assembly) (sums old.count a b)
  where
    sums : (n a b : ℕ) → (n + a) + b ≡ n + (a + b)
    sums n a b = omega arith
