-- Numbers that are given one after the other, each of them small.
use Rattle.std.proofs.Common.{◌≡◌, ℕ, zero, suc, ◌+◌, ◌-◌, ◌<◌, List, [], ◌∷◌, ◌++◌, length, take, refl, ap, arith, slice_index_or, slice_set}
use Rattle.std.specs.Prelude.{ℤ, pos, replicate}
use Rattle.std.proofs.lemmas.List.Elements.{All-nil, All-cons, All-head, All-tail}
use Rattle.burr_forms.specs.Rules.Forms.{IsSmall, AllSmall}

put_at : (i rest : ℕ) (xs : List ℤ) (d : ℤ) → length xs ≡ i + suc rest
    → slice_set (take i xs ++ replicate (suc rest) (pos 0)) i (slice_index_or xs i d) ≡ take (suc i) xs ++ replicate rest (pos 0)
put_at i rest [] d e = absurd (omega arith)
put_at zero rest (x ∷ xs) d e = refl
put_at (suc i) rest (x ∷ xs) d e = ap (λ r. x ∷ r) (put_at i rest xs d (omega arith))

-- one number more is given
pub give_next : (i : ℕ) (xs now : List ℤ) (d v : ℤ) → length xs ≡ 8 → i < 8 → v ≡ slice_index_or xs i d → now ≡ take i xs ++ replicate (8 - i) (pos 0)
    → slice_set now i v ≡ take (i + 1) xs ++ replicate (8 - (i + 1)) (pos 0)
give_next i xs now d v e l v_is is =
    let more : i + 1 ≡ suc i = omega arith in
    let left : 8 - i ≡ suc (8 - suc i) = omega arith in
    rw (more, is, left, v_is) (put_at i (8 - suc i) xs d (omega arith))

-- and one more is small
pub small_next : (i : ℕ) (xs : List ℤ) (d : ℤ) → i < length xs → AllSmall (take i xs) → IsSmall (slice_index_or xs i d) → AllSmall (take (i + 1) xs)
small_next i xs d l so_far next = rw more (go i xs l so_far next)
  where
    more : i + 1 ≡ suc i
    more = omega arith

    go : (i : ℕ) (xs : List ℤ) → i < length xs → AllSmall (take i xs) → IsSmall (slice_index_or xs i d) → AllSmall (take (suc i) xs)
    go i [] l s n = absurd (omega arith)
    go zero (x ∷ xs) l s n = All-cons IsSmall x [] n (All-nil IsSmall)
    go (suc i) (x ∷ xs) l s n = All-cons IsSmall x (take (suc i) xs) (All-head IsSmall x (take i xs) s) (go i xs (omega arith) (All-tail IsSmall x (take i xs) s) n)
