-- For crates above: lists turned round. Operands have the bottom first in the code, and the top first in definitions.
use Rattle.std.proofs.Common.{◌≡◌, ◌<◌, ◌≤◌, ◌⊎◌, inl, inr, ℕ, ◌-◌, List, ◌∷◌, [], ◌++◌, ◌∙◌, sym, ap, refl, length, take, drop, reverse, arith, Some}
use Rattle.std.proofs.lemmas.Bool.{le-leb, cases_lt}
use Rattle.std.proofs.lemmas.List.{take-append-drop, take_at, take_all, drop_at, drop_all, reverse-append, length-drop, length-reverse}
use Rattle.burr_code.specs.Stacks.{top_many}

-- one more after, turned round, is in front
pub reverse_snoc : {X : Type 0} (x : X) (xs : List X) → reverse (xs ++ x ∷ []) ≡ x ∷ reverse xs
reverse_snoc x xs = reverse-append xs (x ∷ [])

module _ {X : Type 0} (k : ℕ) (xs : List X) where
  few_left : length xs < k → length xs - k ≡ 0
  few_left few = omega (arith, few)

  all_turned : length xs < k → length (reverse xs) ≤ k
  all_turned few = let same = length-reverse xs in omega (arith, same, few)

  -- as many turned round are the last k
  last_turned : k ≤ length xs → length (reverse (drop (length xs - k) xs)) ≡ k
  last_turned some =
      length-reverse (drop (length xs - k) xs) ∙ length-drop (length xs - k) xs ∙ omega (arith, some)

  -- the last k, turned round, before the others, turned round
  cut_turned : reverse xs ≡ reverse (drop (length xs - k) xs) ++ reverse (take (length xs - k) xs)
  cut_turned =
      ap (λ ys. reverse ys) (sym (take-append-drop (length xs - k) xs))
      ∙ reverse-append (take (length xs - k) xs) (drop (length xs - k) xs)

  -- all but the first k of a list turned round are all but its last k, turned round
  pub drop_reverse : drop k (reverse xs) ≡ reverse (take (length xs - k) xs)
  drop_reverse = by_size (cases_lt (length xs) k)
    where
      by_size : (length xs < k) ⊎ (k ≤ length xs) → drop k (reverse xs) ≡ reverse (take (length xs - k) xs)
      by_size (inl few) = drop_all k (reverse xs) (all_turned few) ∙ ap (λ n. reverse (take n xs)) (sym (few_left few))
      by_size (inr some) =
          ap (λ ys. drop k ys) cut_turned
          ∙ drop_at (reverse (drop (length xs - k) xs)) (reverse (take (length xs - k) xs)) k (last_turned some)

  -- the first k of a list turned round are its last k, turned round
  pub take_reverse : take k (reverse xs) ≡ reverse (drop (length xs - k) xs)
  take_reverse = by_size (cases_lt (length xs) k)
    where
      by_size : (length xs < k) ⊎ (k ≤ length xs) → take k (reverse xs) ≡ reverse (drop (length xs - k) xs)
      by_size (inl few) = take_all k (reverse xs) (all_turned few) ∙ ap (λ n. reverse (drop n xs)) (sym (few_left few))
      by_size (inr some) =
          ap (λ ys. take k ys) cut_turned
          ∙ take_at (reverse (drop (length xs - k) xs)) (reverse (take (length xs - k) xs)) k (last_turned some)

  -- a stack of at least k has its k topmost
  pub top_many_of : k ≤ length xs → top_many k (reverse xs) ≡ Some (take k (reverse xs), drop k (reverse xs))
  top_many_of some = rw (length-reverse xs, le-leb k (length xs) some) refl
