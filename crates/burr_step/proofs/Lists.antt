-- Lists, and lists turned round.
use Rattle.std.proofs.Common.{◌≡◌, ℕ, suc, ◌-◌, ◌<◌, List, [], ◌∷◌, ◌++◌, length, take, reverse, slice_get, Option, Some, MatchOption, refl, sym, ap, subst, ◌∙◌, arith}
use Rattle.std.proofs.lemmas.List.{reverse-append, reverse-reverse}
use Rattle.burr_code.proofs.Common.Turned.{reverse_snoc, take_reverse}
use Rattle.circular_buffer.specs.Buffer.{keep_last, last_item}

module _ {X : Type 0} where
  first_last : (x : X) (xs : List X) → reverse (x ∷ xs) ≡ reverse xs ++ x ∷ []
  first_last x xs = reverse-append (x ∷ []) xs

  one_shorter : (xs : List X) (x : X) → length (xs ++ x ∷ []) - 1 ≡ length xs
  one_shorter [] x = refl
  one_shorter (y ∷ ys) x = one_less (length (ys ++ x ∷ [])) (length ys) (one_shorter ys x) (some ys)
    where
      some : (ys : List X) → 0 < length (ys ++ x ∷ [])
      some [] = omega arith
      some (z ∷ zs) = omega arith

      one_less : (m n : ℕ) → m - 1 ≡ n → 0 < m → suc m - 1 ≡ suc n
      one_less m n e less = omega (arith, e, less)

  pub all_but_last : (xs : List X) (x : X) → take (length (xs ++ x ∷ []) - 1) (xs ++ x ∷ []) ≡ xs
  all_but_last xs x = ap (λ (n : ℕ). take n (xs ++ x ∷ [])) (one_shorter xs x) ∙ front xs
    where
      front : (xs : List X) → take (length xs) (xs ++ x ∷ []) ≡ xs
      front [] = refl
      front (y ∷ ys) = ap (λ (l : List X). y ∷ l) (front ys)

  is_last : (xs : List X) (x : X) → last_item (xs ++ x ∷ []) ≡ Some x
  is_last xs x = ap (λ (n : ℕ). slice_get (xs ++ x ∷ []) n) (one_shorter xs x) ∙ after xs
    where
      after : (xs : List X) → slice_get (xs ++ x ∷ []) (length xs) ≡ Some x
      after [] = refl
      after (y ∷ ys) = after ys

  -- the last item is the first of the list turned round
  abbrev IsPopped : List X → Type 0
  IsPopped xs = MatchOption (last_item xs) (reverse xs ≡ []) (λ x. reverse xs ≡ x ∷ reverse (take (length xs - 1) xs))

  pub popped : (xs : List X) → IsPopped xs
  popped xs = subst IsPopped (reverse-reverse xs) (turned (reverse xs))
    where
      with_last : (xs : List X) (x : X) → IsPopped (xs ++ x ∷ [])
      with_last xs x =
          subst (λ (o : Option X). MatchOption o (reverse (xs ++ x ∷ []) ≡ [])
          (λ y. reverse (xs ++ x ∷ []) ≡ y ∷ reverse (take (length (xs ++ x ∷ []) - 1) (xs ++ x ∷ [])))) (sym (is_last xs x))
          (reverse_snoc x xs ∙ ap (λ (l : List X). x ∷ reverse l) (sym (all_but_last xs x)))

      turned : (ys : List X) → IsPopped (reverse ys)
      turned [] = refl
      turned (y ∷ ys) = subst IsPopped (sym (first_last y ys)) (with_last (reverse ys) y)

  -- the last n, turned round, are the first n of the list turned round
  pub pushed : (n : ℕ) (xs : List X) (x : X) → reverse (keep_last n (xs ++ x ∷ [])) ≡ take n (x ∷ reverse xs)
  pushed n xs x = sym (take_reverse n (xs ++ x ∷ [])) ∙ ap (λ (l : List X). take n l) (reverse_snoc x xs)
