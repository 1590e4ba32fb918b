-- What lists contain.
use Rattle.std.proofs.Common.{◌≡◌, zero, suc, Bool, true, false, cond, List, [], ◌∷◌, ◌⊎◌, map, filter, Contains, refl, sym, ap, subst, ◌∙◌, inl, inr, arith, true≢false}

module _ {X : Type 0} where
  pub contains_first : (x : X) (xs : List X) → Contains (x ∷ xs) x
  contains_first x xs = (0, omega arith, refl)

  pub contains_after : (x y : X) (xs : List X) → Contains xs y → Contains (x ∷ xs) y
  contains_after x y xs h = let inside = h.1 in (suc h.0, omega arith, h.2)

  pub contains_none : (x : X) → ¬ Contains [] x
  contains_none x h = let inside = h.1 in omega arith

  pub first_or_after : (x y : X) (xs : List X) → Contains (x ∷ xs) y → (x ≡ y) ⊎ Contains xs y
  first_or_after x y xs (zero, inside, e) = inl e
  first_or_after x y xs (suc k, inside, e) = inr (k, omega arith, e)

module _ {X Y : Type 0} (f : X → Y) where
  pub contains_image : (xs : List X) (x : X) → Contains xs x → Contains (map f xs) (f x)
  contains_image [] x h = absurd (contains_none x h)
  contains_image (y ∷ xs) x h = elim (first_or_after y x xs h) [
    | inl e ↦ subst (λ z. Contains (map f (y ∷ xs)) (f z)) e (contains_first (f y) (map f xs))
    | inr rest ↦ contains_after (f y) (f x) (map f xs) (contains_image xs x rest)
  ]

module _ {X : Type 0} (test : X → Bool) where
  kept_first : (b : Bool) (x : X) (xs : List X) → b ≡ true → Contains (cond b (x ∷ xs) xs) x
  kept_first true x xs e = contains_first x xs
  kept_first false x xs e = absurd (true≢false (sym e))

  kept_after : (b : Bool) (x y : X) (xs : List X) → Contains xs y → Contains (cond b (x ∷ xs) xs) y
  kept_after true x y xs h = contains_after x y xs h
  kept_after false x y xs h = h

  pub contains_passing : (xs : List X) (x : X) → Contains xs x → test x ≡ true → Contains (filter test xs) x
  contains_passing [] x h e = absurd (contains_none x h)
  contains_passing (y ∷ xs) x h e = elim (first_or_after y x xs h) [
    | inl same ↦ subst (Contains (filter test (y ∷ xs))) same
        (kept_first (test y) y (filter test xs) (ap test same ∙ e))
    | inr rest ↦ kept_after (test y) y x (filter test xs) (contains_passing xs x rest e)
  ]
