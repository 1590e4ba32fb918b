-- What follows a point in a box is the next one in the order.
use Rattle.std.proofs.Common.{◌≡◌, ℕ, suc, ◌+◌, ◌*◌, Bool, true, false, cond, List, [], ◌∷◌, Some, None, refl, ap, ◌∙◌, arith, ◌≤ℤ◌, ◌<ℤ◌, ◌⊎◌, inl, inr, subst}
use Rattle.std.specs.Prelude.{ℤ, pos, ◌+ℤ◌, Option, int_lt}
use Rattle.std.specs.Int.{int_gap}
use Rattle.std.proofs.lemmas.Int.{ints, by_lt_z}
use Rattle.std.proofs.lemmas.List.Elements.{All-head, All-tail}
use Rattle.burr_forms.specs.Rules.Forms.{Point}
use Rattle.burr_forms.specs.Rules.Points.{IsRange, InRange, InBox, AreRanges, Precedes}
use Rattle.burr_forms.specs.Views.Rising.{lows, carried, following, count_in, count_after}
use Rattle.burr_forms.proofs.Remaining.{gap_more, gap_none}

pub lows_inside : (ss : List (ℤ × ℤ)) → AreRanges ss → InBox ss (lows ss)
lows_inside [] r = tt
lows_inside (s ∷ ss) r = let up = (All-head IsRange s ss r).rising in ((omega (arith, ints), up), lows_inside ss (All-tail IsRange s ss r))

-- a point comes no later
abbrev pub IsUpTo : Point → Point → Type 0
IsUpTo q p = (q ≡ p) ⊎ Precedes q p

not_less : (x y : ℤ) → x ≤ℤ y → ¬ (y <ℤ x)
not_less x y l h = omega (arith, ints)

pub none_before_lows : (ss : List (ℤ × ℤ)) (q : Point) → InBox ss q → ¬ Precedes q (lows ss)
none_before_lows [] [] b p = p
none_before_lows [] (y ∷ q) b p = b
none_before_lows (s ∷ ss) [] b p = b
none_before_lows (s ∷ ss) (y ∷ q) b (inl l) = not_less s.0 y b.0.0 l
none_before_lows (s ∷ ss) (y ∷ q) b (inr r) = none_before_lows ss q b.1 r.1

split_below : (x y : ℤ) → y <ℤ (x +ℤ pos 1) → (y <ℤ x) ⊎ (y ≡ x)
split_below x y h = by_lt_z y x (λ l. inl l) (λ l. inr (omega (arith, ints)))

split_up_to : (x y : ℤ) → y ≤ℤ x → (y <ℤ x) ⊎ (y ≡ x)
split_up_to x y h = by_lt_z y x (λ l. inl l) (λ l. inr (omega (arith, ints)))

more_times : (g n : ℕ) → suc g * n ≡ n + g * n
more_times g n = grind arith

count_lows : (ss : List (ℤ × ℤ)) → suc (count_after ss (lows ss)) ≡ count_in ss
count_lows [] = refl
count_lows (s ∷ ss) = let ih = count_lows ss in omega arith

-- what is known of the point that follows, or of there being none
pub record IsNext (ss : List (ℤ × ℤ)) (xs p : Point) : Type 0 where
  pub inside : InBox ss p
  pub nearest : (q : Point) → InBox ss q → Precedes q p → IsUpTo q xs
  pub count : suc (count_after ss p) ≡ count_after ss xs

pub record IsLast (ss : List (ℤ × ℤ)) (xs : Point) : Type 0 where
  pub greatest : (q : Point) → InBox ss q → IsUpTo q xs
  pub count : count_after ss xs ≡ 0

abbrev pub Follows : List (ℤ × ℤ) → Point → Option Point → Type 0
Follows ss xs (Some p) = IsNext ss xs p
Follows ss xs None = IsLast ss xs

-- with one number more in front
ahead : (x y : ℤ) (q xs : Point) → y ≡ x → IsUpTo q xs → IsUpTo (y ∷ q) (x ∷ xs)
ahead x y q xs e (inl same) = inl (ap (λ z. z ∷ q) e ∙ ap (λ r. x ∷ r) same)
ahead x y q xs e (inr before) = inr (inr (e, before))

up_to_or : (x y : ℤ) (q xs : Point) → (y <ℤ x) ⊎ (y ≡ x) → IsUpTo q xs → IsUpTo (y ∷ q) (x ∷ xs)
up_to_or x y q xs (inl l) u = inr (inl l)
up_to_or x y q xs (inr e) u = ahead x y q xs e u

module _ (s : ℤ × ℤ) (ss : List (ℤ × ℤ)) (x : ℤ) (xs : Point) (here : InRange s x) where
  nearest_after : (p : Point) → IsNext ss xs p → (q : Point) → InBox (s ∷ ss) q → Precedes q (x ∷ p) → IsUpTo q (x ∷ xs)
  nearest_after p n [] b before = absurd b
  nearest_after p n (y ∷ q) b (inl l) = inr (inl l)
  nearest_after p n (y ∷ q) b (inr r) = ahead x y q xs r.0 (n.nearest q b.1 r.1)

  nearest_here : IsLast ss xs → (q : Point) → InBox (s ∷ ss) q → Precedes q ((x +ℤ pos 1) ∷ lows ss) → IsUpTo q (x ∷ xs)
  nearest_here n [] b before = absurd b
  nearest_here n (y ∷ q) b (inl l) = up_to_or x y q xs (split_below x y l) (n.greatest q b.1)
  nearest_here n (y ∷ q) b (inr r) = absurd (none_before_lows ss q b.1 r.1)

  greatest_here : int_lt x s.1 ≡ false → IsLast ss xs → (q : Point) → InBox (s ∷ ss) q → IsUpTo q (x ∷ xs)
  greatest_here e n [] b = absurd b
  greatest_here e n (y ∷ q) b = let high = b.0.1 in up_to_or x y q xs (split_up_to x y (omega (arith, ints))) (n.greatest q b.1)

  here_test : AreRanges ss → IsLast ss xs → (b : Bool) → int_lt x s.1 ≡ b → Follows (s ∷ ss) (x ∷ xs) (cond b (Some ((x +ℤ pos 1) ∷ lows ss)) None)
  here_test r n true e =
      let low = here.0 in
      let g = gap_more x s.1 e in
      let t = more_times (int_gap (x +ℤ pos 1) s.1) (count_in ss) in
      let f : int_gap x s.1 * count_in ss ≡ suc (int_gap (x +ℤ pos 1) s.1) * count_in ss = ap (λ k. k * count_in ss) g in
      let l = count_lows ss in
      let none = n.count in
      record { inside = ((omega (arith, ints), omega (arith, ints)), lows_inside ss r); nearest = nearest_here n; count = omega arith }
  here_test r n false e =
      let f : int_gap x s.1 * count_in ss ≡ 0 * count_in ss = ap (λ k. k * count_in ss) (gap_none x s.1 e) in
      let none = n.count in
      record { greatest = greatest_here e n; count = omega arith }

  in_front : AreRanges ss → (next : Option Point) → Follows ss xs next → Follows (s ∷ ss) (x ∷ xs) (carried s ss x next)
  in_front r (Some p) n = let c = n.count in record { inside = (here, n.inside); nearest = nearest_after p n; count = omega arith }
  in_front r None n = here_test r n (int_lt x s.1) refl

pub follows : (ss : List (ℤ × ℤ)) (xs : Point) → AreRanges ss → InBox ss xs → Follows ss xs (following ss xs)
follows [] [] r b = record { greatest = only; count = refl }
  where
    only : (q : Point) → InBox [] q → IsUpTo q []
    only [] b = inl refl
    only (x ∷ q) b = absurd b
follows [] (x ∷ xs) r b = absurd b
follows (s ∷ ss) [] r b = absurd b
follows (s ∷ ss) (x ∷ xs) r b = in_front s ss x xs b.0 (All-tail IsRange s ss r) (following ss xs) (follows ss xs (All-tail IsRange s ss r) b.1)

pub follows_next : (ss : List (ℤ × ℤ)) (xs p : Point) → AreRanges ss → InBox ss xs → following ss xs ≡ Some p → IsNext ss xs p
follows_next ss xs p r b e = subst (Follows ss xs) e (follows ss xs r b)

pub follows_none : (ss : List (ℤ × ℤ)) (xs : Point) → AreRanges ss → InBox ss xs → following ss xs ≡ None → IsLast ss xs
follows_none ss xs r b e = subst (Follows ss xs) e (follows ss xs r b)
