-- Two rising lists of the same points are one.
use Rattle.std.proofs.Common.{◌≡◌, List, [], ◌∷◌, ◌⊎◌, All, Contains, refl, sym, ap₂, subst, inl, inr, arith, ◌<ℤ◌}
use Rattle.std.specs.Prelude.{ℤ}
use Rattle.std.proofs.lemmas.Int.{ints}
use Rattle.std.proofs.lemmas.List.Elements.{All-contains}
use Rattle.burr_forms.specs.Rules.Forms.{Form, Point}
use Rattle.burr_forms.specs.Rules.Points.{IsPointOf, Precedes}
use Rattle.burr_forms.specs.Laws.PointLaws.{IsRising, AreThePoints, OneListOfPoints}
use Rattle.burr_forms.proofs.Containing.{contains_first, contains_after, contains_none, first_or_after}

not_less_both : (x y : ℤ) → x <ℤ y → ¬ (y <ℤ x)
not_less_both x y l m = omega (arith, ints)

not_less_same : (x y : ℤ) → x <ℤ y → ¬ (y ≡ x)
not_less_same x y l e = omega (arith, ints)

pub never_both : (p q : Point) → Precedes p q → ¬ Precedes q p
never_both [] q h k = h
never_both (x ∷ p) [] h k = h
never_both (x ∷ p) (y ∷ q) (inl l) (inl m) = not_less_both x y l m
never_both (x ∷ p) (y ∷ q) (inl l) (inr k) = not_less_same x y l k.0
never_both (x ∷ p) (y ∷ q) (inr h) (inl m) = not_less_same y x m h.0
never_both (x ∷ p) (y ∷ q) (inr h) (inr k) = never_both p q h.1 k.1

-- a point contained in a rising list is the first, or comes after it
first_or_later : (p q : Point) (points : List Point) → IsRising (p ∷ points) → Contains (p ∷ points) q
    → (p ≡ q) ⊎ Precedes p q
first_or_later p q points r h = elim (first_or_after p q points h) [
  | inl e ↦ inl e
  | inr rest ↦ inr (All-contains (Precedes p) points q r.0 rest)
]

same_first : (p q : Point) → (p ≡ q) ⊎ Precedes p q → (q ≡ p) ⊎ Precedes q p → p ≡ q
same_first p q (inl e) k = e
same_first p q (inr h) (inl e) = sym e
same_first p q (inr h) (inr k) = absurd (never_both p q h k)

-- each point of a list stands in another one
abbrev AllIn : List Point → List Point → Type 0
AllIn points others = (point : Point) → Contains points point → Contains others point

module _ (p q : Point) (points others : List Point) (same : p ≡ q) (r : All (Precedes p) points) where
  after_first : AllIn (p ∷ points) (q ∷ others) → AllIn points others
  after_first h point k = elim (first_or_after q point others (h point (contains_after p point points k))) [
    | inl e ↦ let less = subst (Precedes p) (sym e) (All-contains (Precedes p) points point r k) in
        let itself = subst (Precedes p) (sym same) less in absurd (never_both p p itself itself)
    | inr rest ↦ rest
  ]

pub one_rising : (points others : List Point) → IsRising points → IsRising others → AllIn points others
    → AllIn others points → points ≡ others
one_rising [] [] r s h k = refl
one_rising [] (q ∷ others) r s h k = absurd (contains_none q (k q (contains_first q others)))
one_rising (p ∷ points) [] r s h k = absurd (contains_none p (h p (contains_first p points)))
one_rising (p ∷ points) (q ∷ others) r s h k =
    let same = same_first p q (first_or_later p q points r (k q (contains_first q others)))
    (first_or_later q p others s (h p (contains_first p points))) in
    ap₂ (λ (x : Point) (xs : List Point). x ∷ xs) same
    (one_rising points others r.1 s.1 (after_first p q points others same r.0 h)
    (after_first q p others points (sym same) s.0 k))

module _ (ranges : List (ℤ × ℤ)) (guards : List Form) (points others : List Point) where
  all_in : AreThePoints ranges guards points → AreThePoints ranges guards others → AllIn points others
  all_in a b point h = b.each point (All-contains (IsPointOf ranges guards) points point a.inside h)

pub one_list_of_points : OneListOfPoints
one_list_of_points ranges guards points others a b =
    one_rising points others a.rising b.rising (all_in ranges guards points others a b)
    (all_in ranges guards others points b a)
