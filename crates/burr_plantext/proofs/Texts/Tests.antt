-- Tests that all hold, tests of all elements, and checks that find nothing.
use Rattle.std.proofs.Common.{◌≡◌, ◌⊎◌, inl, inr, ℕ, List, [], ◌∷◌, ◌++◌, map, Bool, true, false, ◌==◌, IsTrue, refl, sym, ◌∙◌, arith, eqb-true, Option, is_none, ◌&&◌, ◌||◌}
use Rattle.std.specs.List.{list_all}
use Rattle.std.proofs.lemmas.Bool.{and_from, and_parts}
use Rattle.burr_plantext.specs.Rules.Checks.{FaultKind, unless, is_empty}
use Rattle.std.proofs.lemmas.List.Folds.{list_all-append, list_all-map}

pub and_three : {a b c : Bool} → IsTrue (a && b && c) → IsTrue a × IsTrue b × IsTrue c
and_three h = let two = and_parts _ _ h in let one = and_parts _ _ two.0 in (one.0, one.1, two.1)

pub and_four : {a b c d : Bool} → IsTrue (a && b && c && d) → IsTrue a × IsTrue b × IsTrue c × IsTrue d
and_four h = let two = and_parts _ _ h in let one = and_three two.0 in (one.0, one.1, one.2, two.1)

pub and_five : {a b c d e : Bool} → IsTrue (a && b && c && d && e) → IsTrue a × IsTrue b × IsTrue c × IsTrue d × IsTrue e
and_five h = let two = and_parts _ _ h in let one = and_four two.0 in (one.0, one.1, one.2, one.3, two.1)

-- A check that finds nothing

pub passes : (t : Bool) (k : FaultKind) (more : Option FaultKind) → IsTrue t → IsTrue (is_none more) → IsTrue (is_none (unless t k more))
passes true k more h g = g
passes false k more h g = grind arith

pub unless_none : (t : Bool) (k : FaultKind) (more : Option FaultKind) → IsTrue (is_none (unless t k more)) → IsTrue t × IsTrue (is_none more)
unless_none true k more e = (refl, e)
unless_none false k more e = grind arith

-- A test of all elements

pub all_both : {A : Type 0} (p : A → Bool) (xs ys : List A) → IsTrue (list_all p xs) → IsTrue (list_all p ys) → IsTrue (list_all p (xs ++ ys))
all_both p xs ys h k = list_all-append p xs ys ∙ and_from _ _ h k

pub all_parts : {A : Type 0} (p : A → Bool) (xs ys : List A) → IsTrue (list_all p (xs ++ ys)) → IsTrue (list_all p xs) × IsTrue (list_all p ys)
all_parts p xs ys h = and_parts _ _ (sym (list_all-append p xs ys) ∙ h)

pub all_weaker : {A : Type 0} (p q : A → Bool) → ((x : A) → IsTrue (p x) → IsTrue (q x)) → (xs : List A) → IsTrue (list_all p xs) → IsTrue (list_all q xs)
all_weaker p q gives [] h = refl
all_weaker p q gives (x ∷ xs) h = let parts = and_parts (p x) (list_all p xs) h in and_from (q x) (list_all q xs) (gives x parts.0) (all_weaker p q gives xs parts.1)

pub all_mapped : {A B : Type 0} (p : A → Bool) (q : B → Bool) (f : A → B) → ((x : A) → IsTrue (p x) → IsTrue (q (f x))) → (xs : List A) → IsTrue (list_all p xs) → IsTrue (list_all q (map f xs))
all_mapped p q f gives xs h = list_all-map q f xs ∙ all_weaker p (λ x. q (f x)) gives xs h

-- what is read back of each element is the element
pub all_back : {A B : Type 0} (p : A → Bool) (f : A → B) (g : B → A) → ((x : A) → IsTrue (p x) → g (f x) ≡ x) → (xs : List A) → IsTrue (list_all p xs) → map g (map f xs) ≡ xs
all_back p f g back [] h = refl
all_back p f g back (x ∷ xs) h = let parts = and_parts (p x) (list_all p xs) h in λ i. back x parts.0 i ∷ all_back p f g back xs parts.1 i

pub more_not_empty : {A : Type 0} (xs : List A) (x : A) → is_empty (xs ++ x ∷ []) ≡ false
more_not_empty [] x = refl
more_not_empty (y ∷ ys) x = refl

pub either_version : (version : ℕ) → IsTrue ((version == 1) || (version == 2)) → (version ≡ 1) ⊎ (version ≡ 2)
either_version version h = by (version == 1) refl h
  where
    by : (t : Bool) → (version == 1) ≡ t → IsTrue (t || (version == 2)) → (version ≡ 1) ⊎ (version ≡ 2)
    by true e h = inl (eqb-true version 1 e)
    by false e h = inr (eqb-true version 2 h)
