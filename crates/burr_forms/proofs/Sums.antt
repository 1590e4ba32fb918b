-- Sums of forms.
use Rattle.std.proofs.Common.{◌≡◌, ℕ, zero, suc, ◌≤◌, List, [], ◌∷◌, length, refl, ap, ◌∙◌, arith}
use Rattle.std.specs.Prelude.{ℤ, pos, ◌+ℤ◌, ◌*ℤ◌, replicate}
use Rattle.std.proofs.lemmas.Int.{ints}
use Rattle.burr_forms.specs.Rules.Forms.{Form, sum_of, plus_form, times}
use Rattle.burr_forms.proofs.Multiples.{multiples}

-- A form and nothing

nothing_before : (x : ℤ) → (pos 0 +ℤ x) ≡ x
nothing_before x = omega (arith, ints)

nothing_after : (x : ℤ) → (x +ℤ pos 0) ≡ x
nothing_after x = omega (arith, ints)

pub zeros_and : (n : ℕ) (ys : List ℤ) → n ≤ length ys → sum_of (replicate n (pos 0)) ys ≡ ys
zeros_and zero ys l = refl
zeros_and (suc n) [] l = absurd (omega arith)
zeros_and (suc n) (y ∷ ys) l = λ i. nothing_before y i ∷ zeros_and n ys (omega arith) i

pub and_zeros : (n : ℕ) (xs : List ℤ) → n ≤ length xs → sum_of xs (replicate n (pos 0)) ≡ xs
and_zeros zero [] l = refl
and_zeros zero (x ∷ xs) l = refl
and_zeros (suc n) [] l = absurd (omega arith)
and_zeros (suc n) (x ∷ xs) l = λ i. nothing_after x i ∷ and_zeros n xs (omega arith) i

once : (c : ℤ) → (pos 1 *ℤ c) ≡ c
once c = omega (arith, ints)

pub all_once : (cs : List ℤ) → multiples (pos 1) cs ≡ cs
all_once [] = refl
all_once (c ∷ cs) = λ i. once c i ∷ all_once cs i

-- a form once is the form
pub form_once : (f : Form) → times (pos 1) f ≡ f
form_once f = λ i. record { constant = once f.constant i; coefs = all_once f.coefs i }

-- the numbers of a form, added to nothing
pub from_zeros : (zeros coefs numbers : List ℤ) → zeros ≡ replicate 8 (pos 0) → length coefs ≡ 8 → numbers ≡ sum_of zeros (multiples (pos 1) coefs) → numbers ≡ coefs
from_zeros zeros coefs numbers z l is =
    is ∙ ap (λ (xs : List ℤ). sum_of xs (multiples (pos 1) coefs)) z ∙ ap (sum_of (replicate 8 (pos 0))) (all_once coefs) ∙ zeros_and 8 coefs (omega arith)

-- Sums in another order

regroup : (x y z : ℤ) → ((x +ℤ y) +ℤ z) ≡ (x +ℤ (y +ℤ z))
regroup x y z = omega (arith, ints)

sums_regroup : (xs ys zs : List ℤ) → sum_of (sum_of xs ys) zs ≡ sum_of xs (sum_of ys zs)
sums_regroup [] ys zs = refl
sums_regroup (x ∷ xs) [] zs = refl
sums_regroup (x ∷ xs) (y ∷ ys) [] = refl
sums_regroup (x ∷ xs) (y ∷ ys) (z ∷ zs) = λ i. regroup x y z i ∷ sums_regroup xs ys zs i

pub forms_regroup : (f g h : Form) → plus_form (plus_form f g) h ≡ plus_form f (plus_form g h)
forms_regroup f g h = λ i. record { constant = regroup f.constant g.constant h.constant i; coefs = sums_regroup f.coefs g.coefs h.coefs i }
