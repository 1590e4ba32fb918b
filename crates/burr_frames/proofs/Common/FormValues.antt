-- For crates above too: values of forms that are made of others.
use Rattle.std.proofs.Common.{◌≡◌, ℕ, zero, suc, ◌+◌, ◌*◌, List, [], ◌∷◌, ◌++◌, refl, sym, ap, ◌∙◌, arith}
use Rattle.std.specs.Prelude.{ℤ, pos, neg_ℤ, ◌+ℤ◌, ◌-ℤ◌, ◌*ℤ◌, map, replicate}
use Rattle.std.proofs.lemmas.Int.{ints}
use Rattle.std.proofs.Math.IntN.{*ℤ-zero}
use borrow.Author.Differences.{up, down}
use Rattle.burr_forms.specs.Rules.Forms.{Form, Point, dot, value, values, number, sum_of, plus_form, times, minus_form, raised, combined, substituted}

-- (x + y) * z
times_sum : (x y z : ℤ) → ((x +ℤ y) *ℤ z) ≡ ((x *ℤ z) +ℤ (y *ℤ z))
times_sum x y z =
    let e : up (x +ℤ y) + (down x + down y) ≡ (up x + up y) + down (x +ℤ y) = omega (arith, ints) in
    omega (arith, ints, ap (λ n. n * up z) e, ap (λ n. n * down z) e)

-- (k * x) * y
times_times : (k x y : ℤ) → ((k *ℤ x) *ℤ y) ≡ (k *ℤ (x *ℤ y))
times_times k x y =
    let e : up (k *ℤ x) + (up k * down x + down k * up x) ≡ (up k * up x + down k * down x) + down (k *ℤ x) = omega (arith, ints) in
    let f : up (x *ℤ y) + (up x * down y + down x * up y) ≡ (up x * up y + down x * down y) + down (x *ℤ y) = omega (arith, ints) in
    omega (arith, ints, ap (λ n. n * up y) e, ap (λ n. n * down y) e, ap (λ n. n * up k) f, ap (λ n. n * down k) f)

pub dot_zeros : (n : ℕ) (point : Point) → dot (replicate n (pos 0)) point ≡ pos 0
dot_zeros zero point = refl
dot_zeros (suc n) [] = refl
dot_zeros (suc n) (x ∷ point) = let ih = dot_zeros n point in omega (arith, ints)

pub value_number : (n : ℤ) (point : Point) → value point (number n) ≡ n
value_number n point = let e = dot_zeros 8 point in omega (arith, ints)

dot_sum : (xs ys : List ℤ) (point : Point) → dot (sum_of xs ys) point
    ≡ (dot xs point +ℤ dot ys point)
dot_sum [] ys point = omega (arith, ints)
dot_sum (x ∷ xs) [] point = omega (arith, ints)
dot_sum (x ∷ xs) (y ∷ ys) [] = refl
dot_sum (x ∷ xs) (y ∷ ys) (z ∷ point) =
    let ih = dot_sum xs ys point in let e = times_sum x y z in omega (arith, ints)

pub value_plus : (f g : Form) (point : Point) → value point (plus_form f g)
    ≡ (value point f +ℤ value point g)
value_plus f g point = let e = dot_sum f.coefs g.coefs point in omega (arith, ints)

pub value_raised : (n : ℤ) (f : Form) (point : Point) → value point (raised n f)
    ≡ (value point f +ℤ n)
value_raised n f point = omega (arith, ints)

-- A multiple

dot_times : (k : ℤ) (xs : List ℤ) (point : Point) → dot (map (λ c. k *ℤ c) xs) point
    ≡ (k *ℤ dot xs point)
dot_times k [] point = sym (*ℤ-zero k)
dot_times k (x ∷ xs) [] = sym (*ℤ-zero k)
dot_times k (x ∷ xs) (y ∷ point) =
    let ih = dot_times k xs point in
    omega (arith, ints, times_times k x y, times_sum (x *ℤ y) (dot xs point) k)

pub value_times : (k : ℤ) (f : Form) (point : Point) → value point (times k f)
    ≡ (k *ℤ value point f)
value_times k f point = omega (arith, ints, dot_times k f.coefs point, times_sum f.constant (dot f.coefs point) k)

pub value_negated : (f : Form) (point : Point) → value point (times (neg_ℤ (pos 1)) f) ≡ neg_ℤ
    (value point f)
value_negated f point = let e = value_times (neg_ℤ (pos 1)) f point in omega (arith, ints)

pub value_minus : (f g : Form) (point : Point) → value point (minus_form f g)
    ≡ (value point f -ℤ value point g)
value_minus f g point =
    let e =
    value_plus f (times (neg_ℤ (pos 1)) g) point in let h =
    value_negated g point in omega (arith, ints)

-- Arguments put in

value_combined : (coefs : List ℤ) (arguments : List Form) (point : Point)
    → value point (combined coefs arguments) ≡ dot coefs (values point arguments)
value_combined [] arguments point = value_number (pos 0) point
value_combined (c ∷ coefs) [] point = value_number (pos 0) point
value_combined (c ∷ coefs) (a ∷ arguments) point =
    value_plus (times c a) (combined coefs arguments) point
    ∙ ap (λ z. z +ℤ value point (combined coefs arguments)) (value_times c a point)
    ∙ ap (λ z. (c *ℤ value point a) +ℤ z) (value_combined coefs arguments point)

pub value_substituted : (arguments : List Form) (f : Form) (point : Point)
    → value point (substituted arguments f) ≡ value (values point arguments) f
value_substituted arguments f point =
    let r = value_raised f.constant (combined f.coefs arguments) point in
    let c = value_combined f.coefs arguments point in
    omega (arith, ints)

-- symbols that stand for 0 count nothing

combined_zeros : (coefs : List ℤ) (n : ℕ) → combined coefs (replicate n (number (pos 0))) ≡ number (pos 0)
combined_zeros [] n = refl
combined_zeros (c ∷ coefs) zero = refl
combined_zeros (c ∷ coefs) (suc n) =
    ap (plus_form (times c (number (pos 0)))) (combined_zeros coefs n)
    ∙ ap (λ (z : ℤ). plus_form (record { constant = z; coefs = replicate 8 z }) (number (pos 0))) (*ℤ-zero c)

combined_filled : (coefs : List ℤ) (symbols : List Form) (n : ℕ)
    → combined coefs (symbols ++ replicate n (number (pos 0))) ≡ combined coefs symbols
combined_filled [] symbols n = refl
combined_filled (c ∷ coefs) [] n = combined_zeros (c ∷ coefs) n
combined_filled (c ∷ coefs) (a ∷ symbols) n = ap (plus_form (times c a)) (combined_filled coefs symbols n)

-- forms in place of the first symbols, and zeros in place of others
pub substituted_filled : (symbols : List Form) (n : ℕ) → substituted (symbols ++ replicate n (number (pos 0))) ≡ substituted symbols
substituted_filled symbols n = λ i f. raised f.constant (combined_filled f.coefs symbols n i)
