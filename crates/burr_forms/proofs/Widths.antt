-- How large the numbers of sums grow.
use Rattle.std.proofs.Common.{ℕ, zero, suc, ◌+◌, ◌≤◌, List, [], ◌∷◌, length, arith}
use Rattle.std.specs.Prelude.{ℤ, pos, neg_ℤ, ◌+ℤ◌, ◌*ℤ◌, replicate}
use Rattle.std.specs.Int.RustNames.{unsigned_abs}
use Rattle.std.proofs.lemmas.Int.{ints, unsigned_abs-mul}
use Rattle.std.proofs.lemmas.Nat.{mul-le}
use Rattle.burr_forms.specs.Rules.Forms.{Form, sum_of, plus_form, times, number, IsSmall, AllSmall, IsSmallForm}
use Rattle.std.proofs.lemmas.List.Elements.{All-nil, All-cons, All-head, All-tail, All-weaker}
use Rattle.burr_forms.specs.Views.Wides.{IsWithin, AllWithin, IsFormWithin, IsWideForm}
use Rattle.burr_forms.proofs.Multiples.{multiples}
use Rattle.burr_forms.proofs.Values.{abs_small}

pub one_is_small : IsSmall (pos 1)
one_is_small = (omega (arith, ints), omega (arith, ints))

pub minus_one_is_small : IsSmall (neg_ℤ (pos 1))
minus_one_is_small = (omega (arith, ints), omega (arith, ints))

small_within : (m : ℕ) (cs : List ℤ) → 1099511627776 ≤ m → AllSmall cs → AllWithin m cs
small_within m cs l s = All-weaker IsSmall (IsWithin m) (λ c t. let b = abs_small c t in omega arith) cs s

-- a form that is small is within all that is more
pub form_within : (m : ℕ) (f : Form) → 1099511627776 ≤ m → IsSmallForm f → IsFormWithin m f
form_within m f l s = (let b = abs_small f.constant s.0 in omega arith, small_within m f.coefs l s.1)

pub small_is_wide : (f : Form) → IsSmallForm f → IsWideForm f
small_is_wide f s = form_within 1267650600228229401496703205376 f (omega arith) s

weaker_numbers : (m n : ℕ) (cs : List ℤ) → m ≤ n → AllWithin m cs → AllWithin n cs
weaker_numbers m n cs l w = All-weaker (IsWithin m) (IsWithin n) (λ c t. omega arith) cs w

pub weaker : (m n : ℕ) (f : Form) → m ≤ n → IsFormWithin m f → IsFormWithin n f
weaker m n f l w = (let b = w.0 in omega arith, weaker_numbers m n f.coefs l w.1)

zeros_within : (m n : ℕ) → AllWithin m (replicate n (pos 0))
zeros_within m zero = All-nil (IsWithin m)
zeros_within m (suc n) = All-cons (IsWithin m) (pos 0) (replicate n (pos 0)) (omega arith) (zeros_within m n)

pub number_within : (n : ℤ) → IsSmall n → IsFormWithin 1208925819614629174706176 (number n)
number_within n s = (let b = abs_small n s in omega arith, zeros_within 1208925819614629174706176 8)

sums_within : (m n : ℕ) (xs ys : List ℤ) → AllWithin m xs → AllWithin n ys → AllWithin (m + n) (sum_of xs ys)
sums_within m n [] ys v w = weaker_numbers n (m + n) ys (omega arith) w
sums_within m n (x ∷ xs) [] v w = weaker_numbers m (m + n) (x ∷ xs) (omega arith) v
sums_within m n (x ∷ xs) (y ∷ ys) v w =
    let s : unsigned_abs (x +ℤ y) ≤ unsigned_abs x + unsigned_abs y = omega (arith, ints) in
    let a = All-head (IsWithin m) x xs v in
    let b = All-head (IsWithin n) y ys w in
    All-cons (IsWithin (m + n)) (x +ℤ y) (sum_of xs ys) (omega arith) (sums_within m n xs ys (All-tail (IsWithin m) x xs v) (All-tail (IsWithin n) y ys w))

pub sum_within : (m n : ℕ) (f g : Form) → IsFormWithin m f → IsFormWithin n g → IsFormWithin (m + n) (plus_form f g)
sum_within m n f g v w =
    let s : unsigned_abs (f.constant +ℤ g.constant) ≤ unsigned_abs f.constant + unsigned_abs g.constant = omega (arith, ints) in
    let a = v.0 in
    let b = w.0 in
    (omega arith, sums_within m n f.coefs g.coefs v.1 w.1)

product_within : (k c : ℤ) → IsSmall k → IsSmall c → unsigned_abs (k *ℤ c) ≤ 1208925819614629174706176
product_within k c s t =
    let e = unsigned_abs-mul k c in
    let m = mul-le (unsigned_abs k) (unsigned_abs c) 1099511627776 1099511627776 (abs_small k s) (abs_small c t) in
    omega arith

products_within : (k : ℤ) (cs : List ℤ) → IsSmall k → AllSmall cs → AllWithin 1208925819614629174706176 (multiples k cs)
products_within k [] s t = All-nil (IsWithin 1208925819614629174706176)
products_within k (c ∷ cs) s t =
    All-cons (IsWithin 1208925819614629174706176) (k *ℤ c) (multiples k cs) (product_within k c s (All-head IsSmall c cs t)) (products_within k cs s (All-tail IsSmall c cs t))

pub times_within : (k : ℤ) (f : Form) → IsSmall k → IsSmallForm f → IsFormWithin 1208925819614629174706176 (times k f)
times_within k f s t = (product_within k f.constant s t.0, products_within k f.coefs s t.1)

-- the length of a sum

pub length_sum : (n : ℕ) (xs ys : List ℤ) → n ≤ length xs → n ≤ length (sum_of xs ys)
length_sum zero xs ys l = omega arith
length_sum (suc n) [] ys l = absurd (omega arith)
length_sum (suc n) (x ∷ xs) [] l = l
length_sum (suc n) (x ∷ xs) (y ∷ ys) l = let more = length_sum n xs ys (omega arith) in omega arith

pub length_sum_after : (n : ℕ) (xs ys : List ℤ) → n ≤ length ys → n ≤ length (sum_of xs ys)
length_sum_after zero xs ys l = omega arith
length_sum_after (suc n) [] ys l = l
length_sum_after (suc n) (x ∷ xs) [] l = absurd (omega arith)
length_sum_after (suc n) (x ∷ xs) (y ∷ ys) l = let more = length_sum_after n xs ys (omega arith) in omega arith
