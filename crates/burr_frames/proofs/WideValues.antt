-- Values of forms where symbols have wide values: their bounds, and what they are one symbol
-- further.
use Rattle.std.proofs.Common.{◌≡◌, ℕ, zero, suc, ◌+◌, ◌*◌, ◌≤◌, ◌<◌, List, [], ◌∷◌, length, take, refl, ap, sym, arith, slice_index_or, FitsSigned}
use Rattle.std.specs.Prelude.{ℤ, pos, ◌+ℤ◌, ◌*ℤ◌}
use Rattle.std.specs.Int.{w128}
use Rattle.std.specs.Int.RustNames.{unsigned_abs}
use Rattle.std.proofs.lemmas.Int.{ints, unsigned_abs-mul, fits_signed_from_abs}
use Rattle.std.proofs.lemmas.Nat.{mul-le}
use Rattle.std.proofs.lemmas.List.{length-take}
use Rattle.std.proofs.lemmas.List.Elements.{All-head, All-tail, All-take}
use Rattle.burr_forms.specs.Rules.Forms.{Form, Point, dot, value, IsSmall, AllSmall, IsSmallForm}
use Rattle.burr_forms.specs.Views.Searching.{IsBounded, AllBounded}

-- Bounds

abs_small : (n : ℤ) → IsSmall n → unsigned_abs n ≤ 1099511627776
abs_small n s = let l = s.0 in let h = s.1 in omega (arith, ints)

abs_sum : (a b : ℤ) → unsigned_abs (a +ℤ b) ≤ unsigned_abs a + unsigned_abs b
abs_sum a b = omega (arith, ints)

abs_product : (c x : ℤ) → IsSmall c → IsBounded x → unsigned_abs (c *ℤ x) ≤ 633825300114114700748351602688
abs_product c x s n =
    let e = unsigned_abs-mul c x in
    let m = mul-le (unsigned_abs c) (unsigned_abs x) 1099511627776 576460752303423488 (abs_small c s) n in
    omega arith

dot_bound : (coefs : List ℤ) (point : Point) → AllSmall coefs → AllBounded point
    → unsigned_abs (dot coefs point) ≤ length point * 633825300114114700748351602688
dot_bound [] point s n = omega arith
dot_bound (c ∷ coefs) [] s n = omega arith
dot_bound (c ∷ coefs) (x ∷ point) s n =
    let more = dot_bound coefs point (All-tail IsSmall c coefs s) (All-tail IsBounded x point n) in
    let product = abs_product c x (All-head IsSmall c coefs s) (All-head IsBounded x point n) in
    let sum = abs_sum (c *ℤ x) (dot coefs point) in
    omega arith

value_fits : (point : Point) (f : Form) → IsSmallForm f → AllBounded point → length point ≤ 8 → FitsSigned w128 (value point f)
value_fits point f s n few =
    let d = dot_bound f.coefs point s.1 n in
    let c = abs_small f.constant s.0 in
    let sum = abs_sum f.constant (dot f.coefs point) in
    fits_signed_from_abs w128 (value point f) (omega arith)

-- One symbol more

dot_nothing : (coefs : List ℤ) → dot coefs [] ≡ pos 0
dot_nothing [] = refl
dot_nothing (c ∷ coefs) = refl

regroup : (a b c d : ℤ) → b ≡ (c +ℤ d) → (a +ℤ b) ≡ ((a +ℤ c) +ℤ d)
regroup a b c d e = omega (arith, ints)

alone : (a b : ℤ) → b ≡ pos 0 → (a +ℤ b) ≡ (pos 0 +ℤ a)
alone a b e = omega (arith, ints)

dot_more : (i : ℕ) (coefs : List ℤ) (point : Point) (d d' : ℤ) → i < length coefs → i < length point
    → dot coefs (take (suc i) point) ≡ (dot coefs (take i point) +ℤ (slice_index_or coefs i d *ℤ slice_index_or point i d'))
dot_more zero (c ∷ coefs) (x ∷ point) d d' h h' = alone (c *ℤ x) (dot coefs []) (dot_nothing coefs)
dot_more (suc i) (c ∷ coefs) (x ∷ point) d d' h h' =
    regroup (c *ℤ x) _ (dot coefs (take i point)) _ (dot_more i coefs point d d' (omega arith) (omega arith))
dot_more i coefs point d d' h h' = absurd (omega (arith, h, h'))

value_more : (i : ℕ) (f : Form) (point : Point) (d d' : ℤ) → i < length f.coefs → i < length point
    → value (take (i + 1) point) f ≡ (value (take i point) f +ℤ (slice_index_or f.coefs i d *ℤ slice_index_or point i d'))
value_more i f point d d' h h' =
    let more : i + 1 ≡ suc i = omega arith in
    rw more (regroup f.constant _ (dot f.coefs (take i point)) _ (dot_more i f.coefs point d d' h h'))

-- One turn of the loop over the symbols

pub sum_more : (i : ℕ) (f : Form) (coefs : List ℤ) (point : Point) (sum d d' : ℤ) → coefs ≡ f.coefs → length coefs ≡ 8
    → length point ≤ 8 → i < length point → sum ≡ value (take i point) f
    → (sum +ℤ (slice_index_or coefs i d *ℤ slice_index_or point i d')) ≡ value (take (i + 1) point) f
sum_more i f coefs point sum d d' same eight few h is =
    let long : i < length f.coefs = omega (arith, ap (length {A = ℤ}) same) in
    rw (is, same) (sym (value_more i f point d d' long h))

pub sum_fits : (i : ℕ) (f : Form) (coefs : List ℤ) (point : Point) (sum d d' : ℤ) → coefs ≡ f.coefs → length coefs ≡ 8
    → IsSmallForm f → AllBounded point → length point ≤ 8 → i < length point → sum ≡ value (take i point) f
    → FitsSigned w128 (sum +ℤ (slice_index_or coefs i d *ℤ slice_index_or point i d'))
sum_fits i f coefs point sum d d' same eight s n few h is =
    rw (sum_more i f coefs point sum d d' same eight few h is)
    (value_fits (take (i + 1) point) f s (All-take IsBounded (i + 1) point n) (omega (arith, length-take (i + 1) point)))

pub term_fits : (i : ℕ) (f : Form) (coefs : List ℤ) (point : Point) (d d' : ℤ) → coefs ≡ f.coefs → length coefs ≡ 8
    → IsSmallForm f → AllBounded point → length point ≤ 8 → i < length point
    → FitsSigned w128 (slice_index_or coefs i d *ℤ slice_index_or point i d')
term_fits i f coefs point d d' same eight s n few h =
    let long : i < length f.coefs = omega (arith, ap (length {A = ℤ}) same) in
    let bound = abs_product (slice_index_or f.coefs i d) (slice_index_or point i d') (s.1 i d long) (n i d' h) in
    rw same (fits_signed_from_abs w128 _ (omega arith))

pub value_nowhere : (constant : ℤ) (f : Form) → constant ≡ f.constant → value [] f ≡ constant
value_nowhere constant f is = let z = dot_nothing f.coefs in omega (arith, ints)
