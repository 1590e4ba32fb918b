-- Numbers as they are listed are read back.
use Rattle.std.proofs.Common.{◌≡◌, ℕ, zero, suc, ◌^◌, ◌<◌, List, [], ◌∷◌, length, get_or, drop, cond, Bool, false, IsTrue, ℤ, pos, negsuc, neg_ℤ, refl, sym, ap, subst, ◌∙◌, arith, le-leb, lit<, ◌&&◌, nat_le, codes, ne_eqb}
use Rattle.std.specs.List.{list_all}
use Rattle.std.specs.Str.{bytes_eq}
use Rattle.std.specs.Str.Parse.{AllDigits, digits_value, starts_with_minus, without_leading_plus}
use Rattle.std.specs.Fmt.{decimal, signed_decimal}
use Rattle.std.proofs.lemmas.Bool.{and_from, or_left, or_right}
use Rattle.burr_text.specs.Names.{is_digit}
use Rattle.burr_plantext.specs.Rules.Written.{is_count, is_natural, is_number, natural_in, number_in}
use Rattle.std.proofs.lemmas.Fmt.{decimal_is_IsNumeral, first_decimal, decimal_digit}
use Rattle.std.proofs.lemmas.Str.Parse.{digit_from_value}

-- digits, by a test
pub digits_pass : (ds : List ℕ) → AllDigits 10 ds → IsTrue (list_all is_digit ds)
digits_pass [] d = refl
digits_pass (c ∷ ds) d =
    let k = digit_from_value c d.0 in
    and_from (is_digit c) (list_all is_digit ds) (and_from (nat_le 48 c) (nat_le c 57) (le-leb 48 c k.0) (le-leb c 57 k.1)) (digits_pass ds d.1)

pub decimal_digits : (n : ℕ) → n < 2 ^ 64 → IsTrue (list_all is_digit (decimal n))
decimal_digits n small = digits_pass (decimal n) (decimal_is_IsNumeral n small).0.1

pub natural_back : (n : ℕ) → n < 2 ^ 64 → natural_in (decimal n) ≡ n
natural_back n small = (decimal_is_IsNumeral n small).1

-- digits do not begin with a sign
pub no_minus : (ds : List ℕ) → AllDigits 10 ds → starts_with_minus ds ≡ false
no_minus [] d = refl
no_minus (c ∷ ds) d = let k = digit_from_value c d.0 in ne_eqb c 45 (λ e. omega (arith, k.0))

pub no_plus : (ds : List ℕ) → AllDigits 10 ds → without_leading_plus ds ≡ ds
no_plus [] d = refl
no_plus (c ∷ ds) d = let k = digit_from_value c d.0 in ap (λ (b : Bool). drop (cond b 1 0) (c ∷ ds)) (ne_eqb c 43 (λ e. omega (arith, k.0)))

pub decimal_no_minus : (n : ℕ) → n < 2 ^ 64 → starts_with_minus (decimal n) ≡ false
decimal_no_minus n small = no_minus (decimal n) (decimal_is_IsNumeral n small).0.1

count_of : (ds : List ℕ) → AllDigits 10 ds → 0 < length ds → 48 < get_or ds 0 0 → IsTrue (is_count ds)
count_of [] d some high = absurd (omega arith)
count_of (c ∷ ds) d some high =
    let k = digit_from_value c d.0 in
    and_from (nat_le 49 c && nat_le c 57) (list_all is_digit ds) (and_from (nat_le 49 c) (nat_le c 57) (le-leb 49 c (omega arith)) (le-leb c 57 k.1)) (digits_pass ds d.1)

pub count_decimal : (n : ℕ) → 0 < n → n < 2 ^ 64 → IsTrue (is_count (decimal n))
count_decimal n some small =
    let h = (decimal_is_IsNumeral n small).0 in
    count_of (decimal n) h.1 h.0 (first_decimal n some small)

pub natural_decimal : (n : ℕ) → n < 2 ^ 64 → IsTrue (is_natural (decimal n))
natural_decimal zero small = subst (λ (w : List ℕ). IsTrue (is_natural w)) (sym (decimal_digit 0 (lit< tt))) refl
natural_decimal (suc n) small = or_right (bytes_eq (decimal (suc n)) (codes "0")) (is_count (decimal (suc n))) (count_decimal (suc n) (omega arith) small)

pub number_decimal : (n : ℕ) → n < 2 ^ 64 → IsTrue (is_number (decimal n))
number_decimal n small = or_left (is_natural (decimal n)) (starts_with_minus (decimal n) && is_count (drop 1 (decimal n))) (natural_decimal n small)

-- an integer is small
abbrev pub IsSmall : ℤ → Type 0
IsSmall (pos n) = n < 2 ^ 63
IsSmall (negsuc n) = suc n < 2 ^ 63

pub number_signed : (z : ℤ) → IsSmall z → IsTrue (is_number (signed_decimal z))
number_signed (pos n) small = number_decimal n (omega arith)
number_signed (negsuc n) small =
    or_right (is_natural (45 ∷ decimal (suc n))) (is_count (decimal (suc n))) (count_decimal (suc n) (omega arith) (omega arith))

without_minus : (ds : List ℕ) → AllDigits 10 ds → number_in ds ≡ pos (natural_in ds)
without_minus ds d =
    ap (λ (b : Bool). let rest : List ℕ = cond b (drop 1 ds) (without_leading_plus ds) in cond b (neg_ℤ (pos (digits_value 10 rest))) (pos (digits_value 10 rest))) (no_minus ds d)
    ∙ ap (λ (w : List ℕ). pos (digits_value 10 w)) (no_plus ds d)

pub number_back_of : (n : ℕ) → n < 2 ^ 64 → number_in (decimal n) ≡ pos n
number_back_of n small = let h = decimal_is_IsNumeral n small in without_minus (decimal n) h.0.1 ∙ ap pos h.1

pub number_back : (z : ℤ) → IsSmall z → number_in (signed_decimal z) ≡ z
number_back (pos n) small = number_back_of n (omega arith)
number_back (negsuc n) small = ap (λ (m : ℕ). neg_ℤ (pos m)) (natural_back (suc n) (omega arith))

-- after a plus
pub plus_back : (n : ℕ) → n < 2 ^ 64 → number_in (43 ∷ decimal n) ≡ pos n
plus_back n small = ap pos (natural_back n small)
