-- For the code: what `parse` tells of a word that is a number.
use Rattle.std.proofs.Common.{◌≡◌, ℕ, zero, suc, ◌^◌, ◌<◌, List, [], ◌∷◌, drop, cond, Bool, true, false, not, IsTrue, ℤ, FitsSigned, refl, sym, ap, subst, ◌∙◌, arith, ltb-true, lt-ltb, leb-true, eqb-true}
use Rattle.std.specs.Prelude.{◌&&◌, ◌||◌, nat_le, nat_lt, codes, Some, Result, Ok, Err, MatchOption, MatchResult}
use Rattle.std.specs.List.{list_all}
use Rattle.std.specs.Result.{result_ok}
use Rattle.std.specs.Str.{bytes_eq, IsUtf8, IsAscii}
use Rattle.std.specs.Str.Parse.{AllDigits, IsNumeral, digits_value, starts_with_minus, without_leading_plus, without_leading_sign, ParsesUnsigned, ParsesSigned}
use Rattle.std.proofs.lemmas.Bool.{and_from, and_parts}
use Rattle.std.proofs.lemmas.Slice.Eq.{bytes_eq-Decides}
use Rattle.std.proofs.lemmas.Str.{digit_value_digit, IsUtf8-from_ascii}
use Rattle.std.proofs.lemmas.Fmt.{IsAscii-from_digits}
use borrow.Author.Tests.{ne_eqb}
use mir.Syntax.{Width}
use denote.Bor.{Bor}
use Rattle.std.proofs.lemmas.Option.{none-some}
use Rattle.burr_text.specs.Names.{is_digit}
use Rattle.burr_plantext.specs.Rules.Written.{is_count, is_natural, is_number, natural_in, number_in, is_below}
use Rattle.burr_plantext.proofs.Common.Numbers.{no_minus, no_plus}

digits_are : (ds : List ℕ) → IsTrue (list_all is_digit ds) → AllDigits 10 ds
digits_are [] h = tt
digits_are (c ∷ ds) h =
    let parts = and_parts (is_digit c) (list_all is_digit ds) h in
    let range = and_parts (nat_le 48 c) (nat_le c 57) parts.0 in
    let low = leb-true 48 c range.0 in
    let high = leb-true c 57 range.1 in
    let value = digit_value_digit c (low, high) in
    (omega (arith, value, high), digits_are ds parts.1)

count_numeral : (w : List ℕ) → IsTrue (is_count w) → IsNumeral 10 w
count_numeral [] h = grind arith
count_numeral (c ∷ w) h =
    let parts = and_parts (nat_le 49 c && nat_le c 57) (list_all is_digit w) h in
    let range = and_parts (nat_le 49 c) (nat_le c 57) parts.0 in
    let low = leb-true 49 c range.0 in
    let high = leb-true c 57 range.1 in
    let value = digit_value_digit c (omega arith, high) in
    (omega arith, (omega (arith, value, high), digits_are w parts.1))

pub or_left : (a b : Bool) → IsTrue a → IsTrue (a || b)
or_left true b h = refl
or_left false b h = grind arith

pub or_right : (a b : Bool) → IsTrue b → IsTrue (a || b)
or_right true b h = refl
or_right false b h = h

pub or_cases : (a b : Bool) (P : Type 0) → (IsTrue a → P) → (IsTrue b → P) → IsTrue (a || b) → P
or_cases true b P f g h = f refl
or_cases false b P f g h = g h

natural_numeral : (w : List ℕ) → IsTrue (is_natural w) → IsNumeral 10 w
natural_numeral w h =
    or_cases (bytes_eq w (codes "0")) (is_count w) (IsNumeral 10 w)
    (λ e. subst (IsNumeral 10) (sym ((bytes_eq-Decides w (codes "0")).0 e)) (omega arith, (omega arith, tt)))
    (count_numeral w) h

-- a number is digits, or digits after a minus
pub record IsWritten (w : List ℕ) (minus : Bool) (digits : List ℕ) : Type 0 where
  pub starts : starts_with_minus w ≡ minus
  pub sign : without_leading_sign w ≡ digits
  pub plus : without_leading_plus w ≡ w
  pub numeral : IsNumeral 10 digits

minus_first : (w : List ℕ) → starts_with_minus w ≡ true → without_leading_plus w ≡ w
minus_first [] e = refl
minus_first (c ∷ w) e = let same = eqb-true c 45 e in ap (λ (t : Bool). drop (cond t 1 0) (c ∷ w)) (ne_eqb c 43 (λ f. omega (arith, same, f)))

pub number_written : (w : List ℕ) → IsTrue (is_number w) → (minus : Bool) × (digits : List ℕ) × IsWritten w minus digits
number_written w h =
    or_cases (is_natural w) (starts_with_minus w && is_count (drop 1 w)) ((minus : Bool) × (digits : List ℕ) × IsWritten w minus digits)
    (λ e.
    let n = natural_numeral w e in
    let plus = no_plus w n.1 in
    let none = no_minus w n.1 in
    (false, w, record { starts = none; sign = ap (λ (t : Bool). cond t (drop 1 w) (without_leading_plus w)) none ∙ plus; plus = plus; numeral = n }))
    (λ e.
    let parts = and_parts (starts_with_minus w) (is_count (drop 1 w)) e in (
      true,
      drop 1 w,
      record {
        starts = parts.0;
        sign = ap (λ (t : Bool). cond t (drop 1 w) (without_leading_plus w)) parts.0;
        plus = minus_first w parts.0;
        numeral = count_numeral (drop 1 w) parts.1;
      },
    )) h

-- what `parse` reads of a number at an unsigned type of this many bits
pub parsed_below : {E : Type 0} (k : ℕ) (w : List ℕ) (r : Result ℕ E) → IsTrue (is_number w) → ParsesUnsigned k 10 w r
    → MatchOption (result_ok r) (is_below (2 ^ k) w ≡ false) (λ n. (is_below (2 ^ k) w ≡ true) × (n ≡ natural_in w))
parsed_below k w (Ok n) h p = by (number_written w h).0 (number_written w h).1 (number_written w h).2
  where
    by : (minus : Bool) (digits : List ℕ) → IsWritten w minus digits → (is_below (2 ^ k) w ≡ true) × (n ≡ natural_in w)
    by false digits k2 =
        let value : n ≡ natural_in w = p.1 ∙ ap (digits_value 10) k2.plus in
        let few : natural_in w < 2 ^ k = subst (λ (x : List ℕ). digits_value 10 x < 2 ^ k) k2.plus p.0.1 in
        (and_from (not (starts_with_minus w)) (nat_lt (natural_in w) (2 ^ k)) (ap not k2.starts) (lt-ltb (natural_in w) (2 ^ k) few), value)
    by true digits k2 = absurd (minus_digit w k2.starts (subst (IsNumeral 10) k2.plus p.0.0))
      where
        minus_digit : (w : List ℕ) → starts_with_minus w ≡ true → IsNumeral 10 w → ⊥
        minus_digit w e n = both (starts_with_minus w) e (no_minus w n.1)
          where
            both : (t : Bool) → t ≡ true → t ≡ false → ⊥
            both true e f = cc
            both false e f = cc
parsed_below k w (Err e) h p = by (number_written w h).0 (number_written w h).1 (number_written w h).2
  where
    by : (minus : Bool) (digits : List ℕ) → IsWritten w minus digits → is_below (2 ^ k) w ≡ false
    by true digits k2 = ap (λ (t : Bool). not t && nat_lt (natural_in w) (2 ^ k)) k2.starts
    by false digits k2 = test (nat_lt (natural_in w) (2 ^ k)) refl
      where
        whole : digits ≡ w
        whole = sym k2.sign ∙ ap (λ (t : Bool). cond t (drop 1 w) (without_leading_plus w)) k2.starts ∙ k2.plus

        test : (t : Bool) → nat_lt (natural_in w) (2 ^ k) ≡ t → is_below (2 ^ k) w ≡ false
        test true f =
            absurd (p (subst (IsNumeral 10) (whole ∙ sym k2.plus) k2.numeral, subst (λ (x : List ℕ). digits_value 10 x < 2 ^ k) (sym k2.plus) (ltb-true (natural_in w) (2 ^ k) f)))
        test false f = (λ i. not (k2.starts i) && f i)

-- what `parse` reads of a number at a signed type
pub parsed_number : {E : Type 0} (v : Width) (w : List ℕ) (r : Result ℤ E) → IsTrue (is_number w) → ParsesSigned v 10 w r
    → MatchOption (result_ok r) (¬ FitsSigned v (number_in w)) (λ z. FitsSigned v (number_in w) × (z ≡ number_in w))
parsed_number v w (Ok z) h p = (p.0.1, p.1)
parsed_number v w (Err e) h p = λ fits. let k = (number_written w h).2 in p (subst (IsNumeral 10) (sym k.sign) k.numeral, fits)

-- a number is text
minus_ascii : (w : List ℕ) → starts_with_minus w ≡ true → IsAscii (drop 1 w) → IsAscii w
minus_ascii [] e h i = h i
minus_ascii (c ∷ w) e h zero = let same = eqb-true c 45 e in omega (arith, same)
minus_ascii (c ∷ w) e h (suc i) = h i

pub number_utf8 : (w : List ℕ) → IsTrue (is_number w) → IsUtf8 w
number_utf8 w h =
    or_cases (is_natural w) (starts_with_minus w && is_count (drop 1 w)) (IsUtf8 w)
    (λ e. IsUtf8-from_ascii w (IsAscii-from_digits w (natural_numeral w e).1))
    (λ e. let parts = and_parts (starts_with_minus w) (is_count (drop 1 w)) e in IsUtf8-from_ascii w (minus_ascii w parts.0 (IsAscii-from_digits (drop 1 w) (count_numeral (drop 1 w) parts.1).1))) h

-- and what is read of the text of bytes is read of them
pub of_text : {E F : Type 0} (k : ℕ) (number : List ℕ) (r : Result (Bor (List ℕ)) E) (Q : E → Type 0) (text : Bor (List ℕ)) (read : Result ℕ F)
    → Some text ≡ result_ok r → MatchResult r (λ s. (s.now ≡ number) × IsUtf8 number) Q → ParsesUnsigned k 10 text.now read → ParsesUnsigned k 10 number read
of_text {F} k number (Ok s) Q text read some h parses =
    let same : text ≡ s = cc in
    subst (λ (b : List ℕ). ParsesUnsigned {E = F} k 10 b read) (ap (λ (b : Bor (List ℕ)). b.now) same ∙ h.0) parses
of_text k number (Err f) Q text read some h parses = absurd (none-some text (sym some))
