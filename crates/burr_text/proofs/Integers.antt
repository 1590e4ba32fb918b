-- A number that is read is written so again, and the text of an integer is read.
use Rattle.std.proofs.Common.{◌≡◌, ℕ, zero, suc, ◌<◌, List, [], ◌∷◌, length, get_or, ℤ, pos, neg_ℤ, FitsSigned, Result, Ok, Err, Some, None, MatchResult, w32, refl, sym, ap, subst, ◌∙◌, arith, inl, inr}
use Rattle.std.specs.Fmt.{decimal, signed_decimal}
use Rattle.std.specs.Int.{IsInRange}
use Rattle.std.specs.Result.{result_ok}
use Rattle.std.specs.Str.{IsUtf8}
use Rattle.std.specs.Str.Parse.{digits_value, ParsesSigned}
use Rattle.std.proofs.lemmas.Option.{none-some}
use Rattle.std.proofs.lemmas.Fmt.{decimal_digit, decimal-digits_value, parse-signed_decimal, IsAscii-signed}
use Rattle.std.proofs.lemmas.Str.{IsUtf8-from_ascii}
use Rattle.std.proofs.lemmas.Str.Parse.{IsNumeralModel, numerals_by_value, tells_by_index, parse_signed_digits, parse_signed_minus}
use denote.Bor.{Bor}
use Rattle.burr_text.specs.Numbers.{IsCount, IsNumber, IsInteger}
use Rattle.burr_text.proofs.Common.Integers.{small}

-- each byte is a digit
abbrev AreDigits : List ℕ → Type 0
AreDigits bytes = (i : ℕ) → i < length bytes → IsInRange 48 57 (get_or bytes i 0)

-- which is std's word on digits
numerals : IsNumeralModel AreDigits (digits_value 10)
numerals = numerals_by_value AreDigits tells_by_index

-- where bytes are no text, they are not the text of an integer
pub unless_text : {E : Type 0} (number : List ℕ) (r : Result (Bor (List ℕ)) E) (Q : E → Type 0) → None ≡ result_ok r → MatchResult r (λ s. (s.now ≡ number) × IsUtf8 number) (λ e. ¬ IsUtf8 number × Q e)
    → (z : ℤ) → FitsSigned w32 z → ¬ (number ≡ signed_decimal z)
unless_text number (Ok s) Q none h z p e = none-some s none
unless_text number (Err f) Q none h z p e = h.0 (subst IsUtf8 (sym e) (IsUtf8-from_ascii (signed_decimal z) (IsAscii-signed z (small z p))))

-- what is read of the text of bytes is read of them
pub of_text : {E F : Type 0} (number : List ℕ) (r : Result (Bor (List ℕ)) E) (Q : E → Type 0) (text : Bor (List ℕ)) (read : Result ℤ F)
    → Some text ≡ result_ok r → MatchResult r (λ s. (s.now ≡ number) × IsUtf8 number) Q → ParsesSigned w32 10 text.now read → ParsesSigned w32 10 number read
of_text {F} number (Ok s) Q text read some h parses =
    let same : text ≡ s = cc in
    subst (λ (b : List ℕ). ParsesSigned {E = F} w32 10 b read) (ap (λ (b : Bor (List ℕ)). b.now) same ∙ h.0) parses
of_text number (Err f) Q text read some h parses = absurd (none-some text (sym some))

-- the text of an integer is read as that integer, so bytes that are not read are the text of none
unless_read : {E : Type 0} (number : List ℕ) (r : Result ℤ E) → ParsesSigned w32 10 number r → None ≡ result_ok r → (z : ℤ) → FitsSigned w32 z → ¬ (number ≡ signed_decimal z)
unless_read number r parses none z h e =
    let read : result_ok r ≡ Some z = ap result_ok (parse-signed_decimal w32 z number r h (small z h) e parses) in
    absurd (none-some z (none ∙ read))

-- a count is of digits
digits_of_count : (bytes : List ℕ) → IsCount bytes → AreDigits bytes
digits_of_count bytes h = λ i inside. h.digits i 0 inside

-- a count is no zero
above_zero : (bytes : List ℕ) (n : ℕ) → IsCount bytes → decimal n ≡ bytes → 0 < n
above_zero bytes zero h e = let first = h.first in omega (arith, ap (λ (b : List ℕ). get_or b 0 0) (sym (decimal_digit 0 (omega arith)) ∙ e))
above_zero bytes (suc n) h e = omega arith

-- a number below 0 is written with a minus
with_minus : (n : ℕ) → 0 < n → signed_decimal (neg_ℤ (pos n)) ≡ 45 ∷ decimal n
with_minus zero h = absurd (omega arith)
with_minus (suc n) h = refl

-- digits with no leading zero are what is written of the number that they are read as
plain_again : (E : Type 0) (bytes : List ℕ) (x : ℤ) → AreDigits bytes → (get_or bytes 0 0 ≡ 48 → length bytes ≡ 1) → ParsesSigned {E = E} w32 10 bytes (Ok x) → bytes ≡ signed_decimal x
plain_again E bytes x digits lead parses =
    let k = parse_signed_digits numerals {E = E} w32 bytes (Ok x) parses digits in
    sym (decimal-digits_value numerals bytes digits k.0.0 lead (omega (arith, k.0.1))) ∙ ap signed_decimal (sym k.1)

-- and so is a count after a minus
minus_again : (E : Type 0) (rest : List ℕ) (x : ℤ) → IsCount rest → ParsesSigned {E = E} w32 10 (45 ∷ rest) (Ok x) → 45 ∷ rest ≡ signed_decimal x
minus_again E rest x h parses =
    let k = parse_signed_minus numerals {E = E} w32 (45 ∷ rest) (Ok x) parses refl in
    let again = decimal-digits_value numerals rest k.0.0 k.0.1 (λ e. absurd (let first = h.first in omega arith)) (omega (arith, k.0.2)) in
    ap (λ (bytes : List ℕ). 45 ∷ bytes) (sym again) ∙ sym (with_minus (digits_value 10 rest) (above_zero rest (digits_value 10 rest) h again)) ∙ ap signed_decimal (sym k.1)

-- `0` is of digits
zero_digits : AreDigits (48 ∷ [])
zero_digits zero inside = (omega arith, omega arith)
zero_digits (suc i) inside = absurd (omega arith)

-- what is written of a number's value is the number
number_again : (E : Type 0) (number : List ℕ) (x : ℤ) → IsNumber number → ParsesSigned {E = E} w32 10 number (Ok x) → number ≡ signed_decimal x
number_again E number x (inl e) parses =
    subst (λ (b : List ℕ). ParsesSigned {E = E} w32 10 b (Ok x) → b ≡ signed_decimal x) (sym e) (plain_again E (48 ∷ []) x zero_digits (λ h. refl)) parses
number_again E number x (inr (inl h)) parses = plain_again E number x (digits_of_count number h) (λ e. absurd (let first = h.first in omega arith)) parses
number_again E number x (inr (inr h)) parses =
    subst (λ (b : List ℕ). ParsesSigned {E = E} w32 10 b (Ok x) → b ≡ signed_decimal x) (sym h.1) (minus_again E h.0 x h.2) parses

-- what a number is read as is the integer that it is the text of
pub read_value : {E : Type 0} (number : List ℕ) (r : Result ℤ E) → IsNumber number → ParsesSigned w32 10 number r → IsInteger number (result_ok r)
read_value {E} number (Ok x) h parses = number_again E number x h parses
read_value number (Err f) h parses = unless_read number (Err f) parses refl
