-- The digits of a line of code, and the bytes that they spell.
use Rattle.std.proofs.Common.{◌≡◌, ℕ, zero, suc, ◌+◌, ◌-◌, ◌*◌, ◌/◌, ◌%◌, ◌<◌, ◌≤◌, ◌==◌, ◌&&◌, Bool, true, List, [], ◌∷◌, ◌++◌, length, get_or, take, drop, All, Ok, Err, refl, sym, ap, subst, ◌∙◌, inl, inr, arith, codes, take-append-drop}
use Rattle.std.proofs.lemmas.Slice.Eq.{bytes_eq-Decides}
use Rattle.std.specs.Str.{bytes_eq}
use Rattle.std.proofs.lemmas.Bool.{and_parts, cases_lt, eqb-true}
use Rattle.std.proofs.lemmas.Bool.Decides.{nat_tests}
use Rattle.std.proofs.lemmas.List.{get_or_past}
use Rattle.std.proofs.lemmas.List.Elements.{All-cons, All-head, All-nil, All-tail}
use Rattle.std.specs.List.{list_all}
use Rattle.hex.specs.Hex.{IsBytes, decode_of, encode_lower, encode_with, lower_digits}
use Rattle.hex.specs.declared.error.FromHexError.{FromHexError}
use Rattle.hex.proofs.HexLemmas.{decode_of-encode_lower, decode_of-ok, decode_of-same}
use Rattle.burr_runs.specs.Rules.Input.{IsCodeLine, hex, hex_digit}
use Rattle.burr_runs.specs.Rules.Input.{is_hex_digit}

abbrev pub IsByte : ℕ → Type 0
IsByte b = b < 256

-- what a digit stands for
digit_value : (b : ℕ) → is_hex_digit b ≡ true → (d : ℕ) × (d < 16) × (hex_digit d ≡ b)
digit_value b is = elim (cases_lt b 58) [
  | inl low ↦ (b - 48, grind (arith, nat_tests, is), grind (arith, nat_tests, is))
  | inr high ↦ (b - 87, grind (arith, nat_tests, is), grind (arith, nat_tests, is))
]

is_digit-hex : (d : ℕ) → d < 16 → is_hex_digit (hex_digit d) ≡ true
is_digit-hex d small = grind (arith, nat_tests)

same_pair : (a b c d : ℕ) (r s : List ℕ) → a ≡ c → b ≡ d → r ≡ s → a ∷ b ∷ r ≡ c ∷ d ∷ s
same_pair a b c d r s p q e = cc

-- digits, two and two, spell bytes
pub bytes_of_digits : (digits : List ℕ) → list_all is_hex_digit digits ≡ true → length digits % 2 ≡ 0 → (code : List ℕ) × All IsByte code × (hex code ≡ digits)
bytes_of_digits [] are even = ([], All-nil IsByte, refl)
bytes_of_digits (a ∷ []) are even = absurd (omega arith)
bytes_of_digits (a ∷ b ∷ rest) are even =
    let first = and_parts (is_hex_digit a) (list_all is_hex_digit (b ∷ rest)) are in
    let second = and_parts (is_hex_digit b) (list_all is_hex_digit rest) first.1 in
    let high = digit_value a first.0 in
    let low = digit_value b second.0 in
    let more = bytes_of_digits rest second.1 (omega arith) in
    let upper : (high.0 * 16 + low.0) / 16 ≡ high.0 = omega arith in
    let lower : (high.0 * 16 + low.0) % 16 ≡ low.0 = omega arith in (
      (high.0 * 16 + low.0) ∷ more.0,
      All-cons IsByte (high.0 * 16 + low.0) more.0 (omega arith) more.1,
      same_pair _ _ a b (hex more.0) rest (ap hex_digit upper ∙ high.2) (ap hex_digit lower ∙ low.2) more.2,
    )

pub length-hex : (code : List ℕ) → length (hex code) ≡ 2 * length code
length-hex [] = refl
length-hex (b ∷ code) = let more = length-hex code in omega (arith, more)

pub list_all-hex : (code : List ℕ) → All IsByte code → list_all is_hex_digit (hex code) ≡ true
list_all-hex [] are = refl
list_all-hex (b ∷ code) are =
    let byte = All-head IsByte b code are in
    let high : b / 16 < 16 = omega arith in
    let low : b % 16 < 16 = omega arith in
    rw (is_digit-hex (b / 16) high, is_digit-hex (b % 16) low) (list_all-hex code (All-tail IsByte b code are))

-- whether the first n digits are those of the table
abbrev agree_below : ℕ → Bool
agree_below zero = true
agree_below (suc n) = hex_digit n == get_or lower_digits n 0 && agree_below n

agree_at : (n d : ℕ) → agree_below n ≡ true → d < n → hex_digit d ≡ get_or lower_digits d 0
agree_at zero d agree small = absurd (omega arith)
agree_at (suc n) d agree small =
    let parts = and_parts (hex_digit n == get_or lower_digits n 0) (agree_below n) agree in
    elim (cases_lt d n) [
      | inl below ↦ agree_at n d parts.1 below
      | inr top ↦
          let last : d ≡ n = omega arith in
          rw last (eqb-true (hex_digit n) (get_or lower_digits n 0) parts.0)
    ]

hex_digit-lower : (d : ℕ) → d < 16 → hex_digit d ≡ get_or lower_digits d 0
hex_digit-lower d small = agree_at 16 d refl small

hex-lower : (code : List ℕ) → All IsByte code → hex code ≡ encode_lower code
unfolding encode_with
hex-lower [] are = refl
hex-lower (b ∷ code) are =
    let byte = All-head IsByte b code are in
    same_pair _ _ _ _ (hex code) _ (hex_digit-lower (b / 16) (omega arith)) (hex_digit-lower (b % 16) (omega arith)) (hex-lower code (All-tail IsByte b code are))

all_bytes : (code : List ℕ) → All IsByte code → IsBytes code
all_bytes code are k = elim (cases_lt k (length code)) [
  | inl inside ↦ are k 0 inside
  | inr past ↦ rw (get_or_past code k 0 past) (omega arith)
]

pub decode_of-hex : (code : List ℕ) → All IsByte code → decode_of (hex code) ≡ Ok code
decode_of-hex code are = ap decode_of (hex-lower code are) ∙ decode_of-encode_lower code (all_bytes code are)

-- digits that decode, in lower case, spell what they decode to
hex_decoded : (digits code : List ℕ) → list_all is_hex_digit digits ≡ true → decode_of digits ≡ Ok code → All IsByte code × (hex code ≡ digits)
hex_decoded digits code are decodes =
    let spelled = bytes_of_digits digits are (decode_of-ok digits code decodes).0 in
    let same : spelled.0 ≡ code =
    decode_of-same digits spelled.0 code (ap decode_of (sym spelled.2) ∙ decode_of-hex spelled.0 spelled.1) decodes in
    (subst (λ (bytes : List ℕ). All IsByte bytes) same spelled.1, ap hex (sym same) ∙ spelled.2)

-- what stands after the word of a line of code
pub record IsDigits (digits : List ℕ) : Type 0 where
  pub some : 1 ≤ length digits
  pub short : length digits ≤ 8192
  pub each : list_all is_hex_digit digits ≡ true

line_digits : (line digits code : List ℕ) → digits ≡ drop 5 line → IsCodeLine line code → digits ≡ hex code
line_digits line digits code after is = after ∙ ap (drop 5) is.1

pub IsDigits-line : (line digits code : List ℕ) → digits ≡ drop 5 line → IsCodeLine line code → IsDigits digits
IsDigits-line line digits code after is =
    let spelled = line_digits line digits code after is in
    let some = is.0.some in
    let short = is.0.short in
    record {
      some = rw spelled (omega (arith, length-hex code));
      short = rw spelled (omega (arith, length-hex code));
      each = rw spelled (list_all-hex code is.0.bytes);
    }

-- a line of code has digits that decode
pub decodes_line : (line digits code : List ℕ) (e : FromHexError) → digits ≡ drop 5 line → decode_of digits ≡ Err e → ¬ IsCodeLine line code
decodes_line line digits code e after fails is =
    let good = decode_of-hex code is.0.bytes in
    let spelled = ap decode_of (line_digits line digits code after is) in
    cc

-- decoded digits after the word make a line of code
pub IsCodeLine-decoded : (line digits code : List ℕ) → bytes_eq (take 5 line) (codes "code ") ≡ true → digits ≡ drop 5 line → IsDigits digits → decode_of digits ≡ Ok code
    → IsCodeLine line code
IsCodeLine-decoded line digits code begins after are decodes =
    let spelled = hex_decoded digits code are.each decodes in
    let count : length digits ≡ 2 * length code = (decode_of-ok digits code decodes).2 in
    let some = are.some in
    let short = are.short in (
      record { bytes = spelled.0; some = omega arith; short = omega arith },
      sym (take-append-drop 5 line) ∙ ap (λ (front : List ℕ). front ++ drop 5 line) ((bytes_eq-Decides (take 5 line) (codes "code ")).0 begins)
          ∙ ap (λ (bytes : List ℕ). codes "code " ++ bytes) (sym after ∙ sym spelled.1),
    )
