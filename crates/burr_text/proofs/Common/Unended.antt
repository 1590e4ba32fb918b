-- For crates above: bytes that hold no end of a line.
use Rattle.std.proofs.Common.{◌≡◌, ◌≢◌, ℕ, zero, suc, ◌≤◌, ◌<◌, ◌/◌, ◌%◌, List, [], ◌∷◌, ◌++◌, length, arith}
use Rattle.std.specs.Prelude.{ℤ, pos, negsuc, decimal, Bool, true, false, not, ◌==◌, if◌then◌else◌, slice_index_or}
use Rattle.std.specs.List.{list_all, join_with_byte, AllByRecursion}
use Rattle.std.proofs.lemmas.Bool.Decides.{nat_tests}
use Rattle.std.specs.Fmt.{signed_decimal, digits, digits_onto, digit_glyph}
use Rattle.burr_text.specs.Lines.{IsUnended}
use Rattle.burr_text.proofs.Common.Cuts.{Lacks}

-- a list that lacks a byte does not contain it
contains_none : (c : ℕ) (bytes : List ℕ) → Lacks c bytes → (k : ℕ) → k < length bytes → slice_index_or bytes k c ≢ c
contains_none c [] h k inside = absurd (omega arith)
contains_none c (b ∷ bytes) h zero inside = h.0
contains_none c (b ∷ bytes) h (suc k) inside = contains_none c bytes h.1 k (omega arith)

pub unended : (bytes : List ℕ) → Lacks 10 bytes → IsUnended bytes
unended bytes h contains = contains_none 10 bytes h contains.0 contains.1 contains.2

-- two parts that lack a byte make a list that does
pub lacks_append : (c : ℕ) (a b : List ℕ) → Lacks c a → Lacks c b → Lacks c (a ++ b)
lacks_append c [] b p q = q
lacks_append c (x ∷ a) b p q = (p.0, lacks_append c a b p.1 q)

-- whether all bytes are others, as a test
abbrev pub is_clear : List ℕ → Bool
is_clear bytes = list_all (λ b. not (b == 10)) bytes

pub lacks_clear : (bytes : List ℕ) → is_clear bytes ≡ true → Lacks 10 bytes
lacks_clear [] h = tt
lacks_clear (b ∷ bytes) h = (grind arith, lacks_clear bytes (grind arith))

-- each of the words lacks a byte
abbrev pub EachLacks : ℕ → List (List ℕ) → Type 0
EachLacks c [] = Unit {0}
EachLacks c (word ∷ words) = Lacks c word × EachLacks c words

-- so do the words with another byte between each two
pub lacks_join : (c d : ℕ) (words : List (List ℕ)) → d ≢ c → EachLacks c words → Lacks c (join_with_byte d words)
lacks_join c d [] other h = tt
lacks_join c d (word ∷ []) other h = h.0
lacks_join c d (word ∷ next ∷ words) other h = lacks_append c word (d ∷ join_with_byte d (next ∷ words)) h.0 (other, lacks_join c d (next ∷ words) other h.1)

-- decimal digits
abbrev pub AreDigits : List ℕ → Type 0
AreDigits bytes = AllByRecursion (λ b. (48 ≤ b) × (b ≤ 57)) bytes

glyph_is_digit : (d : ℕ) → d < 10 → (48 ≤ digit_glyph false d) × (digit_glyph false d ≤ 57)
glyph_is_digit d small = (grind (arith, nat_tests), grind (arith, nat_tests))

more_digits : (k n : ℕ) (after : List ℕ) → AreDigits after → AreDigits (digits_onto k 10 false n after)
more_digits zero n after h = h
more_digits (suc k) n after h =
    let more : List ℕ = digit_glyph false (n % 10) ∷ after in
    let are : AreDigits more = (glyph_is_digit (n % 10) (omega arith), h) in
    either (n / 10 == 0) more (digits_onto k 10 false (n / 10) more) are (more_digits k (n / 10) more are)
  where
    either : (t : Bool) (a b : List ℕ) → AreDigits a → AreDigits b → AreDigits (if t then a else b)
    either true a b p q = p
    either false a b p q = q

-- a number is spelled by digits
pub decimal_is_digits : (n : ℕ) → AreDigits (decimal n)
unfolding digits
decimal_is_digits n = more_digits 64 n [] tt

digits_lack_end : (bytes : List ℕ) → AreDigits bytes → Lacks 10 bytes
digits_lack_end [] h = tt
digits_lack_end (b ∷ bytes) h = (λ e. let low = h.0.0 in omega arith, digits_lack_end bytes h.1)

pub lacks_decimal : (n : ℕ) → Lacks 10 (decimal n)
lacks_decimal n = digits_lack_end (decimal n) (decimal_is_digits n)

pub lacks_signed_decimal : (z : ℤ) → Lacks 10 (signed_decimal z)
lacks_signed_decimal (pos n) = lacks_decimal n
lacks_signed_decimal (negsuc n) = (λ e. omega arith, lacks_decimal (suc n))
