-- What the code reads of the text of a number is what the number writes.
use Rattle.std.proofs.Common.{◌≡◌, ℕ, ◌^◌, ◌<◌, ◌≤◌, List, Bool, true, false, IsTrue, ℤ, refl, sym, subst, ◌∙◌, arith}
use Rattle.std.specs.Prelude.{Result, Ok, Err, IsOk, MatchResult, MatchOption, not, nat_le, nat_lt, int_le, ◌&&◌}
use Rattle.std.specs.Bool.{then_some}
use Rattle.std.specs.Result.{result_ok}
use Rattle.std.specs.Int.{Width}
use Rattle.std.specs.Str.Parse.{starts_with_minus, ParsesUnsigned, ParsesSigned}
use Rattle.std.proofs.lemmas.Bool.{and_left, and_parts, and_right, le-ltb, lt-leb, ltb-false}
use Rattle.std.proofs.lemmas.Bool.Decides.{nat_tests}
use Rattle.burr_plantext.specs.Rules.Written.{is_number, is_below, is_within, is_operand, are_ends, natural_in, number_in}
use Rattle.burr_plantext.proofs.Common.ParsedNumbers.{parsed_below, parsed_number}
use Rattle.burr_asm.specs.Views.Numbers.{AreEnds, IsBelow, IsOfWidth, IsWithin}
use Rattle.burr_asm.specs.Views.Sets.{is_member, IsMember}

pub below_read : {E : Type 0} (k : ℕ) (w text : List ℕ) (r : Result ℕ E) → text ≡ w → IsTrue (is_number w) → ParsesUnsigned k 10 text r → IsBelow (2 ^ k) w (result_ok r)
below_read {E} k w text r e h p = parsed_below k w r h (subst (λ (t : List ℕ). ParsesUnsigned {E = E} k 10 t r) e p)

pub signed_read : {E : Type 0} (v : Width) (w text : List ℕ) (r : Result ℤ E) → text ≡ w → IsTrue (is_number w) → ParsesSigned v 10 text r → IsOfWidth v w (result_ok r)
signed_read {E} v w text r e h p = parsed_number v w r h (subst (λ (t : List ℕ). ParsesSigned {E = E} v 10 t r) e p)

-- what is text is read as text
pub read_as_text : {T E : Type 0} (r : Result T E) (P : T → Type 0) (U : Type 0) (Q : E → Type 0) → MatchResult r P (λ e. (¬ U) × Q e) → U → IsOk r
read_as_text (Ok x) P U Q cases holds = refl
read_as_text (Err e) P U Q cases holds = absurd (cases.0 holds)

-- A word of no number below a bound writes none below a lower one, none of a range that ends below it,
-- and no member of a set below it.
pub none_below : (less bound : ℕ) (word : List ℕ) → less ≤ bound → is_below bound word ≡ false → is_below less word ≡ false
none_below less bound word few e = grind (arith, nat_tests, few, e)

pub none_within : (low high bound : ℕ) (word : List ℕ) → high < bound → is_below bound word ≡ false → is_within low high word ≡ false
none_within low high bound word few e = grind (arith, nat_tests, few, e)

pub no_member : (least less bound : ℕ) (word : List ℕ) → less ≤ bound → is_below bound word ≡ false → is_member least less word ≡ false
no_member least less bound word few e = and_left (is_below less word) (nat_le least (natural_in word)) (none_below less bound word few e)

-- what a test lets pass
pub found_if : {A : Type 0} (test given : Bool) (x : A) (P : A → Type 0) → given ≡ test → P x → MatchOption (then_some test x) (given ≡ false) (λ y. (given ≡ true) × P y)
found_if true given x P e is = (e, is)
found_if false given x P e is = e

-- A word that has been read as a number below a bound is tested by that number.
module _ (bound n : ℕ) (word : List ℕ) (below : is_below bound word ≡ true) (is : n ≡ natural_in word) where
  natural : not (starts_with_minus word) ≡ true
  natural = (and_parts (not (starts_with_minus word)) (nat_lt (natural_in word) bound) below).0

  pub found_below : (less : ℕ) (test : Bool) → test ≡ nat_lt n less → IsBelow less word (then_some test n)
  found_below less test e = found_if test (is_below less word) n (λ m. m ≡ natural_in word) ((λ i. natural i && nat_lt (sym is i) less) ∙ sym e) is

  pub found_within : (low high : ℕ) (test : Bool) → test ≡ (nat_le low n && nat_le n high) → IsWithin low high word (then_some test n)
  found_within low high test e =
      found_if test (is_within low high word) n (λ m. m ≡ natural_in word) ((λ i. natural i && nat_le low (sym is i) && nat_le (sym is i) high) ∙ sym e) is

  pub found_member : (least less : ℕ) (test : Bool) → test ≡ (nat_lt n less && nat_le least n) → IsMember least less word (then_some test n)
  found_member least less test e =
      found_if test (is_member least less word) n (λ m. m ≡ natural_in word) ((λ i. natural i && nat_lt (sym is i) less && nat_le least (sym is i)) ∙ sym e) is

-- Two words that have been read as operands are tested as the ends of a range.
pub found_ends : (low high : List ℕ) (m n : ℤ) (test : Bool) → is_operand low ≡ true → m ≡ number_in low → is_operand high ≡ true → n ≡ number_in high → test ≡ int_le m n → AreEnds low high (then_some test (m, n))
found_ends low high m n test low_is m_is high_is n_is e =
    found_if test (are_ends low high) (m, n) (λ r. r ≡ (number_in low, number_in high)) ((λ i. low_is i && high_is i && int_le (sym m_is i) (sym n_is i)) ∙ sym e) (λ i. (m_is i, n_is i))
