-- For crates above: numbers and lists that are spelled in one way, and whose spelling begins no
-- other's.
use Rattle.std.proofs.Common.{◌≡◌, ℕ, ◌<◌, ◌^◌, ◌≤ℤ◌, ℤ, pos, negsuc, neg_ℤ, int_le, Bool, IsTrue, List, [], ◌∷◌, ◌++◌, length, flat_map, FitsSigned, refl, sym, ap, ◌∙◌, arith, append_assoc}
use Rattle.std.specs.Int.{w16, w32, cast_unsigned, cast_signed}
use Rattle.std.specs.List.{list_all}
use Rattle.std.proofs.lemmas.Bool.{and_parts}
use Rattle.std.proofs.lemmas.Int.{ints, to_z-of_z}
use Rattle.byteorder.specs.Endian.{big_bytes, big_number}
use Rattle.byteorder.specs.Numbers.{big_number-reads_back, length-bytes_high_first}
use Rattle.burr_text.proofs.Common.Cuts.{same_head, same_tail}
use Rattle.burr_code.specs.Instruction.{signed_word}
use Rattle.burr_container.specs.Rules.Fitting.{is_between, is_number}

-- two values with one spelling are one value, and what follows is the same
abbrev pub OneSpelling : {A : Type 0} → (A → List ℕ) → (A → Bool) → Type 0
OneSpelling {A = A} bytes fits =
    (a b : A) (r s : List ℕ) → IsTrue (fits a) → IsTrue (fits b) → bytes a ++ r ≡ bytes b ++ s
    → (a ≡ b) × (r ≡ s)

-- fronts of one length are the same, and so is what follows
pub same_fronts : (xs ys r s : List ℕ) → length xs ≡ length ys → xs ++ r ≡ ys ++ s → (xs ≡ ys)
    × (r ≡ s)
same_fronts [] [] r s size e = (refl, e)
same_fronts [] (y ∷ ys) r s size e = absurd (omega (arith, size))
same_fronts (x ∷ xs) [] r s size e = absurd (omega (arith, size))
same_fronts (x ∷ xs) (y ∷ ys) r s size e =
    let head = same_head x y (xs ++ r) (ys ++ s) e in
    let tail = same_fronts xs ys r s (omega (arith, size)) (same_tail x y (xs ++ r) (ys ++ s) e) in
    (λ i. head i ∷ tail.0 i, tail.1)

-- Pieces of a list, each after the one before

pub apart_three : (x y z r : List ℕ) → (x ++ y ++ z) ++ r ≡ x ++ (y ++ (z ++ r))
apart_three x y z r = simp append_assoc

pub apart_four : (w x y z r : List ℕ) → (w ++ x ++ y ++ z) ++ r ≡ w ++ (x ++ (y ++ (z ++ r)))
apart_four w x y z r = simp append_assoc

-- Numbers

pub one_number : (width n m : ℕ) (r s : List ℕ) → n < 256 ^ width → m < 256 ^ width
    → big_bytes width n ++ r ≡ big_bytes width m ++ s → (n ≡ m) × (r ≡ s)
one_number width n m r s small also e = (
  sym (big_number-reads_back width n r small) ∙ ap (big_number width) e
      ∙ big_number-reads_back width m s also,
  (same_fronts (big_bytes width n) (big_bytes width m) r s
      (length-bytes_high_first width n ∙ sym (length-bytes_high_first width m)) e).1,
)

pub le_of_test : (a b : ℤ) → IsTrue (int_le a b) → a ≤ℤ b
le_of_test a b test = omega (arith, ints, test)

pub between : (low high n : ℤ) → IsTrue (is_between low high n) → (low ≤ℤ n) × (n ≤ℤ high)
between low high n test =
    let both = and_parts (int_le low n) (int_le n high) test in
    (le_of_test low n both.0, le_of_test n high both.1)

-- a number of 16 bits
abbrev pub is_word : ℤ → Bool
is_word n = is_between (neg_ℤ (pos 32768)) (pos 32767) n

pub word_small : (n : ℤ) → (neg_ℤ (pos 32768) ≤ℤ n) → (n ≤ℤ pos 32767)
    → cast_unsigned w16 n < 256 ^ 2
word_small (pos a) low high = omega (arith, ints, high)
word_small (negsuc a) low high = omega (arith, ints, low)

pub word_back : (n : ℤ) → (neg_ℤ (pos 32768) ≤ℤ n) → (n ≤ℤ pos 32767)
    → cast_signed w16 (cast_unsigned w16 n) ≡ n
word_back n low high = let fits : FitsSigned w16 n = omega (arith, ints, low, high) in
    to_z-of_z w16 n fits

pub one_word : OneSpelling signed_word is_word
one_word a b r s first second e =
    let one = between (neg_ℤ (pos 32768)) (pos 32767) a first in
    let other = between (neg_ℤ (pos 32768)) (pos 32767) b second in
    let both =
    one_number 2 (cast_unsigned w16 a) (cast_unsigned w16 b) r s (word_small a one.0 one.1)
    (word_small b other.0 other.1) e in (
      sym (word_back a one.0 one.1) ∙ ap (cast_signed w16) both.0
          ∙ word_back b other.0 other.1,
      both.1,
    )

-- a number of 32 bits
abbrev pub is_long : ℤ → Bool
is_long n = is_between (neg_ℤ (pos 2147483648)) (pos 2147483647) n

abbrev pub long_bytes : ℤ → List ℕ
long_bytes n = big_bytes 4 (cast_unsigned w32 n)

pub long_small : (n : ℤ) → (neg_ℤ (pos 2147483648) ≤ℤ n) → (n ≤ℤ pos 2147483647)
    → cast_unsigned w32 n < 256 ^ 4
long_small (pos a) low high = omega (arith, ints, high)
long_small (negsuc a) low high = omega (arith, ints, low)

pub long_back : (n : ℤ) → (neg_ℤ (pos 2147483648) ≤ℤ n) → (n ≤ℤ pos 2147483647)
    → cast_signed w32 (cast_unsigned w32 n) ≡ n
long_back n low high = let fits : FitsSigned w32 n = omega (arith, ints, low, high) in
    to_z-of_z w32 n fits

pub one_long : OneSpelling long_bytes is_long
one_long a b r s first second e =
    let one = between (neg_ℤ (pos 2147483648)) (pos 2147483647) a first in
    let other = between (neg_ℤ (pos 2147483648)) (pos 2147483647) b second in
    let both =
    one_number 4 (cast_unsigned w32 a) (cast_unsigned w32 b) r s (long_small a one.0 one.1)
    (long_small b other.0 other.1) e in (
      sym (long_back a one.0 one.1) ∙ ap (cast_signed w32) both.0
          ∙ long_back b other.0 other.1,
      both.1,
    )

-- a number within the range of slots is one of 16 bits
pub number_is_word : (n : ℤ) → IsTrue (is_number n) → (neg_ℤ (pos 32768) ≤ℤ n) × (n ≤ℤ pos 32767)
number_is_word n test =
    let both = between (neg_ℤ (pos 32767)) (pos 32767) n test in
    (omega (arith, ints, both.0), both.1)

-- Lists

-- a list of a known length, each element after the one before
pub one_list : {A : Type 0} (bytes : A → List ℕ) (fits : A → Bool) → OneSpelling bytes fits
    → (xs ys : List A) (r s : List ℕ) → length xs ≡ length ys → IsTrue (list_all fits xs)
    → IsTrue (list_all fits ys)
    → flat_map bytes xs ++ r ≡ flat_map bytes ys ++ s → (xs ≡ ys) × (r ≡ s)
one_list bytes fits one [] [] r s size first second e = (refl, e)
one_list bytes fits one [] (y ∷ ys) r s size first second e = absurd (omega (arith, size))
one_list bytes fits one (x ∷ xs) [] r s size first second e = absurd (omega (arith, size))
one_list bytes fits one (x ∷ xs) (y ∷ ys) r s size first second e =
    let here = and_parts (fits x) (list_all fits xs) first in
    let also = and_parts (fits y) (list_all fits ys) second in
    let moved : bytes x ++ (flat_map bytes xs ++ r) ≡ bytes y ++ (flat_map bytes ys ++ s) =
    sym (append_assoc (bytes x) (flat_map bytes xs) r) ∙ e
    ∙ append_assoc (bytes y) (flat_map bytes ys) s in
    let head = one x y (flat_map bytes xs ++ r) (flat_map bytes ys ++ s) here.0 also.0 moved in
    let tail = one_list bytes fits one xs ys r s (omega (arith, size)) here.1 also.1 head.1 in
    (λ i. head.0 i ∷ tail.0 i, tail.1)
