-- For crates above: the fields of a container are lawful.
use Rattle.std.proofs.Common.{◌≡◌, ℕ, suc, ◌+◌, ◌-◌, ◌^◌, ◌<◌, ◌≤◌, ◌&&◌, ◌==◌, ◌≤ℤ◌, ◌-ℤ◌, Bool, ltb, ℤ, pos, negsuc, neg_ℤ, nat_lt, IsTrue, List, [], ◌∷◌, ◌++◌, length, take, inl, inr, refl, sym, ap, ◌∙◌, subst, arith, length-append, append-nil, ltb-true, ltb-false, lt-ltb, ◌%◌, eqb-true}
use Rattle.std.specs.Int.{w16, cast_unsigned}
use Rattle.std.proofs.Math.Seq.{take-append_seam}
use Rattle.std.proofs.lemmas.Bool.{and_parts, and_from, cond_both}
use Rattle.std.proofs.lemmas.Int.{ints}
use Rattle.byteorder.specs.Endian.{big_bytes, big_number, twos_complement}
use Rattle.byteorder.specs.Numbers.{big_number-reads_back, length-bytes_high_first}
use Rattle.burr_code.specs.Instruction.{signed_word}
use Rattle.burr_container.specs.declared.fault.ContainerFault.{ContainerFault}
use Rattle.burr_container.specs.declared.fault.ContainerFault.TheVariants.{C4}
use Rattle.burr_container.specs.Rules.Faults.{field, number, signed, raw}
use Rattle.burr_container.proofs.Common.Spelled.{same_fronts, one_number, is_word, one_word, between, word_small}
use Rattle.burr_container.proofs.Common.Lawful.{OfPart, Sound}

-- a field does not fail where its bytes are there and are so
pub field_never : (width : ℕ) (wrong : ℕ → ContainerFault) (is_so : List ℕ → Bool) (at : ℕ)
    (bytes : List ℕ) (fault : ContainerFault)
    → width ≤ length bytes → IsTrue (is_so (take width bytes))
    → ¬ field width wrong is_so at bytes fault
field_never width wrong is_so at bytes fault long so (inl (short, e)) = short long
field_never width wrong is_so at bytes fault long so (inr (there, inl (not_so, e))) = not_so so
field_never width wrong is_so at bytes fault long so (inr (there, inr (is, none))) = none

pub field_one_fault : (width : ℕ) (wrong : ℕ → ContainerFault) (is_so : List ℕ → Bool) (at : ℕ)
    (bytes : List ℕ) (x y : ContainerFault)
    → field width wrong is_so at bytes x → field width wrong is_so at bytes y → x ≡ y
field_one_fault width wrong is_so at bytes x y (inl (short, e)) (inl (also, f)) = e ∙ sym f
field_one_fault width wrong is_so at bytes x y (inl (short, e)) (inr (there, f)) =
    absurd (short there)
field_one_fault width wrong is_so at bytes x y (inr (there, e)) (inl (short, f)) =
    absurd (short there)
field_one_fault width wrong is_so at bytes x y (inr (there, inl (not_so, e)))
    (inr (also, inl (nor, f))) = e ∙ sym f
field_one_fault width wrong is_so at bytes x y (inr (there, inl (not_so, e)))
    (inr (also, inr (is, none))) = absurd none
field_one_fault width wrong is_so at bytes x y (inr (there, inr (is, none))) more = absurd none

-- a field of values that are spelled in one way, in as many bytes, and that pass its test
pub field_sound : {A : Type 0} (width : ℕ) (wrong : ℕ → ContainerFault) (is_so : List ℕ → Bool)
    (bytes : A → List ℕ) (fits : A → Bool)
    → ((a b : A) (r s : List ℕ) → IsTrue (fits a) → IsTrue (fits b) → bytes a ++ r ≡ bytes b ++ s
    → (a ≡ b) × (r ≡ s))
    → ((a : A) → IsTrue (fits a) → length (bytes a) ≡ width)
    → ((a : A) → IsTrue (fits a) → IsTrue (is_so (bytes a)))
    → Sound (record { bytes = bytes; fits = fits; Fails = field width wrong is_so })
field_sound width wrong is_so bytes fits one size so = record {
  one = λ a b all r s here also. one a b r s here.0 also.0 (sym here.1 ∙ also.1);
  never = λ a all r at fault here.
      let long : length all ≡ length (bytes a) + length r =
      ap (λ (all : List ℕ). length all) here.1 ∙ length-append (bytes a) r in
      let long_enough : width ≤ length all = omega (arith, long, size a here.0) in
      let front : take width all ≡ bytes a =
      ap (λ n. take n all) (sym (size a here.0))
      ∙ ap (λ (all : List ℕ). take (length (bytes a)) all) here.1
      ∙ take-append_seam (bytes a) r in
      field_never width wrong is_so at all fault long_enough
      (subst (λ (front : List ℕ). IsTrue (is_so front)) (sym front) (so a here.0));
  one_fault = λ at all x y here also. field_one_fault width wrong is_so at all x y here also;
}

value_of : (width n : ℕ) → n < 256 ^ width → big_number width (big_bytes width n) ≡ n
value_of width n small =
    ap (λ (all : List ℕ). big_number width all) (sym (append-nil (big_bytes width n)))
    ∙ big_number-reads_back width n [] small

number_small : (width : ℕ) (is_so : ℕ → Bool) (n : ℕ) → IsTrue (nat_lt n (256 ^ width) && is_so n)
    → n < 256 ^ width
number_small width is_so n fits =
    ltb-true n (256 ^ width) (and_parts (nat_lt n (256 ^ width)) (is_so n) fits).0

pub number_sound : (width : ℕ) (wrong : ℕ → ContainerFault) (is_so : ℕ → Bool)
    → Sound (number width wrong is_so)
number_sound width wrong is_so =
    field_sound width wrong (λ b. is_so (big_number width b)) (big_bytes width)
    (λ n. nat_lt n (256 ^ width) && is_so n)
    (λ a b r s here also e. one_number width a b r s (number_small width is_so a here)
    (number_small width is_so b also) e)
    (λ a fits. length-bytes_high_first width a)
    (λ a fits. subst (λ n. IsTrue (is_so n))
    (sym (value_of width a (number_small width is_so a fits)))
    (and_parts (nat_lt a (256 ^ width)) (is_so a) fits).1)

twos_of_bits : (n : ℤ) → (neg_ℤ (pos 32768) ≤ℤ n) → (n ≤ℤ pos 32767)
    → twos_complement 2 (cast_unsigned w16 n) ≡ n
twos_of_bits (pos a) low high =
    cond_both (ltb a 32768) (pos a) (pos a -ℤ pos 65536) (λ (x : ℤ). x ≡ pos a) (λ below. refl)
    (λ above. let more = ltb-false a 32768 above in omega (arith, ints, more, high))
twos_of_bits (negsuc a) low high =
    cond_both (ltb (65536 - suc a) 32768) (pos (65536 - suc a)) (pos (65536 - suc a) -ℤ pos 65536)
    (λ (x : ℤ). x ≡ negsuc a)
    (λ below. let less = ltb-true (65536 - suc a) 32768 below in omega (arith, ints, less, low))
    (λ above. let more = ltb-false (65536 - suc a) 32768 above in
    omega (arith, ints, more, low))

pub signed_sound : (is_so : ℤ → Bool) → ((n : ℤ) → IsTrue (is_so n) → IsTrue (is_word n))
    → Sound (signed is_so)
signed_sound is_so word =
    field_sound 2 C4 (λ b. is_so (twos_complement 2 (big_number 2 b))) signed_word is_so
    (λ a b r s here also e. one_word a b r s (word a here) (word b also) e)
    (λ a fits. refl)
    (λ a fits.
    let range = between (neg_ℤ (pos 32768)) (pos 32767) a (word a fits) in
    let value : big_number 2 (signed_word a) ≡ cast_unsigned w16 a =
    value_of 2 (cast_unsigned w16 a) (word_small a range.0 range.1) in
    subst (λ (n : ℤ). IsTrue (is_so n))
    (sym (ap (λ n. twos_complement 2 n) value ∙ twos_of_bits a range.0 range.1)) fits)

pub raw_sound : (width : ℕ) (wrong : ℕ → ContainerFault) (is_so : List ℕ → Bool)
    → Sound (raw width wrong is_so)
raw_sound width wrong is_so =
    field_sound width wrong is_so (λ b. b) (λ b. (length b == width) && is_so b)
    (λ a b r s here also e.
    let size : length a ≡ length b =
    eqb-true (length a) width (and_parts (length a == width) (is_so a) here).0
    ∙ sym (eqb-true (length b) width (and_parts (length b == width) (is_so b) also).0) in
    same_fronts a b r s size e)
    (λ a fits. eqb-true (length a) width (and_parts (length a == width) (is_so a) fits).0)
    (λ a fits. (and_parts (length a == width) (is_so a) fits).1)

-- a number that stands at the front
pub of_number : (width : ℕ) (wrong : ℕ → ContainerFault) (is_so : ℕ → Bool) (n : ℕ)
    (bytes rest : List ℕ) → n < 256 ^ width → IsTrue (is_so n)
    → bytes ≡ big_bytes width n ++ rest → OfPart (number width wrong is_so) n bytes rest
of_number width wrong is_so n bytes rest small so e =
    (and_from (nat_lt n (256 ^ width)) (is_so n) (lt-ltb n (256 ^ width) small) so, e)

-- the same of one byte
pub of_byte : (wrong : ℕ → ContainerFault) (is_so : ℕ → Bool) (n : ℕ) (bytes rest : List ℕ)
    → n < 256 → IsTrue (is_so n) → bytes ≡ n ∷ rest
    → OfPart (number 1 wrong is_so) n bytes rest
of_byte wrong is_so n bytes rest small so e =
    let low : n ≡ n % 256 = omega (arith, small) in
    of_number 1 wrong is_so n bytes rest (omega (arith, small)) so
    (e ∙ ap (λ (n : ℕ). n ∷ rest) low)

-- a byte that stands at the front is so, and is itself
pub byte_back : (wrong : ℕ → ContainerFault) (is_so : ℕ → Bool) (n : ℕ) (bytes rest : List ℕ)
    → OfPart (number 1 wrong is_so) n bytes rest → IsTrue (is_so n) × (bytes ≡ n ∷ rest)
byte_back wrong is_so n bytes rest here =
    let both = and_parts (nat_lt n (256 ^ 1)) (is_so n) here.0 in
    let small = ltb-true n 256 both.0 in
    let low : n % 256 ≡ n = omega (arith, small) in
    (both.1, here.1 ∙ ap (λ (n : ℕ). n ∷ rest) low)

pub byte_small : (wrong : ℕ → ContainerFault) (is_so : ℕ → Bool) (n : ℕ) (bytes rest : List ℕ)
    → OfPart (number 1 wrong is_so) n bytes rest → n < 256
byte_small wrong is_so n bytes rest here =
    ltb-true n 256 (and_parts (nat_lt n (256 ^ 1)) (is_so n) here.0).0

-- a number that stands at the front is so
pub number_so : (width : ℕ) (wrong : ℕ → ContainerFault) (is_so : ℕ → Bool) (n : ℕ)
    (bytes rest : List ℕ) → OfPart (number width wrong is_so) n bytes rest → IsTrue (is_so n)
number_so width wrong is_so n bytes rest here =
    (and_parts (nat_lt n (256 ^ width)) (is_so n) here.0).1
