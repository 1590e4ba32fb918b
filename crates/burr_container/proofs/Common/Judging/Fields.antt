-- For crates above: bytes have a field at their front, or fail to.
use Rattle.std.proofs.Common.{◌≡◌, ℕ, suc, ◌+◌, ◌-◌, ◌*◌, ◌/◌, ◌%◌, ◌^◌, ◌<◌, ◌≤◌, ◌&&◌, ◌==◌, ◌-ℤ◌, ◌⊎◌, Bool, ltb, ℤ, pos, negsuc, neg_ℤ, nat_lt, IsTrue, List, [], ◌∷◌, ◌++◌, length, take, drop, inl, inr, refl, sym, ap, ◌∙◌, subst, arith, length-take-le, take-append-drop, ltb-true, ltb-false, lt-ltb, eq-eqb}
use Rattle.std.specs.Int.{w16, w32, cast_unsigned}
use Rattle.std.proofs.lemmas.Bool.{and_from, cond_both}
use Rattle.std.proofs.lemmas.Int.{ints}
use Rattle.byteorder.specs.Endian.{big_bytes, big_number, twos_complement}
use Rattle.burr_text.proofs.Common.Decisions.{Decided, decide_at_most, decide_test}
use Rattle.burr_code.specs.Instruction.{signed_word}
use Rattle.burr_container.specs.declared.fault.ContainerFault.{ContainerFault}
use Rattle.burr_container.specs.declared.fault.ContainerFault.TheVariants.{C1, C4}
use Rattle.burr_container.specs.Rules.Faults.{Part, field, number, signed, raw}
use Rattle.burr_container.proofs.Common.Spelled.{is_word, is_long, long_bytes}
use Rattle.burr_container.proofs.Common.Slots.{between_test}
use Rattle.burr_container.proofs.Common.Judging.Fronts.{AreSmall, small_parts, Faulted, JudgedPart}

module _ {A : Type 0} (width : ℕ) (wrong : ℕ → ContainerFault) (is_so : List ℕ → Bool)
    (bytes : A → List ℕ) (fits : A → Bool)
    (read : (front : List ℕ) → length front ≡ width → AreSmall front → IsTrue (is_so front)
    → (a : A) × IsTrue (fits a) × (front ≡ bytes a)) where
  field_part : Part A
  field_part = record { bytes = bytes; fits = fits; Fails = field width wrong is_so }

  field_read : (at : ℕ) (all : List ℕ) → AreSmall all → width ≤ length all
      → Decided (IsTrue (is_so (take width all)))
      → ((a : A) × (r : List ℕ) × (IsTrue (fits a) × (all ≡ bytes a ++ r))
      × AreSmall r) ⊎ Faulted (field width wrong is_so) at all
  field_read at all small long (inl so) =
      let cut : all ≡ take width all ++ drop width all = sym (take-append-drop width all) in
      let parts =
      small_parts (take width all) (drop width all)
      (subst (λ (all : List ℕ). AreSmall all) cut small) in
      let value = read (take width all) (length-take-le width all long) parts.0 so in
      inl (
        value.0,
        drop width all,
        (value.1, cut ∙ ap (λ (front : List ℕ). front ++ drop width all) value.2),
        parts.1,
      )
  field_read at all small long (inr not_so) = inr (wrong at, inr (long, inl (not_so, refl)))

  field_found : (at : ℕ) (all : List ℕ) → AreSmall all → Decided (width ≤ length all)
      → ((a : A) × (r : List ℕ) × (IsTrue (fits a) × (all ≡ bytes a ++ r))
      × AreSmall r) ⊎ Faulted (field width wrong is_so) at all
  field_found at all small (inl long) =
      field_read at all small long (decide_test (is_so (take width all)))
  field_found at all small (inr short) = inr (C1 (at + length all), inl (short, refl))

  -- a field whose bytes are a value's where they are so
  pub field_judged : JudgedPart
      (record { bytes = bytes; fits = fits; Fails = field width wrong is_so })
  field_judged =
      record { some = λ at all small. field_found at all small (decide_at_most width (length all)) }

-- Numbers

-- any `width` bytes are those of a number
abbrev pub AreDigits : ℕ → Type 0
AreDigits width =
    (front : List ℕ) → length front ≡ width → AreSmall front
    → (big_number width front < 256 ^ width)
    × (front ≡ big_bytes width (big_number width front))

pub digits_1 : AreDigits 1
digits_1 [] size small = absurd (omega (arith, size))
digits_1 (a ∷ b ∷ more) size small = absurd (omega (arith, size))
digits_1 (a ∷ []) size small =
    let first : a ≡ (a * 256 ^ 0 + 0) % 256 = omega (arith, small.0) in
    (omega (arith, small.0), ap (λ (a : ℕ). a ∷ []) first)

pub digits_2 : AreDigits 2
digits_2 [] size small = absurd (omega (arith, size))
digits_2 (a ∷ []) size small = absurd (omega (arith, size))
digits_2 (a ∷ b ∷ c ∷ more) size small = absurd (omega (arith, size))
digits_2 (a ∷ b ∷ []) size small =
    let n = a * 256 ^ 1 + (b * 256 ^ 0 + 0) in
    let first : a ≡ n / 256 ^ 1 % 256 = omega (arith, small.0, small.1.0) in
    let second : b ≡ n % 256 = omega (arith, small.0, small.1.0) in
    (omega (arith, small.0, small.1.0), λ i. first i ∷ second i ∷ [])

pub digits_4 : AreDigits 4
digits_4 [] size small = absurd (omega (arith, size))
digits_4 (a ∷ []) size small = absurd (omega (arith, size))
digits_4 (a ∷ b ∷ []) size small = absurd (omega (arith, size))
digits_4 (a ∷ b ∷ c ∷ []) size small = absurd (omega (arith, size))
digits_4 (a ∷ b ∷ c ∷ d ∷ e ∷ more) size small = absurd (omega (arith, size))
digits_4 (a ∷ b ∷ c ∷ d ∷ []) size small =
    let n = a * 256 ^ 3 + (b * 256 ^ 2 + (c * 256 ^ 1 + (d * 256 ^ 0 + 0))) in
    let first : a ≡ n / 256 ^ 3 % 256 =
    omega (arith, small.0, small.1.0, small.1.1.0, small.1.1.1.0) in
    let second : b ≡ n / 256 ^ 2 % 256 =
    omega (arith, small.0, small.1.0, small.1.1.0, small.1.1.1.0) in
    let third : c ≡ n / 256 ^ 1 % 256 =
    omega (arith, small.0, small.1.0, small.1.1.0, small.1.1.1.0) in
    let fourth : d ≡ n % 256 = omega (arith, small.0, small.1.0, small.1.1.0, small.1.1.1.0) in (
      omega (arith, small.0, small.1.0, small.1.1.0, small.1.1.1.0),
      λ i. first i ∷ second i ∷ third
          i ∷ fourth i ∷ [],
    )

pub number_judged : (width : ℕ) (wrong : ℕ → ContainerFault) (is_so : ℕ → Bool) → AreDigits width
    → JudgedPart (number width wrong is_so)
number_judged width wrong is_so digits =
    field_judged width wrong (λ b. is_so (big_number width b)) (big_bytes width)
    (λ n. nat_lt n (256 ^ width) && is_so n)
    (λ front size small so.
    let here = digits front size small in (
      big_number width front,
      and_from (nat_lt (big_number width front) (256 ^ width))
          (is_so (big_number width front)) (lt-ltb (big_number width front) (256 ^ width) here.0)
          so,
      here.1,
    ))

-- Signed numbers

pub word_of_bits : (x : ℕ) → x < 65536 → (cast_unsigned w16 (twos_complement 2 x) ≡ x)
    × IsTrue (is_word (twos_complement 2 x))
word_of_bits x small =
    cond_both (ltb x 32768) (pos x) (pos x -ℤ pos 65536)
    (λ (n : ℤ). (cast_unsigned w16 n ≡ x) × IsTrue (is_word n))
    (λ below. let low = ltb-true x 32768 below in (
      refl,
      between_test (neg_ℤ (pos 32768)) (pos 32767) (pos x) (omega (arith, ints))
          (omega (arith, ints, low)),
    ))
    (λ above.
    let high = ltb-false x 32768 above in
    let value : pos x -ℤ pos 65536 ≡ negsuc (65535 - x) = omega (arith, ints, small, high) in
    let bits : 65536 - suc (65535 - x) ≡ x = omega (arith, small) in
    subst (λ (n : ℤ). (cast_unsigned w16 n ≡ x) × IsTrue (is_word n)) (sym value) (
      bits,
      between_test (neg_ℤ (pos 32768)) (pos 32767) (negsuc (65535 - x))
          (omega (arith, ints, small, high)) (omega (arith, ints, small, high)),
    ))

pub long_of_bits : (x : ℕ) → x < 4294967296 → (cast_unsigned w32 (twos_complement 4 x) ≡ x)
    × IsTrue (is_long (twos_complement 4 x))
long_of_bits x small =
    cond_both (ltb x 2147483648) (pos x) (pos x -ℤ pos 4294967296)
    (λ (n : ℤ). (cast_unsigned w32 n ≡ x) × IsTrue (is_long n))
    (λ below. let low = ltb-true x 2147483648 below in (
      refl,
      between_test (neg_ℤ (pos 2147483648)) (pos 2147483647) (pos x) (omega (arith, ints))
          (omega (arith, ints, low)),
    ))
    (λ above.
    let high = ltb-false x 2147483648 above in
    let value : pos x -ℤ pos 4294967296 ≡ negsuc (4294967295 - x) =
    omega (arith, ints, small, high) in
    let bits : 4294967296 - suc (4294967295 - x) ≡ x = omega (arith, small) in
    subst (λ (n : ℤ). (cast_unsigned w32 n ≡ x) × IsTrue (is_long n)) (sym value) (
      bits,
      between_test (neg_ℤ (pos 2147483648)) (pos 2147483647) (negsuc (4294967295 - x))
          (omega (arith, ints, small, high)) (omega (arith, ints, small, high)),
    ))

-- the signed number in two bytes, and in four
pub word_read : (front : List ℕ) → length front ≡ 2 → AreSmall front
    → IsTrue (is_word (twos_complement 2 (big_number 2 front)))
    × (front ≡ signed_word (twos_complement 2 (big_number 2 front)))
word_read front size small =
    let digits = digits_2 front size small in
    let bits = word_of_bits (big_number 2 front) digits.0 in
    (bits.1, digits.1 ∙ ap (λ n. big_bytes 2 n) (sym bits.0))

pub long_read : (front : List ℕ) → length front ≡ 4 → AreSmall front
    → IsTrue (is_long (twos_complement 4 (big_number 4 front)))
    × (front ≡ long_bytes (twos_complement 4 (big_number 4 front)))
long_read front size small =
    let digits = digits_4 front size small in
    let bits = long_of_bits (big_number 4 front) digits.0 in
    (bits.1, digits.1 ∙ ap (λ n. big_bytes 4 n) (sym bits.0))

pub signed_judged : (is_so : ℤ → Bool) → JudgedPart (signed is_so)
signed_judged is_so =
    field_judged 2 C4 (λ b. is_so (twos_complement 2 (big_number 2 b))) signed_word is_so
    (λ front size small so.
    (twos_complement 2 (big_number 2 front), so, (word_read front size small).1))

pub raw_judged : (width : ℕ) (wrong : ℕ → ContainerFault) (is_so : List ℕ → Bool)
    → JudgedPart (raw width wrong is_so)
raw_judged width wrong is_so =
    field_judged width wrong is_so (λ b. b) (λ b. (length b == width) && is_so b)
    (λ front size small so. (
      front,
      and_from (length front == width) (is_so front) (eq-eqb (length front) width size)
          so,
      refl,
    ))
