-- For crates above: the ranges of slots are lawful parts.
use Rattle.std.proofs.Common.{◌≡◌, ℕ, suc, ◌+◌, ◌*◌, ◌/◌, ◌%◌, ◌^◌, ◌<◌, ◌≤ℤ◌, ◌&&◌, ◌==◌, ℤ, pos, negsuc, neg_ℤ, int_le, Bool, true, false, IsTrue, Option, Some, None, List, [], ◌∷◌, ◌++◌, length, flat_map, refl, sym, ap, ◌∙◌, subst, arith, eqb-true, le-leb, pow-suc}
use Rattle.std.specs.List.{list_all}
use Rattle.std.proofs.lemmas.Bool.{and_parts, and_from, false≢true, true≢false}
use Rattle.std.proofs.lemmas.Int.{ints}
use Rattle.burr_code.specs.Instruction.{signed_word}
use Rattle.burr_code.specs.declared.limits.TheConstants.{SLOTS}
use Rattle.burr_container.specs.declared.fault.ContainerFault.TheVariants.{C4}
use Rattle.burr_container.specs.Rules.Plans.{Range, live_slots}
use Rattle.burr_container.specs.Rules.Spelling.{mask_of, range_bytes}
use Rattle.burr_container.specs.Rules.Fitting.{is_between, is_number, is_range}
use Rattle.burr_container.specs.Rules.Faults.{number, signed, range, RangesFail, bits, slots, passes, first}
use Rattle.burr_container.proofs.Common.Spelled.{is_word, number_is_word}
use Rattle.burr_container.proofs.Common.Lawful.{Front, Lawful, OfPart, OfFirst, OfNothing, Sound, first_lawful, lawful_as, passes_lawful}
use Rattle.burr_container.proofs.Common.Fields.{number_sound, signed_sound, of_byte}

pub test_of_le : (a b : ℤ) → a ≤ℤ b → IsTrue (int_le a b)
test_of_le (pos a) (pos b) le = le-leb a b (omega (arith, ints, le))
test_of_le (pos a) (negsuc b) le = absurd (omega (arith, ints, le))
test_of_le (negsuc a) (pos b) le = refl
test_of_le (negsuc a) (negsuc b) le = le-leb b a (omega (arith, ints, le))

pub between_test : (low high n : ℤ) → low ≤ℤ n → n ≤ℤ high → IsTrue (is_between low high n)
between_test low high n above below =
    and_from (int_le low n) (int_le n high) (test_of_le low n above) (test_of_le n high below)

word_test : (n : ℤ) → IsTrue (is_number n) → IsTrue (is_word n)
word_test n test = let both = number_is_word n test in
    between_test (neg_ℤ (pos 32768)) (pos 32767) n both.0 both.1

-- a high end that fits a low one
abbrev pub is_high : ℤ → ℤ → Bool
is_high low high = is_number high && int_le low high

abbrev pub OfRange : Front (ℤ × ℤ)
OfRange = OfFirst (signed is_number) (λ low. OfPart (signed (is_high low)))

of_range : (ends : Range) (bytes r : List ℕ) → OfPart range ends bytes r → (both : ℤ × ℤ)
    × (both ≡ ends) × OfRange both bytes r
of_range ends bytes r here =
    let parts = and_parts (is_number ends.0 && is_number ends.1) (int_le ends.0 ends.1) here.0 in
    let numbers = and_parts (is_number ends.0) (is_number ends.1) parts.0 in (
      ends,
      refl,
      (
        signed_word ends.1 ++ r,
        (numbers.0, here.1),
        (and_from (is_number ends.1) (int_le ends.0 ends.1) numbers.1 parts.1, refl),
      ),
    )

pub range_sound : Sound range
range_sound =
    lawful_as (λ (both : ℤ × ℤ). both) (OfPart range) OfRange range.Fails range.Fails of_range
    (λ at bytes fault fails. fails)
    (first_lawful (signed is_number) (λ low. OfPart (signed (is_high low)))
    (λ low. (signed (is_high low)).Fails) (signed_sound is_number word_test)
    (λ low fits. signed_sound (is_high low)
    (λ high test. word_test high (and_parts (is_number high) (int_le low high) test).0)))

-- the ranges of slots; `live` tells which slots are live
abbrev pub OfRanges : List Bool → Front (List (Option Range))
OfRanges live ranges bytes r =
    (live_slots ranges ≡ live) × IsTrue (list_all is_range ranges)
    × (bytes ≡ flat_map range_bytes ranges ++ r)

none_made : (ranges : List (Option Range)) (bytes r : List ℕ) → OfRanges [] ranges bytes r
    → (u : Unit {0}) × ([] ≡ ranges) × OfNothing u bytes r
none_made [] bytes r here = (tt, refl, here.2)
none_made (x ∷ ranges) bytes r here =
    absurd (omega (arith, ap (λ (all : List Bool). length all) here.0))

abbrev head_of : List Bool → Bool → Bool
head_of [] default = default
head_of (l ∷ live) default = l

abbrev tail_of : List Bool → List Bool
tail_of [] = []
tail_of (l ∷ live) = live

live_made : (live : List Bool) (ranges : List (Option Range)) (bytes r : List ℕ)
    → OfRanges (true ∷ live) ranges bytes r
    → (both : Range × List (Option Range)) × (Some both.0 ∷ both.1 ≡ ranges)
    × OfFirst range (λ _. OfRanges live) both bytes r
live_made live [] bytes r here = absurd (omega (arith, ap (λ (all : List Bool). length all) here.0))
live_made live (None ∷ ranges) bytes r here =
    absurd (false≢true (ap (λ (all : List Bool). head_of all true) here.0))
live_made live (Some x ∷ ranges) bytes r here =
    let parts = and_parts (is_range (Some x)) (list_all is_range ranges) here.1 in (
      (x, ranges),
      refl,
      (
        flat_map range_bytes ranges ++ r,
        (parts.0, here.2),
        (ap (λ (all : List Bool). tail_of all) here.0, parts.1, refl),
      ),
    )

dead_made : (live : List Bool) (ranges : List (Option Range)) (bytes r : List ℕ)
    → OfRanges (false ∷ live) ranges bytes r
    → (more : List (Option Range)) × (None ∷ more ≡ ranges) × OfRanges live more bytes r
dead_made live [] bytes r here = absurd (omega (arith, ap (λ (all : List Bool). length all) here.0))
dead_made live (Some x ∷ ranges) bytes r here =
    absurd (true≢false (ap (λ (all : List Bool). head_of all false) here.0))
dead_made live (None ∷ ranges) bytes r here =
    (ranges, refl, (ap (λ (all : List Bool). tail_of all) here.0, here.1, here.2))

pub ranges_lawful : (live : List Bool) → Lawful (OfRanges live) (RangesFail live)
ranges_lawful [] =
    lawful_as (λ (u : Unit {0}). []) (OfRanges []) OfNothing passes passes none_made
    (λ at bytes fault fails. fails) passes_lawful
ranges_lawful (true ∷ live) =
    lawful_as (λ (both : Range × List (Option Range)). Some both.0 ∷ both.1)
    (OfRanges (true ∷ live)) (OfFirst range (λ _. OfRanges live)) (RangesFail (true ∷ live))
    (first range (λ _. RangesFail live)) (live_made live) (λ at bytes fault fails. fails)
    (first_lawful range (λ _. OfRanges live) (λ _. RangesFail live) range_sound
    (λ x fits. ranges_lawful live))
ranges_lawful (false ∷ live) =
    lawful_as (λ (more : List (Option Range)). None ∷ more) (OfRanges (false ∷ live))
    (OfRanges live) (RangesFail (false ∷ live)) (RangesFail live)
    (dead_made live) (λ at bytes fault fails. fails) (ranges_lawful live)

-- The mask

pub mask_small : (live : List Bool) → mask_of live < 2 ^ length live
mask_small [] = omega arith
mask_small (true ∷ live) = let more = mask_small live in let twice = pow-suc 2 (length live) in
    omega (arith, more, twice)
mask_small (false ∷ live) = let more = mask_small live in let twice = pow-suc 2 (length live) in
    omega (arith, more, twice)

pub bits_of_mask : (live : List Bool) → bits (length live) (mask_of live) ≡ live
bits_of_mask [] = refl
bits_of_mask (true ∷ live) =
    let low : (1 + 2 * mask_of live) % 2 ≡ 1 = omega arith in
    let high : (1 + 2 * mask_of live) / 2 ≡ mask_of live = omega arith in
    let more = bits_of_mask live in
    λ i. (low i == 1) ∷ (ap (λ m. bits (length live) m) high ∙ more) i
bits_of_mask (false ∷ live) =
    let low : (0 + 2 * mask_of live) % 2 ≡ 0 = omega arith in
    let high : (0 + 2 * mask_of live) / 2 ≡ mask_of live = omega arith in
    let more = bits_of_mask live in
    λ i. (low i == 1) ∷ (ap (λ m. bits (length live) m) high ∙ more) i

pub length_live : (ranges : List (Option Range)) → length (live_slots ranges) ≡ length ranges
length_live [] = refl
length_live (x ∷ ranges) = ap suc (length_live ranges)

abbrev pub OfSlots : Front (ℕ × List (Option Range))
OfSlots = OfFirst (number 1 C4 (λ _. true)) (λ mask. OfRanges (bits SLOTS mask))

pub of_slots : (ranges : List (Option Range)) (bytes r : List ℕ) → OfPart slots ranges bytes r
    → (both : ℕ × List (Option Range)) × (both.1 ≡ ranges) × OfSlots both bytes r
of_slots ranges bytes r here =
    let parts = and_parts (length ranges == SLOTS) (list_all is_range ranges) here.0 in
    let size : length (live_slots ranges) ≡ 8 =
    length_live ranges ∙ eqb-true (length ranges) 8 parts.0 in
    let small : mask_of (live_slots ranges) < 256 =
    subst (λ n. mask_of (live_slots ranges) < 2 ^ n) size (mask_small (live_slots ranges)) in
    let live : live_slots ranges ≡ bits 8 (mask_of (live_slots ranges)) =
    sym (bits_of_mask (live_slots ranges))
    ∙ ap (λ n. bits n (mask_of (live_slots ranges))) size in (
      (mask_of (live_slots ranges), ranges),
      refl,
      (
        flat_map range_bytes ranges ++ r,
        of_byte C4 (λ _. true) (mask_of (live_slots ranges)) bytes
            (flat_map range_bytes ranges ++ r) small refl here.1,
        (live, parts.1, refl),
      ),
    )

pub slots_sound : Sound slots
slots_sound =
    lawful_as (λ (both : ℕ × List (Option Range)). both.1) (OfPart slots) OfSlots slots.Fails
    slots.Fails of_slots (λ at bytes fault fails. fails)
    (first_lawful (number 1 C4 (λ _. true)) (λ mask. OfRanges (bits SLOTS mask))
    (λ mask. RangesFail (bits SLOTS mask)) (number_sound 1 C4 (λ _. true))
    (λ mask fits. ranges_lawful (bits SLOTS mask)))
