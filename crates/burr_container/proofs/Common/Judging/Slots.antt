-- For crates above: bytes have the ranges of slots at their front, or fail to.
use Rattle.std.proofs.Common.{◌≡◌, ℕ, zero, suc, ◌+◌, ◌*◌, ◌/◌, ◌%◌, ◌^◌, ◌<◌, ◌≢◌, ◌&&◌, ◌==◌, ℤ, int_le, Bool, true, false, Option, Some, None, List, [], ◌∷◌, ◌++◌, length, refl, sym, ap, ◌∙◌, arith, eqb-true, eq-eqb, pow-suc, if◌then◌else◌}
use Rattle.std.specs.List.{list_all}
use Rattle.std.proofs.lemmas.Bool.{and_parts, and_from, eqb-false}
use Rattle.burr_code.specs.Instruction.{signed_word}
use Rattle.burr_code.specs.declared.limits.TheConstants.{SLOTS}
use Rattle.burr_container.specs.declared.fault.ContainerFault.TheVariants.{C4}
use Rattle.burr_container.specs.Rules.Plans.{Range, live_slots}
use Rattle.burr_container.specs.Rules.Spelling.{mask_of, range_bytes}
use Rattle.burr_container.specs.Rules.Fitting.{is_number, is_range}
use Rattle.burr_container.specs.Rules.Faults.{number, signed, range, RangesFail, bits, slots, passes, first}
use Rattle.burr_container.proofs.Common.Fields.{byte_back, byte_small}
use Rattle.burr_container.proofs.Common.Lawful.{OfPart, OfFirst, OfNothing}
use Rattle.burr_container.proofs.Common.Slots.{is_high, OfRange, OfRanges, length_live, OfSlots}
use Rattle.burr_container.proofs.Common.Judging.Fronts.{AreSmall, Judged, JudgedPart, first_judged, judged_as, passes_judged}
use Rattle.burr_container.proofs.Common.Judging.Fields.{number_judged, digits_1, signed_judged}

range_back : (both : ℤ × ℤ) (bytes r : List ℕ) → AreSmall bytes → OfRange both bytes r
    → OfPart range both bytes r
range_back both bytes r small here =
    let parts = and_parts (is_number both.1) (int_le both.0 both.1) here.2.0 in (
      and_from (is_number both.0 && is_number both.1) (int_le both.0 both.1)
          (and_from (is_number both.0) (is_number both.1) here.1.0 parts.0) parts.1,
      here.1.1 ∙ ap (λ (rest : List ℕ). signed_word both.0 ++ rest) here.2.1,
    )

pub range_judged : JudgedPart range
range_judged =
    judged_as (λ (both : ℤ × ℤ). both) (OfPart range) OfRange range.Fails range.Fails range_back
    (λ at bytes fault fails. fails)
    (first_judged (signed is_number) (λ low. OfPart (signed (is_high low)))
    (λ low. (signed (is_high low)).Fails) (signed_judged is_number)
    (λ low fits. signed_judged (is_high low)))

pub live_back : (live : List Bool) (both : Range × List (Option Range)) (bytes r : List ℕ)
    → AreSmall bytes → OfFirst range (λ _. OfRanges live) both bytes r
    → OfRanges (true ∷ live) (Some both.0 ∷ both.1) bytes r
live_back live both bytes r small here = (
  ap (λ (live : List Bool). true ∷ live) here.2.0,
  and_from (is_range (Some both.0)) (list_all is_range both.1) here.1.0 here.2.1,
  here.1.1 ∙ ap (λ (rest : List ℕ). range_bytes (Some both.0) ++ rest) here.2.2,
)

pub dead_back : (live : List Bool) (more : List (Option Range)) (bytes r : List ℕ) → AreSmall bytes
    → OfRanges live more bytes r → OfRanges (false ∷ live) (None ∷ more) bytes r
dead_back live more bytes r small here =
    (ap (λ (live : List Bool). false ∷ live) here.0, here.1, here.2)

pub ranges_judged : (live : List Bool) → Judged (OfRanges live) (RangesFail live)
ranges_judged [] =
    judged_as (λ (u : Unit {0}). []) (OfRanges []) OfNothing passes passes
    (λ u bytes r small here. (refl, refl, here)) (λ at bytes fault fails. fails) passes_judged
ranges_judged (true ∷ live) =
    judged_as (λ (both : Range × List (Option Range)). Some both.0 ∷ both.1)
    (OfRanges (true ∷ live)) (OfFirst range (λ _. OfRanges live)) (RangesFail (true ∷ live))
    (first range (λ _. RangesFail live)) (live_back live) (λ at bytes fault fails. fails)
    (first_judged range (λ _. OfRanges live) (λ _. RangesFail live) range_judged
    (λ x fits. ranges_judged live))
ranges_judged (false ∷ live) =
    judged_as (λ (more : List (Option Range)). None ∷ more) (OfRanges (false ∷ live))
    (OfRanges live) (RangesFail (false ∷ live)) (RangesFail live)
    (dead_back live) (λ at bytes fault fails. fails) (ranges_judged live)

-- The mask

bit_back : (odd : Bool) (mask : ℕ) → (mask % 2 == 1) ≡ odd
    → (if odd then 1 else 0) + 2 * (mask / 2) ≡ mask
bit_back true mask is = let low = eqb-true (mask % 2) 1 is in omega (arith, low)
bit_back false mask is = let low : mask % 2 ≢ 1 = eqb-false (mask % 2) 1 is in omega (arith, low)

pub mask_of_bits : (n mask : ℕ) → mask < 2 ^ n → mask_of (bits n mask) ≡ mask
mask_of_bits zero mask small = omega (arith, small)
mask_of_bits (suc n) mask small =
    let more = mask_of_bits n (mask / 2) (omega (arith, small, pow-suc 2 n)) in
    ap (λ (high : ℕ). (if mask % 2 == 1 then 1 else 0) + 2 * high) more
    ∙ bit_back (mask % 2 == 1) mask refl

pub length_bits : (n mask : ℕ) → length (bits n mask) ≡ n
length_bits zero mask = refl
length_bits (suc n) mask = ap suc (length_bits n (mask / 2))

pub slots_back : (both : ℕ × List (Option Range)) (bytes r : List ℕ) → AreSmall bytes
    → OfSlots both bytes r → OfPart slots both.1 bytes r
slots_back both bytes r small here =
    let head = byte_back C4 (λ _. true) both.0 bytes here.0 here.1 in
    let low : both.0 < 256 = byte_small C4 (λ _. true) both.0 bytes here.0 here.1 in
    let size : length both.1 ≡ 8 =
    sym (length_live both.1) ∙ ap (λ (live : List Bool). length live) here.2.0
    ∙ length_bits 8 both.0 in
    let mask : mask_of (live_slots both.1) ≡ both.0 =
    ap (λ (live : List Bool). mask_of live) here.2.0 ∙ mask_of_bits 8 both.0 low in (
      and_from (length both.1 == SLOTS) (list_all is_range both.1) (eq-eqb (length both.1) 8 size)
          here.2.1,
      head.1 ∙ ap (λ n. n ∷ here.0) (sym mask)
          ∙ ap (λ (rest : List ℕ). mask_of (live_slots both.1) ∷ rest) here.2.2,
    )

pub slots_judged : JudgedPart slots
slots_judged =
    judged_as (λ (both : ℕ × List (Option Range)). both.1) (OfPart slots) OfSlots slots.Fails
    slots.Fails slots_back (λ at bytes fault fails. fails)
    (first_judged (number 1 C4 (λ _. true)) (λ mask. OfRanges (bits SLOTS mask))
    (λ mask. RangesFail (bits SLOTS mask)) (number_judged 1 C4 (λ _. true) digits_1)
    (λ mask fits. ranges_judged (bits SLOTS mask)))
