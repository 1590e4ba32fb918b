-- For crates above: sets of pieces: both spellings of what is in them, and which pieces can be.
use Rattle.std.proofs.Common.{◌≡◌, ◌≢◌, ℕ, zero, suc, ◌*◌, ◌/◌, ◌%◌, ◌^◌, ◌<◌, ◌≤◌, true, false, bit_and, ap, ◌∙◌, arith}
use Rattle.std.specs.Prelude.{not}
use Rattle.std.proofs.lemmas.Bool.Decides.{nat_tests}
use Rattle.std.proofs.lemmas.Nat.{bit_set_by_shift}
use Rattle.std.proofs.lemmas.Nat.Bits.{and_pow, bit_at_above, bit_at_lowest, bit_at-suc, shr_and_one}
use Rattle.std.specs.Int.{bit_at}
use Rattle.std.specs.Int.Bits.{and_zero_l}
use native.Mathlib.Decide.{ℕ_discrete}
use Rattle.burr_text.proofs.Common.Decisions.{Decided, decided_not, decide_same}
use Rattle.burr_code.specs.PieceSets.{IsInSet, is_left_out}

-- Both spellings

-- a piece of the set is not left out
pub not_left_out : (set p : ℕ) → IsInSet set p → is_left_out set p ≡ false
not_left_out set p bit = grind (arith, nat_tests)

-- a piece that is not of the set is left out
pub left_out : (set p : ℕ) → ¬ IsInSet set p → is_left_out set p ≡ true
left_out set p none = grind (arith, nat_tests)

-- a piece that is not left out is in the set
pub in_set : (set p : ℕ) → is_left_out set p ≡ false → IsInSet set p
in_set set p e = grind (arith, nat_tests)

-- a piece that is left out is not in the set
pub not_in_set : (set p : ℕ) → is_left_out set p ≡ true → ¬ IsInSet set p
not_in_set set p e = grind (arith, nat_tests)

-- The pieces of a set

-- whether a piece is in the set
pub decide_bit : (set p : ℕ) → Decided (IsInSet set p)
decide_bit set p = decided_not (decide_same (bit_and set (2 ^ p)) 0)

-- no piece is in the set 0
pub no_bit : (p : ℕ) → ¬ IsInSet 0 p
no_bit p bit = bit (and_zero_l (2 ^ p))

set_bit_below : (bound group : ℕ) → group ≤ bound → group ≢ 0 → (p : ℕ) × (bit_at group p ≡ 1)
set_bit_below zero group small some = absurd (some (omega arith))
set_bit_below (suc bound) group small some = elim (ℕ_discrete (group % 2) 1) [
  | yes odd ↦ (0, bit_at_lowest group ∙ odd)
  | no even ↦
      let half = set_bit_below bound (group / 2) (omega arith) (λ e. some (omega arith)) in
      (suc half.0, bit_at-suc group half.0 ∙ half.1)
]

-- a set that is not 0 has a piece
pub set_bit : (group : ℕ) → group ≢ 0 → (p : ℕ) × IsInSet group p
set_bit group some =
    let found = set_bit_below group group (omega arith) some in
    (found.0, (bit_set_by_shift group found.0).0 (shr_and_one group found.0 ∙ found.1))

below_power : (n : ℕ) → n < 2 ^ n
below_power zero = omega arith
below_power (suc n) = let below = below_power n in omega arith

-- a set below a power of two has no bit from there on
pub no_bit_above : (set n p : ℕ) → set < 2 ^ n → n ≤ p → ¬ IsInSet set p
no_bit_above set n p small far bit =
    let none : bit_and set (2 ^ p) ≡ 0 * 2 ^ p = and_pow set p ∙ ap (λ b. b * 2 ^ p) (bit_at_above set n p small far) in
    bit (omega arith)

-- and so none from its own number on
pub no_bit_from_set : (set p : ℕ) → set ≤ p → ¬ IsInSet set p
no_bit_from_set set p far = no_bit_above set set p (below_power set) far
