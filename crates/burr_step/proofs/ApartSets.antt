-- Sets of the pieces that are apart.
use Rattle.std.proofs.Common.{◌≡◌, ◌≢◌, ◌↔◌, ℕ, zero, suc, ◌+◌, ◌-◌, ◌*◌, ◌%◌, ◌^◌, ◌<◌, ◌≤◌, List, length, bit_and, bit_or, w32, Some, None, refl, sym, ap, subst, ◌∙◌, inl, inr, arith}
use Rattle.std.specs.Prelude.{min, slice_get}
use Rattle.std.specs.Int.{bit_at, bit_not}
use Rattle.std.proofs.lemmas.Nat.{bit_set_by_shift}
use Rattle.std.proofs.lemmas.Nat.Bits.{bit_at-lt, bit_at_above, bit_at_and, bit_at_not, bit_at_set_other, bit_at_set_same, same_from_bits, shr_and_one}
use Rattle.std.proofs.lemmas.Option.{same_Some, slice_get_past}
use Rattle.burr_text.proofs.Common.Decisions.{Decided, decide_at_most, decide_same}
use Rattle.burr_voxels.specs.declared.cell.Cell.{Cell}
use Rattle.burr_code.specs.declared.placement.Placement.{Placement}
use Rattle.burr_code.specs.declared.placement.Placement.TheVariants.{Apart}
use Rattle.burr_code.specs.PieceSets.{IsInSet}
use Rattle.burr_code.proofs.Common.PieceSets.{decide_bit}
use Rattle.burr_state.specs.Rules.Space.{LiesApart}
use Rattle.burr_state.specs.Rules.Bench.{BenchState}
use Rattle.burr_step.specs.Rules.Moves.{AreApartBy}
use Rattle.burr_step.specs.Views.Driving.{AreApart}

-- Sets by their bits

bit_in : (set p : ℕ) → IsInSet set p → bit_at set p ≡ 1
bit_in set p is = sym (shr_and_one set p) ∙ (bit_set_by_shift set p).1 is

in_by_bit : (set p : ℕ) → bit_at set p ≡ 1 → IsInSet set p
in_by_bit set p bit = (bit_set_by_shift set p).0 (shr_and_one set p ∙ bit)

bit_out : (set p : ℕ) → ¬ IsInSet set p → bit_at set p ≡ 0
bit_out set p none = zero_bit (bit_at set p) (bit_at-lt set p) (λ one. none (in_by_bit set p one))
  where
    zero_bit : (bit : ℕ) → bit < 2 → bit ≢ 1 → bit ≡ 0
    zero_bit zero small other = refl
    zero_bit (suc zero) small other = absurd (other refl)
    zero_bit (suc (suc n)) small other = absurd (omega (arith, small))

same_bit : (a b p : ℕ) → IsInSet a p ↔ IsInSet b p → bit_at a p ≡ bit_at b p
same_bit a b p tells = by (decide_bit a p)
  where
    by : Decided (IsInSet a p) → bit_at a p ≡ bit_at b p
    by (inl is) = bit_in a p is ∙ sym (bit_in b p (tells.0 is))
    by (inr none) = bit_out a p none ∙ sym (bit_out b p (λ is. none (tells.1 is)))

-- sets of the same pieces are the same
pub same_apart : (before now : BenchState) (a b : ℕ) → AreApartBy before a now → AreApartBy before b now → a ≡ b
same_apart before now a b p q = same_from_bits a b λ i. same_bit a b i ((λ is. (q i).1 ((p i).0 is)), (λ is. (p i).1 ((q i).0 is)))

-- Piece after piece

-- of the pieces below one, exactly these are apart
abbrev pub AreApartBelow : List (Placement Cell) → ℕ → ℕ → Type 0
AreApartBelow places piece set = (p : ℕ) → IsInSet set p ↔ (LiesApart places p × (p < piece))

pub one_apart : (places : List (Placement Cell)) (piece set : ℕ) → piece < 32 → LiesApart places piece → AreApartBelow places piece set
    → AreApartBelow places (piece + 1) (bit_or set (1 * 2 ^ piece % 2 ^ 32))
one_apart places piece set few is below p = by (decide_same p piece)
  where
    by : Decided (p ≡ piece) → IsInSet (bit_or set (1 * 2 ^ piece % 2 ^ 32)) p ↔ (LiesApart places p × (p < piece + 1))
    by (inl same) = (
      (λ _. (subst (λ (q : ℕ). LiesApart places q) (sym same) is, omega (arith, same))),
      (λ _. subst (λ (q : ℕ). IsInSet (bit_or set (1 * 2 ^ piece % 2 ^ 32)) q) (sym same)
          (in_by_bit (bit_or set (1 * 2 ^ piece % 2 ^ 32)) piece (bit_at_set_same w32 set piece few))),
    )
    by (inr other) =
        let bit : bit_at (bit_or set (1 * 2 ^ piece % 2 ^ 32)) p ≡ bit_at set p = bit_at_set_other w32 set piece few p other in (
          (λ is. let old = (below p).0 (in_by_bit set p (sym bit ∙ bit_in (bit_or set (1 * 2 ^ piece % 2 ^ 32)) p is)) in
              (old.0, farther p piece old.1)),
          (λ old. in_by_bit (bit_or set (1 * 2 ^ piece % 2 ^ 32)) p (bit ∙ bit_in set p ((below p).1 (old.0, nearer p piece other old.1)))),
        )
      where
        farther : (p piece : ℕ) → p < piece → p < piece + 1
        farther p piece less = omega (arith, less)

        nearer : (p piece : ℕ) → p ≢ piece → p < piece + 1 → p < piece
        nearer p piece other less = omega (arith, other, less)

pub one_together : (places : List (Placement Cell)) (piece set : ℕ) (place : Placement Cell) → slice_get places piece ≡ Some place → place ≢ Apart
    → AreApartBelow places piece set → AreApartBelow places (piece + 1) set
one_together places piece set place lies together below p = (
  (λ is. let old = (below p).0 is in (old.0, farther p piece old.1)),
  (λ old. (below p).1 (old.0, nearer p piece (λ same. together (same_Some place Apart (sym lies ∙ subst (λ (q : ℕ). slice_get places q ≡ Some Apart) same old.0))) old.1)),
)
  where
    farther : (p piece : ℕ) → p < piece → p < piece + 1
    farther p piece less = omega (arith, less)

    nearer : (p piece : ℕ) → p ≢ piece → p < piece + 1 → p < piece
    nearer p piece other less = omega (arith, other, less)

-- after the last piece that is all
pub all_apart : (s : BenchState) (piece set : ℕ) → length s.places ≤ piece → AreApartBelow s.places piece set → AreApart s set
all_apart s piece set far below p = ((λ is. ((below p).0 is).0), λ is. (below p).1 (is, within is))
  where
    none_some : {A : Type 0} (x : A) → None ≡ Some x → ⊥
    none_some x e = cc

    within : LiesApart s.places p → p < piece
    within is = by (decide_at_most piece p)
      where
        by : Decided (piece ≤ p) → p < piece
        by (inl past) = absurd (none_some Apart (sym (slice_get_past s.places p (farther far past)) ∙ is))
          where
            farther : {a b c : ℕ} → a ≤ b → b ≤ c → a ≤ c
            farther less more = omega (arith, less, more)
        by (inr near) = nearer p piece near
          where
            nearer : (p piece : ℕ) → ¬ (piece ≤ p) → p < piece
            nearer p piece near = omega (arith, near)

-- those that are apart now and were not before
pub apart_by : (old new : BenchState) (before now : ℕ) → before < 2 ^ 32 → now < 2 ^ 32 → AreApart old before → AreApart new now
    → AreApartBy old (bit_and now (bit_not w32 before)) new
apart_by old new before now small few was is p = by (decide_at_most 32 p)
  where
    both : bit_at (bit_and now (bit_not w32 before)) p ≡ min (bit_at now p) (bit_at (bit_not w32 before) p)
    both = bit_at_and now (bit_not w32 before) p

    by : Decided (32 ≤ p) → IsInSet (bit_and now (bit_not w32 before)) p ↔ (LiesApart new.places p × (¬ LiesApart old.places p))
    by (inl far) =
        let none : bit_at now p ≡ 0 = bit_at_above now 32 p few far in (
          (λ in_both. absurd (no_bit (bit_at now p) (bit_at (bit_not w32 before) p) none (sym both ∙ bit_in _ p in_both))),
          (λ apart. absurd (zero_one (sym none ∙ bit_in now p ((is p).1 apart.0)))),
        )
      where
        no_bit : (a b : ℕ) → a ≡ 0 → min a b ≡ 1 → ⊥
        no_bit a b none one = absurd (omega (arith, none, one))

        zero_one : ◌≡◌ {A = ℕ} 0 1 → ⊥
        zero_one e = absurd (omega (arith, e))
    by (inr near) =
        let not_before : bit_at (bit_not w32 before) p ≡ 1 - bit_at before p = bit_at_not w32 before p small (omega (arith, near)) in (
          (λ in_both.
              let bits = ones (bit_at now p) (bit_at (bit_not w32 before) p) (bit_at-lt now p) (bit_at-lt (bit_not w32 before) p) (sym both ∙ bit_in _ p in_both) in (
                (is p).0 (in_by_bit now p bits.0),
                (λ apart. one_less (bit_at before p) (bit_in before p ((was p).1 apart)) (sym not_before ∙ bits.1)),
              )),
          (λ apart.
              let out = bit_out before p (λ in_before. apart.1 ((was p).0 in_before)) in
              in_by_bit _ p (both ∙ two_ones (bit_at now p) (bit_at (bit_not w32 before) p) (bit_in now p ((is p).1 apart.0)) (not_before ∙ ap (λ n. 1 - n) out))),
        )
      where
        ones : (a b : ℕ) → a < 2 → b < 2 → min a b ≡ 1 → (a ≡ 1) × (b ≡ 1)
        ones a b small few one = (omega (arith, small, few, one), omega (arith, small, few, one))

        one_less : (a : ℕ) → a ≡ 1 → 1 - a ≡ 1 → ⊥
        one_less a one e = absurd (omega (arith, one, e))

        two_ones : (a b : ℕ) → a ≡ 1 → b ≡ 1 - 0 → min a b ≡ 1
        two_ones a b one other = omega (arith, one, other)
