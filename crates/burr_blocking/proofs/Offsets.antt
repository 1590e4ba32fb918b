-- How far a displacement lies from the least corner of a box tells whether it is in the box, and where.
use Rattle.std.proofs.Common.{◌≡◌, ◌↔◌, ℕ, ◌+◌, ◌*◌, ◌<◌, ◌≤◌, Bool, false, ◌∙◌, vec_len, get_or, ap, subst, arith}
use Rattle.std.specs.Prelude.{ℤ, ◌≤ℤ◌, IsTrue}
use Rattle.std.specs.Int.{int_gap}
use Rattle.std.proofs.lemmas.Int.{ints}
use Rattle.std.proofs.lemmas.List.{get_or_read_under}
use Rattle.std.proofs.lemmas.Nat.{mul-le, mul-add-lt}
use Rattle.burr_text.proofs.Common.Tests.{no_iff}
use Rattle.burr_voxels.specs.declared.cell.Cell.{Cell}
use Rattle.burr_blocking.specs.declared.row_tables.PairRows.{PairRows}
use Rattle.burr_blocking.specs.Views.Bits.{HasBit, HasBitAt}
use Rattle.burr_blocking.specs.Views.Boxes.{AreOffsets, wide_of, deep_of, high_of, row_of, column_of}
use Rattle.burr_blocking.specs.Views.Corners.{IsOffset}
use Rattle.burr_blocking.specs.Views.PairBits.{IsSet}
use Rattle.burr_blocking.proofs.Reaches.{gap_value, gap_lt, gap_few}

-- Along one axis

from_offset : (l g n : ℤ) (u : ℕ) → IsOffset l n u → int_gap l g + 1 ≤ 31 → l ≤ℤ g → u < int_gap l g + 1 → (l ≤ℤ n) × (n ≤ℤ g) × (u ≡ int_gap l n)
from_offset l g n u is few rises lt =
    let low = is.below (omega arith) in
    let same = is.above low in
    let value = gap_value l n low in
    let end = gap_value l g rises in
    (low, omega (arith, ints), same)

to_offset : (l g n : ℤ) (u : ℕ) → IsOffset l n u → l ≤ℤ n → n ≤ℤ g → u < int_gap l g + 1
to_offset l g n u is low high = gap_lt l n g u (is.above low) low high

-- In a box

module _ (t : PairRows) (d : Cell) (x y z : ℕ) (are : AreOffsets t.extent d x y z) where
  few_wide : wide_of t.extent ≤ 31
  few_wide = gap_few t.extent.least.x t.extent.greatest.x 30 t.extent.small.x_rises t.extent.small.x_near

  few_deep : deep_of t.extent ≤ 31
  few_deep = gap_few t.extent.least.y t.extent.greatest.y 30 t.extent.small.y_rises t.extent.small.y_near

  few_high : high_of t.extent ≤ 31
  few_high = gap_few t.extent.least.z t.extent.greatest.z 30 t.extent.small.z_rises t.extent.small.z_near

  -- what is in no row of it, or after the end of one, is not set
  pub none_set : ¬ ((x < t.wide) × (y < t.deep) × (z < t.high)) → IsTrue false ↔ IsSet t.extent t.rows.items d
  none_set out = no_iff (λ set.
      let b = set.inside in
      let in_x = to_offset t.extent.least.x t.extent.greatest.x d.x x are.along_x b.x_from b.x_to in
      let in_y = to_offset t.extent.least.y t.extent.greatest.y d.y y are.along_y b.y_from b.y_to in
      let in_z = to_offset t.extent.least.z t.extent.greatest.z d.z z are.along_z b.z_from b.z_to in
      out (omega (arith, t.sides.0, in_x), omega (arith, t.sides.1, in_y), omega (arith, t.sides.2, in_z)))

  module _ (all : (x < t.wide) × (y < t.deep) × (z < t.high)) where
    pub column_few : x < 32
    column_few = omega (arith, all.0, t.sides.0, few_wide)

    pub before_few : z * t.deep ≤ 930
    before_few = mul-le z t.deep 30 31 (omega (arith, all.2, t.sides.2, few_high)) (omega (arith, t.sides.1, few_deep))

    pub row_few : z * t.deep + y ≤ 960
    row_few = omega (arith, before_few, all.1, t.sides.1, few_deep)

    pub row_inside : z * t.deep + y < vec_len t.rows
    row_inside = rw (t.whole, ← t.sides.1, ← t.sides.2) (mul-add-lt z t.deep y t.high all.2 all.1)

    -- and its bit is the one that is read
    pub bit_read : (row : ℕ) (r : Bool) → row ≡ get_or t.rows.items (z * t.deep + y) row → IsTrue r ↔ HasBit row x → IsTrue r ↔ IsSet t.extent t.rows.items d
    bit_read row r row_is told =
        let at_x = from_offset t.extent.least.x t.extent.greatest.x d.x x are.along_x few_wide t.extent.small.x_rises (omega (arith, all.0, t.sides.0)) in
        let at_y = from_offset t.extent.least.y t.extent.greatest.y d.y y are.along_y few_deep t.extent.small.y_rises (omega (arith, all.1, t.sides.1)) in
        let at_z = from_offset t.extent.least.z t.extent.greatest.z d.z z are.along_z few_high t.extent.small.z_rises (omega (arith, all.2, t.sides.2)) in
        let place : z * t.deep + y ≡ row_of t.extent d = ap (λ (n : ℕ). n * t.deep + y) at_z.2 ∙ ap (λ (n : ℕ). int_gap t.extent.least.z d.z * n + y) t.sides.1 ∙ ap (λ (n : ℕ). int_gap t.extent.least.z d.z * deep_of t.extent + n) at_y.2 in
        let read : row ≡ get_or t.rows.items (z * t.deep + y) 0 = get_or_read_under t.rows.items (z * t.deep + y) (vec_len t.rows) row 0 row_is row_inside (omega (arith, t.rows.ok.0)) in
        let bit : IsTrue r ↔ HasBitAt t.rows.items (row_of t.extent d) (column_of t.extent d) =
        subst (λ (k : ℕ). IsTrue r ↔ HasBitAt t.rows.items (row_of t.extent d) k) at_x.2
        (subst (λ (n : ℕ). IsTrue r ↔ HasBitAt t.rows.items n x) place (subst (λ (n : ℕ). IsTrue r ↔ HasBit n x) read told)) in (
          λ yes. record {
            inside = record { x_from = at_x.0; x_to = at_x.1; y_from = at_y.0; y_to = at_y.1; z_from = at_z.0; z_to = at_z.1 };
            set = bit.0 yes;
          },
          λ set. bit.1 set.set,
        )
