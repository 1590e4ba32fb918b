-- What the rows of two pieces say of the displacements ahead.
use Rattle.std.proofs.Common.{◌≡◌, ◌↔◌, ◌∙◌, ℕ, ◌+◌, ◌*◌, ◌<◌, ◌≤◌, Bool, true, false, not, List, refl, sym, ap, subst, arith, inl, inr}
use Rattle.std.specs.Prelude.{ℤ, pos, neg_ℤ, ◌+ℤ◌, ◌-ℤ◌, ◌≤ℤ◌, IsTrue, bit_or}
use Rattle.std.specs.Int.{int_gap}
use Rattle.std.proofs.lemmas.Int.{ints}
use native.Mathlib.Decide.{ℕ_discrete}
use Rattle.burr_text.proofs.Common.Tests.{yes_iff, no_iff, yes_of, no_of}
use Rattle.burr_voxels.specs.declared.cell.Cell.{Cell}
use Rattle.burr_voxels.specs.declared.direction.Direction.{Direction}
use Rattle.burr_voxels.specs.declared.direction.Direction.TheVariants.{PlusX, MinusX}
use Rattle.burr_voxels.specs.Grid.{plus, along}
use Rattle.burr_blocking.specs.declared.extent.Extent.{Extent}
use Rattle.burr_blocking.specs.Views.Boxes.{IsInBox, wide_of, deep_of, row_of, column_of}
use Rattle.burr_blocking.specs.Views.Bits.{HasBit, HasBitAt}
use Rattle.burr_blocking.specs.Views.Overlaps.{HasNoneAhead}
use Rattle.burr_blocking.specs.Views.PairBits.{IsSet, HasBitIn, AreShort}
use Rattle.burr_blocking.proofs.Reaches.{gap_value}
use Rattle.burr_blocking.proofs.Shifts.{no_bit, or_from, or_left, or_right}

-- Numbers

gap_same : (l d : ℤ) (n : ℕ) → d ≡ l +ℤ pos n → int_gap l d ≡ n
gap_same l d n is =
    let value = gap_value l d (omega (arith, ints)) in
    omega (arith, ints)

in_reach : (l g d : ℤ) (n : ℕ) → l ≤ℤ g → d ≡ l +ℤ pos n → n < int_gap l g + 1 → d ≤ℤ g
in_reach l g d n rises is lt =
    let value = gap_value l g rises in
    omega (arith, ints)

flat : (z : ℤ) → z +ℤ pos 0 ≡ z
flat z = omega (arith, ints)

-- the column of what lies k units ahead of a number is after it
up_from : (l f next : ℤ) (k : ℕ) → l ≤ℤ (f +ℤ pos k) → 1 ≤ k → next ≡ (f -ℤ l) +ℤ pos 1 → next ≤ℤ pos (int_gap l (f +ℤ pos k))
up_from l f next k low least is =
    let value = gap_value l (f +ℤ pos k) low in
    omega (arith, ints)

-- what stands in a later column lies some number of units ahead, at least one
up_to : (l f next : ℤ) (n : ℕ) → next ≡ (f -ℤ l) +ℤ pos 1 → next ≤ℤ pos n → (k : ℕ) × (1 ≤ k) × (f +ℤ pos k ≡ l +ℤ pos n)
up_to l f next n is le =
    let value = gap_value f (l +ℤ pos n) (omega (arith, ints)) in
    (int_gap f (l +ℤ pos n), omega (arith, ints), value)

down_from : (l f end : ℤ) (k : ℕ) → l ≤ℤ (f +ℤ neg_ℤ (pos k)) → 1 ≤ k → end ≡ f -ℤ l → (pos (int_gap l (f +ℤ neg_ℤ (pos k))) +ℤ pos 1) ≤ℤ end
down_from l f end k low least is =
    let value = gap_value l (f +ℤ neg_ℤ (pos k)) low in
    omega (arith, ints)

down_to : (l f end : ℤ) (n : ℕ) → end ≡ f -ℤ l → (pos n +ℤ pos 1) ≤ℤ end → (k : ℕ) × (1 ≤ k) × (f +ℤ neg_ℤ (pos k) ≡ l +ℤ pos n)
down_to l f end n is le =
    let value = gap_value (l +ℤ pos n) f (omega (arith, ints)) in
    (int_gap (l +ℤ pos n) f, omega (arith, ints), omega (arith, ints))

-- Displacements in one row

row_same : (e : Extent) (from d : Cell) → d.y ≡ from.y → d.z ≡ from.z → row_of e from ≡ row_of e d
row_same e from d same_y same_z =
    ap (λ (t : ℤ). int_gap e.least.z from.z * deep_of e + int_gap e.least.y t) (sym same_y) ∙ ap (λ (t : ℤ). int_gap e.least.z t * deep_of e + int_gap e.least.y d.y) (sym same_z)

row_set : (e : Extent) (rows : List ℕ) (from d : Cell) (n : ℕ) → HasBitIn e rows from n → n < wide_of e → d.x ≡ e.least.x +ℤ pos n → d.y ≡ from.y → d.z ≡ from.z → IsSet e rows d
row_set e rows from d n has lt same_x same_y same_z = record {
  inside = record {
    x_from = omega (arith, ints, same_x);
    x_to = in_reach e.least.x e.greatest.x d.x n e.small.x_rises same_x lt;
    y_from = subst (λ (t : ℤ). e.least.y ≤ℤ t) (sym same_y) has.inside.y_from;
    y_to = subst (λ (t : ℤ). t ≤ℤ e.greatest.y) (sym same_y) has.inside.y_to;
    z_from = subst (λ (t : ℤ). e.least.z ≤ℤ t) (sym same_z) has.inside.z_from;
    z_to = subst (λ (t : ℤ). t ≤ℤ e.greatest.z) (sym same_z) has.inside.z_to;
  };
  set = subst (HasBitAt rows (row_of e d)) (sym (gap_same e.least.x d.x n same_x)) (subst (λ (m : ℕ). HasBitAt rows m n) (row_same e from d same_y same_z) has.set);
}

set_row : (e : Extent) (rows : List ℕ) (from d : Cell) → IsSet e rows d → d.y ≡ from.y → d.z ≡ from.z → HasBitIn e rows from (column_of e d)
set_row e rows from d is same_y same_z = record {
  inside = record {
    y_from = subst (λ (t : ℤ). e.least.y ≤ℤ t) same_y is.inside.y_from;
    y_to = subst (λ (t : ℤ). t ≤ℤ e.greatest.y) same_y is.inside.y_to;
    z_from = subst (λ (t : ℤ). e.least.z ≤ℤ t) same_z is.inside.z_from;
    z_to = subst (λ (t : ℤ). t ≤ℤ e.greatest.z) same_z is.inside.z_to;
  };
  set = subst (λ (m : ℕ). HasBitAt rows m (column_of e d)) (sym (row_same e from d same_y same_z)) is.set;
}

-- Along x

pub plus_x_clear : (e : Extent) (rows : List ℕ) (from : Cell) (row : ℕ) (next : ℤ) (r : Bool) → AreShort e rows → next ≡ (from.x -ℤ e.least.x) +ℤ pos 1 → ((k : ℕ) → HasBit row k ↔ HasBitIn e rows from k) → IsTrue r ↔ ((k : ℕ) → next ≤ℤ pos k → ¬ HasBit row k) → IsTrue r ↔ HasNoneAhead (IsSet e rows) from PlusX
plus_x_clear e rows from row next r short is at_row told = (
  λ yes k least set.
      let d = plus from (along PlusX (pos k)) in
      told.0 yes (column_of e d) (up_from e.least.x from.x next k set.inside.x_from least is) ((at_row (column_of e d)).1 (set_row e rows from d set (flat from.y) (flat from.z))),
  λ clear. told.1 (λ n le has.
      let h = (at_row n).0 has in
      let up = up_to e.least.x from.x next n is le in
      clear up.0 up.1 (row_set e rows from (plus from (along PlusX (pos up.0))) n h (short (row_of e from) n h.set) up.2 (flat from.y) (flat from.z))),
)

pub minus_x_clear : (e : Extent) (rows : List ℕ) (from : Cell) (row : ℕ) (end : ℤ) (r : Bool) → AreShort e rows → end ≡ from.x -ℤ e.least.x → ((k : ℕ) → HasBit row k ↔ HasBitIn e rows from k) → IsTrue r ↔ ((k : ℕ) → (pos k +ℤ pos 1) ≤ℤ end → ¬ HasBit row k) → IsTrue r ↔ HasNoneAhead (IsSet e rows) from MinusX
minus_x_clear e rows from row end r short is at_row told = (
  λ yes k least set.
      let d = plus from (along MinusX (pos k)) in
      told.0 yes (column_of e d) (down_from e.least.x from.x end k set.inside.x_from least is) ((at_row (column_of e d)).1 (set_row e rows from d set (flat from.y) (flat from.z))),
  λ clear. told.1 (λ n le has.
      let h = (at_row n).0 has in
      let down = down_to e.least.x from.x end n is le in
      clear down.0 down.1 (row_set e rows from (plus from (along MinusX (pos down.0))) n h (short (row_of e from) n h.set) down.2 (flat from.y) (flat from.z))),
)

-- Across x

-- x stays along the direction
same_x : (from : Cell) (direction : Direction) (k : ℤ) → (along direction k).x ≡ pos 0 → (plus from (along direction k)).x ≡ from.x
same_x from direction k none = ap (λ (t : ℤ). from.x +ℤ t) none ∙ flat from.x

-- the bits of the rows ahead
pub record AreAhead (e : Extent) (rows : List ℕ) (from : Cell) (direction : Direction) (row : ℕ) : Type 0 where
  pub has : (n : ℕ) → HasBit row n → (k : ℕ) × (1 ≤ k) × HasBitIn e rows (plus from (along direction (pos k))) n
  pub all : (n k : ℕ) → 1 ≤ k → IsSet e rows (plus from (along direction (pos k))) → n ≡ column_of e (plus from (along direction (pos k))) → HasBit row n

across_inside : (e : Extent) (rows : List ℕ) (from : Cell) (direction : Direction) (row column : ℕ) → ((k : ℤ) → (along direction k).x ≡ pos 0) → e.least.x ≤ℤ from.x → from.x ≤ℤ e.greatest.x → column ≡ column_of e from → AreAhead e rows from direction row → (¬ HasBit row column) ↔ HasNoneAhead (IsSet e rows) from direction
across_inside e rows from direction row column across low high is ahead = (
  λ none k least set.
      let same = same_x from direction (pos k) (across (pos k)) in
      none (ahead.all column k least set (is ∙ ap (int_gap e.least.x) (sym same))),
  λ clear has.
      let r = ahead.has column has in
      let d = plus from (along direction (pos r.0)) in
      let same = same_x from direction (pos r.0) (across (pos r.0)) in
      let inside = r.2.inside in
      clear r.0 r.1 (record {
        inside = record {
          x_from = subst (λ (t : ℤ). e.least.x ≤ℤ t) (sym same) low;
          x_to = subst (λ (t : ℤ). t ≤ℤ e.greatest.x) (sym same) high;
          y_from = inside.y_from;
          y_to = inside.y_to;
          z_from = inside.z_from;
          z_to = inside.z_to;
        };
        set = subst (HasBitAt rows (row_of e d)) (is ∙ ap (int_gap e.least.x) (sym same)) r.2.set;
      }),
)

tells_not : {X : Type 0} {Y : Type 0} (b : Bool) → IsTrue b ↔ X → (¬ X) ↔ Y → IsTrue (not b) ↔ Y
tells_not true is iff = no_iff (λ y. iff.1 y (yes_of is))
tells_not false is iff = yes_iff (iff.0 (no_of is))

pub across_clear : (e : Extent) (rows : List ℕ) (from : Cell) (direction : Direction) (row column : ℕ) (b : Bool) → ((k : ℤ) → (along direction k).x ≡ pos 0) → e.least.x ≤ℤ from.x → from.x ≤ℤ e.greatest.x → column ≡ column_of e from → AreAhead e rows from direction row → IsTrue b ↔ HasBit row column → IsTrue (not b) ↔ HasNoneAhead (IsSet e rows) from direction
across_clear e rows from direction row column b across low high is ahead told =
    tells_not b told (across_inside e rows from direction row column across low high is ahead)

-- the same of the rows at fewer units than these
pub record AreSoFar (e : Extent) (rows : List ℕ) (from : Cell) (direction : Direction) (units row : ℕ) : Type 0 where
  pub has : (n : ℕ) → HasBit row n → (k : ℕ) × (1 ≤ k) × HasBitIn e rows (plus from (along direction (pos k))) n
  pub all : (n k : ℕ) → 1 ≤ k → k < units → IsSet e rows (plus from (along direction (pos k))) → n ≡ column_of e (plus from (along direction (pos k))) → HasBit row n

pub none_so_far : (e : Extent) (rows : List ℕ) (from : Cell) (direction : Direction) (units last : ℕ) → ((k : ℕ) → 1 ≤ k → IsInBox e (plus from (along direction (pos k))) → (units ≤ k) × (k ≤ last)) → AreSoFar e rows from direction units 0
none_so_far e rows from direction units last within = record {
  has = λ n h. absurd (no_bit n h);
  all = λ n k least below set is. absurd (let first = (within k least set.inside).0 in omega arith);
}

pub more_so_far : (e : Extent) (rows : List ℕ) (from spot : Cell) (direction : Direction) (units row at_spot : ℕ) → 1 ≤ units → spot ≡ plus from (along direction (pos units)) → ((n : ℕ) → HasBit at_spot n ↔ HasBitIn e rows spot n) → AreSoFar e rows from direction units row → AreSoFar e rows from direction (units + 1) (bit_or row at_spot)
more_so_far e rows from spot direction units row at_spot least is told so_far =
    let here : (n : ℕ) → HasBit at_spot n ↔ HasBitIn e rows (plus from (along direction (pos units))) n = subst (λ (d : Cell). (n : ℕ) → HasBit at_spot n ↔ HasBitIn e rows d n) is told in
    record {
      has = λ n h. elim (or_from row at_spot n h) [
        | inl was ↦ so_far.has n was
        | inr new ↦ (units, least, (here n).0 new)
      ];
      all = λ n k one below set at_column. elim (ℕ_discrete k units) [
        | yes same ↦
            let d : ℕ → Cell = λ m. plus from (along direction (pos m)) in
            let set_here : IsSet e rows (d units) = subst (λ (m : ℕ). IsSet e rows (d m)) same set in
            let column : column_of e (d units) ≡ n = sym (at_column ∙ ap (λ (m : ℕ). column_of e (d m)) same) in
            or_right row at_spot n ((here n).1 (subst (HasBitIn e rows (d units)) column (set_row e rows (d units) (d units) set_here refl refl)))
        | no other ↦ or_left row at_spot n (so_far.all n k one (omega (arith, other)) set at_column)
      ];
    }

pub all_so_far : (e : Extent) (rows : List ℕ) (from : Cell) (direction : Direction) (units first last row : ℕ) → ((k : ℕ) → 1 ≤ k → IsInBox e (plus from (along direction (pos k))) → (first ≤ k) × (k ≤ last)) → last < units → AreSoFar e rows from direction units row → AreAhead e rows from direction row
all_so_far e rows from direction units first last row within past so_far = record {
  has = so_far.has;
  all = λ n k least set is. so_far.all n k least (let le = (within k least set.inside).1 in omega arith) set is;
}
