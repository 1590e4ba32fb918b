-- The rows of two pieces, made cell by cell.
use Rattle.std.proofs.Common.{◌≡◌, ◌↔◌, ◌∙◌, ℕ, zero, suc, ◌+◌, ◌*◌, ◌<◌, ◌≤◌, List, [], ◌∷◌, ◌++◌, length, take, get_or, Contains, refl, sym, ap, subst, arith, slice_index_or, inl, inr}
use Rattle.std.specs.Prelude.{ℤ, ◌-ℤ◌, ◌≤ℤ◌, replicate}
use Rattle.std.specs.Int.{int_gap}
use Rattle.std.specs.List.{All}
use Rattle.std.proofs.lemmas.Int.{ints}
use Rattle.std.proofs.lemmas.Nat.{mul-le, mul-add-lt}
use Rattle.std.proofs.lemmas.List.{take_more, take_all, take-append-le}
use Rattle.std.proofs.lemmas.List.Elements.{All-get_or, All-contains, All-weaker, Contains-append_left, Contains-push, Contains-push_cases}
use Rattle.burr_voxels.specs.declared.cell.Cell.{Cell}
use Rattle.burr_voxels.specs.Grid.{plus, minus, origin}
use Rattle.burr_voxels.proofs.Common.Ahead.{same_cell}
use Rattle.burr_blocking.specs.declared.extent.Extent.{Extent}
use Rattle.burr_blocking.specs.Views.Boxes.{IsInBox, IsInRows, wide_of, deep_of, high_of, row_count_of, row_of, column_of}
use Rattle.burr_blocking.specs.Views.Bits.{HasBit, HasBitAt, SetsBit, or_shifted, or_both, joined_from}
use Rattle.burr_blocking.specs.Views.Overlaps.{AreOverlapsOf}
use Rattle.burr_blocking.specs.Views.PairBits.{IsSet, IsInRowOf, AreShort, AreBitsFrom}
use Rattle.burr_blocking.proofs.Common.Reversed.{blocked_from, blocked_gives}
use Rattle.burr_blocking.proofs.Reaches.{gap_value, gap_lt, gap_few}
use Rattle.burr_blocking.proofs.Marks.{gap_once, parts_once, gap_sum, corner_sum, plus_minus, minus_plus, greatest_inside, IsBoxOf, box_inside, box_low, box_reach}
use Rattle.burr_blocking.proofs.Joins.{joined_twice, joined_alike, length_joined}
use Rattle.burr_blocking.proofs.Shifts.{no_bit, or_again, joined_bits_from, joined_bits_old, joined_bits_new}

-- Rows and columns

pub in_rows : (e : Extent) (d : Cell) → IsInBox e d → IsInRows e d
in_rows e d h = record { y_from = h.y_from; y_to = h.y_to; z_from = h.z_from; z_to = h.z_to }

pub row_lt : (e : Extent) (d : Cell) → IsInRows e d → row_of e d < row_count_of e
row_lt e d h =
    let l = e.least in
    let g = e.greatest in
    mul-add-lt (int_gap l.z d.z) (deep_of e) (int_gap l.y d.y) (high_of e) (gap_lt l.z d.z g.z _ refl h.z_from h.z_to) (gap_lt l.y d.y g.y _ refl h.y_from h.y_to)

-- and one of at most 31 rows in each of at most 31 layers
pub row_few : (e : Extent) (d : Cell) → IsInRows e d → row_of e d ≤ 960
row_few e d h =
    omega (arith, row_lt e d h, mul-le (deep_of e) (high_of e) 31 31 (gap_few e.least.y e.greatest.y 30 e.small.y_rises e.small.y_near) (gap_few e.least.z e.greatest.z 30 e.small.z_rises e.small.z_near))

pub column_lt : (e : Extent) (d : Cell) → IsInBox e d → column_of e d < wide_of e
column_lt e d h = gap_lt e.least.x d.x e.greatest.x _ refl h.x_from h.x_to

pub column_few : (e : Extent) (d : Cell) → IsInBox e d → column_of e d < 32
column_few e d h = omega (arith, column_lt e d h, gap_few e.least.x e.greatest.x 30 e.small.x_rises e.small.x_near)

-- no two displacements of a box stand in one place
spot_once : (e : Extent) (a b : Cell) → IsInBox e a → IsInBox e b → row_of e a ≡ row_of e b → column_of e a ≡ column_of e b → a ≡ b
spot_once e a b p q row column =
    let l = e.least in
    let g = e.greatest in
    let inner = parts_once (deep_of e) (int_gap l.z a.z) (int_gap l.z b.z) (int_gap l.y a.y) (int_gap l.y b.y) (gap_lt l.y a.y g.y _ refl p.y_from p.y_to) (gap_lt l.y b.y g.y _ refl q.y_from q.y_to) row in
    same_cell a b (gap_once l.x a.x b.x p.x_from q.x_from column) (gap_once l.y a.y b.y p.y_from q.y_from inner.1) (gap_once l.z a.z b.z p.z_from q.z_from inner.0)

-- a row and a column are sums of two: from a cell to the least corner of the other hull, and from the greatest corner of this hull to the other cell

row_parts : (deep y z b c : ℕ) → (c + z) * deep + (b + y) ≡ (c * deep + b) + (z * deep + y)
row_parts deep y z b c = omega arith

row_sum : (e : Extent) (from to greatest least : Cell) → e.least ≡ minus least greatest → IsInBox e (minus to from) → IsInBox e (minus least from) → IsInBox e (minus to greatest) → row_of e (minus to from) ≡ row_of e (minus least from) + row_of e (minus to greatest)
row_sum e from to greatest least corner whole one two =
    let l = e.least in
    let y = gap_sum l.y (to.y -ℤ from.y) (least.y -ℤ from.y) (to.y -ℤ greatest.y) whole.y_from one.y_from two.y_from (corner_sum l.y to.y from.y least.y greatest.y (ap (λ (c : Cell). c.y) corner)) in
    let z = gap_sum l.z (to.z -ℤ from.z) (least.z -ℤ from.z) (to.z -ℤ greatest.z) whole.z_from one.z_from two.z_from (corner_sum l.z to.z from.z least.z greatest.z (ap (λ (c : Cell). c.z) corner)) in
    rw (y, z) (row_parts (deep_of e) _ _ _ _)

column_sum : (e : Extent) (from to greatest least : Cell) → e.least ≡ minus least greatest → IsInBox e (minus to from) → IsInBox e (minus least from) → IsInBox e (minus to greatest) → column_of e (minus to from) ≡ column_of e (minus least from) + column_of e (minus to greatest)
column_sum e from to greatest least corner whole one two =
    let l = e.least in
    gap_sum l.x (to.x -ℤ from.x) (least.x -ℤ from.x) (to.x -ℤ greatest.x) whole.x_from one.x_from two.x_from (corner_sum l.x to.x from.x least.x greatest.x (ap (λ (c : Cell). c.x) corner))

-- Nothing set

abbrev zeros : ℕ → List ℕ
zeros m = replicate m 0

get_none : (m n : ℕ) → slice_index_or (zeros m) n 0 ≡ 0
get_none zero n = refl
get_none (suc m) zero = refl
get_none (suc m) (suc n) = get_none m n

pub none_set : (m n k : ℕ) → ¬ HasBitAt (replicate m 0) n k
none_set m n k has = no_bit k (subst (λ (x : ℕ). HasBit x k) (get_none m n) has)

-- a slice that is as long as what it was written over
pub whole_rows : (n : ℕ) (new old rest : List ℕ) → n ≡ length old → length new ≡ length old → take n (new ++ rest) ≡ new
whole_rows n new old rest all same = take-append-le n new rest (omega (arith, all, same)) ∙ take_all n new (omega (arith, all, same))

-- The rows of one piece's cells

-- one cell more
pub bits_more : (e : Extent) (old new : List ℕ) (corner : Cell) (tos : List Cell) (i row column : ℕ) (x : Cell) → i < length tos → row ≡ row_of e (minus (get_or tos i x) corner) → column ≡ column_of e (minus (get_or tos i x) corner) → SetsBit old new row column → AreBitsFrom e old corner (take i tos) → AreBitsFrom e new corner (take (i + 1) tos)
bits_more e old new corner tos i row column x lt row_is column_is sets so_far =
    let to : Cell = get_or tos i x in
    let before : List Cell = take i tos in
    let both : AreBitsFrom e new corner (before ++ to ∷ []) = λ n k. (
      λ h. elim ((sets n k).0 h) [
        | inl was ↦ let r = (so_far n k).0 was in (r.0, Contains-append_left before (to ∷ []) r.0 r.1, r.2, r.3)
        | inr here ↦ (to, Contains-push before to, here.0 ∙ row_is, here.1 ∙ column_is)
      ],
      λ r. elim (Contains-push_cases before to r.0 r.1) [
        | inl b ↦ (sets n k).1 (inl ((so_far n k).1 (r.0, b, r.2, r.3)))
        | inr same ↦ (sets n k).1 (inr (r.2 ∙ ap (λ (c : Cell). row_of e (minus c corner)) (sym same) ∙ sym row_is, r.3 ∙ ap (λ (c : Cell). column_of e (minus c corner)) (sym same) ∙ sym column_is))
      ],
    ) in
    subst (AreBitsFrom e new corner) (sym (take_more tos i x lt)) both

-- all cells
pub bits_all : (e : Extent) (rows : List ℕ) (corner : Cell) (tos : List Cell) (i : ℕ) → length tos ≤ i → AreBitsFrom e rows corner (take i tos) → AreBitsFrom e rows corner tos
bits_all e rows corner tos i le so_far = subst (AreBitsFrom e rows corner) (take_all i tos le) so_far

-- The rows of two pieces

-- set is a bit for each displacement from one of these cells to one of the others
abbrev pub AreMade : Extent → List ℕ → List Cell → List Cell → Type 0
AreMade e rows ps qs = (n k : ℕ) → HasBitAt rows n k ↔ ((from : Cell) × (to : Cell) × Contains ps from × Contains qs to × (n ≡ row_of e (minus to from)) × (k ≡ column_of e (minus to from)))

-- one cell more
pub made_more : (e hull other : Extent) (old source : List ℕ) (ps qs : List Cell) (i first columns : ℕ) (x : Cell) → IsBoxOf e hull other ps qs → i < length ps → first ≡ row_of e (minus other.least (get_or ps i x)) → columns ≡ column_of e (minus other.least (get_or ps i x)) → first + length source ≤ length old → AreBitsFrom e source hull.greatest qs → AreMade e old (take i ps) qs → AreMade e (joined_from (or_shifted columns) first old source) (take (i + 1) ps) qs
made_more e hull other old source ps qs i first columns x box lt first_is columns_are fits bits so_far =
    let p : Cell = get_or ps i x in
    let before : List Cell = take i ps in
    let new : List ℕ = joined_from (or_shifted columns) first old source in
    let inside : (to : Cell) → Contains qs to → IsInBox e (minus to p) = λ to has. All-contains (λ (c : Cell). IsInBox e (minus c p)) qs to (box_inside e hull other ps qs i x box lt) has in
    let reach : (to : Cell) → Contains qs to → IsInBox e (minus to hull.greatest) = λ to has. All-contains (λ (c : Cell). IsInBox e (minus c hull.greatest)) qs to (box_reach e hull other ps qs box) has in
    let low = box_low e hull other ps qs i x box lt in
    let row : (to : Cell) → Contains qs to → row_of e (minus to p) ≡ first + row_of e (minus to hull.greatest) = λ to has. row_sum e p to hull.greatest other.least box.corner (inside to has) low (reach to has) ∙ ap (λ (n : ℕ). n + row_of e (minus to hull.greatest)) (sym first_is) in
    let column : (to : Cell) → Contains qs to → column_of e (minus to p) ≡ columns + column_of e (minus to hull.greatest) = λ to has. column_sum e p to hull.greatest other.least box.corner (inside to has) low (reach to has) ∙ ap (λ (n : ℕ). n + column_of e (minus to hull.greatest)) (sym columns_are) in
    let both : AreMade e new (before ++ p ∷ []) qs = λ n k. (
      λ h. elim (joined_bits_from columns first old source n k h) [
        | inl was ↦
            let r = (so_far n k).0 was in
            (r.0, r.1, Contains-append_left before (p ∷ []) r.0 r.2, r.3, r.4, r.5)
        | inr there ↦
            let r = (bits there.0 there.1).0 there.2 in
            (p, r.0, Contains-push before p, r.1, there.3 ∙ ap (λ (m : ℕ). first + m) r.2 ∙ sym (row r.0 r.1), there.4 ∙ ap (λ (m : ℕ). columns + m) r.3 ∙ sym (column r.0 r.1))
      ],
      λ r. elim (Contains-push_cases before p r.0 r.2) [
        | inl b ↦ joined_bits_old columns first old source n k fits ((so_far n k).1 (r.0, r.1, b, r.3, r.4, r.5))
        | inr same ↦
            let to : Cell = r.1 in
            let has : Contains qs to = r.3 in
            let at_row : n ≡ row_of e (minus to p) = r.4 ∙ ap (λ (c : Cell). row_of e (minus to c)) (sym same) in
            let at_column : k ≡ column_of e (minus to p) = r.5 ∙ ap (λ (c : Cell). column_of e (minus to c)) (sym same) in
            let few : k < 32 = subst (λ (m : ℕ). m < 32) (sym at_column) (column_few e (minus to p) (inside to has)) in
            joined_bits_new columns first old source n k (row_of e (minus to hull.greatest)) (column_of e (minus to hull.greatest)) fits ((bits (row_of e (minus to hull.greatest)) (column_of e (minus to hull.greatest))).1 (to, has, refl, refl)) (at_row ∙ row to has) (at_column ∙ column to has) few
      ],
    ) in
    subst (λ (cs : List Cell). AreMade e new cs qs) (sym (take_more ps i x lt)) both

-- displacements to one place from cells of one row lie in one row
row_alike : (e : Extent) (to p q : Cell) → p.y ≡ q.y → p.z ≡ q.z → row_of e (minus to p) ≡ row_of e (minus to q)
row_alike e to p q y z =
    ap (λ (t : ℤ). int_gap e.least.z (to.z -ℤ p.z) * deep_of e + int_gap e.least.y (to.y -ℤ t)) y ∙ ap (λ (t : ℤ). int_gap e.least.z (to.z -ℤ t) * deep_of e + int_gap e.least.y (to.y -ℤ q.y)) z

-- two cells of a row more, or one
pub made_both : (e hull other : Extent) (old source : List ℕ) (ps qs : List Cell) (i m first columns further : ℕ) → IsBoxOf e hull other ps qs → i < length ps → IsInRowOf ps i m → first ≡ row_of e (minus other.least (get_or ps i origin)) → columns ≡ column_of e (minus other.least (get_or ps i origin)) → further ≡ column_of e (minus other.least (get_or ps m origin)) → first + length source ≤ length old → AreBitsFrom e source hull.greatest qs → AreMade e old (take i ps) qs → AreMade e (joined_from (or_both columns further) first old source) (take (m + 1) ps) qs
made_both e hull other old source ps qs i m first columns further box lt row first_is columns_are further_is fits bits so_far =
    let mid : List ℕ = joined_from (or_shifted columns) first old source in
    let new : List ℕ = joined_from (or_both columns further) first old source in
    let one : AreMade e mid (take (i + 1) ps) qs = made_more e hull other old source ps qs i first columns origin box lt first_is columns_are fits bits so_far in
    elim row.which [
      | inl same ↦
          let alike : further ≡ columns = further_is ∙ ap (λ (k : ℕ). column_of e (minus other.least (get_or ps k origin))) same ∙ sym columns_are in
          let again : new ≡ mid = joined_alike (or_both columns further) (or_shifted columns) (λ x y. or_again columns further x y alike) first old source in
          subst (λ (k : ℕ). AreMade e new (take (k + 1) ps) qs) (sym same) (subst (λ (rs : List ℕ). AreMade e rs (take (i + 1) ps) qs) (sym again) one)
      | inr next ↦
          let room : first + length source ≤ length mid = omega (arith, fits, length_joined (or_shifted columns) first old source fits) in
          let first_too : first ≡ row_of e (minus other.least (get_or ps m origin)) = first_is ∙ row_alike e other.least (get_or ps i origin) (get_or ps m origin) (sym row.y) (sym row.z) in
          let two : AreMade e (joined_from (or_shifted further) first mid source) (take (m + 1) ps) qs = made_more e hull other mid source ps qs m first further origin box row.inside first_too further_is room bits (subst (λ (k : ℕ). AreMade e mid (take k ps) qs) (sym next) one) in
          subst (λ (rs : List ℕ). AreMade e rs (take (m + 1) ps) qs) (sym (joined_twice (or_shifted columns) (or_shifted further) first old source)) two
    ]

-- all cells
pub made_all : (e : Extent) (rows : List ℕ) (ps qs : List Cell) (i : ℕ) → length ps ≤ i → AreMade e rows (take i ps) qs → AreMade e rows ps qs
made_all e rows ps qs i le so_far = subst (λ (cs : List Cell). AreMade e rows cs qs) (take_all i ps le) so_far

-- a displacement between cells is of the box
box_between : (e hull other : Extent) (ps qs : List Cell) (from to : Cell) → IsBoxOf e hull other ps qs → Contains ps from → Contains qs to → IsInBox e (minus to from)
box_between e hull other ps qs from to box in_ps in_qs = box.holds from to (All-contains (IsInBox hull) ps from box.cells in_ps) (All-contains (IsInBox other) qs to box.others in_qs)

-- what has been made is what it should be
pub made_rows : (e hull other : Extent) (rows : List ℕ) (ps qs : List Cell) → IsBoxOf e hull other ps qs → AreMade e rows ps qs → AreOverlapsOf (IsSet e rows) ps qs
made_rows e hull other rows ps qs box made d = (
  λ set.
      let r = (made (row_of e d) (column_of e d)).0 set.set in
      let from : Cell = r.0 in
      let to : Cell = r.1 in
      let same : d ≡ minus to from = spot_once e d (minus to from) set.inside (box_between e hull other ps qs from to box r.2 r.3) r.4 r.5 in
      blocked_from ps qs d from r.2 (subst (Contains qs) (sym (plus_minus from to) ∙ ap (plus from) (sym same)) r.3),
  λ blocked.
      let r = blocked_gives ps qs d blocked in
      let from : Cell = r.0 in
      let to : Cell = plus from d in
      let way : minus to from ≡ d = minus_plus from d in
      record {
        inside = subst (IsInBox e) way (box_between e hull other ps qs from to box r.1 r.2);
        set = (made (row_of e d) (column_of e d)).1 (from, to, r.1, r.2, ap (row_of e) (sym way), ap (column_of e) (sym way));
      },
)

pub made_short : (e hull other : Extent) (rows : List ℕ) (ps qs : List Cell) → IsBoxOf e hull other ps qs → AreMade e rows ps qs → AreShort e rows
made_short e hull other rows ps qs box made n k has =
    let r = (made n k).0 has in
    subst (λ (m : ℕ). m < wide_of e) (sym r.5) (column_lt e (minus r.1 r.0) (box_between e hull other ps qs r.0 r.1 box r.2 r.3))

-- The rows that the cells of the other piece need

gap_le : (l a b : ℤ) → l ≤ℤ a → a ≤ℤ b → int_gap l a ≤ int_gap l b
gap_le l a b from le =
    let one = gap_value l a from in
    let two = gap_value l b (omega (arith, ints)) in
    omega (arith, ints)

less_le : (a b g : ℤ) → a ≤ℤ b → (a -ℤ g) ≤ℤ (b -ℤ g)
less_le a b g le = omega (arith, ints)

parts_le : (deep y z y' z' : ℕ) → y ≤ y' → z ≤ z' → z * deep + y ≤ z' * deep + y'
parts_le deep y z y' z' le_y le_z = omega (arith, mul-le z deep z' deep le_z (omega arith))

-- from the greatest corner to the others
pub box_last : (e hull other : Extent) (ps qs : List Cell) → IsBoxOf e hull other ps qs → IsInBox e (minus other.greatest hull.greatest)
box_last e hull other ps qs box = box.holds hull.greatest other.greatest (greatest_inside hull.least hull.greatest box.hull_small) (greatest_inside other.least other.greatest box.other_small)

pub box_rows : (e hull other : Extent) (ps qs : List Cell) (last : ℕ) → IsBoxOf e hull other ps qs → last ≡ row_of e (minus other.greatest hull.greatest) → All (λ to. row_of e (minus to hull.greatest) < last + 1) qs
box_rows e hull other ps qs last box is =
    All-weaker (IsInBox other) (λ (to : Cell). row_of e (minus to hull.greatest) < last + 1) (λ to has.
    let here = box.holds hull.greatest to (greatest_inside hull.least hull.greatest box.hull_small) has in
    let le : row_of e (minus to hull.greatest) ≤ row_of e (minus other.greatest hull.greatest) = parts_le (deep_of e) _ _ _ _ (gap_le e.least.y _ _ here.y_from (less_le to.y other.greatest.y hull.greatest.y has.y_to)) (gap_le e.least.z _ _ here.z_from (less_le to.z other.greatest.z hull.greatest.z has.z_to)) in
    omega (arith, is, le)) qs box.others

-- there is room for them from the first row of a cell on
pub box_fits : (e hull other : Extent) (ps qs : List Cell) (i first last : ℕ) (x : Cell) → IsBoxOf e hull other ps qs → i < length ps → first ≡ row_of e (minus other.least (get_or ps i x)) → last ≡ row_of e (minus other.greatest hull.greatest) → first + (last + 1) ≤ row_count_of e
box_fits e hull other ps qs i first last x box lt first_is last_is =
    let p : Cell = get_or ps i x in
    let whole = box.holds p other.greatest (cell_inside p) (greatest_inside other.least other.greatest box.other_small) in
    let sum = row_sum e p other.greatest hull.greatest other.least box.corner whole (box_low e hull other ps qs i x box lt) (box_last e hull other ps qs box) in
    omega (arith, sum, first_is, last_is, row_lt e (minus other.greatest p) (in_rows e (minus other.greatest p) whole))
  where
    cell_inside : (p : Cell) → IsInBox hull (get_or ps i x)
    cell_inside p = All-get_or (IsInBox hull) ps i x lt box.cells
