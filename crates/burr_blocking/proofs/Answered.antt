-- What the pair that is kept of two classes answers about two pieces of them.
use Rattle.std.proofs.Common.{◌≡◌, ◌↔◌, ◌∙◌, ℕ, ◌<◌, ◌≤◌, Bool, true, false, List, Vec, length, get_or, refl, sym, ap, subst, inl, inr, arith}
use Rattle.std.specs.Prelude.{ℤ, ◌≢◌, ◌⊎◌, ◌+ℤ◌, ◌-ℤ◌, IsTrue}
use Rattle.std.specs.declared.alloc.Global.{Global}
use Rattle.std.proofs.lemmas.Int.{ints}
use Rattle.std.proofs.lemmas.List.{length-map}
use Rattle.burr_voxels.specs.declared.cell.Cell.{Cell}
use Rattle.burr_voxels.specs.declared.direction.Direction.{Direction}
use Rattle.burr_voxels.specs.Grid.{plus, minus, along, origin}
use Rattle.burr_voxels.proofs.Common.Ahead.{same_cell}
use Rattle.burr_assembly.specs.Rules.Text.{Assembly}
use Rattle.burr_assembly.specs.Rules.Homes.{home_at, home_of, homes_of}
use Rattle.burr_blocking.specs.declared.triangle.translate.Translate.{Translate}
use Rattle.burr_blocking.specs.declared.triangle.Classes.{Classes}
use Rattle.burr_blocking.specs.declared.triangle.translate.Pair.{Pair}
use Rattle.burr_blocking.specs.Rules.Pairs.{IsBlocked, IsFreeFrom}
use Rattle.burr_blocking.specs.Views.Classes.{AreClasses, IsOfClass}
use Rattle.burr_blocking.specs.Views.Overlaps.{HasNoneAhead}
use Rattle.burr_blocking.specs.Views.Translates.{displacement_of, representative_at}
use Rattle.burr_blocking.specs.Views.Triangles.{IsTriangle, AreClassPairs, AreRows, IsPairOf, IsPairOfTwo, IsRowOf, AreOfClasses, IsPairOfPieces, ClassedAssembly, IsPairIn, IsTurnedBy, turned_by, way_of}
use Rattle.burr_blocking.proofs.Classed.{pair_kept}
use Rattle.burr_blocking.proofs.Triangles.{one_read, tells_blocked, tells_free, tells_blocked_back, tells_free_back, tells_pieces_blocked, tells_pieces_free}

-- a piece of an assembly has a home
pub has_home : (a : Assembly) (p : ℕ) → p < length a.pieces → p < length (homes_of a)
has_home a p lt = omega (arith, lt, length-map a.pieces (home_of a.shapes))

-- a piece that is read is a translate of its class's representative
class_read : (homes : List (List Cell)) (c : Classes) (q : ℕ) (t : Translate) → AreClasses homes c → q < length homes → t ≡ get_or c.translates.items q t → IsOfClass homes c.representatives.items (home_at homes q) t
class_read homes c q t are lt is = subst (IsOfClass homes c.representatives.items (home_at homes q)) (sym is) (are.each q t (omega (arith, are.count, lt)))

module _ {P : Type 0} (Overlaps : P → Cell → Type 0) where
  -- the pairs of a piece's class
  row_read : (homes : List (List Cell)) (c : Classes) (kept : List (Vec P Global)) (q : ℕ) (t : Translate) (row : Vec P Global) → IsTriangle Overlaps homes c kept → q < length homes → t ≡ get_or c.translates.items q t → row ≡ get_or kept t.class row → AreClassPairs Overlaps homes c t.class row
  row_read homes c kept q t row whole lt is row_is =
      let of = class_read homes c q t whole.pieces lt is in
      one_read (AreClassPairs Overlaps homes c) kept t.class t.class row whole.each (omega (arith, whole.count, of.class)) refl row_is

  -- the pair of two pieces is kept, where the first one's class is the earlier
  pair_there : (homes : List (List Cell)) (c : Classes) (kept : List (Vec P Global)) (p q : ℕ) (s t : Translate) (row : Vec P Global) → IsTriangle Overlaps homes c kept → p ≢ q → p < length homes → q < length homes → s ≡ get_or c.translates.items p s → t ≡ get_or c.translates.items q t → s.class ≤ t.class → row ≡ get_or kept t.class row → s.class < length row.items
  pair_there homes c kept p q s t row whole two lt_p lt_q is_s is_t le row_is =
      let pairs = row_read homes c kept q t row whole lt_q is_t row_is in
      pair_kept c p q (length row.items) s t two (omega (arith, whole.pieces.count, lt_p)) (omega (arith, whole.pieces.count, lt_q)) is_s is_t le pairs.count

  -- and its overlaps are those of the representatives
  pair_read : (homes : List (List Cell)) (c : Classes) (kept : List (Vec P Global)) (p q : ℕ) (s t : Translate) (row : Vec P Global) (pair : P) → IsTriangle Overlaps homes c kept → p ≢ q → p < length homes → q < length homes → s ≡ get_or c.translates.items p s → t ≡ get_or c.translates.items q t → s.class ≤ t.class → row ≡ get_or kept t.class row → pair ≡ get_or row.items s.class pair → IsPairOf Overlaps homes c.representatives.items s.class t.class pair
  pair_read homes c kept p q s t row pair whole two lt_p lt_q is_s is_t le row_is pair_is =
      let pairs = row_read homes c kept q t row whole lt_q is_t row_is in
      one_read (λ (k : ℕ) (o : P). IsPairOf Overlaps homes c.representatives.items k t.class o) row.items s.class s.class pair pairs.pairs (pair_there homes c kept p q s t row whole two lt_p lt_q is_s is_t le row_is) refl pair_is

  answers_blocked : (homes : List (List Cell)) (c : Classes) (kept : List (Vec P Global)) (p q : ℕ) (d : Cell) (s t : Translate) (way : Cell) (row : Vec P Global) (pair : P) (r : Bool) → IsTriangle Overlaps homes c kept → AreOfClasses homes c p q s t → way ≡ displacement_of s.displacement t.displacement d → s.class ≤ t.class → row ≡ get_or kept t.class row → pair ≡ get_or row.items s.class pair → IsTrue r ↔ Overlaps pair way → IsTrue r ↔ IsBlocked (home_at homes p) (home_at homes q) d
  answers_blocked homes c kept p q d s t way row pair r whole a way_is le row_is pair_is test =
      let rs = c.representatives.items in
      let one = class_read homes c p s whole.pieces a.first a.from in
      let other = class_read homes c q t whole.pieces a.second a.to in
      let told = tells_blocked (representative_at homes rs s.class) (representative_at homes rs t.class) (Overlaps pair) way r (pair_read homes c kept p q s t row pair whole a.two a.first a.second a.from a.to le row_is pair_is) test in
      tells_pieces_blocked (home_at homes p) (home_at homes q) (representative_at homes rs s.class) (representative_at homes rs t.class) s.displacement t.displacement d way r one.translate other.translate way_is told

  answers_free : (homes : List (List Cell)) (c : Classes) (kept : List (Vec P Global)) (p q : ℕ) (d : Cell) (s t : Translate) (way : Cell) (direction : Direction) (row : Vec P Global) (pair : P) (r : Bool) → IsTriangle Overlaps homes c kept → AreOfClasses homes c p q s t → way ≡ displacement_of s.displacement t.displacement d → s.class ≤ t.class → row ≡ get_or kept t.class row → pair ≡ get_or row.items s.class pair → IsTrue r ↔ HasNoneAhead (Overlaps pair) way direction → IsTrue r ↔ IsFreeFrom (home_at homes p) (home_at homes q) d direction
  answers_free homes c kept p q d s t way direction row pair r whole a way_is le row_is pair_is test =
      let rs = c.representatives.items in
      let one = class_read homes c p s whole.pieces a.first a.from in
      let other = class_read homes c q t whole.pieces a.second a.to in
      let told = tells_free (representative_at homes rs s.class) (representative_at homes rs t.class) (Overlaps pair) way direction r (pair_read homes c kept p q s t row pair whole a.two a.first a.second a.from a.to le row_is pair_is) test in
      tells_pieces_free (home_at homes p) (home_at homes q) (representative_at homes rs s.class) (representative_at homes rs t.class) s.displacement t.displacement d way direction r one.translate other.translate way_is told

  -- The other order of the two classes

  answers_blocked_back : (homes : List (List Cell)) (c : Classes) (kept : List (Vec P Global)) (p q : ℕ) (d : Cell) (s t : Translate) (way back : Cell) (row : Vec P Global) (pair : P) (r : Bool) → IsTriangle Overlaps homes c kept → AreOfClasses homes c p q s t → way ≡ displacement_of s.displacement t.displacement d → t.class ≤ s.class → row ≡ get_or kept s.class row → pair ≡ get_or row.items t.class pair → back ≡ minus origin way → IsTrue r ↔ Overlaps pair back → IsTrue r ↔ IsBlocked (home_at homes p) (home_at homes q) d
  answers_blocked_back homes c kept p q d s t way back row pair r whole a way_is le row_is pair_is back_is test =
      let rs = c.representatives.items in
      let one = class_read homes c p s whole.pieces a.first a.from in
      let other = class_read homes c q t whole.pieces a.second a.to in
      let told = tells_blocked_back (representative_at homes rs s.class) (representative_at homes rs t.class) (Overlaps pair) way back r back_is (pair_read homes c kept q p t s row pair whole (λ (e : q ≡ p). a.two (sym e)) a.second a.first a.to a.from le row_is pair_is) test in
      tells_pieces_blocked (home_at homes p) (home_at homes q) (representative_at homes rs s.class) (representative_at homes rs t.class) s.displacement t.displacement d way r one.translate other.translate way_is told

  answers_free_back : (homes : List (List Cell)) (c : Classes) (kept : List (Vec P Global)) (p q : ℕ) (d : Cell) (s t : Translate) (way back : Cell) (direction turned : Direction) (row : Vec P Global) (pair : P) (r : Bool) → IsTriangle Overlaps homes c kept → AreOfClasses homes c p q s t → way ≡ displacement_of s.displacement t.displacement d → t.class ≤ s.class → row ≡ get_or kept s.class row → pair ≡ get_or row.items t.class pair → back ≡ minus origin way → ((k : ℤ) → along turned k ≡ minus origin (along direction k)) → IsTrue r ↔ HasNoneAhead (Overlaps pair) back turned → IsTrue r ↔ IsFreeFrom (home_at homes p) (home_at homes q) d direction
  answers_free_back homes c kept p q d s t way back direction turned row pair r whole a way_is le row_is pair_is back_is opposite test =
      let rs = c.representatives.items in
      let one = class_read homes c p s whole.pieces a.first a.from in
      let other = class_read homes c q t whole.pieces a.second a.to in
      let told = tells_free_back (representative_at homes rs s.class) (representative_at homes rs t.class) (Overlaps pair) way back direction turned r back_is opposite (pair_read homes c kept q p t s row pair whole (λ (e : q ≡ p). a.two (sym e)) a.second a.first a.to a.from le row_is pair_is) test in
      tells_pieces_free (home_at homes p) (home_at homes q) (representative_at homes rs s.class) (representative_at homes rs t.class) s.displacement t.displacement d way direction r one.translate other.translate way_is told

-- The pair of two pieces is read of a row

module _ {P : Type 0} (Overlaps : P → Cell → Type 0) (a : Assembly) (c : Classes) (kept : List (Vec P Global)) (rows : List (Vec Pair Global)) (now : ClassedAssembly) (same : record { assembly = a; classes = c } ≡ now) (whole : IsTriangle Overlaps (homes_of a) c kept × AreRows c rows) (p q n m : ℕ) (n_is : n ≡ p) (m_is : m ≡ q) (first : p < length now.assembly.pieces) (second : q < length now.assembly.pieces) where
  at_home : (k : ℕ) → k < length now.assembly.pieces → k < length (homes_of a)
  at_home k lt = has_home a k (subst (λ (t : ClassedAssembly). k < length t.assembly.pieces) (sym same) lt)

  row_there : n < length rows
  row_there = let lt = at_home p first in omega (arith, lt, n_is, whole.1.count, whole.0.pieces.count)

  module _ (row : Vec Pair Global) (row_is : row ≡ get_or rows n row) where
    of_row : IsRowOf c p row.items
    of_row = one_read (λ (k : ℕ) (r : Vec Pair Global). IsRowOf c k r.items) rows p n row whole.1.each (let lt = row_there in omega (arith, lt, n_is)) n_is row_is

    in_row : m < length row.items
    in_row = let lt = at_home q second in let many = of_row.count in omega (arith, lt, m_is, many, whole.0.pieces.count)

    pub pair_of_row : (pair : Pair) → pair ≡ get_or row.items m pair → p ≢ q → IsPairIn now p q pair
    pair_of_row pair is two =
        let read = one_read (IsPairOfTwo c p) row.items q m pair of_row.each (let lt = in_row in omega (arith, lt, m_is)) m_is is in
        subst (λ (t : ClassedAssembly). IsPairIn t p q pair) same
        (read.0, read.1, record { two = two; first = at_home p first; second = at_home q second; from = read.2; to = read.3 }, read.4)

-- The displacement that a pair is asked about

shifted_on : (a b d : ℤ) → ((a -ℤ b) +ℤ d) ≡ ((a +ℤ d) -ℤ b)
shifted_on a b d = omega (arith, ints)

shifted_between : (a b d : Cell) → plus (minus a b) d ≡ displacement_of a b d
shifted_between a b d = same_cell _ _ (shifted_on a.x b.x d.x) (shifted_on a.y b.y d.y) (shifted_on a.z b.z d.z)

module _ (pair : Pair) (s t : Translate) (d way : Cell) (shift : pair.shift ≡ minus s.displacement t.displacement) (is : way ≡ way_of pair d) where
  way_on : (turned : Bool) → pair.is_turned ≡ turned → way ≡ turned_by turned (displacement_of s.displacement t.displacement d)
  way_on turned e =
      is ∙ ap (λ (b : Bool). turned_by b (plus pair.shift d)) e
      ∙ ap (λ (x : Cell). turned_by turned (plus x d)) shift
      ∙ ap (turned_by turned) (shifted_between s.displacement t.displacement d)

module _ {P : Type 0} (Overlaps : P → Cell → Type 0) (homes : List (List Cell)) (c : Classes) (kept : List (Vec P Global)) (whole : IsTriangle Overlaps homes c kept) (pair : Pair) (p q : ℕ) where
  module _ (row : Vec P Global) (row_is : row ≡ get_or kept pair.later row) where
    row_at : (u : ℕ) → pair.later ≡ u → row ≡ get_or kept u row
    row_at u e = row_is ∙ ap (λ (k : ℕ). get_or kept k row) e

    -- the row of the later class has the pair
    pub pair_in_row : IsPairOfPieces homes c pair p q → pair.earlier < length row.items
    pair_in_row (s, t, of, by) = by_order by.classes
      where
        by_order : ((pair.is_turned ≡ false) × (pair.earlier ≡ s.class) × (pair.later ≡ t.class))
            ⊎ ((pair.is_turned ≡ true) × (pair.earlier ≡ t.class) × (pair.later ≡ s.class)) → pair.earlier < length row.items
        by_order (inl (straight, earlier, later)) =
            let there = pair_there Overlaps homes c kept p q s t row whole of.two of.first of.second of.from of.to (omega (arith, by.order, earlier, later)) (row_at t.class later) in
            omega (arith, there, earlier)
        by_order (inr (turned, earlier, later)) =
            let there = pair_there Overlaps homes c kept q p t s row whole (λ (e : q ≡ p). of.two (sym e)) of.second of.first of.to of.from (omega (arith, by.order, earlier, later)) (row_at s.class later) in
            omega (arith, there, earlier)

    module _ (one : P) (one_is : one ≡ get_or row.items pair.earlier one) (d way : Cell) (way_is : way ≡ way_of pair d) (r : Bool) where
      one_at : (u : ℕ) → pair.earlier ≡ u → one ≡ get_or row.items u one
      one_at u e = one_is ∙ ap (λ (k : ℕ). get_or row.items k one) e

      -- it tells of the two pieces whether they overlap
      pub pair_blocked : IsTrue r ↔ Overlaps one way → IsPairOfPieces homes c pair p q → IsTrue r ↔ IsBlocked (home_at homes p) (home_at homes q) d
      pair_blocked test (s, t, of, by) = by_order by.classes
        where
          by_order : ((pair.is_turned ≡ false) × (pair.earlier ≡ s.class) × (pair.later ≡ t.class))
              ⊎ ((pair.is_turned ≡ true) × (pair.earlier ≡ t.class) × (pair.later ≡ s.class)) → IsTrue r ↔ IsBlocked (home_at homes p) (home_at homes q) d
          by_order (inl (straight, earlier, later)) =
              answers_blocked Overlaps homes c kept p q d s t way row one r whole of (way_on pair s t d way by.shift way_is false straight)
              (omega (arith, by.order, earlier, later)) (row_at t.class later) (one_at s.class earlier) test
          by_order (inr (turned, earlier, later)) =
              answers_blocked_back Overlaps homes c kept p q d s t (displacement_of s.displacement t.displacement d) way row one r whole of refl
              (omega (arith, by.order, earlier, later)) (row_at s.class later) (one_at t.class earlier) (way_on pair s t d way by.shift way_is true turned) test

      -- and whether the first is free to go out along a direction
      pub pair_free : (direction asked : Direction) → IsTurnedBy pair.is_turned direction asked → IsTrue r ↔ HasNoneAhead (Overlaps one) way asked → IsPairOfPieces homes c pair p q → IsTrue r ↔ IsFreeFrom (home_at homes p) (home_at homes q) d direction
      pair_free direction asked asked_is test (s, t, of, by) = by_order by.classes
        where
          by_order : ((pair.is_turned ≡ false) × (pair.earlier ≡ s.class) × (pair.later ≡ t.class))
              ⊎ ((pair.is_turned ≡ true) × (pair.earlier ≡ t.class) × (pair.later ≡ s.class)) → IsTrue r ↔ IsFreeFrom (home_at homes p) (home_at homes q) d direction
          by_order (inl (straight, earlier, later)) =
              let same : asked ≡ direction = subst (λ (b : Bool). IsTurnedBy b direction asked) straight asked_is in
              answers_free Overlaps homes c kept p q d s t way direction row one r whole of (way_on pair s t d way by.shift way_is false straight)
              (omega (arith, by.order, earlier, later)) (row_at t.class later) (one_at s.class earlier)
              (subst (λ (x : Direction). IsTrue r ↔ HasNoneAhead (Overlaps one) way x) same test)
          by_order (inr (turned, earlier, later)) =
              answers_free_back Overlaps homes c kept p q d s t (displacement_of s.displacement t.displacement d) way direction asked row one r whole of refl
              (omega (arith, by.order, earlier, later)) (row_at s.class later) (one_at t.class earlier) (way_on pair s t d way by.shift way_is true turned)
              (subst (λ (b : Bool). IsTurnedBy b direction asked) turned asked_is) test
