-- What the loops over the cells of two pieces have marked.
use Rattle.std.proofs.Common.{◌≡◌, ℕ, zero, suc, ◌+◌, ◌*◌, ◌/◌, ◌%◌, ◌<◌, ◌≤◌, Bool, true, false, List, [], ◌∷◌, ◌++◌, length, take, get_or, map, Contains, refl, ap, sym, ◌∙◌, arith, slice_index_or, slice_set, inl, inr, subst}
use Rattle.std.specs.Prelude.{ℤ, ◌+ℤ◌, ◌-ℤ◌, ◌≤ℤ◌, ◌⊎◌, ◌↔◌, IsTrue}
use Rattle.std.specs.Int.{int_gap}
use Rattle.std.specs.List.{All}
use Rattle.std.proofs.lemmas.Int.{ints}
use Rattle.std.proofs.lemmas.Nat.{mul-add-lt, div-mul-add, mod-mul-add}
use Rattle.std.proofs.lemmas.List.{take_more, take_all}
use Rattle.std.proofs.lemmas.List.Elements.{All-contains, All-get_or, All-map, All-weaker, Contains-append_left, Contains-push, Contains-push_cases}
use Rattle.burr_voxels.specs.declared.cell.Cell.{Cell}
use Rattle.burr_voxels.specs.Grid.{plus, minus}
use Rattle.burr_voxels.proofs.Common.Ahead.{same_cell}
use Rattle.burr_voxels.proofs.Common.Freedom.{Contains-map, Contains-from_map}
use Rattle.burr_blocking.specs.declared.extent.Extent.{Extent}
use Rattle.burr_blocking.specs.Views.Boxes.{AreDisplacements, IsHomeBox, IsInBox, wide_of, deep_of, high_of, size_of, place_of}
use Rattle.burr_blocking.specs.Views.Corners.{IsBetween, AreCorners}
use Rattle.burr_blocking.specs.Views.Overlaps.{AreOverlapsOf}
use Rattle.burr_blocking.specs.Views.Tables.{HasMark, SetsMarks, IsMarked}
use Rattle.burr_blocking.proofs.Common.Reversed.{blocked_from, blocked_gives}
use Rattle.burr_blocking.proofs.Reaches.{gap_value, gap_lt}

-- One mark

set_keeps : (m : List Bool) (i k : ℕ) → IsTrue (slice_index_or m k false) → IsTrue (slice_index_or (slice_set m i true) k false)
set_keeps [] i k h = h
set_keeps (b ∷ m) zero zero h = refl
set_keeps (b ∷ m) zero (suc k) h = h
set_keeps (b ∷ m) (suc i) zero h = h
set_keeps (b ∷ m) (suc i) (suc k) h = set_keeps m i k h

set_hits : (m : List Bool) (i : ℕ) → i < length m → IsTrue (slice_index_or (slice_set m i true) i false)
set_hits [] i h = absurd (omega arith)
set_hits (b ∷ m) zero h = refl
set_hits (b ∷ m) (suc i) h = set_hits m i (omega arith)

set_cases : (m : List Bool) (i k : ℕ) → IsTrue (slice_index_or (slice_set m i true) k false) → IsTrue (slice_index_or m k false) ⊎ (i ≡ k)
set_cases [] i k h = inl h
set_cases (b ∷ m) zero zero h = inr refl
set_cases (b ∷ m) zero (suc k) h = inl h
set_cases (b ∷ m) (suc i) zero h = inl h
set_cases (b ∷ m) (suc i) (suc k) h = elim (set_cases m i k h) [ inl t ↦ inl t | inr e ↦ inr (ap (λ n. suc n) e) ]

-- Places: no two displacements of a box stand in one

pub gap_once : (l a b : ℤ) → l ≤ℤ a → l ≤ℤ b → int_gap l a ≡ int_gap l b → a ≡ b
gap_once l a b from also same =
    let one = gap_value l a from in
    let other = gap_value l b also in
    omega (arith, ints)

pub parts_once : (w a b x y : ℕ) → x < w → y < w → a * w + x ≡ b * w + y → (a ≡ b) × (x ≡ y)
parts_once w a b x y p q e =
    (sym (div-mul-add a w x p) ∙ ap (λ n. n / w) e ∙ div-mul-add b w y q, sym (mod-mul-add a w x p) ∙ ap (λ n. n % w) e ∙ mod-mul-add b w y q)

place_once : (e : Extent) (a b : Cell) → IsInBox e a → IsInBox e b → place_of e a ≡ place_of e b → a ≡ b
place_once e a b p q is =
    let l = e.least in
    let g = e.greatest in
    let outer = parts_once (wide_of e) (int_gap l.z a.z * deep_of e + int_gap l.y a.y) (int_gap l.z b.z * deep_of e + int_gap l.y b.y) (int_gap l.x a.x) (int_gap l.x b.x) (gap_lt l.x a.x g.x _ refl p.x_from p.x_to) (gap_lt l.x b.x g.x _ refl q.x_from q.x_to) is in
    let inner = parts_once (deep_of e) (int_gap l.z a.z) (int_gap l.z b.z) (int_gap l.y a.y) (int_gap l.y b.y) (gap_lt l.y a.y g.y _ refl p.y_from p.y_to) (gap_lt l.y b.y g.y _ refl q.y_from q.y_to) outer.0 in
    same_cell a b (gap_once l.x a.x b.x p.x_from q.x_from outer.1) (gap_once l.y a.y b.y p.y_from q.y_from inner.1) (gap_once l.z a.z b.z p.z_from q.z_from inner.0)

-- Ways from cell to cell

pub plus_minus : (x y : Cell) → plus x (minus y x) ≡ y
plus_minus x y = same_cell _ _ (omega (arith, ints)) (omega (arith, ints)) (omega (arith, ints))

pub minus_plus : (x d : Cell) → minus (plus x d) x ≡ d
minus_plus x d = same_cell _ _ (omega (arith, ints)) (omega (arith, ints)) (omega (arith, ints))

-- The marks of one cell

-- after the marks that there were are those of the displacements from a cell to these
abbrev pub Adds : Extent → List Bool → List Bool → Cell → List Cell → Type 0
Adds e old new from tos =
    (d : Cell) → IsMarked e new d ↔ (IsMarked e old d ⊎ Contains tos (plus from d))

-- one place more
pub sets_more : (old marks : List Bool) (first : ℕ) (places : List ℕ) (i x at_place : ℕ) → i < length places → at_place ≡ first + get_or places i x → at_place < length marks → SetsMarks old marks first (take i places) → SetsMarks old (slice_set marks at_place true) first (take (i + 1) places)
sets_more old marks first places i x at_place lt is inside sets =
    let place : ℕ = get_or places i x in
    let before : List ℕ = take i places in
    let new : List Bool = slice_set marks at_place true in
    let both : SetsMarks old new first (before ++ place ∷ []) = λ k. (
      λ m. elim (set_cases marks at_place k m) [
        | inl was ↦ elim ((sets k).0 was) [ inl o ↦ inl o | inr c ↦ inr (c.0, Contains-append_left before (place ∷ []) c.0 c.1, c.2) ]
        | inr same ↦ inr (place, Contains-push before place, sym same ∙ is)
      ],
      λ h. elim h [
        | inl o ↦ set_keeps marks at_place k ((sets k).1 (inl o))
        | inr c ↦
            elim (Contains-push_cases before place c.0 c.1) [
              | inl b ↦ set_keeps marks at_place k ((sets k).1 (inr (c.0, b, c.2)))
              | inr same ↦ subst (HasMark new) (is ∙ ap (λ (n : ℕ). first + n) same ∙ sym c.2) (set_hits marks at_place inside)
            ]
      ],
    ) in
    subst (SetsMarks old new first) (sym (take_more places i x lt)) both

-- all places
pub sets_all : (old marks : List Bool) (first : ℕ) (places : List ℕ) (i : ℕ) → length places ≤ i → SetsMarks old marks first (take i places) → SetsMarks old marks first places
sets_all old marks first places i le sets = subst (SetsMarks old marks first) (take_all i places le) sets

-- A place is a sum of two: from a cell to the least corner of the other hull, and from the greatest corner of this hull to the other cell

pub gap_sum : (l d a b : ℤ) → l ≤ℤ d → l ≤ℤ a → l ≤ℤ b → (d +ℤ l) ≡ (a +ℤ b) → int_gap l d ≡ int_gap l a + int_gap l b
gap_sum l d a b on also too is =
    let one = gap_value l d on in
    let two = gap_value l a also in
    let three = gap_value l b too in
    omega (arith, ints)

parts_sum : (deep wide x y z a b c : ℕ) → ((c + z) * deep + (b + y)) * wide + (a + x) ≡ ((c * deep + b) * wide + a) + ((z * deep + y) * wide + x)
parts_sum deep wide x y z a b c = omega arith

pub corner_sum : (l to from least greatest : ℤ) → l ≡ least -ℤ greatest → ((to -ℤ from) +ℤ l) ≡ ((least -ℤ from) +ℤ (to -ℤ greatest))
corner_sum l to from least greatest is = omega (arith, ints)

pub place_sum : (e : Extent) (from to greatest least : Cell) → e.least ≡ minus least greatest → IsInBox e (minus to from) → IsInBox e (minus least from) → IsInBox e (minus to greatest) → place_of e (minus to from) ≡ place_of e (minus least from) + place_of e (minus to greatest)
place_sum e from to greatest least corner whole one two =
    let l = e.least in
    let x = gap_sum l.x (to.x -ℤ from.x) (least.x -ℤ from.x) (to.x -ℤ greatest.x) whole.x_from one.x_from two.x_from (corner_sum l.x to.x from.x least.x greatest.x (ap (λ (c : Cell). c.x) corner)) in
    let y = gap_sum l.y (to.y -ℤ from.y) (least.y -ℤ from.y) (to.y -ℤ greatest.y) whole.y_from one.y_from two.y_from (corner_sum l.y to.y from.y least.y greatest.y (ap (λ (c : Cell). c.y) corner)) in
    let z = gap_sum l.z (to.z -ℤ from.z) (least.z -ℤ from.z) (to.z -ℤ greatest.z) whole.z_from one.z_from two.z_from (corner_sum l.z to.z from.z least.z greatest.z (ap (λ (c : Cell). c.z) corner)) in
    rw (x, y, z) (parts_sum (deep_of e) (wide_of e) _ _ _ _ _ _)

-- what has been set at the places of one cell's displacements to the others
pub adds_places : (e : Extent) (old new : List Bool) (from least greatest : Cell) (tos : List Cell) (first : ℕ) (places : List ℕ) → e.least ≡ minus least greatest → IsInBox e (minus least from) → All (λ to. IsInBox e (minus to from)) tos → All (λ to. IsInBox e (minus to greatest)) tos → first ≡ place_of e (minus least from) → places ≡ map (λ to. place_of e (minus to greatest)) tos → SetsMarks old new first places → Adds e old new from tos
adds_places e old new from least greatest tos first places corner low inside reach first_is places_are sets d =
    let place : Cell → ℕ = λ to. place_of e (minus to greatest) in
    let sum : (to : Cell) → Contains tos to → place_of e (minus to from) ≡ first + place to = λ to has.
    place_sum e from to greatest least corner (All-contains (λ (c : Cell). IsInBox e (minus c from)) tos to inside has) low (All-contains (λ (c : Cell). IsInBox e (minus c greatest)) tos to reach has) ∙ ap (λ (n : ℕ). n + place to) (sym first_is) in (
      λ m. elim ((sets (place_of e d)).0 m.marked) [
        | inl was ↦ inl (record { inside = m.inside; marked = was })
        | inr there ↦
            let r = Contains-from_map place tos there.0 (subst (λ (ns : List ℕ). Contains ns there.0) places_are there.1) in
            let same : minus r.0 from ≡ d = place_once e (minus r.0 from) d (All-contains (λ (c : Cell). IsInBox e (minus c from)) tos r.0 inside r.1) m.inside (sum r.0 r.1 ∙ ap (λ (n : ℕ). first + n) r.2 ∙ sym there.2) in
            inr (subst (Contains tos) (sym (plus_minus from r.0) ∙ ap (plus from) same) r.1)
      ],
      λ h. elim h [
        | inl o ↦ record { inside = o.inside; marked = (sets (place_of e d)).1 (inl o.marked) }
        | inr has ↦
            let to : Cell = plus from d in
            let way : minus to from ≡ d = minus_plus from d in
            let place_is : place_of e d ≡ first + place to = ap (place_of e) (sym way) ∙ sum to has in
            let has_place : Contains places (place to) = subst (λ (ns : List ℕ). Contains ns (place to)) (sym places_are) (Contains-map place tos to has) in
            record {
              inside = subst (IsInBox e) way (All-contains (λ (c : Cell). IsInBox e (minus c from)) tos to inside has);
              marked = (sets (place_of e d)).1 (inr (place to, has_place, place_is));
            }
      ],
    )

-- The boxes of two pieces

-- the place of a displacement is one of the table's
pub place_lt : (e : Extent) (d : Cell) → IsInBox e d → place_of e d < size_of e
place_lt e d h =
    let l = e.least in
    let g = e.greatest in
    mul-add-lt (int_gap l.z d.z * deep_of e + int_gap l.y d.y) (wide_of e) (int_gap l.x d.x) (deep_of e * high_of e)
    (mul-add-lt (int_gap l.z d.z) (deep_of e) (int_gap l.y d.y) (high_of e) (gap_lt l.z d.z g.z _ refl h.z_from h.z_to) (gap_lt l.y d.y g.y _ refl h.y_from h.y_to)) (gap_lt l.x d.x g.x _ refl h.x_from h.x_to)

-- the box of the displacements from the cells in one hull to those in another
pub record IsBoxOf (e hull other : Extent) (ps qs : List Cell) : Type 0 where
  pub corner : e.least ≡ minus other.least hull.greatest
  pub holds : (from to : Cell) → IsInBox hull from → IsInBox other to → IsInBox e (minus to from)
  pub hull_small : AreCorners 15 hull.least hull.greatest
  pub other_small : AreCorners 15 other.least other.greatest
  pub cells : All (IsInBox hull) ps
  pub others : All (IsInBox other) qs

pub is_box_of : (e hull other : Extent) (ps qs : List Cell) → AreDisplacements hull other e → IsHomeBox hull → IsHomeBox other → All (IsInBox hull) ps → All (IsInBox other) qs → IsBoxOf e hull other ps qs
is_box_of e hull other ps qs way small also cells others = record {
  corner = way.corner;
  holds = way.holds;
  hull_small = small.small;
  other_small = also.small;
  cells = cells;
  others = others;
}

pub least_inside : (l g : Cell) → AreCorners 15 l g → IsBetween l g l
least_inside l g corners = record {
  x_from = omega (arith, ints);
  x_to = corners.x_rises;
  y_from = omega (arith, ints);
  y_to = corners.y_rises;
  z_from = omega (arith, ints);
  z_to = corners.z_rises;
}

pub greatest_inside : (l g : Cell) → AreCorners 15 l g → IsBetween l g g
greatest_inside l g corners = record {
  x_from = corners.x_rises;
  x_to = omega (arith, ints);
  y_from = corners.y_rises;
  y_to = omega (arith, ints);
  z_from = corners.z_rises;
  z_to = omega (arith, ints);
}

-- from the greatest corner to the others
pub box_reach : (e hull other : Extent) (ps qs : List Cell) → IsBoxOf e hull other ps qs → All (λ to. IsInBox e (minus to hull.greatest)) qs
box_reach e hull other ps qs box =
    All-weaker (IsInBox other) (λ (to : Cell). IsInBox e (minus to hull.greatest)) (λ to has. box.holds hull.greatest to (greatest_inside hull.least hull.greatest box.hull_small) has) qs box.others

-- from a cell to the others
pub box_inside : (e hull other : Extent) (ps qs : List Cell) (i : ℕ) (x : Cell) → IsBoxOf e hull other ps qs → i < length ps → All (λ to. IsInBox e (minus to (get_or ps i x))) qs
box_inside e hull other ps qs i x box lt =
    All-weaker (IsInBox other) (λ (to : Cell). IsInBox e (minus to (get_or ps i x))) (λ to has. box.holds (get_or ps i x) to (All-get_or (IsInBox hull) ps i x lt box.cells) has) qs box.others

-- from a cell to the other least corner
pub box_low : (e hull other : Extent) (ps qs : List Cell) (i : ℕ) (x : Cell) → IsBoxOf e hull other ps qs → i < length ps → IsInBox e (minus other.least (get_or ps i x))
box_low e hull other ps qs i x box lt = box.holds (get_or ps i x) other.least (All-get_or (IsInBox hull) ps i x lt box.cells) (least_inside other.least other.greatest box.other_small)

-- each place is one of the table's
pub box_room : (e hull other : Extent) (ps qs : List Cell) (i first : ℕ) (x : Cell) (places : List ℕ) → IsBoxOf e hull other ps qs → i < length ps → first ≡ place_of e (minus other.least (get_or ps i x)) → places ≡ map (λ to. place_of e (minus to hull.greatest)) qs → All (λ n. first + n < size_of e) places
box_room e hull other ps qs i first x places box lt first_is places_are =
    let from : Cell = get_or ps i x in
    let place : Cell → ℕ = λ to. place_of e (minus to hull.greatest) in
    let inside = box_inside e hull other ps qs i x box lt in
    let reach = box_reach e hull other ps qs box in
    let low = box_low e hull other ps qs i x box lt in
    let each : All (λ to. first + place to < size_of e) qs = λ k d below.
    let to : Cell = get_or qs k d in
    let sum : place_of e (minus to from) ≡ first + place to = place_sum e from to hull.greatest other.least box.corner (inside k d below) low (reach k d below) ∙ ap (λ (n : ℕ). n + place to) (sym first_is) in
    subst (λ (n : ℕ). n < size_of e) sum (place_lt e (minus to from) (inside k d below)) in
    subst (All (λ (n : ℕ). first + n < size_of e)) (sym places_are) (All-map (λ (n : ℕ). first + n < size_of e) place qs each)

-- The marks of all cells

-- a table that is being made: marked are the displacements at which these cells overlap the others
pub record IsSoFar (e : Extent) (marks : List Bool) (ps qs : List Cell) : Type 0 where
  pub size : length marks ≡ size_of e
  pub table : AreOverlapsOf (IsMarked e marks) ps qs

-- one cell more
pub so_far_more : (e : Extent) (marks new : List Bool) (ps qs : List Cell) (i : ℕ) (x : Cell) → i < length ps → length new ≡ length marks → Adds e marks new (get_or ps i x) qs → IsSoFar e marks (take i ps) qs → IsSoFar e new (take (i + 1) ps) qs
so_far_more e marks new ps qs i x lt size adds so_far =
    let p : Cell = get_or ps i x in
    let before : List Cell = take i ps in
    let both : AreOverlapsOf (IsMarked e new) (before ++ p ∷ []) qs = λ d. (
      λ m. elim ((adds d).0 m) [
        | inl was ↦
            let r = blocked_gives before qs d ((so_far.table d).0 was) in
            blocked_from (before ++ p ∷ []) qs d r.0 (Contains-append_left before (p ∷ []) r.0 r.1) r.2
        | inr there ↦ blocked_from (before ++ p ∷ []) qs d p (Contains-push before p) there
      ],
      λ b.
          let r = blocked_gives (before ++ p ∷ []) qs d b in
          elim (Contains-push_cases before p r.0 r.1) [
            | inl in_before ↦ (adds d).1 (inl ((so_far.table d).1 (blocked_from before qs d r.0 in_before r.2)))
            | inr same ↦ (adds d).1 (inr (subst (λ (c : Cell). Contains qs (plus c d)) (sym same) r.2))
          ],
    ) in
    record {
      size = size ∙ so_far.size;
      table = subst (λ (cs : List Cell). AreOverlapsOf (IsMarked e new) cs qs) (sym (take_more ps i x lt)) both;
    }

-- all cells
pub so_far_all : (e : Extent) (marks : List Bool) (ps qs : List Cell) (i : ℕ) → length ps ≤ i → IsSoFar e marks (take i ps) qs → AreOverlapsOf (IsMarked e marks) ps qs
so_far_all e marks ps qs i le so_far = subst (λ (cs : List Cell). AreOverlapsOf (IsMarked e marks) cs qs) (take_all i ps le) so_far.table
