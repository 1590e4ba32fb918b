-- The points of a box under guards are listed each once, rising, and no other.
use Rattle.std.proofs.Common.{◌≡◌, suc, Bool, true, false, cond, List, [], ◌∷◌, ◌++◌, map, filter, All, Contains, refl, subst, inl, inr, ◌<ℤ◌}
use Rattle.std.specs.Prelude.{ℤ, slice_index_or}
use Rattle.std.specs.Int.{int_gap}
use Rattle.std.proofs.lemmas.List.Elements.{All-nil, All-cons, All-head, All-tail, All-weaker, All-append, All-map, All-filter, filter_passes, Contains-append_left, Contains-append_right}
use Rattle.burr_forms.specs.Rules.Forms.{Form, Point}
use Rattle.burr_forms.specs.Rules.Points.{IsPointOf, IsRange, AreRanges, InRange, InBox, GuardsHold, Precedes, above, beginning_with, box_points, guards_hold, points_of}
use Rattle.burr_forms.specs.Laws.PointLaws.{IsRising, ThePointsAreGiven}
use Rattle.burr_forms.proofs.Containing.{contains_first, contains_none, contains_image, contains_passing, first_or_after}
use Rattle.burr_forms.proofs.Counting.{IsAscending, all_in_range, contains_in_range, count_ascends}
use Rattle.burr_forms.proofs.GuardTests.{hold_from_test, test_from_hold}

-- Points that begin with one of some numbers

all_beginning : (P : Point → Type 0) (xs : List ℤ) (points : List Point)
    → All (λ x. All (λ p. P (x ∷ p)) points) xs → All P (beginning_with xs points)
all_beginning P [] points h = All-nil P
all_beginning P (x ∷ xs) points h =
    All-append P (map (λ p. x ∷ p) points) (beginning_with xs points)
    (All-map P (λ p. x ∷ p) points (All-head (λ y. All (λ p. P (y ∷ p)) points) x xs h))
    (all_beginning P xs points (All-tail (λ y. All (λ p. P (y ∷ p)) points) x xs h))

contains_beginning : (xs : List ℤ) (points : List Point) (x : ℤ) (point : Point)
    → Contains xs x → Contains points point → Contains (beginning_with xs points) (x ∷ point)
contains_beginning [] points x point h k = absurd (contains_none x h)
contains_beginning (y ∷ xs) points x point h k = elim (first_or_after y x xs h) [
  | inl e ↦ subst (λ z. Contains (beginning_with (y ∷ xs) points) (z ∷ point)) e
      (Contains-append_left (map (λ p. y ∷ p) points) (beginning_with xs points) (y ∷ point)
      (contains_image (λ p. y ∷ p) points point k))
  | inr rest ↦ Contains-append_right (map (λ p. y ∷ p) points) (beginning_with xs points) (x ∷ point)
      (contains_beginning xs points x point rest k)
]

rising_append : (ps qs : List Point) → IsRising ps → IsRising qs → All (λ p. All (Precedes p) qs) ps
    → IsRising (ps ++ qs)
rising_append [] qs r s h = s
rising_append (p ∷ ps) qs r s h = (
  All-append (Precedes p) ps qs r.0 (All-head (λ q. All (Precedes q) qs) p ps h),
  rising_append ps qs r.1 s (All-tail (λ q. All (Precedes q) qs) p ps h),
)

rising_in_front : (x : ℤ) (points : List Point) → IsRising points → IsRising (map (λ p. x ∷ p) points)
rising_in_front x [] r = tt
rising_in_front x (p ∷ points) r = (
  All-map (Precedes (x ∷ p)) (λ q. x ∷ q) points
      (All-weaker (Precedes p) (λ q. Precedes (x ∷ p) (x ∷ q)) (λ q h. inr (refl, h)) points r.0),
  rising_in_front x points r.1,
)

before_greater : (x : ℤ) (point : Point) (xs : List ℤ) (points : List Point) → All (λ y. x <ℤ y) xs
    → All (Precedes (x ∷ point)) (beginning_with xs points)
before_greater x point xs points h =
    all_beginning (Precedes (x ∷ point)) xs points
    (All-weaker (λ y. x <ℤ y) (λ y. All (λ q. Precedes (x ∷ point) (y ∷ q)) points)
    (λ y l k d inside. inl l) xs h)

rising_beginning : (xs : List ℤ) (points : List Point) → IsAscending xs → IsRising points
    → IsRising (beginning_with xs points)
rising_beginning [] points a r = tt
rising_beginning (x ∷ xs) points a r =
    rising_append (map (λ p. x ∷ p) points) (beginning_with xs points) (rising_in_front x points r)
    (rising_beginning xs points a.1 r)
    (All-map (λ p. All (Precedes p) (beginning_with xs points)) (λ p. x ∷ p) points
    (λ k d inside. before_greater x (slice_index_or points k d) xs points a.0))

-- Points of a box

all_in_box : (ranges : List (ℤ × ℤ)) → AreRanges ranges → All (InBox ranges) (box_points ranges)
all_in_box [] r = All-cons (InBox []) [] [] tt (All-nil (InBox []))
all_in_box (range ∷ ranges) r =
    let after = all_in_box ranges (All-tail IsRange range ranges r) in
    all_beginning (InBox (range ∷ ranges)) (range.0 ∷ above range.0 range.1) (box_points ranges)
    (All-weaker (InRange range) (λ x. All (λ p. InBox (range ∷ ranges) (x ∷ p)) (box_points ranges))
    (λ x here k d inside. (here, after k d inside)) (range.0 ∷ above range.0 range.1)
    (all_in_range range (All-head IsRange range ranges r).rising))

contains_in_box : (ranges : List (ℤ × ℤ)) (point : Point) → AreRanges ranges → InBox ranges point
    → Contains (box_points ranges) point
contains_in_box [] [] r b = contains_first [] []
contains_in_box [] (x ∷ point) r b = absurd b
contains_in_box (range ∷ ranges) [] r b = absurd b
contains_in_box (range ∷ ranges) (x ∷ point) r b =
    contains_beginning (range.0 ∷ above range.0 range.1) (box_points ranges) x point
    (contains_in_range range (All-head IsRange range ranges r).rising x b.0)
    (contains_in_box ranges point (All-tail IsRange range ranges r) b.1)

box_rises : (ranges : List (ℤ × ℤ)) → IsRising (box_points ranges)
box_rises [] = (All-nil (Precedes []), tt)
box_rises (range ∷ ranges) =
    rising_beginning (range.0 ∷ above range.0 range.1) (box_points ranges)
    (count_ascends range.0 (suc (int_gap range.0 range.1))) (box_rises ranges)

-- Under guards

module _ (test : Point → Bool) where
  rising_where : (b : Bool) (point : Point) (points : List Point) → All (Precedes point) points → IsRising points
      → IsRising (cond b (point ∷ points) points)
  rising_where true point points h r = (h, r)
  rising_where false point points h r = r

  rising_filter : (points : List Point) → IsRising points → IsRising (filter test points)
  rising_filter [] r = tt
  rising_filter (p ∷ points) r =
      rising_where (test p) p (filter test points) (All-filter test (Precedes p) points r.0) (rising_filter points r.1)

module _ (ranges : List (ℤ × ℤ)) (guards : List Form) (r : AreRanges ranges) where
  all_hold : All (GuardsHold guards) (points_of ranges guards)
  all_hold =
      All-weaker (λ p. guards_hold guards p ≡ true) (GuardsHold guards) (hold_from_test guards)
      (points_of ranges guards) (filter_passes (guards_hold guards) (box_points ranges))

  all_inside : All (IsPointOf ranges guards) (points_of ranges guards)
  all_inside k d inside = (
    All-filter (guards_hold guards) (InBox ranges) (box_points ranges) (all_in_box ranges r) k d inside,
    all_hold k d inside,
  )

  contains_each : (point : Point) → IsPointOf ranges guards point → Contains (points_of ranges guards) point
  contains_each point h =
      contains_passing (guards_hold guards) (box_points ranges) point (contains_in_box ranges point r h.0)
      (test_from_hold guards point h.1)

pub the_points_are_given : ThePointsAreGiven
the_points_are_given ranges guards r =
    record {
      inside = all_inside ranges guards r;
      each = contains_each ranges guards r;
      rising = rising_filter (guards_hold guards) (box_points ranges) (box_rises ranges);
    }
