-- For crates above: the points of a box are finitely many: at one a condition fails first, or it
-- holds at all.
use Rattle.std.proofs.Common.{◌≡◌, ◌⊎◌, ℕ, ◌+◌, ◌<◌, ◌≤◌, ℤ, List, [], ◌∷◌, sym, subst, inl, inr, arith}
use Rattle.std.specs.Prelude.{pos, negsuc, ◌+ℤ◌, ◌≤ℤ◌, ◌<ℤ◌}
use Rattle.std.specs.Int.{int_gap}
use Rattle.std.proofs.lemmas.Int.{ints}
use Rattle.burr_text.proofs.Common.Decisions.{Decided, decided_and, decided_not, decide_below, decide_first_below, decide_all}
use Rattle.burr_code.proofs.Common.Orders.{decide_le}
use Rattle.burr_forms.specs.Rules.Forms.{Form, Point, value}
use Rattle.burr_forms.specs.Rules.Points.{InRange, InBox, GuardsHold, Precedes}
use Rattle.burr_frames.specs.Rules.States.{AbstractState, Everywhere, IsFirstFailing}
use Rattle.burr_frames.specs.Rules.Verdicts.{IsFirstPair}
use Rattle.burr_code.proofs.Common.Conditions.{decide_all_numbers}

pub decide_in_box : (ranges : List (ℤ × ℤ)) (point : Point) → Decided (InBox ranges point)
decide_in_box [] [] = inl tt
decide_in_box [] (x ∷ point) = inr (λ h. h)
decide_in_box (range ∷ ranges) [] = inr (λ h. h)
decide_in_box (range ∷ ranges) (x ∷ point) =
    decided_and (decided_and (decide_le range.0 x) (decide_le x range.1)) (decide_in_box ranges point)

pub decide_guards : (guards : List Form) (point : Point) → Decided (GuardsHold guards point)
decide_guards guards point = decide_all (λ g. pos 0 ≤ℤ value point g) (λ g. decide_le (pos 0) (value point g)) guards

-- the first point of a box that is so
abbrev FirstIn : List (ℤ × ℤ) → (Point → Type 0) → Point → Type 0
FirstIn ranges Q point = InBox ranges point × Q point × ((q : Point) → InBox ranges q → Precedes q point → ¬ Q q)

abbrev Search : List (ℤ × ℤ) → (Point → Type 0) → Type 0
Search ranges Q = ((point : Point) × FirstIn ranges Q point) ⊎ ((point : Point) → InBox ranges point → ¬ Q point)

decided_of_search : (ranges : List (ℤ × ℤ)) (Q : Point → Type 0) → Search ranges Q
    → Decided ((point : Point) × FirstIn ranges Q point)
decided_of_search ranges Q (inl found) = inl found
decided_of_search ranges Q (inr none) = inr (λ found. none found.0 found.1.0 found.1.1)

none_of_search : (ranges : List (ℤ × ℤ)) (Q : Point → Type 0) → Search ranges Q
    → (¬ ((point : Point) × FirstIn ranges Q point)) → (point : Point) → InBox ranges point → ¬ Q point
none_of_search ranges Q (inl found) refuted = absurd (refuted found)
none_of_search ranges Q (inr none) refuted = none

-- what is decided holds where it can't fail
certain : {P : Type 0} → Decided P → (¬ (¬ P)) → P
certain (inl p) refuted = p
certain (inr h) refuted = absurd (refuted h)

-- a number in a range is so far above its lower end
gap_is : (low x : ℤ) → low ≤ℤ x → x ≡ (low +ℤ pos (int_gap low x))
gap_is (pos a) (pos b) h = omega (arith, ints, h)
gap_is (pos a) (negsuc b) h = absurd (omega (arith, ints, h))
gap_is (negsuc a) (pos b) h = omega (arith, ints, h)
gap_is (negsuc a) (negsuc b) h = omega (arith, ints, h)

gap_below : (low high : ℤ) (k : ℕ) → (low +ℤ pos k) ≤ℤ high → k < int_gap low high + 1
gap_below (pos a) (pos b) k h = omega (arith, ints, h)
gap_below (pos a) (negsuc b) k h = absurd (omega (arith, ints, h))
gap_below (negsuc a) (pos b) k h = omega (arith, ints, h)
gap_below (negsuc a) (negsuc b) k h = omega (arith, ints, h)

below_of_sum : (low : ℤ) (j k : ℕ) → (low +ℤ pos j) <ℤ (low +ℤ pos k) → j < k
below_of_sum low j k h = omega (arith, ints, h)

-- one number of a range after the other, and the points after each
first_of_range : (range : ℤ × ℤ) (ranges : List (ℤ × ℤ)) (Q : Point → Type 0)
    → ((x : ℤ) → Search ranges (λ p. Q (x ∷ p))) → Search (range ∷ ranges) Q
first_of_range range ranges Q after = by_first (decide_first_below IsAt each (int_gap range.0 range.1 + 1))
  where
    IsAt : ℕ → Type 0
    IsAt k = InRange range (range.0 +ℤ pos k) × ((p : Point) × FirstIn ranges (λ p. Q ((range.0 +ℤ pos k) ∷ p)) p)

    each : (k : ℕ) → Decided (IsAt k)
    each k =
        decided_and (decided_and (decide_le _ _) (decide_le _ _))
        (decided_of_search ranges (λ p. Q ((range.0 +ℤ pos k) ∷ p)) (after (range.0 +ℤ pos k)))

    none_at : (k : ℕ) → (¬ IsAt k) → InRange range (range.0 +ℤ pos k) → (p : Point) → InBox ranges p
        → ¬ Q ((range.0 +ℤ pos k) ∷ p)
    none_at k refuted within =
        none_of_search ranges (λ p. Q ((range.0 +ℤ pos k) ∷ p)) (after (range.0 +ℤ pos k))
        (λ found. refuted (within, found))

    at_gap : (x : ℤ) (p : Point) → InRange range x → (k : ℕ) → x ≡ (range.0 +ℤ pos k) → (¬ IsAt k) → InBox ranges p
        → ¬ Q (x ∷ p)
    at_gap x p within k e refuted here q =
        none_at k refuted (subst (λ (y : ℤ). InRange range y) e within) p here (subst (λ (y : ℤ). Q (y ∷ p)) e q)

    earlier : (k : ℕ) (p : Point) → IsAt k → ((j : ℕ) → j < k → ¬ IsAt j)
        → FirstIn ranges (λ q. Q ((range.0 +ℤ pos k) ∷ q)) p → (q : Point) → InBox (range ∷ ranges) q
        → Precedes q ((range.0 +ℤ pos k) ∷ p) → ¬ Q q
    earlier k p is least first [] here before = absurd here
    earlier k p is least first (y ∷ q) here (inl l) =
        let e = gap_is range.0 y here.0.0 in
        at_gap y q here.0 (int_gap range.0 y) e
        (least (int_gap range.0 y) (below_of_sum range.0 (int_gap range.0 y) k
        (subst (λ (z : ℤ). z <ℤ (range.0 +ℤ pos k)) e l))) here.1
    earlier k p is least first (y ∷ q) here (inr (e, l)) = λ h. first.2 q here.1 l (subst (λ (z : ℤ). Q (z ∷ q)) e h)

    by_first : ((k : ℕ) × (k < int_gap range.0 range.1 + 1) × IsAt k × ((j : ℕ) → j < k → ¬ IsAt j))
        ⊎ ((k : ℕ) → k < int_gap range.0 range.1 + 1 → ¬ IsAt k) → Search (range ∷ ranges) Q
    by_first (inl (k, below, is, least)) =
        inl ((range.0 +ℤ pos k) ∷ is.1.0, ((is.0, is.1.1.0), is.1.1.1, earlier k is.1.0 is least is.1.1))
    by_first (inr none) = inr all
      where
        all : (point : Point) → InBox (range ∷ ranges) point → ¬ Q point
        all [] here = absurd here
        all (x ∷ p) here =
            let e = gap_is range.0 x here.0.0 in
            at_gap x p here.0 (int_gap range.0 x) e
            (none (int_gap range.0 x) (gap_below range.0 range.1 (int_gap range.0 x)
            (subst (λ (z : ℤ). z ≤ℤ range.1) e here.0.1))) here.1

first_in_box : (ranges : List (ℤ × ℤ)) (Q : Point → Type 0) → ((x : Point) → Decided (Q x)) → Search ranges Q
first_in_box [] Q each = elim (each []) [ inl q ↦ inl ([], (tt, q, none_before)) | inr refuted ↦ inr (only refuted) ]
  where
    none_before : (q : Point) → InBox [] q → Precedes q [] → ¬ Q q
    none_before [] here before = absurd before
    none_before (x ∷ q) here before = absurd here

    only : (¬ Q []) → (point : Point) → InBox [] point → ¬ Q point
    only refuted [] here = refuted
    only refuted (x ∷ point) here = absurd here
first_in_box (range ∷ ranges) Q each =
    first_of_range range ranges Q (λ x. first_in_box ranges (λ p. Q (x ∷ p)) (λ p. each (x ∷ p)))

-- A condition that is decided at each point fails first at a point, or holds at all.
pub first_failing : (s : AbstractState) (P : Point → Type 0) → ((point : Point) → Decided (P point))
    → ((point : Point) × IsFirstFailing s P point) ⊎ Everywhere s P
first_failing s P each = elim (first_in_box s.ranges (λ x. GuardsHold s.guards x × (¬ P x)) (λ x. decided_and (decide_guards s.guards x) (decided_not (each x)))) [
  | inl (point, found) ↦
      inl (
        point,
        record {
          is_point = (found.0, found.1.0);
          fails = found.1.1;
          before = λ q is before. certain (each q) (λ fails. found.2 q is.0 before (is.1, fails));
        },
      )
  | inr none ↦ inr (λ point is. certain (each point) (λ fails. none point is.0 (is.1, fails)))
]

-- Pairs

-- A condition on pairs that holds of pairs with a number from a bound on fails first for a pair, or
-- holds of all.
pub first_pair : (P : ℕ → ℕ → Type 0) → ((p q : ℕ) → Decided (P p q)) → (bound : ℕ) → ((p q : ℕ) → bound ≤ p → P p q)
    → ((p q : ℕ) → bound ≤ q → P p q)
    → ((p q : ℕ) × IsFirstPair P p q) ⊎ ((p q : ℕ) → P p q)
first_pair P each bound past_p past_q = elim (decide_first_below (λ p. ¬ ((q : ℕ) → P p q)) (λ p. decided_not (row p)) bound) [
  | inl (p, below, fails, rows) ↦ inl (in_row p fails rows)
  | inr none ↦ inr (λ p q. elim (decide_below p bound) [
    | inl below ↦ certain (row p) (none p below) q
    | inr far ↦ past_p p q (omega arith)
  ])
]
  where
    row : (p : ℕ) → Decided ((q : ℕ) → P p q)
    row p = decide_all_numbers (P p) (each p) bound (past_q p)

    in_row : (p : ℕ) → (¬ ((q : ℕ) → P p q)) → ((j : ℕ) → j < p → ¬ (¬ ((q : ℕ) → P j q))) → (p q : ℕ) × IsFirstPair P p q
    in_row p fails rows = elim (decide_first_below (λ q. ¬ P p q) (λ q. decided_not (each p q)) bound) [
      | inl (q, below, refuted, least) ↦ (
        p,
        q,
        (
          refuted,
          λ r t earlier. elim earlier [
            | inl l ↦ certain (row r) (rows r l) t
            | inr (e, l) ↦ subst (λ (k : ℕ). P k t) (sym e) (certain (each p t) (least t l))
          ],
        ),
      )
      | inr none ↦ absurd (fails (λ q. elim (decide_below q bound) [
        | inl below ↦ certain (each p q) (none q below)
        | inr far ↦ past_q p q (omega arith)
      ]))
    ]
