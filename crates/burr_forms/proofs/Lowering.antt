-- Points of a box whose symbols that do not matter have their lowest values.
use Rattle.std.proofs.Common.{◌≡◌, ℕ, suc, List, [], ◌∷◌, ◌++◌, length, Option, Some, None, refl, ap, sym, ◌∙◌, subst, arith, ◌≤ℤ◌, ◌<ℤ◌, ◌⊎◌, inl, inr, slice_index_or, pos}
use Rattle.std.specs.Prelude.{ℤ, ◌+ℤ◌, ◌*ℤ◌, MatchOption}
use Rattle.std.proofs.lemmas.Int.{ints, by_lt_z}
use Rattle.std.proofs.lemmas.List.Elements.{All-head, All-tail, All-nil, All-cons}
use Rattle.burr_forms.specs.Rules.Forms.{Form, Point, dot, values}
use Rattle.burr_forms.specs.Rules.Points.{IsRange, InRange, InBox, IsPointOf, AreRanges, Precedes}
use Rattle.burr_forms.specs.Rules.Conditions.{region, Throughout, FailsFirstAt, NoneNegative, at_values}
use Rattle.burr_forms.specs.Views.Searching.{step_of, AllLack, AreNarrowRanges, IsNarrowRange}
use Rattle.burr_forms.proofs.Orders.{IsUpTo}
use Rattle.burr_forms.proofs.Search.{to_guards, from_guards}

-- Ranges

range_narrowed : (range n : ℤ × ℤ) (Free : Type 0) → IsRange range → IsNarrowRange Free range n → IsRange n
range_narrowed range n Free r (inl same) = subst IsRange (sym same) r
range_narrowed range n Free r (inr lowest) =
    let rising = r.rising in
    let low = r.low in
    let high = r.high in
    subst IsRange (sym lowest.0) (record { rising = omega (arith, ints); low = low; high = omega (arith, ints) })

pub ranges_narrowed : (IsFree : ℕ → Type 0) (ranges narrowed : List (ℤ × ℤ)) → AreRanges ranges
    → AreNarrowRanges IsFree ranges narrowed → AreRanges narrowed
ranges_narrowed IsFree [] [] r is = All-nil IsRange
ranges_narrowed IsFree [] (n ∷ narrowed) r is = absurd is
ranges_narrowed IsFree (range ∷ ranges) [] r is = absurd is
ranges_narrowed IsFree (range ∷ ranges) (n ∷ narrowed) r is =
    All-cons IsRange n narrowed (range_narrowed range n (IsFree 0) (All-head IsRange range ranges r) is.0)
    (ranges_narrowed (λ k. IsFree (suc k)) ranges narrowed (All-tail IsRange range ranges r) is.1)

pub as_many_narrowed : (IsFree : ℕ → Type 0) (ranges narrowed : List (ℤ × ℤ)) → AreNarrowRanges IsFree ranges narrowed
    → length narrowed ≡ length ranges
as_many_narrowed IsFree [] [] is = refl
as_many_narrowed IsFree [] (n ∷ narrowed) is = absurd is
as_many_narrowed IsFree (range ∷ ranges) [] is = absurd is
as_many_narrowed IsFree (range ∷ ranges) (n ∷ narrowed) is =
    ap suc (as_many_narrowed (λ k. IsFree (suc k)) ranges narrowed is.1)

-- one range more after
pub narrowed_on : (IsFree : ℕ → Type 0) (ranges narrowed : List (ℤ × ℤ)) (range n : ℤ × ℤ) → AreNarrowRanges IsFree ranges narrowed
    → IsNarrowRange (IsFree (length ranges)) range n → AreNarrowRanges IsFree (ranges ++ range ∷ []) (narrowed ++ n ∷ [])
narrowed_on IsFree [] [] range n is one = (one, tt)
narrowed_on IsFree [] (m ∷ narrowed) range n is one = absurd is
narrowed_on IsFree (first ∷ ranges) [] range n is one = absurd is
narrowed_on IsFree (first ∷ ranges) (m ∷ narrowed) range n is one =
    (is.0, narrowed_on (λ k. IsFree (suc k)) ranges narrowed range n is.1 one)

-- A point of the narrower box is one of the box.

in_range : (range n : ℤ × ℤ) (Free : Type 0) (x : ℤ) → IsRange range → IsNarrowRange Free range n → InRange n x → InRange range x
in_range range n Free x r (inl same) in_it = subst (λ (m : ℤ × ℤ). InRange m x) same in_it
in_range range n Free x r (inr lowest) in_it =
    let rising = r.rising in
    let there : InRange (range.0, range.0) x = subst (λ (m : ℤ × ℤ). InRange m x) lowest.0 in_it in
    let low = there.0 in
    let high = there.1 in
    (low, omega (arith, ints))

in_box : (IsFree : ℕ → Type 0) (ranges narrowed : List (ℤ × ℤ)) (point : Point) → AreRanges ranges
    → AreNarrowRanges IsFree ranges narrowed → InBox narrowed point → InBox ranges point
in_box IsFree [] [] point r is b = b
in_box IsFree [] (n ∷ narrowed) point r is b = absurd is
in_box IsFree (range ∷ ranges) [] point r is b = absurd is
in_box IsFree (range ∷ ranges) (n ∷ narrowed) [] r is b = absurd b
in_box IsFree (range ∷ ranges) (n ∷ narrowed) (x ∷ point) r is b = (
  in_range range n (IsFree 0) x (All-head IsRange range ranges r) is.0 b.0,
  in_box (λ k. IsFree (suc k)) ranges narrowed point (All-tail IsRange range ranges r) is.1 b.1,
)

-- A point of the box has one of the narrower box that comes no later and differs where it does not matter.

abbrev SameBut : (ℕ → Type 0) → Point → Point → Type 0
SameBut IsFree [] [] = Unit {0}
SameBut IsFree [] (x ∷ point) = ⊥
SameBut IsFree (y ∷ q) [] = ⊥
SameBut IsFree (y ∷ q) (x ∷ point) = ((y ≡ x) ⊎ IsFree 0) × SameBut (λ k. IsFree (suc k)) q point

record Lowered (IsFree : ℕ → Type 0) (narrowed : List (ℤ × ℤ)) (point : Point) : Type 0 where
  to : Point
  inside : InBox narrowed to
  up_to : IsUpTo to point
  same : SameBut IsFree to point

-- the number of one place
record LoweredTo (n : ℤ × ℤ) (x : ℤ) (Free : Type 0) : Type 0 where
  to : ℤ
  inside : InRange n to
  up_to : (to <ℤ x) ⊎ (to ≡ x)
  same : (to ≡ x) ⊎ Free

below_or_same : (low x : ℤ) → low ≤ℤ x → (low <ℤ x) ⊎ (low ≡ x)
below_or_same low x l = by_lt_z low x (λ below. inl below) (λ not. inr (omega (arith, ints)))

lowered_to : (range n : ℤ × ℤ) (Free : Type 0) (x : ℤ) → IsRange range → IsNarrowRange Free range n → InRange range x → LoweredTo n x Free
lowered_to range n Free x r (inl same) in_it =
    record { to = x; inside = subst (λ (m : ℤ × ℤ). InRange m x) (sym same) in_it; up_to = inr refl; same = inl refl }
lowered_to range n Free x r (inr lowest) in_it =
    let low = in_it.0 in
    let there : InRange (range.0, range.0) range.0 = (omega (arith, ints), omega (arith, ints)) in
    record {
      to = range.0;
      inside = subst (λ (m : ℤ × ℤ). InRange m range.0) (sym lowest.0) there;
      up_to = below_or_same range.0 x low;
      same = inr lowest.1;
    }

ahead : (y x : ℤ) (q point : Point) → (y <ℤ x) ⊎ (y ≡ x) → IsUpTo q point → IsUpTo (y ∷ q) (x ∷ point)
ahead y x q point (inl below) up = inr (inl below)
ahead y x q point (inr same) (inl all) = inl (ap (λ z. z ∷ q) same ∙ ap (λ rest. x ∷ rest) all)
ahead y x q point (inr same) (inr before) = inr (inr (same, before))

lowered : (IsFree : ℕ → Type 0) (ranges narrowed : List (ℤ × ℤ)) (point : Point) → AreRanges ranges
    → AreNarrowRanges IsFree ranges narrowed → InBox ranges point → Lowered IsFree narrowed point
lowered IsFree [] [] [] r is b = record { to = []; inside = tt; up_to = inl refl; same = tt }
lowered IsFree [] [] (x ∷ point) r is b = absurd b
lowered IsFree [] (n ∷ narrowed) point r is b = absurd is
lowered IsFree (range ∷ ranges) [] point r is b = absurd is
lowered IsFree (range ∷ ranges) (n ∷ narrowed) [] r is b = absurd b
lowered IsFree (range ∷ ranges) (n ∷ narrowed) (x ∷ point) r is b =
    let first = lowered_to range n (IsFree 0) x (All-head IsRange range ranges r) is.0 b.0 in
    let rest = lowered (λ k. IsFree (suc k)) ranges narrowed point (All-tail IsRange range ranges r) is.1 b.1 in
    record {
      to = first.to ∷ rest.to;
      inside = (first.inside, rest.inside);
      up_to = ahead first.to x rest.to point first.up_to rest.up_to;
      same = (first.same, rest.same);
    }

-- what comes before a point, comes before each that is no earlier
before_later : (q p later : Point) → IsUpTo q p → Precedes p later → Precedes q later
before_later q p later (inl same) before = subst (λ (x : Point). Precedes x later) (sym same) before
before_later q p later (inr first) before = chained q p later first before
  where
    below : (a b c : ℤ) → a <ℤ b → b <ℤ c → a <ℤ c
    below a b c l m = omega (arith, ints)

    chained : (q p later : Point) → Precedes q p → Precedes p later → Precedes q later
    chained [] p later first before = absurd first
    chained (a ∷ q) [] later first before = absurd first
    chained (a ∷ q) (b ∷ p) [] first before = absurd before
    chained (a ∷ q) (b ∷ p) (c ∷ later) (inl l) (inl m) = inl (below a b c l m)
    chained (a ∷ q) (b ∷ p) (c ∷ later) (inl l) (inr m) = inl (subst (λ (z : ℤ). a <ℤ z) m.0 l)
    chained (a ∷ q) (b ∷ p) (c ∷ later) (inr l) (inl m) = inl (subst (λ (z : ℤ). z <ℤ c) (sym l.0) m)
    chained (a ∷ q) (b ∷ p) (c ∷ later) (inr l) (inr m) = inr (l.0 ∙ m.0, chained q p later l.1 m.1)

-- Values

no_term : (c y x a b : ℤ) → c ≡ pos 0 → a ≡ b → ((c *ℤ y) +ℤ a) ≡ ((c *ℤ x) +ℤ b)
no_term c y x a b none same = rw (none, same) (omega (arith, ints))

same_dot : (IsFree : ℕ → Type 0) (coefs : List ℤ) (q point : Point) → SameBut IsFree q point
    → ((k : ℕ) → IsFree k → slice_index_or coefs k (pos 0) ≡ pos 0) → dot coefs q ≡ dot coefs point
same_dot IsFree [] q point same none = refl
same_dot IsFree (c ∷ coefs) [] [] same none = refl
same_dot IsFree (c ∷ coefs) [] (x ∷ point) same none = absurd same
same_dot IsFree (c ∷ coefs) (y ∷ q) [] same none = absurd same
same_dot IsFree (c ∷ coefs) (y ∷ q) (x ∷ point) same none =
    one same.0 (same_dot (λ k. IsFree (suc k)) coefs q point same.1 (λ k free. none (suc k) free))
  where
    one : (y ≡ x) ⊎ IsFree 0 → dot coefs q ≡ dot coefs point → ((c *ℤ y) +ℤ dot coefs q) ≡ ((c *ℤ x) +ℤ dot coefs point)
    one (inl here) rest = rw (here, rest) refl
    one (inr free) rest = no_term c y x (dot coefs q) (dot coefs point) (none 0 free) rest

same_values : (IsFree : ℕ → Type 0) (forms : List Form) (q point : Point) → SameBut IsFree q point
    → ((k : ℕ) → IsFree k → AllLack k forms) → values q forms ≡ values point forms
same_values IsFree [] q point same lack = refl
same_values IsFree (f ∷ forms) q point same lack =
    let none : (k : ℕ) → IsFree k → slice_index_or f.coefs k (pos 0) ≡ pos 0 =
    λ k free. All-head (λ (g : Form). step_of k g ≡ pos 0) f forms (lack k free) in
    let rest = same_values IsFree forms q point same
    (λ k free. All-tail (λ (g : Form). step_of k g ≡ pos 0) f forms (lack k free)) in
    rw (same_dot IsFree f.coefs q point same none, rest) refl

-- The search of the narrower box is that of the box.

module _ (ranges narrowed : List (ℤ × ℤ)) (guards forms : List Form) (P : List ℤ → Type 0) (r : AreRanges ranges)
    (is : AreNarrowRanges (λ k. AllLack k guards × AllLack k forms) ranges narrowed) where
  abbrev IsFree : ℕ → Type 0
  IsFree k = AllLack k guards × AllLack k forms

  low : (point : Point) → IsPointOf ranges guards point → Lowered IsFree narrowed point
  low point b = lowered IsFree ranges narrowed point r is b.0

  low_inside : (point : Point) (b : IsPointOf ranges guards point) → IsPointOf narrowed guards (low point b).to
  low_inside point b =
      let l = low point b in (
        l.inside,
        to_guards guards l.to (subst NoneNegative (sym (same_values IsFree guards l.to point l.same (λ k free. free.0)))
            (from_guards guards point b.1)),
      )

  from_low : (point : Point) (b : IsPointOf ranges guards point) → at_values P forms (low point b).to → at_values P forms point
  from_low point b holds =
      let l = low point b in
      subst P (same_values IsFree forms l.to point l.same (λ k free. free.1)) holds

  pub throughout : Throughout (region narrowed guards) (at_values P forms) → Throughout (region ranges guards) (at_values P forms)
  throughout all point b = from_low point b (all (low point b).to (low_inside point b))

  pub fails_first : (point : Point) → FailsFirstAt (region narrowed guards) (at_values P forms) point
      → FailsFirstAt (region ranges guards) (at_values P forms) point
  fails_first point f = record {
    is_point = (in_box IsFree ranges narrowed point r is f.is_point.0, f.is_point.1);
    fails = f.fails;
    before = λ q b earlier. from_low q b
        (f.before (low q b).to (low_inside q b) (before_later (low q b).to q point (low q b).up_to earlier));
  }

  pub found_first : {A : Type 0} (point_of : A → Point) (found : Option A)
      → MatchOption found (Throughout (region narrowed guards) (at_values P forms))
      (λ x. FailsFirstAt (region narrowed guards) (at_values P forms) (point_of x))
      → MatchOption found (Throughout (region ranges guards) (at_values P forms))
      (λ x. FailsFirstAt (region ranges guards) (at_values P forms) (point_of x))
  found_first point_of None all = throughout all
  found_first point_of (Some x) f = fails_first (point_of x) f
