-- From one point of a region to the next.
use Rattle.std.proofs.Common.{◌≡◌, ◌==◌, ℕ, ◌<◌, ◌≤◌, ◌-◌, List, [], ◌∷◌, ◌++◌, length, take, Some, None, ap, sym, ◌∙◌, arith, inl, inr, subst, true≢false}
use Rattle.std.specs.Prelude.{ℤ, pos, Bool, true, false, IsTrue, ◌≤ℤ◌}
use Rattle.std.specs.List.{refill}
use Rattle.std.proofs.lemmas.List.{take_all, drop_all, append-nil}
use Rattle.burr_forms.specs.Rules.Forms.{Form, Point, value, values, AllNear, AllSmallForms}
use Rattle.burr_forms.specs.Rules.Points.{IsPointOf, AreRanges, GuardsHold}
use Rattle.burr_forms.specs.Views.Searching.{AllBounded, steps_of, sums, HoldsBefore, StandsAt, IsRaised, IsAfter, IsHere}
use Rattle.burr_forms.specs.Views.Rising.{lows, following, count_after}
use Rattle.burr_forms.specs.Rules.Conditions.{Region, Throughout, FailsFirstAt, NoneNegative, at_values}
use Rattle.std.proofs.lemmas.List.Elements.{All-head, All-tail, All-nil, All-cons, All-map}
use Rattle.burr_forms.proofs.Boxes.{near_inside, length_inside}
use Rattle.burr_forms.proofs.RowValues.{values_bounded, length-values}
use Rattle.burr_forms.proofs.Carrying.{length-sums}
use Rattle.burr_forms.proofs.Orders.{IsUpTo, IsNext, IsLast, follows_next, follows_none, lows_inside, none_before_lows}

-- the guard's value, or the number, is not negative
abbrev pub IsHeld : Point → Form → Type 0
IsHeld point g = pos 0 ≤ℤ value point g

abbrev IsNotNegative : ℤ → Type 0
IsNotNegative n = pos 0 ≤ℤ n

pub to_guards : (guards : List Form) (point : Point) → NoneNegative (values point guards) → GuardsHold guards point
to_guards [] point n = All-nil (IsHeld point)
to_guards (g ∷ guards) point n =
    All-cons (IsHeld point) g guards (All-head IsNotNegative (value point g) (values point guards) n)
    (to_guards guards point (All-tail IsNotNegative (value point g) (values point guards) n))

pub from_guards : (guards : List Form) (point : Point) → GuardsHold guards point → NoneNegative (values point guards)
from_guards guards point g = All-map IsNotNegative (value point) guards g

module _ (s : Region) (P : Point → Type 0) (ranges : AreRanges s.ranges) where
  -- a loop may start at the lowest point
  pub starts : StandsAt s P (lows s.ranges)
  starts = record { inside = lows_inside s.ranges ranges; before = λ q b e. absurd (none_before_lows s.ranges q b.0 e) }

  up_to_here : (point : Point) → (GuardsHold s.guards point → P point) → HoldsBefore s P point → (q : Point) → IsPointOf s.ranges s.guards q → IsUpTo q point → P q
  up_to_here point here before q b (inl same) = subst P (sym same) (here (subst (GuardsHold s.guards) same b.1))
  up_to_here point here before q b (inr e) = before q b e

  -- it goes on
  pub goes_on : (point next : Point) → StandsAt s P point → (GuardsHold s.guards point → P point) → following s.ranges point ≡ Some next → StandsAt s P next
  goes_on point next at here e =
      let n : IsNext s.ranges point next = follows_next s.ranges point next ranges at.inside e in
      record { inside = n.inside; before = λ q b p. up_to_here point here at.before q b (n.nearest q b.0 p) }

  pub fewer_after : (point next : Point) → StandsAt s P point → following s.ranges point ≡ Some next → count_after s.ranges next < count_after s.ranges point
  fewer_after point next at e =
      let n : IsNext s.ranges point next = follows_next s.ranges point next ranges at.inside e in
      let c = n.count in
      omega arith

  -- it ends
  pub ends : (point : Point) → StandsAt s P point → (GuardsHold s.guards point → P point) → following s.ranges point ≡ None → Throughout s P
  ends point at here e q b =
      let n : IsLast s.ranges point = follows_none s.ranges point ranges at.inside e in
      up_to_here point here at.before q b (n.greatest q b.0)

pub fails : (s : Region) (P : Point → Type 0) (point : Point) → StandsAt s P point → GuardsHold s.guards point → (¬ P point) → FailsFirstAt s P point
fails s P point at g n = record { is_point = (at.inside, g); fails = n; before = at.before }

-- the numbers of a point of a box
pub at_near : (s : Region) (P : Point → Type 0) (point : Point) → AreRanges s.ranges → StandsAt s P point → AllNear point
at_near s P point r at = near_inside s.ranges point r at.inside

pub at_few : (s : Region) (P : Point → Type 0) (point : Point) → length s.ranges ≤ 8 → StandsAt s P point → length point ≤ 8
at_few s P point few at = let e = length_inside s.ranges point at.inside in omega arith

pub at_many : (s : Region) (P : Point → Type 0) (point : Point) → StandsAt s P point → length point ≡ length s.ranges
at_many s P point at = length_inside s.ranges point at.inside

-- a loop stands at a point, with values of the guards and of the forms that are carried to it
pub record Carries (s : Region) (P : List ℤ → Type 0) (forms : List Form) (signs sign_steps row steps : List ℤ) (point : Point) : Type 0 where
  pub at : StandsAt s (at_values P forms) point
  pub signs_after : IsAfter sign_steps s.guards point signs
  pub after : IsAfter steps forms point row

-- The loop that carries values

module _ (s : Region) (P : Point → Type 0) (signs : List ℤ) (point : Point) (at : StandsAt s P point) (signs_are : signs ≡ values point s.guards) where
  pub holds_here : (NoneNegative signs → P point) → GuardsHold s.guards point → P point
  holds_here passes g = passes (subst NoneNegative (sym signs_are) (from_guards s.guards point g))

  pub fails_here : NoneNegative signs × (¬ P point) → FailsFirstAt s P point
  fails_here f = fails s P point at (to_guards s.guards point (subst NoneNegative signs_are f.0)) f.1

  -- what stands at the point that follows
  pub next_at : (next : Point) → AreRanges s.ranges → (NoneNegative signs → P point) → following s.ranges point ≡ Some next → StandsAt s P next
  next_at next r passes e = goes_on s P r point next at (holds_here passes) e

  pub ended : AreRanges s.ranges → (NoneNegative signs → P point) → following s.ranges point ≡ None → Throughout s P
  ended r passes e = ends s P r point at (holds_here passes) e

-- a slice of the point is put back into it
pub put_back : (s : Region) (P : Point → Type 0) (given point next : Point) (symbol : ℕ) → AreRanges s.ranges → StandsAt s P point → given ≡ point → IsRaised s.ranges given next symbol → IsRaised s.ranges point (refill (length point) point next) symbol
put_back s P given point next symbol r at same up =
    let here : IsRaised s.ranges point next symbol = subst (λ (p : Point). IsRaised s.ranges p next symbol) same up in
    let n : IsNext s.ranges point next = follows_next s.ranges point next r at.inside here.follows in
    let as_long : length next ≡ length point = length_inside s.ranges next n.inside ∙ sym (length_inside s.ranges point at.inside) in
    let whole : refill (length point) point next ≡ next =
    ap (λ (rest : Point). take (length point) (next ++ rest)) (drop_all (length next) point (omega arith)) ∙ ap (take (length point)) (append-nil next) ∙ take_all (length point) next (omega arith) in
    subst (λ (p : Point). IsRaised s.ranges point p symbol) (sym whole) here

-- what is kept here is after a raised point
pub now_after : (ranges : List (ℤ × ℤ)) (symbol : ℕ) (steps : List ℤ) (forms : List Form) (point next : Point) (row : List ℤ) → IsRaised ranges point next symbol → symbol ≡ length ranges - 1 → steps ≡ steps_of (length ranges - 1) forms → IsHere forms point row → IsAfter steps forms next row
now_after ranges symbol steps forms point next row up last steps_are (inl none) = inl none
now_after ranges symbol steps forms point next row up last steps_are (inr here) =
    inr (up.carries last forms ∙ ap (λ k. sums (values point forms) (steps_of k forms)) last ∙ ap (sums (values point forms)) (sym steps_are) ∙ ap (λ xs. sums xs steps) (sym here))

-- what is kept is carried on
pub kept_after : (steps : List ℤ) (forms : List Form) (point : Point) (row : List ℤ) → IsAfter steps forms point row → false ≡ (length row == 0) → values point forms ≡ sums row steps
kept_after steps forms point row (inl none) some = absurd (true≢false (ap (λ (xs : List ℤ). length xs == 0) (sym none) ∙ sym some))
kept_after steps forms point row (inr are) some = are

pub after_bounded : (steps : List ℤ) (forms : List Form) (point : Point) (row : List ℤ) → values point forms ≡ sums row steps → AllSmallForms forms → AllNear point → length point ≤ 8 → AllBounded (sums row steps)
after_bounded steps forms point row are small near few = subst AllBounded are (values_bounded point forms small near few)

pub after_as_many : (steps : List ℤ) (forms : List Form) (point : Point) (row : List ℤ) → values point forms ≡ sums row steps → length steps ≡ length forms → length row ≡ length steps
after_as_many steps forms point row are places = sym (length-sums row steps) ∙ ap (λ xs. length xs) (sym are) ∙ length-values point forms ∙ sym places

-- The start

pub stands_first : (s : Region) (P : Point → Type 0) (point : Point) → AreRanges s.ranges → point ≡ lows s.ranges → StandsAt s P point
stands_first s P point r is = subst (StandsAt s P) (sym is) (starts s P r)

-- Tests

pub no_true : (b : Bool) → b ≡ false → ¬ IsTrue b
no_true true e = λ t. cc
no_true false e = λ t. cc
