-- Numbers within so much from 0.
use Rattle.std.proofs.Common.{◌≡◌, ℕ, ℤ, List, [], ◌∷◌, drop, refl, arith}
use Rattle.std.specs.Prelude.{All}
use Rattle.std.proofs.lemmas.Int.{ints}
use Rattle.std.proofs.lemmas.List.Elements.{All-nil, All-cons, All-head, All-map, All-weaker}
use Rattle.burr_code.specs.Instruction.{IsInNumberRange}
use Rattle.burr_forms.specs.Rules.Forms.{Form, Point, value, values}
use Rattle.burr_forms.specs.Views.Bounds.{IsLeastIn, IsGreatestIn}
use Rattle.burr_forms.specs.Rules.Conditions.{Region, Throughout}
use Rattle.burr_frames.specs.Rules.States.{AbstractState, Everywhere, IsFirstFailing}
use Rattle.burr_frames.specs.Views.Ranges.{IsInReach, AllInReach, LiesWithin}

pub one_in_range : (s : AbstractState) (f : Form) → Everywhere s (λ point. AllInReach 32767 (values point (f ∷ [])))
    → Everywhere s (λ point. IsInNumberRange (value point f))
one_in_range s f all = λ point is. All-head (IsInReach 32767) (value point f) [] (all point is)

pub first_out_of_range : (s : AbstractState) (f : Form) (point : Point)
    → IsFirstFailing s (λ x. AllInReach 32767 (values x (f ∷ []))) point
    → IsFirstFailing s (λ x. IsInNumberRange (value x f)) point
first_out_of_range s f point first = record {
  is_point = first.is_point;
  fails = λ near. first.fails (All-cons (IsInReach 32767) (value point f) [] near (All-nil (IsInReach 32767)));
  before = λ q is before. All-head (IsInReach 32767) (value q f) [] (first.before q is before);
}

pub two_dropped : {A : Type 0} (xs : List A) → drop 1 (drop 1 xs) ≡ drop 2 xs
two_dropped [] = refl
two_dropped (x ∷ []) = refl
two_dropped (x ∷ y ∷ xs) = refl

-- Ends

-- a form lies within so much where its least and its greatest value do
pub lies_within : (ranges : List (ℤ × ℤ)) (f : Form) (reach : ℕ) (least greatest : ℤ) → IsLeastIn ranges f least → IsGreatestIn ranges f greatest
    → IsInReach reach least → IsInReach reach greatest → LiesWithin ranges reach f
lies_within ranges f reach least greatest l g low high point inside =
    let above = l.below point inside in
    let below = g.above point inside in
    let over = low.0 in
    let under = high.1 in
    (omega (arith, ints), omega (arith, ints))

-- forms that lie within so much in the whole box do so at each point of a region
pub throughout_within : (r : Region) (forms : List Form) (reach : ℕ) → All (LiesWithin r.ranges reach) forms
    → Throughout r (λ point. AllInReach reach (values point forms))
throughout_within r forms reach all = λ point is.
    All-map (IsInReach reach) (value point) forms
    (All-weaker (LiesWithin r.ranges reach) (λ f. IsInReach reach (value point f)) (λ f within. within point is.0) forms all)
