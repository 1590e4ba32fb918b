-- Labels at rising places, before one and from one on.
use Rattle.std.proofs.Common.{◌≡◌, ℕ, ◌+◌, ◌≤◌, ◌<◌, length, Option, Some, None, sym, subst, ap, ◌∙◌, arith, inl, inr, ◌⊎◌}
use Rattle.std.specs.Prelude.{IfSome, slice_get}
use Rattle.std.proofs.lemmas.Bool.{cases_order}
use Rattle.std.proofs.lemmas.Option.{same_Some}
use Rattle.burr_container.specs.declared.frame_ref.FrameRef.{FrameRef}
use Rattle.burr_container.specs.Rules.Plans.{Frame, Plan}
use Rattle.burr_container.specs.Views.Refs.{frame_of}
use Rattle.burr_container.specs.Views.Containers.{ContainerView, IsContainer, HasPlan, OfLabel, OfProcedure}
use Rattle.burr_frames.specs.Rules.FramedPlans.{FramedProcedure, framed, framed_plan, framed_label}
use Rattle.burr_verify.specs.Rules.Pass.{IsLaidOut}
use Rattle.burr_verify.specs.Views.Judgements.{AreBefore, IsLabelWithin}
use Rattle.burr_verify.proofs.Containers.{fitting_is_from_container, made_from}
use Rattle.burr_container.proofs.Common.OneContainer.{fits_where_kept}
use Rattle.burr_frames.proofs.Common.Heres.{as_many_labels, element_at, procedure_here}

-- the labels of a procedure of a container stand at rising places
pub laid_out_here : (kept : ContainerView) (p : Plan) (n : ℕ) (here : FramedProcedure) → HasPlan kept → IsContainer kept p
    → slice_get (framed_plan p).procedures n ≡ Some here → IsLaidOut here
laid_out_here kept p n here has is at = (fitting_is_from_container p (fits_where_kept kept p has is)).laid_out n here at

-- what was read of the label of a number, and that it is the one that stands there
label_lent : (Read : ℕ × Frame → Type 0) (kept : ContainerView) (i n : ℕ) → OfLabel kept i n Read
    → (p : Plan) (here : FramedProcedure) → IsContainer kept p → slice_get (framed_plan p).procedures i ≡ Some here
    → (x : ℕ × Frame) → slice_get here.labels n ≡ Some x → (l : ℕ × Frame) × Read l × (framed_label l ≡ x)
label_lent Read kept i n reads p here is at x standing =
    let q = procedure_here p i here at in
    let l = made_from framed_label q.0.labels n x (sym (ap (λ (h : FramedProcedure). slice_get h.labels n) q.2) ∙ standing) in
    (l.0, reads p q.0 is q.1 l.0 l.1, l.2)

-- the frame that was read is that of the label
pub frame_read : (kept : ContainerView) (i n : ℕ) (f : FrameRef) → OfLabel kept i n (λ l. frame_of f ≡ l.1)
    → (p : Plan) (here : FramedProcedure) → IsContainer kept p → slice_get (framed_plan p).procedures i ≡ Some here
    → (x : ℕ × Frame) → slice_get here.labels n ≡ Some x → framed (frame_of f) ≡ x.1
frame_read kept i n f reads p here is at x standing =
    let l = label_lent (λ l. frame_of f ≡ l.1) kept i n reads p here is at x standing in
    ap framed l.1 ∙ ap (λ (y : ℕ × Frame). y.1) l.2

-- the label of a number stands at the place that was read
pub place_of : (kept : ContainerView) (i n place : ℕ) → OfLabel kept i n (λ l. place ≡ l.0)
    → (p : Plan) (here : FramedProcedure) → IsContainer kept p → slice_get (framed_plan p).procedures i ≡ Some here
    → (x : ℕ × Frame) → slice_get here.labels n ≡ Some x → x.0 ≡ place
place_of kept i n place reads p here is at x standing =
    let l = label_lent (λ l. place ≡ l.0) kept i n reads p here is at x standing in sym (l.1 ∙ ap (λ (y : ℕ × Frame). y.0) l.2)

-- a procedure has as many labels as its container says
pub as_many_here : (kept : ContainerView) (i count : ℕ) → OfProcedure kept i (λ p q. count ≡ length q.labels)
    → (p : Plan) (here : FramedProcedure) → IsContainer kept p → slice_get (framed_plan p).procedures i ≡ Some here
    → length here.labels ≡ count
as_many_here kept i count told p here is at =
    let found = procedure_here p i here at in
    as_many_labels found.0 here found.2 ∙ sym (told p found.0 is found.1)

pub no_more_here : (kept : ContainerView) (i n : ℕ) → OfProcedure kept i (λ p q. n ≤ length q.labels)
    → (p : Plan) (here : FramedProcedure) → IsContainer kept p → slice_get (framed_plan p).procedures i ≡ Some here
    → n ≤ length here.labels
no_more_here kept i n told p here is at =
    let found = procedure_here p i here at in
    subst (λ (m : ℕ). n ≤ m) (sym (as_many_labels found.0 here found.2)) (told p found.0 is found.1)

-- a number below one that is not above the count is that of a label
pub below_few : {A : Type 0} (found : Option A) (size : A → ℕ) (n after : ℕ) → IfSome found (λ x. after ≤ size x) → n < after
    → IfSome found (λ x. n < size x)
below_few None size n after few l = few
below_few (Some x) size n after few l = omega (arith, few, l)

-- the label of one number, and those on either side of it
module _ (here : FramedProcedure) (laid : IsLaidOut here) (middle : ℕ) (y : ℕ × Frame) (at : slice_get here.labels middle ≡ Some y) where
  same_label : (k : ℕ) (x : ℕ × Frame) → slice_get here.labels k ≡ Some x → k ≡ middle → x.0 ≡ y.0
  same_label k x standing same =
      ap (λ (l : ℕ × Frame). l.0) (same_Some x y (sym standing ∙ ap (slice_get here.labels) same ∙ at))

  pub up_to_middle : (place : ℕ) → y.0 < place → (k : ℕ) (x : ℕ × Frame) → slice_get here.labels k ≡ Some x → k < middle + 1 → x.0 < place
  up_to_middle place less k x standing before = one (cases_order k middle)
    where
      one : (k ≡ middle) ⊎ ((k < middle) ⊎ (middle < k)) → x.0 < place
      one (inl same) = let e = same_label k x standing same in omega (arith, e, less)
      one (inr (inl below)) = let rise = laid.rising k middle x y below standing at in omega (arith, rise, less)
      one (inr (inr above)) = absurd (omega (arith, above, before))

  pub from_middle : (place : ℕ) → place ≤ y.0 → (k : ℕ) (x : ℕ × Frame) → slice_get here.labels k ≡ Some x → middle ≤ k → place ≤ x.0
  from_middle place more k x standing after = one (cases_order k middle)
    where
      one : (k ≡ middle) ⊎ ((k < middle) ⊎ (middle < k)) → place ≤ x.0
      one (inl same) = let e = same_label k x standing same in omega (arith, e, more)
      one (inr (inl below)) = absurd (omega (arith, below, after))
      one (inr (inr above)) = let rise = laid.rising middle k y x above at standing in omega (arith, rise, more)

-- What counts say of labels between two places

pub before_or_not : (m n : ℕ) → (m < n) ⊎ (n ≤ m)
before_or_not m n = elim (cases_order m n) [
  | inl e ↦ inr (omega (arith, e))
  | inr h ↦ elim h [ inl l ↦ inl l | inr l ↦ inr (omega (arith, l)) ]
]

pub within : (here : FramedProcedure) (from end n after : ℕ) → AreBefore here from n → AreBefore here end after → n < after
    → after ≤ length here.labels → IsLabelWithin here from end (Some n)
within here from end n after before ends l few =
    let found = element_at here.labels n (omega (arith, l, few)) in
    (found.0, found.1, not_before found.0.0 (before n found.0 found.1).1 (before_or_not found.0.0 from), (ends n found.0 found.1).0 l)
  where
    not_before : (m : ℕ) → (m < from → n < n) → (m < from) ⊎ (from ≤ m) → from ≤ m
    not_before m never (inl less) = let none = never less in absurd (omega (arith, none))
    not_before m never (inr more) = more

pub none_within : (here : FramedProcedure) (from end n after : ℕ) → AreBefore here from n → AreBefore here end after → after ≤ n
    → IsLabelWithin here from end None
none_within here from end n after before ends l k x standing from_it = after_it (before_or_not x.0 end)
  where
    after_it : (x.0 < end) ⊎ (end ≤ x.0) → end ≤ x.0
    after_it (inl less) =
        let earlier = (ends k x standing).1 less in
        let less_than_from = (before k x standing).0 (omega (arith, earlier, l)) in
        absurd (omega (arith, less_than_from, from_it))
    after_it (inr more) = more
