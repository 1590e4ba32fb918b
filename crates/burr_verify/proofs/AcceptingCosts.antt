-- The cost at main's entry frame of an accepted plan.
use Rattle.std.proofs.Common.{◌≡◌, ℕ, zero, suc, ◌<◌, ◌≤◌, Option, Some, None, List, [], ◌∷◌, length, IsTrue, refl, sym, ap, subst, ◌∙◌, arith}
use Rattle.std.specs.Prelude.{ℤ, nat_abs, pos, ◌≤ℤ◌, IfSome, replicate, map, slice_get}
use Rattle.std.proofs.lemmas.Int.{ints}
use Rattle.std.proofs.lemmas.Option.{none-some, same_Some}
use Rattle.std.proofs.lemmas.List.{length-map}
use Rattle.std.proofs.lemmas.List.Elements.{All-nil}
use Rattle.burr_voxels.specs.declared.cell.Cell.{Cell}
use Rattle.burr_assembly.specs.Rules.Homes.{homes_of}
use Rattle.burr_forms.specs.Rules.Forms.{Form, value, values}
use Rattle.burr_container.specs.declared.procedure_ref.StoredProcedure.{StoredProcedure}
use Rattle.burr_container.specs.Rules.Plans.{Plan, PlanProcedure, Frame, Range}
use Rattle.burr_container.specs.Rules.Fitting.{is_fitting}
use Rattle.burr_container.specs.Views.InPlace.{AreFor, IsProcedure}
use Rattle.burr_container.specs.Views.Containers.{HasLabel, OfLabel}
use Rattle.burr_frames.specs.Rules.Arrival.{live_forms}
use Rattle.burr_frames.specs.Rules.ControlRules.{entry_of}
use Rattle.burr_frames.specs.Rules.FramedPlans.{FramedProcedure, FramedPlan, framed, framed_label, framed_procedure, framed_plan}
use Rattle.burr_frames.specs.Rules.States.{IsPoint, state_of}
use Rattle.burr_verify.specs.Rules.Accepting.{Judged, IsAccepted, MainCosts}
use Rattle.burr_verify.specs.Rules.WellFramed.{StartsWell}
use Rattle.burr_verify.proofs.Beginnings.{HasEntry, has_entry, value_nowhere}
use Rattle.burr_verify.proofs.Common.Costs.{entry_costs_one}
use Rattle.burr_verify.proofs.Containers.{fitting_procedures, fitting_budget}
use Rattle.burr_container.proofs.Common.OneContainer.{the_plan}

-- Main and its first label are there

as_many_for : {A B : Type 0} (Is : A → B → Type 0) (xs : List A) (ys : List B) → AreFor Is xs ys → length xs ≡ length ys
as_many_for Is [] [] are = refl
as_many_for Is [] (y ∷ ys) are = absurd are
as_many_for Is (x ∷ xs) [] are = absurd are
as_many_for Is (x ∷ xs) (y ∷ ys) are = ap suc (as_many_for Is xs ys are.1)

-- the first of these procedures is there, and it has a label
abbrev HasFirst : List StoredProcedure → Type 0
HasFirst kept = (0 < length kept) × IfSome (slice_get kept 0) (λ p. 0 < length p.labels.starts)

has_first : (pieces : ℕ) (kept : List StoredProcedure) (qs : List PlanProcedure) → AreFor (IsProcedure pieces) kept qs
    → 1 ≤ length qs → ((q : PlanProcedure) → slice_get qs 0 ≡ Some q → 1 ≤ length q.labels) → HasFirst kept
has_first pieces [] [] are some labels = absurd (omega (arith, some))
has_first pieces [] (q ∷ qs) are some labels = absurd are
has_first pieces (k ∷ kept) [] are some labels = absurd are
has_first pieces (k ∷ kept) (q ∷ qs) are some labels =
    let many = as_many_for _ k.labels.starts q.labels are.0.labels in
    let label = labels q refl in (omega arith, omega (arith, many, label))

-- each first procedure of a fitting plan has a label
labels_of_first : (p : Plan) → IsTrue (is_fitting p) → (q : PlanProcedure) → slice_get p.procedures 0 ≡ Some q
    → 1 ≤ length q.labels
labels_of_first p fits q e =
    subst (λ (n : ℕ). 1 ≤ n) (length-map q.labels framed_label)
    ((fitting_procedures p fits).labels 0 (framed_procedure q) (found p.procedures e))
  where
    found : (qs : List PlanProcedure) → slice_get qs 0 ≡ Some q → slice_get (map framed_procedure qs) 0 ≡ Some (framed_procedure q)
    found [] e = absurd (none-some q e)
    found (first ∷ qs) e = ap (λ (r : PlanProcedure). Some (framed_procedure r)) (same_Some first q e)

some_of : (p : Plan) → IsTrue (is_fitting p) → 1 ≤ length p.procedures
some_of p fits =
    subst (λ (n : ℕ). 1 ≤ n) (length-map p.procedures framed_procedure) (fitting_procedures p fits).some

pub has_main : (j : Judged) → IsAccepted j → (0 < length j.container.procedures) × HasLabel j.container 0 0
has_main j a =
    has_first a.plan.pieces j.container.procedures a.plan.procedures a.is_container.procedures (some_of a.plan a.fits)
    (labels_of_first a.plan a.fits)

-- The cost

-- where no slot is known, a list of the live slots' forms is empty
none_known : (slots : List (Option Range)) (n : ℕ) (forms : List Form) → live_forms slots (replicate n None) ≡ Some forms
    → forms ≡ []
none_known [] n forms e = sym (same_Some [] forms e)
none_known (None ∷ slots) zero forms e = none_known slots zero forms e
none_known (None ∷ slots) (suc n) forms e = none_known slots n forms e
none_known (Some range ∷ slots) zero forms e = absurd (none-some forms e)
none_known (Some range ∷ slots) (suc n) forms e = absurd (none-some forms e)

-- the start is at the one point of main's entry frame
at_start : (homes : List (List Cell)) (plan : FramedPlan) (w : StartsWell homes plan) → IsPoint (state_of w.frame) []
at_start homes plan w =
    subst (λ (fs : List Form). IsPoint (state_of w.frame) (values [] fs))
    (none_known w.frame.slots 8 w.meets.forms w.meets.known)
    (w.meets.agrees [] (tt, All-nil (λ (g : Form). pos 0 ≤ℤ value [] g))).is_point

same_entry : (plan : FramedPlan) (f : Frame) (main : FramedProcedure) (g : Frame) → HasEntry plan f
    → slice_get plan.procedures 0 ≡ Some main → entry_of main ≡ Some g → g ≡ f
same_entry plan f main g has is e =
    let same : main ≡ has.main = same_Some main has.main (sym is ∙ has.is_main) in
    same_Some g f (sym e ∙ ap entry_of same ∙ has.is_entry)

-- what the cost at main's entry is, read from the container
pub record EntryCost (j : Judged) (constant : ℤ) : Type 0 where
  pub least : pos 1 ≤ℤ constant
  pub most : constant ≤ℤ pos 1000000
  pub costs : (cost : ℕ) → constant ≡ pos cost → MainCosts j cost

within : (x : ℤ) (cost budget : ℕ) → x ≡ pos cost → x ≤ℤ pos budget → cost ≤ budget
within x cost budget e l = omega (arith, ints)

below : (x : ℤ) (budget : ℕ) → x ≤ℤ pos budget → budget ≤ 1000000 → x ≤ℤ pos 1000000
below x budget l m = omega (arith, ints)

pub entry_cost : (j : Judged) (f : Frame) → IsAccepted j → OfLabel j.container 0 0 (λ l. f ≡ l.1)
    → EntryCost j (framed f).cost.constant
entry_cost j f a read =
    let start = a.framed.start in
    let entry =
    has_entry a.plan f (some_of a.plan a.fits) (labels_of_first a.plan a.fits)
    (λ q e l at. read a.plan q a.is_container e l at) in
    let same : start.frame ≡ framed f =
    same_entry (framed_plan a.plan) (framed f) start.main start.frame entry start.is_main start.is_entry in
    let here : value [] start.frame.cost ≡ (framed f).cost.constant =
    ap (λ (g : Frame). value [] g.cost) same ∙ value_nowhere (framed f).cost in
    let one =
    entry_costs_one (homes_of j.assembly) (framed_plan a.plan) (λ n here is. (a.framed.each n here is).cut) 0 start.main
    start.frame start.is_main start.is_entry [] (at_start (homes_of j.assembly) (framed_plan a.plan) start) in
    let paid : (framed f).cost.constant ≤ℤ pos a.plan.budget =
    subst (λ x. x ≤ℤ pos a.plan.budget) here start.cost in record {
      least = subst (λ x. pos 1 ≤ℤ x) here one;
      most = below (framed f).cost.constant a.plan.budget paid (fitting_budget a.plan a.fits);
      costs =
          λ cost e p main g kept is at.
          subst (λ (r : Plan). slice_get (framed_plan r).procedures 0 ≡ Some main
          → (value [] g.cost ≡ pos cost) × (cost ≤ r.budget)) (sym (the_plan j.container p a.plan a.fits kept a.is_container))
          (λ is_main. (
            ap (λ (h : Frame). value [] h.cost)
                (same_entry (framed_plan a.plan) (framed f) main g entry is_main at)
                ∙ value_nowhere (framed f).cost
                ∙ e,
            within (framed f).cost.constant cost a.plan.budget e paid,
          ))
          is;
    }

-- the number that a constant above 0 is
pub number_of : (x : ℤ) → pos 1 ≤ℤ x → x ≡ pos (nat_abs x)
number_of x least = omega (arith, ints)
