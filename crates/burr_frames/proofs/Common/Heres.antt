-- For crates above: procedures and labels of the plan that a container holds, as the verifier reads
-- them.
use Rattle.std.proofs.Common.{◌≡◌, ◌<◌, ℕ, zero, suc, List, [], ◌∷◌, length, Option, Some, None, refl, sym, ap, subst, ◌∙◌, arith}
use Rattle.std.specs.Prelude.{slice_get, option_map}
use Rattle.std.proofs.lemmas.Option.{slice_get-map, slice_get_within, none-some, same_Some}
use Rattle.std.proofs.lemmas.List.{length-map}
use Rattle.burr_code.specs.Labels.{labelled, with_first}
use Rattle.burr_code.proofs.Common.Labels.{with_first_is}
use Rattle.burr_container.specs.declared.procedure_ref.ProcedureRef.{ProcedureRef}
use Rattle.burr_container.specs.Rules.Plans.{Plan, PlanProcedure, Frame}
use Rattle.burr_container.specs.Views.Containers.{ContainerView, IsContainer}
use Rattle.burr_container.specs.Views.Lent.{IsLent, OfLent}
use Rattle.burr_frames.specs.Rules.FramedPlans.{FramedProcedure, framed_label, framed_procedure, framed_plan}
use Rattle.burr_frames.specs.Views.Here.{OfFramedProcedure, IsSomeOf}

-- what is found after a map is the image of what is found before
pub mapped_found : {A B : Type 0} (f : A → B) (o : Option A) (b : B) → option_map f o ≡ Some b
    → (a : A) × (o ≡ Some a) × (b ≡ f a)
mapped_found f None b e = absurd (none-some _ e)
mapped_found f (Some a) b e = (a, refl, sym (same_Some _ _ e))

pub nothing_found : {A : Type 0} (found : Option A) → ¬ IsSomeOf found → found ≡ None
nothing_found None none = refl
nothing_found (Some a) none = absurd (none (a, refl))

pub element_at : {A : Type 0} (xs : List A) (i : ℕ) → i < length xs → IsSomeOf (slice_get xs i)
element_at [] i l = absurd (omega (arith, l))
element_at (x ∷ xs) zero l = (x, refl)
element_at (x ∷ xs) (suc i) l = element_at xs i (omega (arith, l))

-- the plan's procedure that a procedure is read from
pub procedure_here : (p : Plan) (n : ℕ) (here : FramedProcedure) → slice_get (framed_plan p).procedures n ≡ Some here
    → (q : PlanProcedure) × (slice_get p.procedures n ≡ Some q) × (here ≡ framed_procedure q)
procedure_here p n here e =
    mapped_found framed_procedure (slice_get p.procedures n) here (sym (slice_get-map framed_procedure p.procedures n) ∙ e)

-- what stands at a label
pub label_here : (q : PlanProcedure) (here : FramedProcedure) (n : ℕ) (l : ℕ × Frame) → here ≡ framed_procedure q
    → slice_get q.labels n ≡ Some l → slice_get here.labels n ≡ Some (framed_label l)
label_here q here n l same e =
    ap (λ (h : FramedProcedure). slice_get h.labels n) same ∙ slice_get-map framed_label q.labels n
    ∙ ap (option_map framed_label) e

-- there are as many labels
pub as_many_labels : (q : PlanProcedure) (here : FramedProcedure) → here ≡ framed_procedure q
    → length here.labels ≡ length q.labels
as_many_labels q here same = ap (λ (h : FramedProcedure). length h.labels) same ∙ length-map q.labels framed_label

-- what has as many parameters as the plan's procedure has as many as this one
pub parameters_here : (q : PlanProcedure) (here : FramedProcedure) (n : ℕ) → here ≡ framed_procedure q → n ≡ q.parameters
    → here.parameters ≡ n
parameters_here q here n same e = ap (λ (h : FramedProcedure). h.parameters) same ∙ sym e

-- Procedures that a container lends

-- the container that lends one has the same plan
pub lent_is : (kept : ContainerView) (n : ℕ) (r : ProcedureRef) (p : Plan) → IsLent kept n r → IsContainer kept p
    → IsContainer r.container.now p
lent_is kept n r p lent is = subst (λ (k : ContainerView). IsContainer k p) (sym lent.container) is

-- what stands at its number
pub lent_at : {A : Type 0} (xs : List A) (kept : ContainerView) (n : ℕ) (r : ProcedureRef) (x : A) → IsLent kept n r
    → slice_get xs n ≡ Some x → slice_get xs r.number ≡ Some x
lent_at xs kept n r x lent at = subst (λ (m : ℕ). slice_get xs m ≡ Some x) (sym lent.number) at

-- the parameters that are read of a procedure are its own
pub parameters_read : (r : ProcedureRef) (count : ℕ) → OfLent r (λ p q. count ≡ q.parameters)
    → OfFramedProcedure r (λ plan here. here.parameters ≡ count)
parameters_read r count reads = λ p here is at.
    (let found = procedure_here p r.number here at in
    parameters_here found.0 here count found.2 (reads p found.0 is found.1))

-- Labels, where all are there

-- as many stand there as there are labels
pub as_many_labelled : {A : Type 0} (all : List A) (labels : List ℕ) (to : List A) → labelled all labels ≡ Some to
    → length to ≡ length labels
as_many_labelled all [] to e = sym (ap length (same_Some _ _ e))
as_many_labelled all (label ∷ labels) to e =
    let p = with_first_is (slice_get all label) (labelled all labels) to e in
    sym (ap length p.4) ∙ ap suc (as_many_labelled all labels p.1 p.3)

-- what stands at one label is one of all
pub labelled_at : {A : Type 0} (all : List A) (labels : List ℕ) (to : List A) (k label : ℕ) (x : A) → labelled all labels ≡ Some to
    → slice_get labels k ≡ Some label → slice_get all label ≡ Some x → slice_get to k ≡ Some x
labelled_at all [] to k label x e at found = absurd (none-some _ at)
labelled_at all (first ∷ labels) to zero label x e at found =
    let p = with_first_is (slice_get all first) (labelled all labels) to e in
    ap (λ xs. slice_get xs 0) (sym p.4) ∙ sym p.2 ∙ ap (slice_get all) (same_Some _ _ at) ∙ found
labelled_at all (first ∷ labels) to (suc k) label x e at found =
    let p = with_first_is (slice_get all first) (labelled all labels) to e in
    ap (λ xs. slice_get xs (suc k)) (sym p.4) ∙ labelled_at all labels p.1 k label x p.3 at found

-- each label is there
pub one_of_labelled : {A : Type 0} (all : List A) (labels : List ℕ) (k label : ℕ) → IsSomeOf (labelled all labels)
    → slice_get labels k ≡ Some label → label < length all
one_of_labelled all [] k label to e = absurd (none-some _ e)
one_of_labelled all (first ∷ labels) zero label to e =
    let p = with_first_is (slice_get all first) (labelled all labels) to.0 to.1 in
    subst (λ n. n < length all) (same_Some _ _ e) (slice_get_within all first p.0 p.2)
one_of_labelled all (first ∷ labels) (suc k) label to e =
    let p = with_first_is (slice_get all first) (labelled all labels) to.0 to.1 in
    one_of_labelled all labels k label (p.1, p.3) e

-- all labels are there where each is
pub all_labelled : {A : Type 0} (all : List A) (labels : List ℕ)
    → ((k label : ℕ) → slice_get labels k ≡ Some label → label < length all) → IsSomeOf (labelled all labels)
all_labelled all [] each = ([], refl)
all_labelled all (label ∷ labels) each =
    let found = element_at all label (each 0 label refl) in
    let more = all_labelled all labels (λ k other e. each (suc k) other e) in
    (found.0 ∷ more.0, λ i. with_first (found.1 i) (more.1 i))
