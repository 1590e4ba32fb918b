-- What the format bounds is within its bounds in each container.
use Rattle.std.proofs.Common.{◌≡◌, ◌≤◌, ℕ, zero, suc, Bool, true, false, Some, List, [], ◌∷◌, length, refl, sym, subst, ◌∙◌, nat_le, ◌&&◌, slice_get}
use Rattle.std.specs.List.{list_all}
use Rattle.std.proofs.lemmas.Bool.{and_parts, leb-true}
use Rattle.std.proofs.lemmas.Option.{none-some, same_Some}
use Rattle.burr_code.specs.declared.limits.TheConstants.{MOST_CODE}
use Rattle.burr_container.specs.declared.procedure_ref.StoredProcedure.{StoredProcedure}
use Rattle.burr_container.specs.Rules.Plans.{PlanProcedure}
use Rattle.burr_container.specs.Rules.Fitting.{are_procedures, is_procedure}
use Rattle.burr_container.proofs.Common.Procedures.{procedure_fits}
use Rattle.burr_container.proofs.Common.Containers.{plan_fits}
use Rattle.burr_container.specs.Views.InPlace.{AreFor, IsProcedure}
use Rattle.burr_container.specs.Views.Containers.{ContainerView, HasPlan}

-- an element for which the test of all is passed
one_of_all : {A : Type 0} (test : A → Bool) (xs : List A) (i : ℕ) (x : A) → list_all test xs ≡ true → slice_get xs i ≡ Some x → test x ≡ true
one_of_all test [] i x all at = absurd (none-some _ at)
one_of_all test (y ∷ xs) zero x all at = subst (λ z. test z ≡ true) (same_Some _ _ at) (and_parts (test y) (list_all test xs) all).0
one_of_all test (y ∷ xs) (suc i) x all at = one_of_all test xs i x (and_parts (test y) (list_all test xs) all).1 at

-- for each element of the first list there is one of the second
for_there : {A B : Type 0} (Is : A → B → Type 0) (xs : List A) (ys : List B) (i : ℕ) (x : A) → AreFor Is xs ys → slice_get xs i ≡ Some x → (y : B) × (slice_get ys i ≡ Some y) × Is x y
for_there Is [] [] i x are at = absurd (none-some _ at)
for_there Is [] (y ∷ ys) i x are at = absurd are
for_there Is (z ∷ xs) [] i x are at = absurd are
for_there Is (z ∷ xs) (y ∷ ys) zero x are at = (y, refl, subst (λ w. Is w y) (same_Some _ _ at) are.0)
for_there Is (z ∷ xs) (y ∷ ys) (suc i) x are at = for_there Is xs ys i x are.1 at

-- a procedure's code
fitting_code : (version pieces : ℕ) (main : Bool) (q : PlanProcedure) → is_procedure version pieces main q ≡ true → length q.code ≤ MOST_CODE
fitting_code version pieces main q fits =
    let code = (procedure_fits version pieces main q fits).code in
    leb-true (length q.code) MOST_CODE (and_parts (nat_le (length q.code) MOST_CODE) _ code).0

-- each of the procedures
each_code : (version pieces : ℕ) (qs : List PlanProcedure) (i : ℕ) (q : PlanProcedure) → are_procedures version pieces qs ≡ true → slice_get qs i ≡ Some q → length q.code ≤ MOST_CODE
each_code version pieces [] i q fits at = absurd (none-some _ at)
each_code version pieces (main ∷ others) zero q fits at =
    let both = and_parts (is_procedure version pieces true main && list_all (is_procedure version pieces false) others) _ fits in
    subst (λ (x : PlanProcedure). length x.code ≤ MOST_CODE) (same_Some _ _ at) (fitting_code version pieces true main (and_parts (is_procedure version pieces true main) _ both.0).0)
each_code version pieces (main ∷ others) (suc i) q fits at =
    let both = and_parts (is_procedure version pieces true main && list_all (is_procedure version pieces false) others) _ fits in
    fitting_code version pieces false q (one_of_all (is_procedure version pieces false) others i q (and_parts (is_procedure version pieces true main) _ both.0).1 at)

-- the code of a container's procedure
pub code_short : (kept : ContainerView) (i : ℕ) (r : StoredProcedure) → HasPlan kept → slice_get kept.procedures i ≡ Some r → length r.code.now ≤ MOST_CODE
code_short kept i r (p, fits, is) at =
    let q = for_there (IsProcedure p.pieces) kept.procedures p.procedures i r is.procedures at in
    subst (λ (bytes : List ℕ). length bytes ≤ MOST_CODE) (sym q.2.code) (each_code p.version p.pieces p.procedures i q.0 (plan_fits p fits).procedures q.1)

-- the labels of a procedure are kept for a plan with the number of pieces that the header tells
pub labels_of_plan : (kept : ContainerView) (i : ℕ) (r : StoredProcedure) → HasPlan kept → slice_get kept.procedures i ≡ Some r → r.labels.layout.pieces ≡ kept.header.pieces
labels_of_plan kept i r (p, fits, is) at =
    let q = for_there (IsProcedure p.pieces) kept.procedures p.procedures i r is.procedures at in q.2.of_plan ∙ sym is.header.pieces
