-- The parameters and the results of each procedure are few.
use Rattle.std.proofs.Common.{ℕ, zero, suc, ◌<◌, ◌≤◌, ◌&&◌, ◌==◌, Bool, true, false, IsTrue, nat_le, List, [], ◌∷◌, length, arith, leb-true, if◌then◌else◌, slice_index_or}
use Rattle.std.specs.List.{list_all}
use Rattle.std.proofs.lemmas.Bool.{and_parts}
use Rattle.burr_code.specs.declared.limits.TheConstants.{MOST_PROCEDURES, MOST_PARAMETERS}
use Rattle.burr_container.specs.declared.procedure_ref.StoredProcedure.{StoredProcedure}
use Rattle.burr_container.specs.Rules.Plans.{PlanProcedure}
use Rattle.burr_container.specs.Rules.Fitting.{is_procedure, are_procedures, are_parameters, are_results}
use Rattle.burr_container.specs.Views.InPlace.{AreFor, IsProcedure}
use Rattle.burr_container.specs.Views.Containers.{ContainerView, HasPlan}
use Rattle.burr_container.proofs.Common.Procedures.{procedure_fits}
use Rattle.burr_container.proofs.Common.Containers.{plan_fits}

pub record IsFew (m r : ℕ) : Type 0 where
  pub parameters : m ≤ MOST_PARAMETERS
  pub results : r ≤ 2

abbrev AreFew : List PlanProcedure → Type 0
AreFew [] = Unit {0}
AreFew (q ∷ qs) = IsFew q.parameters q.results × AreFew qs

few_parameters : (main : Bool) (parameters : ℕ) → IsTrue (are_parameters main parameters) → parameters ≤ MOST_PARAMETERS
few_parameters true parameters are = let none = leb-true parameters 0 are in omega (arith, none)
few_parameters false parameters are = leb-true parameters MOST_PARAMETERS are

few_in : (second : Bool) (results : ℕ) → IsTrue (nat_le results (if second then 2 else 0)) → results ≤ 2
few_in true results are = leb-true results 2 are
few_in false results are = let none = leb-true results 0 are in omega (arith, none)

few_results : (version : ℕ) (main : Bool) (results : ℕ) → IsTrue (are_results version main results) → results ≤ 2
few_results version true results are = let none = leb-true results 0 are in omega (arith, none)
few_results version false results are = few_in (version == 2) results are

few_of : (version pieces : ℕ) (main : Bool) (q : PlanProcedure) → IsTrue (is_procedure version pieces main q)
    → IsFew q.parameters q.results
few_of version pieces main q is =
    let fits = procedure_fits version pieces main q is in
    record {
      parameters = few_parameters main q.parameters fits.parameters;
      results = few_results version main q.results fits.results;
    }

all_few : (version pieces : ℕ) (qs : List PlanProcedure) → IsTrue (list_all (is_procedure version pieces false) qs)
    → AreFew qs
all_few version pieces [] are = tt
all_few version pieces (q ∷ qs) are =
    let parts = and_parts (is_procedure version pieces false q) (list_all (is_procedure version pieces false) qs) are in
    (few_of version pieces false q parts.0, all_few version pieces qs parts.1)

are_few : (version pieces : ℕ) (qs : List PlanProcedure) → IsTrue (are_procedures version pieces qs) → AreFew qs
are_few version pieces [] are = tt
are_few version pieces (main ∷ others) are =
    let is = is_procedure version pieces true main in
    let all = list_all (is_procedure version pieces false) others in
    let a = and_parts (is && all) (nat_le (length (main ∷ others)) MOST_PROCEDURES) are in
    let b = and_parts is all a.0 in
    (few_of version pieces true main b.0, all_few version pieces others b.1)

kept_few : (pieces : ℕ) (kept : List StoredProcedure) (qs : List PlanProcedure) (i : ℕ) (d : StoredProcedure)
    → AreFor (IsProcedure pieces) kept qs → AreFew qs → i < length kept
    → IsFew (slice_index_or kept i d).parameters (slice_index_or kept i d).results
kept_few pieces [] qs i d are few l = absurd (omega (arith, l))
kept_few pieces (x ∷ kept) [] i d are few l = absurd are
kept_few pieces (x ∷ kept) (q ∷ qs) zero d are few l = record {
  parameters = omega (arith, are.0.parameters, few.0.parameters);
  results = omega (arith, are.0.results, few.0.results);
}
kept_few pieces (x ∷ kept) (q ∷ qs) (suc i) d are few l = kept_few pieces kept qs i d are.1 few.1 (omega (arith, l))

-- those of a procedure of a container
pub few_counts : (kept : ContainerView) (i : ℕ) (d : StoredProcedure) → HasPlan kept → i < length kept.procedures
    → IsFew (slice_index_or kept.procedures i d).parameters (slice_index_or kept.procedures i d).results
few_counts kept i d (p, fits, is) l =
    kept_few p.pieces kept.procedures p.procedures i d is.procedures
    (are_few p.version p.pieces p.procedures (plan_fits p fits).procedures) l
