-- The laws of plans in version 2.
use Rattle.std.proofs.Common.{◌≡◌, ℕ, ◌≤◌, ◌&&◌, ◌==◌, Bool, true, false, IsTrue, nat_le, Option, Some, None, List, [], ◌∷◌, length, refl, subst, arith, leb-true, le-leb, eqb-true, if◌then◌else◌}
use Rattle.std.specs.Prelude.{All, IfSome}
use Rattle.std.specs.List.{list_all}
use Rattle.std.proofs.lemmas.Bool.{and_parts, and_from, false≢true}
use Rattle.std.proofs.lemmas.List.Elements.{All-cons}
use Rattle.burr_code.specs.declared.limits.TheConstants.{MOST_GUARDS, MOST_PROCEDURES}
use Rattle.burr_forms.specs.Rules.Forms.{Form}
use Rattle.burr_container.specs.Rules.Plans.{PlanProcedure, ExitFrame, Range, exit_symbols}
use Rattle.burr_container.specs.Rules.Fitting.{is_form, are_forms, is_range, are_ranges, is_tray, is_set_of, are_places, is_exit, are_parameters, are_results, are_labels, is_code, is_procedure, are_procedures, is_budget, is_piece_count, is_name_text}
use Rattle.burr_container.proofs.Common.Procedures.{procedure_fits}
use Rattle.burr_container.proofs.Common.Containers.{plan_fits}
use Rattle.burr_container.proofs.Common.Exits.{exit_fits}
use Rattle.burr_container.specs.Laws.Upgrades.{HasNoResults, FirstVersionHasNoResults, StaysFitting}

-- No results in version 1

none_at_most : {A : Type 0} (xs : List A) → length xs ≤ 0 → xs ≡ []
none_at_most [] few = refl
none_at_most (x ∷ xs) few = absurd (omega (arith, few))

no_results : (main : Bool) (n : ℕ) → IsTrue (are_results 1 main n) → n ≡ 0
no_results true n are = let few = leb-true n 0 are in omega (arith, few)
no_results false n are = let few = leb-true n 0 are in omega (arith, few)

exit_empty : (pieces parameters results : ℕ) (main : Bool) (exit : Option ExitFrame) → results ≡ 0
    → IsTrue (is_exit 1 main pieces parameters results exit)
    → IfSome exit (λ f. (f.results ≡ []) × (f.guards ≡ []))
exit_empty pieces parameters results main None none is = tt
exit_empty pieces parameters results true (Some f) none is = absurd (false≢true is)
exit_empty pieces parameters results false (Some f) none is =
    let live = exit_symbols parameters results in
    let fits = exit_fits 1 pieces results live f is in
    let many = eqb-true (length f.results) results (and_parts (length f.results == results) (list_all (λ (r : Range). is_range (Some r)) f.results) fits.ranges).0 in
    let guards = leb-true (length f.guards) 0 (and_parts (nat_le (length f.guards) 0) (list_all (is_form live) f.guards) fits.guards).0 in
    (none_at_most f.results (omega (arith, many, none)), none_at_most f.guards guards)

has_none : (pieces : ℕ) (main : Bool) (q : PlanProcedure) → IsTrue (is_procedure 1 pieces main q) → HasNoResults q
has_none pieces main q is =
    let fits = procedure_fits 1 pieces main q is in
    let none = no_results main q.results fits.results in
    (none, exit_empty pieces q.parameters q.results main q.exit none fits.exit)

others_none : (pieces : ℕ) (ps : List PlanProcedure) → IsTrue (list_all (is_procedure 1 pieces false) ps) → All HasNoResults ps
others_none pieces [] all = λ k d within. absurd (omega (arith, within))
others_none pieces (q ∷ ps) all =
    let both = and_parts (is_procedure 1 pieces false q) (list_all (is_procedure 1 pieces false) ps) all in
    All-cons HasNoResults q ps (has_none pieces false q both.0) (others_none pieces ps both.1)

-- main and the other procedures of some that fit
record AllFit (version pieces : ℕ) (main : PlanProcedure) (others : List PlanProcedure) : Type 0 where
  first : IsTrue (is_procedure version pieces true main)
  rest : IsTrue (list_all (is_procedure version pieces false) others)
  few : IsTrue (nat_le (length (main ∷ others)) MOST_PROCEDURES)

all_fit : (version pieces : ℕ) (main : PlanProcedure) (others : List PlanProcedure)
    → IsTrue (are_procedures version pieces (main ∷ others)) → AllFit version pieces main others
all_fit version pieces main others are =
    let is = is_procedure version pieces true main in
    let all = list_all (is_procedure version pieces false) others in
    let a = and_parts (is && all) (nat_le (length (main ∷ others)) MOST_PROCEDURES) are in
    let b = and_parts is all a.0 in record { first = b.0; rest = b.1; few = a.1 }

all_none : (pieces : ℕ) (ps : List PlanProcedure) → IsTrue (are_procedures 1 pieces ps) → All HasNoResults ps
all_none pieces [] are = absurd (false≢true are)
all_none pieces (main ∷ others) are =
    let fit = all_fit 1 pieces main others are in
    All-cons HasNoResults main others (has_none pieces true main fit.first) (others_none pieces others fit.rest)

pub none_in_first : FirstVersionHasNoResults
none_in_first p fits is =
    all_none p.pieces p.procedures
    (subst (λ (v : ℕ). IsTrue (are_procedures v p.pieces p.procedures)) is (plan_fits p fits).procedures)

-- What fits in a version fits in version 2

results_more : (second main : Bool) (n : ℕ) → IsTrue (nat_le n (if main then 0 else (if second then 2 else 0)))
    → IsTrue (are_results 2 main n)
results_more second true n are = are
results_more true false n are = are
results_more false false n are = let few = leb-true n 0 are in le-leb n 2 (omega (arith, few))

guards_more : (second : Bool) (live : List Bool) (guards : List Form)
    → IsTrue (are_forms (if second then MOST_GUARDS else 0) live guards) → IsTrue (are_forms MOST_GUARDS live guards)
guards_more true live guards are = are
guards_more false live guards are =
    let all = list_all (is_form live) guards in
    let both = and_parts (nat_le (length guards) 0) all are in
    let few = leb-true (length guards) 0 both.0 in
    and_from (nat_le (length guards) MOST_GUARDS) all (le-leb (length guards) 4 (omega (arith, few))) both.1

exit_more : (version pieces parameters results : ℕ) (main : Bool) (exit : Option ExitFrame)
    → IsTrue (is_exit version main pieces parameters results exit) → IsTrue (is_exit 2 main pieces parameters results exit)
exit_more version pieces parameters results true exit is = is
exit_more version pieces parameters results false None is = is
exit_more version pieces parameters results false (Some f) is =
    let live = exit_symbols parameters results in
    let fits = exit_fits version pieces results live f is in
    let guards = guards_more (version == 2) live f.guards fits.guards in
    let head = is_tray f.tray && is_set_of pieces f.grip in
    let front = are_ranges results f.results && are_forms MOST_GUARDS live f.guards in
    and_from head (front && are_places pieces live f.places) (and_from (is_tray f.tray) (is_set_of pieces f.grip) fits.tray fits.grip)
    (and_from front (are_places pieces live f.places) (and_from (are_ranges results f.results) (are_forms MOST_GUARDS live f.guards) fits.ranges guards) fits.places)

procedure_more : (version pieces : ℕ) (main : Bool) (q : PlanProcedure) → IsTrue (is_procedure version pieces main q)
    → IsTrue (is_procedure 2 pieces main q)
procedure_more version pieces main q is =
    let fits = procedure_fits version pieces main q is in
    let parameters = are_parameters main q.parameters in
    let results = are_results 2 main q.results in
    let exit = is_exit 2 main pieces q.parameters q.results q.exit in
    let labels = are_labels pieces (length q.code) q.labels in
    and_from (parameters && results && exit && labels) (is_code q.code)
    (and_from (parameters && results && exit) labels
    (and_from (parameters && results) exit (and_from parameters results fits.parameters (results_more (version == 2) main q.results fits.results))
    (exit_more version pieces q.parameters q.results main q.exit fits.exit)) fits.labels) fits.code

others_more : (version pieces : ℕ) (ps : List PlanProcedure) → IsTrue (list_all (is_procedure version pieces false) ps)
    → IsTrue (list_all (is_procedure 2 pieces false) ps)
others_more version pieces [] all = refl
others_more version pieces (q ∷ ps) all =
    let both = and_parts (is_procedure version pieces false q) (list_all (is_procedure version pieces false) ps) all in
    and_from (is_procedure 2 pieces false q) (list_all (is_procedure 2 pieces false) ps) (procedure_more version pieces false q both.0)
    (others_more version pieces ps both.1)

all_more : (version pieces : ℕ) (ps : List PlanProcedure) → IsTrue (are_procedures version pieces ps)
    → IsTrue (are_procedures 2 pieces ps)
all_more version pieces [] are = absurd (false≢true are)
all_more version pieces (main ∷ others) are =
    let fit = all_fit version pieces main others are in
    let is = is_procedure 2 pieces true main in
    let all = list_all (is_procedure 2 pieces false) others in
    and_from (is && all) (nat_le (length (main ∷ others)) MOST_PROCEDURES)
    (and_from is all (procedure_more version pieces true main fit.first) (others_more version pieces others fit.rest)) fit.few

pub stays_fitting : StaysFitting
stays_fitting p is =
    let fits = plan_fits p is in
    let budget = is_budget p.budget in
    let pieces = is_piece_count p.pieces in
    let name = is_name_text p.name in
    let procedures = are_procedures 2 p.pieces p.procedures in
    and_from (budget && pieces && name) procedures (and_from (budget && pieces) name (and_from budget pieces fits.budget fits.pieces) fits.name)
    (all_more p.version p.pieces p.procedures fits.procedures)
