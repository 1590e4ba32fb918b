-- A plan has few procedures, and each of them few labels.
use Rattle.std.proofs.Common.{◌≡◌, ℕ, zero, suc, ◌<◌, ◌≤◌, ◌^◌, ◌&&◌, ◌==◌, Bool, true, false, IsTrue, nat_le, Some, List, [], ◌∷◌, length, map, refl, sym, ap, ◌∙◌, subst, arith, leb-true}
use Rattle.std.specs.Prelude.{slice_get}
use Rattle.std.specs.List.{list_all}
use Rattle.std.proofs.lemmas.Bool.{and_parts, false≢true}
use Rattle.std.proofs.lemmas.Option.{none-some, same_Some}
use Rattle.burr_code.specs.declared.limits.TheConstants.{MOST_LABELS, MOST_PROCEDURES}
use Rattle.burr_container.specs.Rules.Plans.{Plan, PlanProcedure, Frame}
use Rattle.burr_container.specs.Rules.Fitting.{is_fitting, is_frame, is_procedure, are_procedures, are_labels, rise_from}
use Rattle.burr_container.proofs.Common.Procedures.{procedure_fits}
use Rattle.burr_container.proofs.Common.Containers.{plan_fits}
use Rattle.burr_state.specs.Rules.Bench.{BenchProcedure, Program}
use Rattle.burr_state.specs.Views.Benches.{Benched, setup_of}
use Rattle.burr_state.specs.Views.Programs.{bench_procedure}
use Rattle.burr_bench.specs.Soundness.Machine.{IsSafeBench}
use Rattle.burr_step.specs.Views.Stepping.{LabelsAreFew}

-- where all elements of a list pass a test, each one passes it
passes_at : {A : Type 0} (test : A → Bool) (xs : List A) (k : ℕ) (x : A) → IsTrue (list_all test xs)
    → slice_get xs k ≡ Some x → IsTrue (test x)
passes_at test [] k x all e = absurd (none-some x e)
passes_at test (y ∷ xs) zero x all e =
    subst (λ z. IsTrue (test z)) (same_Some y x e) (and_parts (test y) (list_all test xs) all).0
passes_at test (y ∷ xs) (suc k) x all e = passes_at test xs k x (and_parts (test y) (list_all test xs) all).1 e

-- an element of a list that is made from another is made from the one there, within it
made_from : {A B : Type 0} (f : A → B) (xs : List A) (k : ℕ) (y : B) → slice_get (map f xs) k ≡ Some y
    → (x : A) × (slice_get xs k ≡ Some x) × (f x ≡ y) × (k < length xs)
made_from f [] k y e = absurd (none-some y e)
made_from f (x ∷ xs) zero y e = (x, refl, same_Some (f x) y e, omega arith)
made_from f (x ∷ xs) (suc k) y e =
    let there = made_from f xs k y e in
    let within = there.3 in (there.0, there.1, there.2, omega (arith, within))

few_labels : (pieces code : ℕ) (labels : List (ℕ × Frame)) → IsTrue (are_labels pieces code labels) → length labels ≤ 256
few_labels pieces code [] fits = absurd (false≢true fits)
few_labels pieces code (first ∷ labels) fits =
    let rising = (first.0 == 0) && rise_from 0 code (first ∷ labels) in
    let few = nat_le (length (first ∷ labels)) MOST_LABELS in
    let front = (and_parts (rising && few) (list_all (λ (label : ℕ × Frame). is_frame pieces label.1) (first ∷ labels)) fits).0 in
    leb-true (length (first ∷ labels)) 256 (and_parts rising few front).1

few_of_procedure : (version pieces : ℕ) (main : Bool) (p : PlanProcedure) → IsTrue (is_procedure version pieces main p) → length p.labels ≤ 256
few_of_procedure version pieces main p fits =
    few_labels pieces (length p.code) p.labels (procedure_fits version pieces main p fits).labels

few_procedures : (version pieces : ℕ) (ps : List PlanProcedure) → IsTrue (are_procedures version pieces ps) → length ps ≤ 16
few_procedures version pieces [] fits = absurd (false≢true fits)
few_procedures version pieces (main ∷ others) fits =
    leb-true (length (main ∷ others)) 16
    (and_parts (is_procedure version pieces true main && list_all (is_procedure version pieces false) others)
    (nat_le (length (main ∷ others)) MOST_PROCEDURES) fits).1

each_few : (version pieces : ℕ) (ps : List PlanProcedure) (k : ℕ) (p : PlanProcedure) → IsTrue (are_procedures version pieces ps)
    → slice_get ps k ≡ Some p → length p.labels ≤ 256
each_few version pieces [] k p fits e = absurd (none-some p e)
each_few version pieces (main ∷ others) zero p fits e =
    let rest = list_all (is_procedure version pieces false) others in
    let both = (and_parts (is_procedure version pieces true main && rest) (nat_le (length (main ∷ others)) MOST_PROCEDURES) fits).0 in
    subst (λ (q : PlanProcedure). length q.labels ≤ 256) (same_Some main p e)
    (few_of_procedure version pieces true main (and_parts (is_procedure version pieces true main) rest both).0)
each_few version pieces (main ∷ others) (suc k) p fits e =
    let rest = list_all (is_procedure version pieces false) others in
    let both = (and_parts (is_procedure version pieces true main && rest) (nat_le (length (main ∷ others)) MOST_PROCEDURES) fits).0 in
    few_of_procedure version pieces false p
    (passes_at (is_procedure version pieces false) others k p (and_parts (is_procedure version pieces true main) rest both).1 e)

below_limits : (procedure label many most : ℕ) → procedure < many → many ≤ 16 → label < most → most ≤ 256
    → (procedure < 2 ^ 8) × (label < 2 ^ 16)
below_limits procedure label many most a b c d = (omega arith, omega arith)

of_plan : (plan : Plan) → IsTrue (is_fitting plan) → (procedure label : ℕ) (here : BenchProcedure) (position : ℕ)
    → slice_get (map bench_procedure plan.procedures) procedure ≡ Some here → slice_get here.labels label ≡ Some position
    → (procedure < 2 ^ 8) × (label < 2 ^ 16)
of_plan plan fits procedure label here position at labelled =
    let procedures = (plan_fits plan fits).procedures in
    let p = made_from bench_procedure plan.procedures procedure here at in
    let same = ap (λ (b : BenchProcedure). slice_get b.labels label) p.2 ∙ labelled in
    let found = made_from (λ (l : ℕ × Frame). l.0) p.0.labels label position same in
    below_limits procedure label (length plan.procedures) (length p.0.labels) p.3
    (few_procedures plan.version plan.pieces plan.procedures procedures) found.3
    (each_few plan.version plan.pieces plan.procedures procedure p.0 procedures p.1)

-- so on a safe bench
pub labels_are_few : (b : Benched) → IsSafeBench b → LabelsAreFew (setup_of b)
labels_are_few b safe procedure label there =
    of_plan safe.plan safe.fits procedure label there.1.0 there.0
    (ap (λ (p : Program). slice_get p.procedures procedure) (sym safe.program_is) ∙ there.1.1) there.1.2
