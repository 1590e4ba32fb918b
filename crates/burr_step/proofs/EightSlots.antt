-- Each activation of a run of an accepted plan has eight slots.
use Rattle.std.proofs.Common.{◌≡◌, ℕ, zero, suc, ◌-◌, ◌≤◌, ◌&&◌, ℤ, List, [], ◌∷◌, length, map, replicate, Bool, true, false, IsTrue, Option, Some, None, refl, sym, ap, subst, ◌∙◌, arith}
use Rattle.std.specs.Prelude.{min, nat_le, nat_lt, reverse, slice_get, if◌then◌else◌}
use Rattle.std.specs.List.{list_all}
use Rattle.std.proofs.Math.ListN.{length-take}
use Rattle.std.proofs.lemmas.Bool.{and_parts, leb-true}
use Rattle.std.proofs.lemmas.List.{length-append, length-map, length-replicate, length-reverse}
use Rattle.std.proofs.lemmas.Option.{none-some, same_Some}
use Rattle.burr_code.specs.Instruction.{Instruction, Ask, Pick}
use Rattle.burr_code.specs.Labels.{callee_of, argument_slots}
use Rattle.burr_code.specs.Stacks.{top, top_many, split_at}
use Rattle.burr_code.specs.declared.limits.TheConstants.{MOST_PROCEDURES}
use Rattle.burr_container.specs.Rules.Fitting.{is_procedure, are_procedures, are_parameters}
use Rattle.burr_container.specs.Rules.Plans.{PlanProcedure}
use Rattle.burr_container.proofs.Common.Containers.{plan_fits}
use Rattle.burr_container.proofs.Common.Procedures.{procedure_fits}
use Rattle.burr_state.specs.Rules.Bench.{Activation, BenchState, BenchProcedure, Program, Setup, start}
use Rattle.burr_state.specs.Rules.Questions.{Takes}
use Rattle.burr_state.specs.Rules.Undo.{Undo}
use Rattle.burr_state.specs.Views.Benches.{Benched, setup_of, in_state}
use Rattle.burr_state.specs.Views.Programs.{bench_procedure}
use Rattle.burr_state.proofs.Common.Built.{Activates, keeps, calls, returns, next_went}
use Rattle.burr_state.proofs.Common.StepCalls.{next_where_went, taken_where_answered}
use Rattle.burr_bench.specs.Soundness.Machine.{IsSafeBench}
use Rattle.burr_step.specs.Rules.Stepper.{Leads, stays, goes, takes}
use Rattle.burr_step.specs.Views.Stepping.{Stepping, IsUnderWay}

-- The parameters of a plan's procedures

abbrev AreFew : List PlanProcedure → Type 0
AreFew [] = Unit {0}
AreFew (q ∷ qs) = (q.parameters ≤ 8) × AreFew qs

few_parameters : (main : Bool) (parameters : ℕ) → IsTrue (are_parameters main parameters) → parameters ≤ 8
few_parameters true parameters are = let none = leb-true parameters 0 are in omega (arith, none)
few_parameters false parameters are = let few = leb-true parameters 4 are in omega (arith, few)

few_of : (version pieces : ℕ) (main : Bool) (q : PlanProcedure) → IsTrue (is_procedure version pieces main q) → q.parameters ≤ 8
few_of version pieces main q is = few_parameters main q.parameters (procedure_fits version pieces main q is).parameters

all_few : (version pieces : ℕ) (qs : List PlanProcedure) → IsTrue (list_all (is_procedure version pieces false) qs) → AreFew qs
all_few version pieces [] are = tt
all_few version pieces (q ∷ qs) are =
    let parts = and_parts (is_procedure version pieces false q) (list_all (is_procedure version pieces false) qs) are in
    (few_of version pieces false q parts.0, all_few version pieces qs parts.1)

are_few : (version pieces : ℕ) (qs : List PlanProcedure) → IsTrue (are_procedures version pieces qs) → AreFew qs
are_few version pieces [] are = tt
are_few version pieces (main ∷ others) are =
    let is = is_procedure version pieces true main in
    let all = list_all (is_procedure version pieces false) others in
    let a = and_parts (is && all) (nat_le (length (main ∷ others)) MOST_PROCEDURES) are in
    let b = and_parts is all a.0 in
    (few_of version pieces true main b.0, all_few version pieces others b.1)

-- no procedure has more than eight parameters
abbrev HaveFew : List BenchProcedure → Type 0
HaveFew procedures = (n : ℕ) (here : BenchProcedure) → slice_get procedures n ≡ Some here → here.parameters ≤ 8

have_few : (qs : List PlanProcedure) → AreFew qs → HaveFew (map bench_procedure qs)
have_few [] few n here is = absurd (none-some here is)
have_few (q ∷ qs) few zero here is = subst (λ (p : BenchProcedure). p.parameters ≤ 8) (same_Some (bench_procedure q) here is) few.0
have_few (q ∷ qs) few (suc n) here is = have_few qs few.1 n here is

safe_has_few : (b : Benched) → IsSafeBench b → HaveFew (setup_of b).procedures
safe_has_few b safe =
    let fits = plan_fits safe.plan safe.fits in
    subst (λ (p : Program). HaveFew p.procedures) (sym safe.program_is)
    (have_few safe.plan.procedures (are_few safe.plan.version safe.plan.pieces safe.plan.procedures fits.procedures))

-- Activations

abbrev AllHaveEight : List Activation → Type 0
AllHaveEight [] = Unit {0}
AllHaveEight (a ∷ callers) = (length a.slots ≡ 8) × AllHaveEight callers

-- the running activation has eight slots, and so has each caller
record HaveEight (s : BenchState) : Type 0 where
  running : length s.running.slots ≡ 8
  callers : AllHaveEight s.callers

arguments_eight : {A : Type 0} (xs : List A) → length xs ≤ 8 → length (argument_slots xs) ≡ 8
arguments_eight {A = A} xs few =
    let whole = length-append (map Some (reverse xs)) (replicate (8 - length xs) None) in
    let front : length (map {B = Option A} Some (reverse xs)) ≡ length (reverse xs) = length-map (reverse xs) Some in
    let same : length (reverse xs) ≡ length xs = length-reverse xs in
    let rest : length (replicate {A = Option A} (8 - length xs) None) ≡ 8 - length xs = length-replicate (8 - length xs) None in
    omega arith

-- Stacks

top_is : {A : Type 0} (xs : List A) (x : A × List A) → top xs ≡ Some x → xs ≡ x.0 ∷ x.1
top_is [] x e = absurd (none-some x e)
top_is {A = A} (y ∷ ys) x e = ap (λ (z : A × List A). z.0 ∷ z.1) (same_Some (y, ys) x e)

-- at most n are taken
many_are : {A : Type 0} (n : ℕ) (xs : List A) (x : List A × List A) → top_many n xs ≡ Some x → length x.0 ≤ n
many_are {A} n xs x e = by_test (nat_le n (length xs)) e
  where
    as_many : (n m : ℕ) → min n m ≤ n
    as_many n m = omega arith

    by_test : (b : Bool) → (if b then Some (split_at n xs) else None) ≡ Some x → length x.0 ≤ n
    by_test true e =
        subst (λ (z : List A × List A). length z.0 ≤ n) (same_Some (split_at n xs) x e) (simp length-take (as_many n (length xs)))
    by_test false e = absurd (none-some x e)

callee_there : {A : Type 0} (procedures : List A) (here callee : ℕ) (there : A) → callee_of procedures here callee ≡ Some there
    → slice_get procedures callee ≡ Some there
callee_there procedures here callee there is = by_test (nat_lt here callee) is
  where
    by_test : (b : Bool) → (if b then slice_get procedures callee else None) ≡ Some there → slice_get procedures callee ≡ Some there
    by_test true is = is
    by_test false is = absurd (none-some there is)

-- Steps

module _ (setup : Setup) (few : HaveFew setup.procedures) where
  -- the arguments of a callee are no more than eight
  few_arguments : (running callee : ℕ) (there : BenchProcedure) (operands : List ℤ) (found : List ℤ × List ℤ)
      → callee_of setup.procedures running callee ≡ Some there → top_many there.parameters operands ≡ Some found → length found.0 ≤ 8
  few_arguments running callee there operands found is has =
      let small = few callee there (callee_there setup.procedures running callee there is) in
      let taken = many_are there.parameters operands found has in
      omega (arith, small, taken)

  by_activations : (s new : BenchState) → HaveEight s → Activates setup s new → HaveEight new
  by_activations s new have (keeps slots callers) =
      record { running = slots ∙ have.running; callers = subst AllHaveEight (sym callers) have.callers }
  by_activations s new have (calls callee there found caller is has slots same callers) = record {
    running = ap length slots ∙ arguments_eight found.0 (few_arguments s.running.procedure callee there s.running.operands found is has);
    callers = subst AllHaveEight (sym callers) (ap length same ∙ have.running, have.callers);
  }
  by_activations s new have (returns up is slots callers) =
      let below = subst AllHaveEight (top_is s.callers up is) have.callers in
      record { running = ap length slots ∙ below.0; callers = subst AllHaveEight (sym callers) below.1 }

  by_answer : (here : BenchProcedure) (s : BenchState) (have : HaveEight s) (i : Instruction) (answer : ℤ) (new : BenchState)
      → Takes here s i answer new → HaveEight new
  by_answer here s have (Ask low high) answer new is = subst HaveEight (sym is) (record { running = have.running; callers = have.callers })
  by_answer here s have (Pick labels) answer new taken = subst HaveEight (sym taken.6) (record { running = have.running; callers = have.callers })
  by_answer here s have i answer new taken = absurd taken

  along : (s last : BenchState) (steps : ℕ) (answers : List ℤ) → Leads setup s steps answers last → HaveEight s → HaveEight last
  along _ _ _ _ (stays s) have = have
  along _ _ _ _ (goes s new last motion steps answers called rest) have =
      let n = next_went setup s new motion (next_where_went setup s new motion called) in
      along new last steps answers rest (by_activations s new have n.went.activates)
  along _ _ _ _ (takes s new last answer steps answers called rest) have =
      let taken = taken_where_answered setup s new answer called in
      along new last steps answers rest (by_answer taken.0 s have taken.1 answer new taken.7)

-- a run under way has eight slots
pub has_eight : (s : Stepping) (undos : List Undo) → IsUnderWay s undos → length s.bench.state.running.slots ≡ 8
has_eight s undos under_way =
    let setup = setup_of s.bench in
    (along setup (safe_has_few (in_state (start setup) s.bench) under_way.start) (start setup) s.bench.state s.history.steps s.history.answers
    under_way.state (record { running = refl; callers = tt })).running
