-- For crates above: procedures are lawful parts, of up to 32 pieces.
use Rattle.std.proofs.Common.{◌≡◌, ℕ, ◌<◌, ◌≤◌, ◌&&◌, ◌==◌, Bool, true, false, IsTrue, nat_le, is_none, Option, Some, None, List, [], ◌∷◌, ◌++◌, length, refl, sym, ap, ◌∙◌, arith, leb-true, eq-eqb, if◌then◌else◌}
use Rattle.std.proofs.lemmas.Bool.{and_parts, and_from, false≢true}
use Rattle.burr_code.specs.declared.limits.TheConstants.{MOST_CODE}
use Rattle.burr_container.specs.declared.fault.ContainerFault.TheVariants.{C4}
use Rattle.burr_container.specs.Rules.Plans.{Frame, ExitFrame, PlanProcedure}
use Rattle.burr_container.specs.Rules.Spelling.{result_count_bytes, exit_bytes, exit_frame_bytes, labels_bytes, code_bytes}
use Rattle.burr_container.specs.Rules.Fitting.{is_procedure, is_exit_frame, is_exit, are_labels, are_parameters, are_results, is_code}
use Rattle.burr_container.specs.Rules.Faults.{Failing, Part, number, raw, first, by_test, passes, exit_frame, labels, last_label, is_above, CodeFails, BodyFails, result_count, ExitFails, procedure}
use Rattle.burr_container.proofs.Common.Spelled.{apart_four}
use Rattle.burr_container.proofs.Common.Lawful.{Front, Lawful, OfPart, OfFirst, OfNothing, Sound, first_lawful, lawful_as, passes_lawful}
use Rattle.burr_container.proofs.Common.Fields.{number_sound, raw_sound, of_number, of_byte}
use Rattle.burr_container.proofs.Common.Exits.{exit_frame_sound}
use Rattle.burr_container.proofs.Common.LabelLists.{labels_sound}
use Rattle.burr_container.proofs.Common.Rising.{labels_are_rising}

-- a length of code that is above the last label
abbrev pub is_length : Option ℕ → ℕ → Bool
is_length last length = is_above last length && nat_le length MOST_CODE

abbrev pub OfCode : Option ℕ → Front (ℕ × List ℕ)
OfCode last = OfFirst (number 2 C4 (is_length last)) (λ length. OfPart (raw length C4 (λ _. true)))

code_lawful : (last : Option ℕ) → Lawful (OfCode last) (CodeFails last)
code_lawful last =
    first_lawful (number 2 C4 (is_length last)) (λ length. OfPart (raw length C4 (λ _. true)))
    (λ length. (raw length C4 (λ _. true)).Fails)
    (number_sound 2 C4 (is_length last)) (λ length fits. raw_sound length C4 (λ _. true))

-- labels, and code after them
abbrev pub Body : Type 0
Body = List (ℕ × Frame) × (ℕ × List ℕ)

abbrev pub OfBody : ℕ → Front Body
OfBody pieces = OfFirst (labels pieces) (λ ls. OfCode (last_label ls))

body_lawful : (pieces : ℕ) → pieces ≤ 32 → Lawful (OfBody pieces) (BodyFails pieces)
body_lawful pieces few =
    first_lawful (labels pieces) (λ ls. OfCode (last_label ls)) (λ ls. CodeFails (last_label ls))
    (labels_sound pieces few) (λ ls fits. code_lawful (last_label ls))

body_made : (pieces : ℕ) (ls : List (ℕ × Frame)) (code bytes r : List ℕ)
    → IsTrue (are_labels pieces (length code) ls) → IsTrue (is_code code)
    → bytes ≡ labels_bytes ls ++ (code_bytes code ++ r)
    → OfBody pieces (ls, (length code, code)) bytes r
body_made pieces ls code bytes r are is e =
    let short = (and_parts (nat_le (length code) MOST_CODE) _ is).0 in
    let few = leb-true (length code) 4096 short in
    let rising = labels_are_rising pieces (length code) ls few are in
    let so =
    and_from (is_above (last_label ls) (length code)) (nat_le (length code) MOST_CODE) rising.1
    short in
    let fits : IsTrue ((length code == length code) && true) =
    and_from (length code == length code) true (eq-eqb (length code) (length code) refl) refl in (
      code_bytes code ++ r,
      (rising.0, e),
      (
        code ++ r,
        of_number 2 C4 (is_length (last_label ls)) (length code) (code_bytes code ++ r)
            (code ++ r) (omega (arith, few)) so refl,
        (fits, refl),
      ),
    )

-- The count of the results, by whether the version is 2

abbrev pub few_by : Bool → Bool → ℕ → Bool
few_by second main n = nat_le n (if main then 0 else (if second then 2 else 0))

abbrev pub count_by : Bool → Bool → Part ℕ
count_by second main = record {
  bytes = λ n. if second then n ∷ [] else [];
  fits = few_by second main;
  Fails = by_test second (number 1 C4 (few_by second main)).Fails passes;
}

count_small : (main : Bool) (n : ℕ) → IsTrue (few_by true main n) → n < 256
count_small true n are = let few = leb-true n 0 are in omega (arith, few)
count_small false n are = let few = leb-true n 2 are in omega (arith, few)

count_none : (main : Bool) (n : ℕ) → IsTrue (few_by false main n) → 0 ≡ n
count_none true n are = let few = leb-true n 0 are in omega (arith, few)
count_none false n are = let few = leb-true n 0 are in omega (arith, few)

count_by_sound : (second main : Bool) → Sound (count_by second main)
count_by_sound true main =
    lawful_as (λ (n : ℕ). n) (OfPart (count_by true main))
    (OfPart (number 1 C4 (few_by true main))) (count_by true main).Fails
    (number 1 C4 (few_by true main)).Fails
    (λ n bytes r here. (
      n,
      refl,
      of_byte C4 (few_by true main) n bytes r (count_small main n here.0) here.0 here.1,
    ))
    (λ at bytes fault fails. fails) (number_sound 1 C4 (few_by true main))
count_by_sound false main =
    lawful_as (λ (u : Unit {0}). 0) (OfPart (count_by false main)) OfNothing passes passes
    (λ n bytes r here. (tt, count_none main n here.0, here.1)) (λ at bytes fault fails. fails)
    passes_lawful

pub result_count_sound : (version : ℕ) (main : Bool) → Sound (result_count version main)
result_count_sound version main = count_by_sound (version == 2) main

-- parameters and results, and what follows
abbrev pub OfCounts : {B : Type 0} → ℕ → Bool → (ℕ → ℕ → Front B) → Front (ℕ × (ℕ × B))
OfCounts version main More =
    OfFirst (number 1 C4 (are_parameters main)) (λ parameters.
    OfFirst (result_count version main) (λ results. More parameters results))

abbrev pub counts_fail : ℕ → Bool → (ℕ → ℕ → Failing) → Failing
counts_fail version main more =
    first (number 1 C4 (are_parameters main)) (λ parameters.
    first (result_count version main) (λ results. more parameters results))

counts_lawful : {B : Type 0} (version : ℕ) (main : Bool) (More : ℕ → ℕ → Front B)
    (more : ℕ → ℕ → Failing)
    → ((parameters results : ℕ) → Lawful (More parameters results) (more parameters results))
    → Lawful (OfCounts version main More) (counts_fail version main more)
counts_lawful version main More more lawful =
    first_lawful (number 1 C4 (are_parameters main))
    (λ parameters. OfFirst (result_count version main) (λ results. More parameters results))
    (λ parameters. first (result_count version main) (λ results. more parameters results))
    (number_sound 1 C4 (are_parameters main))
    (λ parameters fits.
    first_lawful (result_count version main) (λ results. More parameters results)
    (λ results. more parameters results) (result_count_sound version main)
    (λ results fit. lawful parameters results))

parameters_small : (main : Bool) (parameters : ℕ) → IsTrue (are_parameters main parameters)
    → parameters < 256
parameters_small true parameters are = let few = leb-true parameters 0 are in omega (arith, few)
parameters_small false parameters are = let few = leb-true parameters 4 are in omega (arith, few)

of_counts : {B : Type 0} (version : ℕ) (main : Bool) (More : ℕ → ℕ → Front B)
    (parameters results : ℕ) (b : B) (bytes rest r : List ℕ)
    → IsTrue (are_parameters main parameters) → IsTrue (are_results version main results)
    → bytes ≡ parameters ∷ (result_count_bytes version results ++ rest)
    → More parameters results b rest r
    → OfCounts version main More (parameters, (results, b)) bytes r
of_counts version main More parameters results b bytes rest r are also e more = (
  result_count_bytes version results ++ rest,
  of_byte C4 (are_parameters main) parameters bytes (result_count_bytes version results ++ rest)
      (parameters_small main parameters are) are e,
  (rest, (also, refl), more),
)

pub procedure_apart : (parameters : ℕ) (results exit labels code r : List ℕ)
    → (parameters ∷ results ++ exit ++ labels ++ code) ++ r
    ≡ parameters ∷ (results ++ (exit ++ (labels ++ (code ++ r))))
procedure_apart parameters results exit labels code r =
    ap (λ (all : List ℕ). parameters ∷ all) (apart_four results exit labels code r)

-- what a procedure that fits is asked
pub record ProcedureFits (version pieces : ℕ) (main : Bool) (p : PlanProcedure) : Type 0 where
  pub parameters : IsTrue (are_parameters main p.parameters)
  pub results : IsTrue (are_results version main p.results)
  pub exit : IsTrue (is_exit version main pieces p.parameters p.results p.exit)
  pub labels : IsTrue (are_labels pieces (length p.code) p.labels)
  pub code : IsTrue (is_code p.code)

pub procedure_fits : (version pieces : ℕ) (main : Bool) (p : PlanProcedure)
    → IsTrue (is_procedure version pieces main p) → ProcedureFits version pieces main p
procedure_fits version pieces main p fits =
    let exits = is_exit version main pieces p.parameters p.results p.exit in
    let counts = are_parameters main p.parameters && are_results version main p.results in
    let labels = are_labels pieces (length p.code) p.labels in
    let a = and_parts (counts && exits && labels) (is_code p.code) fits in
    let b = and_parts (counts && exits) labels a.0 in
    let c = and_parts counts exits b.0 in
    let d = and_parts (are_parameters main p.parameters) (are_results version main p.results) c.0 in
    record { parameters = d.0; results = d.1; exit = c.1; labels = b.1; code = a.1 }

-- Main

abbrev pub main_of : ℕ × (ℕ × Body) → PlanProcedure
main_of v =
    record {
      parameters = v.0;
      results = v.1.0;
      exit = None;
      labels = v.1.1.0;
      code = v.1.1.1.1;
    }

abbrev pub OfMain : ℕ → ℕ → Front (ℕ × (ℕ × Body))
OfMain version pieces = OfCounts version true (λ parameters results. OfBody pieces)

no_exit : (exit : Option ExitFrame) → IsTrue (is_none exit) → exit ≡ None
no_exit None is = refl
no_exit (Some f) is = absurd (false≢true is)

-- the procedure with an exit frame
abbrev with_exit : PlanProcedure → Option ExitFrame → PlanProcedure
with_exit p exit = record {
  parameters = p.parameters;
  results = p.results;
  exit = exit;
  labels = p.labels;
  code = p.code;
}

of_main : (version pieces : ℕ) (p : PlanProcedure) (bytes r : List ℕ)
    → OfPart (procedure version pieces true) p bytes r
    → (v : ℕ × (ℕ × Body)) × (main_of v ≡ p) × OfMain version pieces v bytes r
of_main version pieces p bytes r here =
    let fits = procedure_fits version pieces true p here.0 in
    let none = no_exit p.exit fits.exit in
    let count = result_count_bytes version p.results in
    let rest = labels_bytes p.labels ++ (code_bytes p.code ++ r) in
    let e =
    here.1
    ∙ procedure_apart p.parameters count (exit_bytes version p.parameters p.results p.exit)
    (labels_bytes p.labels) (code_bytes p.code) r
    ∙ ap
    (λ (exit : Option ExitFrame).
    p.parameters ∷ (count ++ (exit_bytes version p.parameters p.results exit ++ rest)))
    none in (
      (p.parameters, (p.results, (p.labels, (length p.code, p.code)))),
      ap (λ (exit : Option ExitFrame). with_exit p exit) (sym none),
      of_counts version true (λ parameters results. OfBody pieces) p.parameters p.results
          (p.labels, (length p.code, p.code)) bytes rest r fits.parameters fits.results e
          (body_made pieces p.labels p.code rest r fits.labels fits.code refl),
    )

pub main_sound : (version pieces : ℕ) → pieces ≤ 32 → Sound (procedure version pieces true)
main_sound version pieces few =
    lawful_as main_of (OfPart (procedure version pieces true)) (OfMain version pieces)
    (procedure version pieces true).Fails (procedure version pieces true).Fails
    (of_main version pieces) (λ at bytes fault fails. fails)
    (counts_lawful version true (λ parameters results. OfBody pieces)
    (ExitFails version pieces true) (λ parameters results. body_lawful pieces few))

-- Other procedures

abbrev pub other_of : ℕ × (ℕ × (ExitFrame × Body)) → PlanProcedure
other_of v =
    record {
      parameters = v.0;
      results = v.1.0;
      exit = Some v.1.1.0;
      labels = v.1.1.1.0;
      code = v.1.1.1.1.1;
    }

abbrev pub OfExit : ℕ → ℕ → ℕ → ℕ → Front (ExitFrame × Body)
OfExit version pieces parameters results =
    OfFirst (exit_frame version pieces parameters results) (λ exit. OfBody pieces)

abbrev pub exit_fails : ℕ → ℕ → ℕ → ℕ → Failing
exit_fails version pieces parameters results =
    first (exit_frame version pieces parameters results) (λ exit. BodyFails pieces)

abbrev pub OfOther : ℕ → ℕ → Front (ℕ × (ℕ × (ExitFrame × Body)))
OfOther version pieces = OfCounts version false (OfExit version pieces)

an_exit : (version pieces parameters results : ℕ) (exit : Option ExitFrame)
    → IsTrue (is_exit version false pieces parameters results exit)
    → (f : ExitFrame) × (exit ≡ Some f)
    × IsTrue (is_exit_frame version pieces parameters results f)
an_exit version pieces parameters results None is = absurd (false≢true is)
an_exit version pieces parameters results (Some f) is = (f, refl, is)

of_other : (version pieces : ℕ) (p : PlanProcedure) (bytes r : List ℕ)
    → OfPart (procedure version pieces false) p bytes r
    → (v : ℕ × (ℕ × (ExitFrame × Body))) × (other_of v ≡ p) × OfOther version pieces v bytes r
of_other version pieces p bytes r here =
    let fits = procedure_fits version pieces false p here.0 in
    let some = an_exit version pieces p.parameters p.results p.exit fits.exit in
    let count = result_count_bytes version p.results in
    let after = labels_bytes p.labels ++ (code_bytes p.code ++ r) in
    let rest = exit_frame_bytes version p.parameters p.results some.0 ++ after in
    let e =
    here.1
    ∙ procedure_apart p.parameters count (exit_bytes version p.parameters p.results p.exit)
    (labels_bytes p.labels) (code_bytes p.code) r
    ∙ ap
    (λ (exit : Option ExitFrame).
    p.parameters ∷ (count ++ (exit_bytes version p.parameters p.results exit ++ after)))
    some.1 in (
      (p.parameters, (p.results, (some.0, (p.labels, (length p.code, p.code))))),
      ap (λ (exit : Option ExitFrame). with_exit p exit) (sym some.1),
      of_counts version false (OfExit version pieces) p.parameters p.results
          (some.0, (p.labels, (length p.code, p.code))) bytes rest r fits.parameters fits.results
          e (
            after,
            (some.2, refl),
            body_made pieces p.labels p.code after r fits.labels fits.code refl,
          ),
    )

pub other_sound : (version pieces : ℕ) → pieces ≤ 32 → Sound (procedure version pieces false)
other_sound version pieces few =
    lawful_as other_of (OfPart (procedure version pieces false)) (OfOther version pieces)
    (procedure version pieces false).Fails (procedure version pieces false).Fails
    (of_other version pieces) (λ at bytes fault fails. fails)
    (counts_lawful version false (OfExit version pieces) (ExitFails version pieces false)
    (λ parameters results.
    first_lawful (exit_frame version pieces parameters results) (λ exit. OfBody pieces)
    (λ exit. BodyFails pieces) (exit_frame_sound version pieces parameters results few)
    (λ exit is. body_lawful pieces few)))
