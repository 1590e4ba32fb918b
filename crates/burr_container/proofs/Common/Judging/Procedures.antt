-- For crates above: bytes have a procedure at their front, or fail to.
use Rattle.std.proofs.Common.{◌≡◌, ℕ, ◌&&◌, ◌==◌, Bool, true, false, IsTrue, nat_le, nat_lt, Option, List, [], ◌∷◌, ◌++◌, length, refl, sym, ap, ◌∙◌, subst, eqb-true, lt-ltb}
use Rattle.std.specs.List.{list_all}
use Rattle.std.proofs.lemmas.Bool.{and_parts, and_from}
use Rattle.byteorder.specs.Endian.{big_bytes}
use Rattle.burr_code.specs.declared.limits.TheConstants.{MOST_CODE}
use Rattle.burr_container.specs.declared.fault.ContainerFault.TheVariants.{C4}
use Rattle.burr_container.specs.Rules.Plans.{ExitFrame, PlanProcedure}
use Rattle.burr_container.specs.Rules.Spelling.{result_count_bytes, exit_frame_bytes, labels_bytes, code_bytes}
use Rattle.burr_container.specs.Rules.Fitting.{is_exit, are_labels, are_parameters, are_results, is_code, is_procedure}
use Rattle.burr_container.specs.Rules.Faults.{Failing, number, raw, first, passes, exit_frame, labels, last_label, is_above, CodeFails, BodyFails, result_count, ExitFails, procedure}
use Rattle.burr_container.proofs.Common.Fields.{byte_back, number_so}
use Rattle.burr_container.proofs.Common.Lawful.{Front, OfPart, OfFirst, OfNothing}
use Rattle.burr_container.proofs.Common.Procedures.{is_length, OfCode, Body, OfBody, few_by, count_by, OfCounts, counts_fail, ProcedureFits, main_of, OfMain, procedure_apart, other_of, OfExit, OfOther}
use Rattle.burr_container.proofs.Common.Judging.Fronts.{AreSmall, small_parts, Judged, JudgedPart, first_judged, judged_as, passes_judged}
use Rattle.burr_container.proofs.Common.Judging.Fields.{number_judged, raw_judged, digits_1, digits_2}
use Rattle.burr_container.proofs.Common.Judging.Exits.{exit_frame_judged}
use Rattle.burr_container.proofs.Common.Judging.LabelLists.{labels_judged, labels_of_code}

code_judged : (last : Option ℕ) → Judged (OfCode last) (CodeFails last)
code_judged last =
    first_judged (number 2 C4 (is_length last)) (λ length. OfPart (raw length C4 (λ _. true)))
    (λ length. (raw length C4 (λ _. true)).Fails)
    (number_judged 2 C4 (is_length last) digits_2) (λ length fits. raw_judged length C4 (λ _. true))

body_judged : (pieces : ℕ) → Judged (OfBody pieces) (BodyFails pieces)
body_judged pieces =
    first_judged (labels pieces) (λ ls. OfCode (last_label ls)) (λ ls. CodeFails (last_label ls))
    (labels_judged pieces) (λ ls fits. code_judged (last_label ls))

pub small_bytes : (bytes : List ℕ) → AreSmall bytes → IsTrue (list_all (λ b. nat_lt b 256) bytes)
small_bytes [] small = refl
small_bytes (b ∷ bytes) small =
    and_from (nat_lt b 256) (list_all (λ b. nat_lt b 256) bytes) (lt-ltb b 256 small.0)
    (small_bytes bytes small.1)

-- what follows a front of small bytes is small
small_after : (bytes front rest : List ℕ) → AreSmall bytes → bytes ≡ front ++ rest → AreSmall rest
small_after bytes front rest small e =
    (small_parts front rest (subst (λ (all : List ℕ). AreSmall all) e small)).1

body_back : (pieces : ℕ) (v : Body) (bytes r : List ℕ) → AreSmall bytes → OfBody pieces v bytes r
    → IsTrue (are_labels pieces (length v.1.1) v.0) × IsTrue (is_code v.1.1)
    × (bytes ≡ labels_bytes v.0 ++ (code_bytes v.1.1 ++ r))
body_back pieces v bytes r small here =
    let ls = v.0 in
    let code = v.1.1 in
    let inner = here.2 in
    let size : length code ≡ v.1.0 =
    eqb-true (length code) v.1.0 (and_parts (length code == v.1.0) true inner.2.0).0 in
    let so =
    subst (λ n. IsTrue (is_length (last_label ls) n)) (sym size)
    (number_so 2 C4 (is_length (last_label ls)) v.1.0 here.0 inner.0 inner.1) in
    let parts =
    and_parts (is_above (last_label ls) (length code)) (nat_le (length code) MOST_CODE) so in
    let after_labels = small_after bytes (labels_bytes ls) here.0 small here.1.1 in
    let after_length = small_after here.0 (big_bytes 2 v.1.0) inner.0 after_labels inner.1.1 in
    let small_code =
    (small_parts code r (subst (λ (all : List ℕ). AreSmall all) inner.2.1 after_length)).0 in (
      labels_of_code pieces (length code) ls here.1.0 parts.0,
      and_from (nat_le (length code) MOST_CODE) (list_all (λ b. nat_lt b 256) code) parts.1
          (small_bytes code small_code),
      here.1.1
          ∙ ap (λ (rest : List ℕ). labels_bytes ls ++ rest)
          (inner.1.1 ∙ ap (λ n. big_bytes 2 n ++ inner.0) (sym size)
          ∙ ap (λ (rest : List ℕ). big_bytes 2 (length code) ++ rest) inner.2.1),
    )

count_by_judged : (second main : Bool) → JudgedPart (count_by second main)
count_by_judged true main =
    judged_as (λ (n : ℕ). n) (OfPart (count_by true main)) (OfPart (number 1 C4 (few_by true main)))
    (count_by true main).Fails (number 1 C4 (few_by true main)).Fails
    (λ n bytes r small here. byte_back C4 (few_by true main) n bytes r here)
    (λ at bytes fault fails. fails) (number_judged 1 C4 (few_by true main) digits_1)
count_by_judged false main =
    judged_as (λ (u : Unit {0}). 0) (OfPart (count_by false main)) OfNothing passes passes
    (λ u bytes r small here. (none_fits main, here)) (λ at bytes fault fails. fails) passes_judged
  where
    none_fits : (main : Bool) → IsTrue (few_by false main 0)
    none_fits true = refl
    none_fits false = refl

result_count_judged : (version : ℕ) (main : Bool) → JudgedPart (result_count version main)
result_count_judged version main = count_by_judged (version == 2) main

counts_judged : {B : Type 0} (version : ℕ) (main : Bool) (More : ℕ → ℕ → Front B)
    (more : ℕ → ℕ → Failing)
    → ((parameters results : ℕ) → Judged (More parameters results) (more parameters results))
    → Judged (OfCounts version main More) (counts_fail version main more)
counts_judged version main More more judged =
    first_judged (number 1 C4 (are_parameters main))
    (λ parameters. OfFirst (result_count version main) (λ results. More parameters results))
    (λ parameters. first (result_count version main) (λ results. more parameters results))
    (number_judged 1 C4 (are_parameters main) digits_1)
    (λ parameters fits.
    first_judged (result_count version main) (λ results. More parameters results)
    (λ results. more parameters results) (result_count_judged version main)
    (λ results fit. judged parameters results))

-- the parameters and the results, and what follows them
counts_back : {B : Type 0} (version : ℕ) (main : Bool) (More : ℕ → ℕ → Front B)
    (v : ℕ × (ℕ × B)) (bytes r : List ℕ) → AreSmall bytes → OfCounts version main More v bytes r
    → (rest : List ℕ) × IsTrue (are_parameters main v.0) × IsTrue (are_results version main v.1.0)
    × (bytes ≡ v.0 ∷ (result_count_bytes version v.1.0 ++ rest)) × AreSmall rest
    × More v.0 v.1.0 v.1.1 rest r
counts_back version main More v bytes r small here =
    let head = byte_back C4 (are_parameters main) v.0 bytes here.0 here.1 in
    let inner = here.2 in
    let after_head = (subst (λ (all : List ℕ). AreSmall all) head.1 small).1 in (
      inner.0,
      head.0,
      inner.1.0,
      head.1 ∙ ap (λ (rest : List ℕ). v.0 ∷ rest) inner.1.1,
      small_after here.0 (result_count_bytes version v.1.0) inner.0 after_head inner.1.1,
      inner.2,
    )

pub procedure_from : (version pieces : ℕ) (main : Bool) (p : PlanProcedure)
    → ProcedureFits version pieces main p → IsTrue (is_procedure version pieces main p)
procedure_from version pieces main p fits =
    let parameters = are_parameters main p.parameters in
    let results = are_results version main p.results in
    let exit = is_exit version main pieces p.parameters p.results p.exit in
    let labels = are_labels pieces (length p.code) p.labels in
    and_from (parameters && results && exit && labels) (is_code p.code)
    (and_from (parameters && results && exit) labels
    (and_from (parameters && results) exit
    (and_from parameters results fits.parameters fits.results) fits.exit) fits.labels) fits.code

pub main_back : (version pieces : ℕ) (v : ℕ × (ℕ × Body)) (bytes r : List ℕ) → AreSmall bytes
    → OfMain version pieces v bytes r
    → OfPart (procedure version pieces true) (main_of v) bytes r
main_back version pieces v bytes r small here =
    let p = main_of v in
    let count = result_count_bytes version v.1.0 in
    let head =
    counts_back version true (λ parameters results. OfBody pieces) v bytes r small here in
    let body = body_back pieces v.1.1 head.0 r head.4 head.5 in (
      procedure_from version pieces true p
          (record {
            parameters = head.1;
            results = head.2;
            exit = refl;
            labels = body.0;
            code = body.1;
          }),
      head.3 ∙ ap (λ (rest : List ℕ). v.0 ∷ (count ++ rest)) body.2
          ∙ sym (procedure_apart p.parameters count [] (labels_bytes p.labels) (code_bytes p.code)
          r),
    )

pub main_judged : (version pieces : ℕ) → JudgedPart (procedure version pieces true)
main_judged version pieces =
    judged_as main_of (OfPart (procedure version pieces true)) (OfMain version pieces)
    (procedure version pieces true).Fails (procedure version pieces true).Fails
    (main_back version pieces) (λ at bytes fault fails. fails)
    (counts_judged version true (λ parameters results. OfBody pieces)
    (ExitFails version pieces true) (λ parameters results. body_judged pieces))

pub other_back : (version pieces : ℕ) (v : ℕ × (ℕ × (ExitFrame × Body))) (bytes r : List ℕ)
    → AreSmall bytes → OfOther version pieces v bytes r
    → OfPart (procedure version pieces false) (other_of v) bytes r
other_back version pieces v bytes r small here =
    let p = other_of v in
    let count = result_count_bytes version v.1.0 in
    let exit = exit_frame_bytes version v.0 v.1.0 v.1.1.0 in
    let head = counts_back version false (OfExit version pieces) v bytes r small here in
    let inner = head.5 in
    let body =
    body_back pieces v.1.1.1 inner.0 r (small_after head.0 exit inner.0 head.4 inner.1.1) inner.2
    in (
      procedure_from version pieces false p
          (record {
            parameters = head.1;
            results = head.2;
            exit = inner.1.0;
            labels = body.0;
            code = body.1;
          }),
      head.3
          ∙ ap (λ (rest : List ℕ). v.0 ∷ (count ++ rest))
          (inner.1.1 ∙ ap (λ (rest : List ℕ). exit ++ rest) body.2)
          ∙ sym (procedure_apart p.parameters count exit (labels_bytes p.labels)
          (code_bytes p.code) r),
    )

pub other_judged : (version pieces : ℕ) → JudgedPart (procedure version pieces false)
other_judged version pieces =
    judged_as other_of (OfPart (procedure version pieces false)) (OfOther version pieces)
    (procedure version pieces false).Fails (procedure version pieces false).Fails
    (other_back version pieces) (λ at bytes fault fails. fails)
    (counts_judged version false (OfExit version pieces) (ExitFails version pieces false)
    (λ parameters results.
    first_judged (exit_frame version pieces parameters results) (λ exit. OfBody pieces)
    (λ exit. BodyFails pieces) (exit_frame_judged version pieces parameters results)
    (λ exit is. body_judged pieces)))
