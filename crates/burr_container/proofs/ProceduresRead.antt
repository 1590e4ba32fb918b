-- Reading procedures.
use Rattle.std.proofs.Common.{◌≡◌, ℕ, zero, suc, pred, ◌-◌, ◌≤◌, ◌^◌, ◌&&◌, ◌==◌, Bool, true, false, IsTrue, nat_lt, nat_le, Option, Some, None, List, ◌∷◌, ◌++◌, length, inl, refl, sym, ap, ◌∙◌, subst, arith, append_assoc, leb-true, eq-eqb}
use Rattle.std.specs.List.{list_all}
use Rattle.std.proofs.lemmas.Bool.{and_parts, and_from}
use Rattle.burr_code.specs.declared.limits.TheConstants.{MOST_CODE}
use Rattle.burr_container.specs.declared.fault.ContainerFault.{ContainerFault}
use Rattle.burr_container.specs.declared.fault.ContainerFault.TheVariants.{C4}
use Rattle.burr_container.specs.declared.reading.cursor.Cursor.{Cursor}
use Rattle.burr_container.specs.Rules.Plans.{Frame, ExitFrame, PlanProcedure}
use Rattle.burr_container.specs.Rules.Spelling.{labels_bytes, code_bytes}
use Rattle.burr_container.specs.Rules.Fitting.{are_parameters, is_code, is_procedure}
use Rattle.burr_container.specs.Rules.Faults.{Failing, number, first, each, exit_frame, labels, last_label, is_above, code, CodeFails, BodyFails, body, result_count, ExitFails, procedure, others, procedures, IsFollowed, ProceduresFail}
use Rattle.burr_container.specs.Views.Reading.{IsAt}
use Rattle.burr_container.proofs.Common.Lawful.{Front, OfFirst, OfNothing}
use Rattle.burr_container.proofs.Common.Fields.{of_number}
use Rattle.burr_container.proofs.Common.Lists.{OfEach}
use Rattle.burr_container.proofs.Common.Procedures.{is_length, OfCode, Body, OfBody, OfCounts, counts_fail, main_of, other_of, OfExit, exit_fails}
use Rattle.burr_container.proofs.Common.Containers.{is_procedure_count, OfOthers, others_fail, OfProcedures, procedures_fail}
use Rattle.burr_container.proofs.Common.Judging.Procedures.{main_back, other_back}
use Rattle.burr_container.proofs.Common.Judging.Containers.{counted_back}
use Rattle.burr_container.proofs.Chains.{IsAfter, small_of, at_most, after_part, stands_at, then_fails, then_stands}

-- labels, and code after them
module _ (pieces : ℕ) (cursor after_labels : Cursor) (ls : List (ℕ × Frame)) (last : Option ℕ)
    (e : last ≡ last_label ls) (labels_at : IsAt (labels pieces) cursor ls after_labels) where
  pub body_at : (next : Cursor) (bytes : List ℕ) → IsAt (code last) after_labels bytes next
      → IsAt (body pieces) cursor (ls, bytes) next
  body_at next bytes code_at =
      let here =
      subst (λ (l : Option ℕ). IsAt (code l) after_labels bytes next) e code_at in
      stands_at (body pieces) cursor next (ls, bytes) (
        and_from ((labels pieces).fits ls) ((code (last_label ls)).fits bytes) labels_at.fits
            here.fits,
        labels_at.cut.parts ∙ ap (λ (rest : List ℕ). labels_bytes ls ++ rest) here.cut.parts
            ∙ sym (append_assoc (labels_bytes ls) (code_bytes bytes) next.rest.now),
      )
      (after_part (code (last_label ls)) after_labels next bytes here
      ∙ after_part (labels pieces) cursor after_labels ls labels_at)

  pub code_fails : (fault : ContainerFault)
      → CodeFails last after_labels.at after_labels.rest.now fault
      → BodyFails pieces cursor.at cursor.rest.now fault
  code_fails fault fails =
      then_fails (labels pieces) cursor after_labels ls (λ ls. CodeFails (last_label ls)) fault
      labels_at
      (subst (λ (l : Option ℕ). CodeFails l after_labels.at after_labels.rest.now fault) e fails)

code_front : (last : Option ℕ) (bytes all r : List ℕ) → IsTrue ((code last).fits bytes)
    → all ≡ code_bytes bytes ++ r → OfCode last (length bytes, bytes) all r
code_front last bytes all r fits e =
    let both = and_parts (is_above last (length bytes)) (is_code bytes) fits in
    let short = (and_parts (nat_le (length bytes) MOST_CODE) _ both.1).0 in
    let few = leb-true (length bytes) 4096 short in
    let so =
    and_from (is_above last (length bytes)) (nat_le (length bytes) MOST_CODE) both.0 short in
    let whole : IsTrue ((length bytes == length bytes) && true) =
    and_from (length bytes == length bytes) true (eq-eqb (length bytes) (length bytes) refl) refl in
    let made : OfCode last (length bytes, bytes) (code_bytes bytes ++ r) r = (
      bytes ++ r,
      of_number 2 C4 (is_length last) (length bytes) (code_bytes bytes ++ r) (bytes ++ r)
          (omega (arith, few)) so refl,
      (whole, refl),
    ) in
    subst (λ (a : List ℕ). OfCode last (length bytes, bytes) a r) (sym e) made

body_front : (pieces : ℕ) (ls : List (ℕ × Frame)) (bytes : List ℕ) (cursor next : Cursor)
    → IsAt (body pieces) cursor (ls, bytes) next
    → OfBody pieces (ls, (length bytes, bytes)) cursor.rest.now next.rest.now
body_front pieces ls bytes cursor next here =
    let both = and_parts ((labels pieces).fits ls) ((code (last_label ls)).fits bytes) here.fits in
    let rest = code_bytes bytes ++ next.rest.now in (
      rest,
      (
        both.0,
        here.cut.parts ∙ append_assoc (labels_bytes ls) (code_bytes bytes) next.rest.now,
      ),
      code_front (last_label ls) bytes rest next.rest.now both.1 refl,
    )

-- parameters and results
module _ (version : ℕ) (main : Bool) (parameters results : ℕ)
    (cursor after after_results : Cursor)
    (head : IsAt (number 1 C4 (are_parameters main)) cursor parameters after)
    (results_at : IsAt (result_count version main) after results after_results) where
  counts_then_fail : (more : ℕ → ℕ → Failing) (fault : ContainerFault)
      → more parameters results after_results.at after_results.rest.now fault
      → counts_fail version main more cursor.at cursor.rest.now fault
  counts_then_fail more fault fails =
      then_fails (number 1 C4 (are_parameters main)) cursor after parameters
      (λ parameters. first (result_count version main) (λ results. more parameters results)) fault
      head
      (then_fails (result_count version main) after after_results results
      (λ results. more parameters results) fault results_at fails)

  counts_then_stand : {B : Type 0} (More : ℕ → ℕ → Front B) (b : B) (r : List ℕ)
      → More parameters results b after_results.rest.now r
      → OfCounts version main More (parameters, (results, b)) cursor.rest.now r
  counts_then_stand More b r more =
      then_stands (number 1 C4 (are_parameters main)) cursor after parameters
      (λ parameters. OfFirst (result_count version main) (λ results. More parameters results))
      (results, b) r head
      (then_stands (result_count version main) after after_results results
      (λ results. More parameters results) b r results_at more)

  counts_after : IsAfter cursor after_results
  counts_after =
      after_part (result_count version main) after after_results results results_at
      ∙ after_part (number 1 C4 (are_parameters main)) cursor after parameters head

-- the count of results fails
pub count_fails : (version pieces : ℕ) (main : Bool) (parameters : ℕ) (cursor after : Cursor)
    (fault : ContainerFault)
    → IsAt (number 1 C4 (are_parameters main)) cursor parameters after
    → (result_count version main).Fails after.at after.rest.now fault
    → (procedure version pieces main).Fails cursor.at cursor.rest.now fault
count_fails version pieces main parameters cursor after fault head fails =
    then_fails (number 1 C4 (are_parameters main)) cursor after parameters
    (λ parameters. first (result_count version main) (λ results.
    ExitFails version pieces main parameters results)) fault head (inl fails)

-- parameters, of main and of another procedure
pub main_head : (parameters : ℕ) (cursor after : Cursor)
    → IsAt (number 1 C4 (λ n. nat_le 0 n && nat_le n 0)) cursor parameters after
    → IsAt (number 1 C4 (are_parameters true)) cursor parameters after
main_head parameters cursor after counted = at_most 0 cursor after parameters counted

pub other_head : (parameters : ℕ) (cursor after : Cursor)
    → IsAt (number 1 C4 (λ n. nat_le 0 n && nat_le n 4)) cursor parameters after
    → IsAt (number 1 C4 (are_parameters false)) cursor parameters after
other_head parameters cursor after counted = at_most 4 cursor after parameters counted

-- a body after the counts of main
module _ (version pieces parameters results : ℕ) (cursor after after_results : Cursor)
    (counted : IsAt (number 1 C4 (λ n. nat_le 0 n && nat_le n 0)) cursor parameters after)
    (results_at : IsAt (result_count version true) after results after_results) where
  pub main_at : (ls : List (ℕ × Frame)) (bytes : List ℕ) (next : Cursor)
      → IsAt (body pieces) after_results (ls, bytes) next
      → IsAt (procedure version pieces true) cursor
      (record {
        parameters = parameters;
        results = results;
        exit = None;
        labels = ls;
        code = bytes;
      }) next
  main_at ls bytes next body_at =
      let head = main_head parameters cursor after counted in
      let whole : Body = (ls, (length bytes, bytes)) in
      let values : ℕ × (ℕ × Body) = (parameters, (results, whole)) in
      stands_at (procedure version pieces true) cursor next (main_of values)
      (main_back version pieces values cursor.rest.now next.rest.now
      (small_of cursor.rest.now cursor.bytes)
      (counts_then_stand version true parameters results cursor after after_results head
      results_at (λ parameters results. OfBody pieces) whole next.rest.now
      (body_front pieces ls bytes after_results next body_at)))
      (after_part (body pieces) after_results next (ls, bytes) body_at
      ∙ counts_after version true parameters results cursor after after_results head
      results_at)

  pub main_fails : (fault : ContainerFault)
      → BodyFails pieces after_results.at after_results.rest.now fault
      → (procedure version pieces true).Fails cursor.at cursor.rest.now fault
  main_fails fault fails =
      counts_then_fail version true parameters results cursor after after_results
      (main_head parameters cursor after counted) results_at (ExitFails version pieces true)
      fault fails

-- an exit frame and a body after the counts of another procedure
module _ (version pieces parameters results : ℕ) (cursor after after_results : Cursor)
    (counted : IsAt (number 1 C4 (λ n. nat_le 0 n && nat_le n 4)) cursor parameters after)
    (results_at : IsAt (result_count version false) after results after_results) where
  pub other_then_fails : (fault : ContainerFault)
      → exit_fails version pieces parameters results after_results.at after_results.rest.now fault
      → (procedure version pieces false).Fails cursor.at cursor.rest.now fault
  other_then_fails fault fails =
      counts_then_fail version false parameters results cursor after after_results
      (other_head parameters cursor after counted) results_at (ExitFails version pieces false)
      fault fails

  pub exit_frame_fails : (fault : ContainerFault)
      → (exit_frame version pieces parameters results).Fails after_results.at
      after_results.rest.now fault
      → (procedure version pieces false).Fails cursor.at cursor.rest.now fault
  exit_frame_fails fault fails = other_then_fails fault (inl fails)

  module _ (exit : ExitFrame) (after_exit : Cursor)
      (exit_at : IsAt (exit_frame version pieces parameters results) after_results exit
      after_exit) where
    pub other_body_fails : (fault : ContainerFault)
        → BodyFails pieces after_exit.at after_exit.rest.now fault
        → (procedure version pieces false).Fails cursor.at cursor.rest.now fault
    other_body_fails fault fails =
        other_then_fails fault
        (then_fails (exit_frame version pieces parameters results) after_results after_exit exit
        (λ exit. BodyFails pieces) fault exit_at fails)

    pub other_at : (ls : List (ℕ × Frame)) (bytes : List ℕ) (next : Cursor)
        → IsAt (body pieces) after_exit (ls, bytes) next
        → IsAt (procedure version pieces false) cursor
        (record {
          parameters = parameters;
          results = results;
          exit = Some exit;
          labels = ls;
          code = bytes;
        }) next
    other_at ls bytes next body_at =
        let head = other_head parameters cursor after counted in
        let whole : Body = (ls, (length bytes, bytes)) in
        let values : ℕ × (ℕ × (ExitFrame × Body)) = (parameters, (results, (exit, whole))) in
        let from_exit : OfExit version pieces parameters results (exit, whole)
        after_results.rest.now next.rest.now =
        then_stands (exit_frame version pieces parameters results) after_results after_exit exit
        (λ exit. OfBody pieces) whole next.rest.now exit_at
        (body_front pieces ls bytes after_exit next body_at) in
        stands_at (procedure version pieces false) cursor next (other_of values)
        (other_back version pieces values cursor.rest.now next.rest.now
        (small_of cursor.rest.now cursor.bytes)
        (counts_then_stand version false parameters results cursor after after_results head
        results_at (OfExit version pieces) (exit, whole) next.rest.now from_exit))
        (after_part (body pieces) after_exit next (ls, bytes) body_at
        ∙ after_part (exit_frame version pieces parameters results) after_results after_exit
        exit exit_at
        ∙ counts_after version false parameters results cursor after after_results head
        results_at)

-- All procedures

module _ (version pieces count : ℕ) (cursor after_count : Cursor)
    (counted : IsAt (number 1 C4 is_procedure_count) cursor count after_count) where
  pub main_fails_first : (fault : ContainerFault)
      → (procedure version pieces true).Fails after_count.at after_count.rest.now fault
      → ProceduresFail version pieces cursor.at cursor.rest.now fault
  main_fails_first fault fails =
      then_fails (number 1 C4 is_procedure_count) cursor after_count count
      (λ count. procedures_fail version pieces count IsFollowed) fault counted (inl fails)

  module _ (main : PlanProcedure) (after_main : Cursor)
      (main_at : IsAt (procedure version pieces true) after_count main after_main) where
    pub others_fail_then : (more : ℕ) (fault : ContainerFault) → more ≡ pred count
        → each more (procedure version pieces false) after_main.at after_main.rest.now fault
        → ProceduresFail version pieces cursor.at cursor.rest.now fault
    others_fail_then more fault e fails =
        then_fails (number 1 C4 is_procedure_count) cursor after_count count
        (λ count. procedures_fail version pieces count IsFollowed) fault counted
        (then_fails (procedure version pieces true) after_count after_main main
        (λ main. others_fail version pieces (pred count) IsFollowed) fault main_at
        (inl (subst
        (λ (k : ℕ). each k (procedure version pieces false) after_main.at after_main.rest.now fault) e
        fails)))

    pub procedures_at : (more : ℕ) (ps : List PlanProcedure) (next : Cursor) → more ≡ pred count
        → OfEach more (procedure version pieces false) ps after_main.rest.now next.rest.now
        → IsAfter after_main next → IsAt (procedures version pieces) cursor (main ∷ ps) next
    procedures_at more ps next e here after =
        let r = next.rest.now in
        let others_fit : IsTrue ((others version pieces (pred count)).fits ps) =
        and_from (length ps == pred count) (list_all (is_procedure version pieces false) ps)
        (eq-eqb (length ps) (pred count) (here.0 ∙ e)) here.1 in
        let from_others : OfOthers version pieces (pred count) OfNothing (ps, tt) after_main.rest.now r =
        (r, (others_fit, here.2), refl) in
        let from_main : OfProcedures version pieces count OfNothing (main, (ps, tt))
        after_count.rest.now r =
        then_stands (procedure version pieces true) after_count after_main main
        (λ main. OfOthers version pieces (pred count) OfNothing) (ps, tt) r main_at from_others in
        let all =
        counted_back version pieces OfNothing (count, (main, (ps, tt))) cursor.rest.now r
        (then_stands (number 1 C4 is_procedure_count) cursor after_count count
        (λ count. OfProcedures version pieces count OfNothing) (main, (ps, tt)) r counted from_main) in
        stands_at (procedures version pieces) cursor next (main ∷ ps) (
          all.1,
          all.2 ∙ ap (λ (rest : List ℕ). (procedures version pieces).bytes (main ∷ ps) ++ rest) all.3,
        )
        (after ∙ after_part (procedure version pieces true) after_count after_main main main_at
        ∙ after_part (number 1 C4 is_procedure_count) cursor after_count count counted)

-- how many procedures there are
pub counted_within : (cursor next : Cursor) (n : ℕ)
    → IsAt (number 1 C4 is_procedure_count) cursor n next → (1 ≤ n) × (n ≤ 16)
counted_within cursor next n here =
    let both = and_parts (nat_lt n (256 ^ 1)) (is_procedure_count n) here.fits in
    let range = and_parts (nat_le 1 n) (nat_le n 16) both.1 in
    (leb-true 1 n range.0, leb-true n 16 range.1)

pub one_less : (n : ℕ) → 1 ≤ n → n - 1 ≡ pred n
one_less zero some = absurd (omega (arith, some))
one_less (suc n) some = omega arith
