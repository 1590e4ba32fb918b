-- For crates above: bytes are a plan's, or they have a fault.
use Rattle.std.proofs.Common.{◌≡◌, ℕ, suc, pred, ◌<◌, ◌&&◌, ◌==◌, ◌⊎◌, true, false, IsTrue, nat_le, All, List, [], ◌∷◌, ◌++◌, length, codes, flat_map, inl, inr, sym, ap, ◌∙◌, subst, arith, append_assoc, append-nil, eqb-true, leb-true, eq-eqb}
use Rattle.std.specs.List.{list_all}
use Rattle.std.proofs.lemmas.Bool.{and_parts, and_from}
use Rattle.std.proofs.lemmas.List.Elements.{All-head, All-tail}
use Rattle.std.proofs.lemmas.Slice.Eq.{bytes_eq-Decides}
use Rattle.byteorder.specs.Endian.{big_bytes}
use Rattle.burr_code.specs.declared.limits.TheConstants.{MOST_PROCEDURES}
use Rattle.burr_container.specs.declared.fault.ContainerFault.{ContainerFault}
use Rattle.burr_container.specs.declared.fault.ContainerFault.TheVariants.{C2, C3, C4}
use Rattle.burr_container.specs.Rules.Plans.{PlanProcedure}
use Rattle.burr_container.specs.Rules.Spelling.{counted_bytes, procedure_bytes, plan_bytes}
use Rattle.burr_container.specs.Rules.Fitting.{is_procedure, are_procedures, is_piece_count, is_name_text, is_version, is_budget}
use Rattle.burr_container.specs.Rules.Faults.{Failing, number, raw, procedure, others, each, IsFollowed, name, is_magic, ContainerFails}
use Rattle.burr_container.specs.Laws.PlanBytes.{IsSpelled, FaultOrPlan}
use Rattle.burr_container.proofs.Common.Fields.{byte_back, number_so}
use Rattle.burr_container.proofs.Common.Lawful.{Front, OfPart, OfEnd}
use Rattle.burr_container.proofs.Common.Lists.{OfEach}
use Rattle.burr_container.proofs.Common.Containers.{is_name_length, OfName, Nothing, is_procedure_count, OfOthers, others_fail, OfProcedures, procedures_fail, OfCounted, counted_fail, OfNamed, named_fails, OfPieces, pieces_fail, OfBudget, budget_fails, OfVersion, version_fails, Values, OfValues, values_fail, plan_of, OfPlan, all_bytes_of, plan_apart}
use Rattle.burr_container.proofs.Common.Judging.Fronts.{AreSmall, Found, Faulted, Judged, JudgedPart, first_judged, judged_as, end_judged}
use Rattle.burr_container.proofs.Common.Judging.Fields.{number_judged, raw_judged, digits_1, digits_2, digits_4}
use Rattle.burr_container.proofs.Common.Judging.Lists.{each_judged}
use Rattle.burr_container.proofs.Common.Judging.Procedures.{main_judged, other_judged}

-- The name

pub name_back : (both : ℕ × List ℕ) (bytes r : List ℕ) → AreSmall bytes → OfName both bytes r
    → OfPart name both.1 bytes r
name_back both bytes r small here =
    let head = byte_back C4 is_name_length both.0 bytes here.0 here.1 in
    let text = and_parts (length both.1 == both.0) (is_name_text both.1) here.2.0 in
    let size = eqb-true (length both.1) both.0 text.0 in (
      text.1,
      head.1 ∙ ap (λ n. n ∷ here.0) (sym size)
          ∙ ap (λ (rest : List ℕ). length both.1 ∷ rest) here.2.1,
    )

name_judged : JudgedPart name
name_judged =
    judged_as (λ (both : ℕ × List ℕ). both.1) (OfPart name) OfName name.Fails name.Fails name_back
    (λ at bytes fault fails. fails)
    (first_judged (number 1 C4 is_name_length) (λ length. OfPart (raw length C4 is_name_text))
    (λ length. (raw length C4 is_name_text).Fails)
    (number_judged 1 C4 is_name_length digits_1) (λ length fits. raw_judged length C4 is_name_text))

-- Procedures

others_judged : (version pieces count : ℕ) → JudgedPart (others version pieces count)
others_judged version pieces count =
    judged_as (λ (ps : List PlanProcedure). ps) (OfPart (others version pieces count))
    (OfEach count (procedure version pieces false)) (others version pieces count).Fails
    (each count (procedure version pieces false))
    (λ ps bytes r small here. (
      and_from (length ps == count) (list_all (is_procedure version pieces false) ps)
          (eq-eqb (length ps) count here.0) here.1,
      here.2,
    ))
    (λ at bytes fault fails. fails)
    (each_judged (procedure version pieces false) count (other_judged version pieces))

module _ (Last : Front Nothing) (last : Failing) (judged : Judged Last last) where
  counted_judged : (version pieces : ℕ)
      → Judged (OfCounted version pieces Last) (counted_fail version pieces last)
  counted_judged version pieces =
      first_judged (number 1 C4 is_procedure_count)
      (λ count. OfProcedures version pieces count Last)
      (λ count. procedures_fail version pieces count last)
      (number_judged 1 C4 is_procedure_count digits_1)
      (λ count fits.
      first_judged (procedure version pieces true)
      (λ main. OfOthers version pieces (pred count) Last)
      (λ main. others_fail version pieces (pred count) last) (main_judged version pieces)
      (λ main is. first_judged (others version pieces (pred count)) (λ ps. Last) (λ ps. last)
      (others_judged version pieces (pred count)) (λ ps are. judged)))

  named_judged : (version pieces : ℕ)
      → Judged (OfNamed version pieces Last) (named_fails version pieces last)
  named_judged version pieces =
      first_judged name (λ text. OfCounted version pieces Last)
      (λ text. counted_fail version pieces last) name_judged
      (λ text fits. counted_judged version pieces)

  pieces_judged : (version : ℕ) → Judged (OfPieces version Last) (pieces_fail version last)
  pieces_judged version =
      first_judged (number 1 C4 is_piece_count) (λ pieces. OfNamed version pieces Last)
      (λ pieces. named_fails version pieces last) (number_judged 1 C4 is_piece_count digits_1)
      (λ pieces fits. named_judged version pieces)

  budget_judged : (version : ℕ) → Judged (OfBudget version Last) (budget_fails version last)
  budget_judged version =
      first_judged (number 4 C4 is_budget) (λ budget. OfPieces version Last)
      (λ budget. pieces_fail version last) (number_judged 4 C4 is_budget digits_4)
      (λ budget fits. pieces_judged version)

  version_judged : Judged (OfVersion Last) (version_fails last)
  version_judged =
      first_judged (number 2 C3 is_version) (λ version. OfBudget version Last)
      (λ version. budget_fails version last) (number_judged 2 C3 is_version digits_2)
      (λ version fits. budget_judged version)

  values_judged : Judged (OfValues Last) (values_fail last)
  values_judged =
      first_judged (raw 4 C2 is_magic) (λ magic. OfVersion Last) (λ magic. version_fails last)
      (raw_judged 4 C2 is_magic) (λ magic fits. version_judged)

-- Plans

one_and_more : (count n : ℕ) → IsTrue (is_procedure_count count) → n ≡ pred count → count ≡ suc n
one_and_more count n is e = let some =
    leb-true 1 count (and_parts (nat_le 1 count) (nat_le count MOST_PROCEDURES) is).0 in
    omega (arith, some, e)

pub counted_back : (version pieces : ℕ) (Last : Front Nothing)
    (v : ℕ × (PlanProcedure × (List PlanProcedure × Nothing))) (bytes r : List ℕ)
    → OfCounted version pieces Last v bytes r
    → (rest : List ℕ) × IsTrue (are_procedures version pieces (v.1.0 ∷ v.1.1.0))
    × (bytes ≡ counted_bytes (procedure_bytes version) (v.1.0 ∷ v.1.1.0) ++ rest)
    × Last v.1.1.1 rest r
counted_back version pieces Last v bytes r here =
    let main = v.1.0 in
    let more = v.1.1.0 in
    let spell = procedure_bytes version in
    let head = byte_back C4 is_procedure_count v.0 bytes here.0 here.1 in
    let inner = here.2 in
    let end = inner.2 in
    let all = list_all (is_procedure version pieces false) more in
    let others_fit = and_parts (length more == pred v.0) all end.1.0 in
    let count =
    one_and_more v.0 (length more) head.0 (eqb-true (length more) (pred v.0) others_fit.0) in
    let many =
    (and_parts (nat_le 1 (suc (length more))) (nat_le (suc (length more)) MOST_PROCEDURES)
    (subst (λ n. IsTrue (is_procedure_count n)) count head.0)).1 in (
      end.0,
      and_from (is_procedure version pieces true main && all)
          (nat_le (length (main ∷ more)) MOST_PROCEDURES)
          (and_from (is_procedure version pieces true main) all inner.1.0 others_fit.1) many,
      head.1 ∙ ap (λ n. n ∷ here.0) count
          ∙ ap (λ (rest : List ℕ). suc (length more) ∷ rest)
          (inner.1.1 ∙ ap (λ (rest : List ℕ). procedure_bytes version main ++ rest) end.1.1
          ∙ sym (append_assoc (procedure_bytes version main)
          (flat_map (procedure_bytes version) more) end.0)),
      end.2,
    )

pub plan_back : (Last : Front Nothing) (v : Values) (bytes r : List ℕ) → AreSmall bytes
    → OfValues Last v bytes r → OfPlan Last (plan_of v) bytes r
plan_back Last v bytes r small here =
    let plan = plan_of v in
    let from_version = here.2 in
    let from_budget = from_version.2 in
    let from_pieces = from_budget.2 in
    let from_name = from_pieces.2 in
    let magic =
    (bytes_eq-Decides v.0 (codes "BPLN")).0
    (and_parts (length v.0 == 4) (is_magic v.0) here.1.0).1 in
    let version = number_so 2 C3 is_version v.1.0 here.0 from_version.0 from_version.1 in
    let budget = number_so 4 C4 is_budget v.1.1.0 from_version.0 from_budget.0 from_budget.1 in
    let pieces = byte_back C4 is_piece_count v.1.1.1.0 from_budget.0 from_pieces.0 from_pieces.1 in
    let counted =
    counted_back plan.version plan.pieces Last v.1.1.1.1.1 from_name.0 r from_name.2 in
    let after_pieces : from_pieces.0 ≡ length
    plan.name ∷ (plan.name ++ (all_bytes_of plan ++ counted.0)) =
    from_name.1.1 ∙ ap (λ (rest : List ℕ). length plan.name ∷ (plan.name ++ rest)) counted.2 in
    let after_budget : from_budget.0 ≡ plan.pieces ∷ length
    plan.name ∷ (plan.name ++ (all_bytes_of plan ++ counted.0)) =
    pieces.1 ∙ ap (λ (rest : List ℕ). plan.pieces ∷ rest) after_pieces in
    let after_version =
    from_budget.1.1 ∙ ap (λ (rest : List ℕ). big_bytes 4 plan.budget ++ rest) after_budget in
    let after_magic =
    from_version.1.1 ∙ ap (λ (rest : List ℕ). big_bytes 2 plan.version ++ rest) after_version in
    let head = is_version plan.version in
    let steps = is_budget plan.budget in (
      counted.0,
      and_from (head && steps && is_piece_count plan.pieces && is_name_text plan.name)
          (are_procedures plan.version plan.pieces plan.procedures)
          (and_from (head && steps && is_piece_count plan.pieces) (is_name_text plan.name)
          (and_from (head && steps) (is_piece_count plan.pieces)
          (and_from head steps version budget) pieces.0)
          from_name.1.0) counted.1,
      here.1.1 ∙ ap (λ (front : List ℕ). front ++ here.0) magic
          ∙ ap (λ (rest : List ℕ). codes "BPLN" ++ rest) after_magic
          ∙ sym (plan_apart plan counted.0),
      counted.3,
    )

plan_judged : (Last : Front Nothing) (last : Failing) → Judged Last last
    → Judged (OfPlan Last) (values_fail last)
plan_judged Last last judged =
    judged_as plan_of (OfPlan Last) (OfValues Last) (values_fail last) (values_fail last)
    (plan_back Last) (λ at bytes fault fails. fails) (values_judged Last last judged)

spelled_or_not : (bytes : List ℕ) → Found (OfPlan OfEnd) bytes ⊎ Faulted ContainerFails 0 bytes
    → IsSpelled bytes ⊎ ((fault : ContainerFault) × ContainerFails 0 bytes fault)
spelled_or_not bytes (inl (plan, r, here, small)) =
    inl (
      plan,
      here.1,
      here.2 ∙ ap (λ (rest : List ℕ). plan_bytes plan ++ rest) here.3.0
          ∙ append-nil (plan_bytes plan),
    )
spelled_or_not bytes (inr (fault, fails)) = inr (fault, fails)

small_of_all : (bytes : List ℕ) → All (λ b. b < 256) bytes → AreSmall bytes
small_of_all [] all = tt
small_of_all (b ∷ bytes) all =
    (All-head (λ b. b < 256) b bytes all, small_of_all bytes (All-tail (λ b. b < 256) b bytes all))

pub fault_or_plan : FaultOrPlan
fault_or_plan bytes all =
    spelled_or_not bytes
    ((plan_judged OfEnd IsFollowed end_judged).some 0 bytes (small_of_all bytes all))
