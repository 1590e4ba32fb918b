-- Reading a whole container.
use Rattle.std.proofs.Common.{◌≡◌, ◌≢◌, ℕ, suc, ◌+◌, ◌&&◌, true, false, IsTrue, nat_le, List, [], ◌∷◌, ◌++◌, length, flat_map, inr, refl, sym, ap, ◌∙◌, arith, append_assoc, append-nil, length-append, leb-true, le-leb, eq-eqb, ◌==◌}
use Rattle.std.specs.List.{list_all}
use Rattle.std.proofs.lemmas.Bool.{and_parts, and_from, false≢true}
use Rattle.burr_code.specs.declared.limits.TheConstants.{MOST_PROCEDURES}
use Rattle.burr_container.specs.declared.fault.ContainerFault.TheVariants.{C4, C6}
use Rattle.burr_container.specs.declared.reading.cursor.Cursor.{Cursor}
use Rattle.burr_container.specs.declared.container.Header.{Header}
use Rattle.burr_container.specs.Rules.Plans.{PlanProcedure, Plan}
use Rattle.burr_container.specs.Rules.Spelling.{procedure_bytes, counted_bytes, front_bytes, plan_bytes}
use Rattle.burr_container.specs.Rules.Fitting.{is_version, is_budget, is_piece_count, is_name_text, is_procedure, are_procedures, is_fitting}
use Rattle.burr_container.specs.Rules.Faults.{others, procedures, ProceduresFail}
use Rattle.burr_container.specs.Views.Reading.{IsAt}
use Rattle.burr_container.specs.Views.InPlace.{IsHeaderAt}
use Rattle.burr_container.proofs.Common.Fields.{of_byte}
use Rattle.burr_container.proofs.Common.Containers.{is_procedure_count}

pub none_left : (bytes : List ℕ) → length bytes ≡ 0 → bytes ≡ []
none_left [] none = refl
none_left (b ∷ bytes) none = absurd (omega (arith, none))

-- bytes after the last procedure
pub followed : (version pieces : ℕ) (cursor next : Cursor) (ps : List PlanProcedure)
    → IsAt (procedures version pieces) cursor ps next → next.rest.now ≢ []
    → ProceduresFail version pieces cursor.at cursor.rest.now (C6 next.at)
followed version pieces cursor next [] here more = absurd (false≢true here.fits)
followed version pieces cursor next (main ∷ ps) here more =
    let spell = procedure_bytes version in
    let all = list_all (is_procedure version pieces false) ps in
    let a =
    and_parts (is_procedure version pieces true main && all)
    (nat_le (length (main ∷ ps)) MOST_PROCEDURES) here.fits in
    let b = and_parts (is_procedure version pieces true main) all a.0 in
    let few = leb-true (suc (length ps)) 16 a.1 in
    let count = suc (length ps) in
    let after_main = flat_map (procedure_bytes version) ps ++ next.rest.now in
    let after_count = procedure_bytes version main ++ after_main in
    let parts : cursor.rest.now ≡ count ∷ after_count =
    here.cut.parts
    ∙ ap (λ (rest : List ℕ). count ∷ rest)
    (append_assoc (procedure_bytes version main) (flat_map (procedure_bytes version) ps)
    next.rest.now) in
    let counted =
    of_byte C4 is_procedure_count count cursor.rest.now after_count (omega (arith, few))
    (and_from (nat_le 1 count) (nat_le count MOST_PROCEDURES) (le-leb 1 count (omega arith)) a.1)
    parts in
    let others_fit : IsTrue ((others version pieces (length ps)).fits ps) =
    and_from (length ps == length ps) all (eq-eqb (length ps) (length ps) refl) b.1 in
    let size =
    length-append (procedure_bytes version main) (flat_map (procedure_bytes version) ps) in
    let moved : cursor.at + 1 + length (procedure_bytes version main)
    + length (flat_map (procedure_bytes version) ps) ≡ next.at =
    omega (arith, here.cut.moved, size) in
    inr (
      count,
      after_count,
      counted.0,
      counted.1,
      inr (
        main,
        after_main,
        b.0,
        refl,
        inr (
          ps,
          next.rest.now,
          others_fit,
          refl,
          (more, ap (λ (n : ℕ). C6 n) (sym moved)),
        ),
      ),
    )

-- the plan of a header and procedures
abbrev pub plan_with : Header → List PlanProcedure → Plan
plan_with h ps = record {
  version = h.version;
  name = h.name.now;
  pieces = h.pieces;
  budget = h.budget;
  procedures = ps;
}

-- a header, procedures and nothing after them are a plan's bytes
pub plan_at : (h : Header) (begin middle end : Cursor) (ps : List PlanProcedure)
    → IsHeaderAt begin h middle → IsAt (procedures h.version h.pieces) middle ps end
    → end.rest.now ≡ []
    → IsTrue (is_fitting (plan_with h ps)) × (begin.rest.now ≡ plan_bytes (plan_with h ps))
plan_at h begin middle end ps header here none =
    let version = is_version h.version in
    let budget = is_budget h.budget in
    let pieces = is_piece_count h.pieces in
    let name = is_name_text h.name.now in
    let spelled = counted_bytes (procedure_bytes h.version) ps in
    let front = front_bytes h.version h.budget h.pieces h.name.now in
    let rest : middle.rest.now ≡ spelled =
    here.cut.parts ∙ ap (λ (r : List ℕ). spelled ++ r) none ∙ append-nil spelled in (
      and_from (version && budget && pieces && name) (are_procedures h.version h.pieces ps)
          (and_from (version && budget && pieces) name
          (and_from (version && budget) pieces
          (and_from version budget header.version header.budget) header.pieces)
          header.name) here.fits,
      header.cut.parts ∙ ap (λ (r : List ℕ). front ++ r) rest,
    )
