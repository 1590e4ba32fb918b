-- Main first, and then the others.
use Rattle.std.proofs.Common.{◌≡◌, ℕ, ◌-◌, List, [], ◌∷◌, ◌≤◌, length, take, drop, get_or, refl, sym, ap, ◌∙◌, arith, nat_le, ◌&&◌}
use Rattle.std.specs.Prelude.{true, false}
use Rattle.std.specs.List.{list_all}
use Rattle.burr_code.specs.declared.limits.TheConstants.{MOST_PROCEDURES}
use Rattle.burr_container.specs.Rules.Plans.{PlanProcedure}
use Rattle.burr_container.specs.Rules.Fitting.{is_procedure, are_procedures}
use Rattle.burr_container.proofs.fitting.are_procedures.Goals as goal

take_whole : (ps : List PlanProcedure) → take (length ps) ps ≡ ps
take_whole [] = refl
take_whole (p ∷ ps) = ap (λ (l : List PlanProcedure). p ∷ l) (take_whole ps)

-- those after the first
abbrev others_of : List PlanProcedure → List PlanProcedure
others_of ps = take (length ps - 1) (drop 1 ps)

main_and_others : (version pieces : ℕ) (ps : List PlanProcedure) (main : PlanProcedure)
    → 1 ≤ length ps → main ≡ get_or ps 0 main
    → are_procedures version pieces ps
    ≡ (is_procedure version pieces true main && list_all (is_procedure version pieces false) (others_of ps) && nat_le (length ps) MOST_PROCEDURES)
main_and_others version pieces [] main some is = absurd (omega arith)
main_and_others version pieces (p ∷ ps) main some is =
    let one : length (p ∷ ps) - 1 ≡ length ps = omega arith in
    let others : others_of (p ∷ ps) ≡ ps = ap (λ (n : ℕ). take n ps) one ∙ take_whole ps in
    ap (λ (m : PlanProcedure). is_procedure version pieces true m && list_all (is_procedure version pieces false) ps && nat_le (length (p ∷ ps)) MOST_PROCEDURES) (sym is)
    ∙ ap (λ (l : List PlanProcedure). is_procedure version pieces true main && list_all (is_procedure version pieces false) l && nat_le (length (p ∷ ps)) MOST_PROCEDURES) (sym others)

pub returns-then-not-is_procedure : goal.returns-then-not-is_procedure
returns-then-not-is_procedure c =
    rw (main_and_others c.args.layout.version c.args.layout.pieces c.args.procedures.now c.main-item.result c.in-len1-up.len_at_least c.main-item.is, ← c.if-not-is_procedure.ensures)
    refl

pub returns-then-not-all_others : goal.returns-then-not-all_others
returns-then-not-all_others c =
    rw (main_and_others c.args.layout.version c.args.layout.pieces c.args.procedures.now c.main-item.result c.in-len1-up.len_at_least c.main-item.is, ← c.if-not-is_procedure.ensures, ← c.if-not-all_others.ensures)
    refl

pub returns : goal.returns
returns c =
    rw (main_and_others c.args.layout.version c.args.layout.pieces c.args.procedures.now c.main-item.result c.in-len1-up.len_at_least c.main-item.is, ← c.if-not-is_procedure.ensures, ← c.if-not-all_others.ensures)
    refl
