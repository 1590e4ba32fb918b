-- For crates above: what the bench runs of a container's plan is what it runs of the framed plan.
use Rattle.std.proofs.Common.{◌≡◌, ℕ, List, [], ◌∷◌, refl, ap, ◌∙◌}
use Rattle.std.specs.Prelude.{map}
use Rattle.burr_voxels.specs.declared.cell.Cell.{Cell}
use Rattle.burr_container.specs.Rules.Plans.{Frame, Plan, PlanProcedure}
use Rattle.burr_frames.specs.Rules.FramedPlans.{framed_label, framed_plan, framed_procedure}
use Rattle.burr_state.specs.Rules.Bench.{BenchProcedure, running}
use Rattle.burr_bench.specs.Soundness.Framing.{bench_part, framed_setup}
use Rattle.burr_state.specs.Views.Programs.{bench_procedure, plan_program, positions_of, procedure_of}

same_positions : (labels : List (ℕ × Frame)) → positions_of (map framed_label labels)
    ≡ positions_of labels
same_positions [] = refl
same_positions (label ∷ labels) =
    ap (λ (positions : List ℕ). label.0 ∷ positions) (same_positions labels)

same_procedures : (procedures : List PlanProcedure)
    → map bench_part (map framed_procedure procedures) ≡ map bench_procedure procedures
same_procedures [] = refl
same_procedures (p ∷ procedures) =
    ap (λ (positions : List ℕ). procedure_of p.parameters p.results positions p.code ∷ map bench_part
    (map framed_procedure procedures))
    (same_positions p.labels)
    ∙ ap (λ (rest : List BenchProcedure). bench_procedure p ∷ rest) (same_procedures procedures)

pub same_setup : (plan : Plan) (homes : List (List Cell))
    → framed_setup (framed_plan plan) homes ≡ running homes (plan_program plan)
same_setup plan homes =
    ap (λ (procedures : List BenchProcedure). record { homes = homes; procedures = procedures })
    (same_procedures plan.procedures)
