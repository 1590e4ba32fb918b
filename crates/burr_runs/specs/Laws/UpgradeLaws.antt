-- A plan of version 1 and its plan of version 2 are judged and run alike.
use Rattle.std.specs.Prelude.{◌↔◌, ℕ, ℤ, List}
use Rattle.burr_voxels.specs.declared.cell.Cell.{Cell}
use Rattle.burr_assembly.specs.Rules.Text.{Assembly}
use Rattle.burr_container.specs.Rules.Plans.{Plan}
use Rattle.burr_frames.specs.Rules.FramedPlans.{framed_plan}
use Rattle.burr_verify.specs.Rules.Judging.{Judging}
use Rattle.burr_verify.specs.Rules.Pass.{Judgement}
use Rattle.burr_verify.specs.Rules.WellFramed.{IsWellFramed}
use Rattle.burr_state.specs.declared.effect.Closing.{Closing}
use Rattle.burr_state.specs.declared.effect.Motion.{Motion}
use Rattle.burr_state.specs.Rules.Bench.{start}
use Rattle.burr_state.specs.Rules.Run.{Run}
use Rattle.burr_container.specs.Rules.Plans.{upgraded}
use Rattle.burr_runs.specs.declared.text_runs.Outcome.{Outcome}
use Rattle.burr_runs.specs.Rules.Headline.{setup_for, IsSafeSheetOf}

-- Whatever the assembly, the judgement of the upgraded plan is that of the plan: accepted, or refused
-- by the same rule at the same place, with the same pieces and point.
abbrev pub JudgedAsBefore : Type 0
JudgedAsBefore =
    (p : Plan) (name : List ℕ) (homes : List (List Cell)) (judgement : Judgement)
    → Judging name homes (framed_plan (upgraded p)) judgement
    ↔ Judging name homes (framed_plan p) judgement

-- it is well framed where the plan is
abbrev pub FramedAsBefore : Type 0
FramedAsBefore =
    (p : Plan) (name : List ℕ) (homes : List (List Cell))
    → IsWellFramed name homes (framed_plan (upgraded p)) ↔ IsWellFramed name homes (framed_plan p)

-- Whatever the assembly and the answers, the run of the upgraded plan is that of the plan, motion by
-- motion.
abbrev pub RunsAsBefore : Type 0
RunsAsBefore =
    (a : Assembly) (p : Plan) (answers : List ℤ) (motions : List Motion) (steps : ℕ)
    (closing : Closing)
    → Run (setup_for a (upgraded p)) (upgraded p).budget (start (setup_for a (upgraded p))) answers
    motions steps closing
    ↔ Run (setup_for a p) p.budget (start (setup_for a p)) answers motions steps closing

-- and so is its sheet
abbrev pub SheetAsBefore : Type 0
SheetAsBefore =
    (a : Assembly) (p : Plan) (answers : List ℤ) (output : List ℕ) (outcome : Outcome)
    → IsSafeSheetOf a (upgraded p) answers output outcome
    ↔ IsSafeSheetOf a p answers output outcome
