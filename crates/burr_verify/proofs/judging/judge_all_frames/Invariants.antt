use Rattle.burr_container.specs.Rules.Plans.{Plan}
use Rattle.burr_container.specs.Views.Containers.{IsContainer}
use Rattle.burr_frames.specs.Rules.FramedPlans.{framed_plan}
use Rattle.burr_verify.specs.Rules.Judging.{judging_frames}
use Rattle.burr_verify.specs.Views.Judgements.{PartFrom}
use Rattle.std.specs.Prelude.{drop}
use Rattle.burr_verify.proofs.judging.judge_all_frames.Given as goal

abbrev pub invariant-loop-number : goal.invariant-loop-number
invariant-loop-number l =
    (p : Plan) → IsContainer l.container p → PartFrom (judging_frames l.number (drop l.number (framed_plan p).procedures))
    (judging_frames 0 (framed_plan p).procedures)
