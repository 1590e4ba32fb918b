use Rattle.std.proofs.Common.{◌≡◌, ◌≤◌, ◌*◌, ◌^◌}
use Rattle.burr_container.specs.Rules.Plans.{Plan}
use Rattle.burr_container.specs.Views.Containers.{IsContainer}
use Rattle.burr_assembly.specs.Rules.Homes.{homes_of}
use Rattle.burr_frames.specs.Rules.FramedPlans.{framed_plan}
use Rattle.burr_verify.specs.Views.LookViews.{LooksFrom}
use Rattle.burr_verify.proofs.judging.judge_all_code.Given as goal

abbrev pub invariant-loop-number : goal.invariant-loop-number
invariant-loop-number g l =
    ((p : Plan) → IsContainer l.container p
    → LooksFrom (homes_of l.initial.looks.assembly) (framed_plan p) l.number l.looks.count)
    × (l.looks.count ≤ l.number * 2 ^ 32) × (l.looks.assembly ≡ l.initial.looks.assembly)
