-- The pass goes on from its outset to the place that is reached, by the looks that were counted.
use Rattle.std.proofs.Common.{◌≡◌, ◌<◌, ◌≤◌, ◌+◌, ◌*◌, ◌^◌, ◌-◌, length}
use Rattle.burr_assembly.specs.Rules.Homes.{homes_of}
use Rattle.burr_blocking.specs.Rules.Counted.{HasCounted}
use Rattle.burr_code.specs.declared.limits.TheConstants.{MOST_CODE}
use Rattle.burr_frames.specs.Views.Here.{OfFramedProcedure}
use Rattle.burr_verify.specs.Views.LookViews.{LooksOn, HasRoomBefore}
use Rattle.burr_verify.specs.Rules.Pass.{BeforeInstruction, pass_start}
use Rattle.burr_verify.proofs.passing.judge_code.Given as goal

abbrev pub invariant-loop-pc : goal.invariant-loop-pc
invariant-loop-pc g l =
    OfFramedProcedure l.procedure (λ plan here.
    HasCounted (LooksOn (homes_of l.initial.looks.assembly) plan l.procedure.number here pass_start (BeforeInstruction l.last l.pc l.state))
    l.initial.looks l.looks
    × (l.pc ≤ length here.code))
    × (l.last ≤ l.pc) × (l.last < MOST_CODE) × HasRoomBefore l.state
    × (l.looks.count ≤ l.initial.looks.count + l.pc * 2 ^ 20)
    × (l.looks.assembly ≡ l.initial.looks.assembly)

abbrev pub decreases-loop-pc : goal.decreases-loop-pc
decreases-loop-pc g l = l.size - l.pc
