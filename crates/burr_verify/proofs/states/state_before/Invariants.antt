-- Wherever the pass comes to the place that is asked for, what is left of it goes on from here with
-- this state.
use Rattle.std.proofs.Common.{◌-◌, List, None, Option}
use Rattle.burr_voxels.specs.declared.cell.Cell.{Cell}
use Rattle.burr_frames.specs.Views.Here.{OfFramedProcedure}
use Rattle.burr_frames.specs.Rules.States.{AbstractState}
use Rattle.burr_verify.specs.Rules.Fronts.{PassesTo}
use Rattle.burr_verify.specs.Rules.WellFramed.{Annotated}
use Rattle.burr_verify.proofs.states.state_before.Given as goal

abbrev pub invariant-loop-at : goal.invariant-loop-at
invariant-loop-at l =
    OfFramedProcedure l.procedure (λ plan here. (homes : List (List Cell)) (rows : List Annotated) (out : Option AbstractState)
    → PassesTo homes plan l.procedure.number here 0 None rows l.pc out
    → (left : List Annotated) × PassesTo homes plan l.procedure.number here l.at l.state left l.pc out)

abbrev pub decreases-loop-at : goal.decreases-loop-at
decreases-loop-at l = l.pc - l.at
