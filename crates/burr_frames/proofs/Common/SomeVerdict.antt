-- For crates above: an instruction has a verdict in each state.
use Rattle.std.proofs.Common.{ℕ, List}
use Rattle.burr_voxels.specs.declared.cell.Cell.{Cell}
use Rattle.burr_code.specs.Instruction.{Instruction}
use Rattle.burr_frames.specs.Rules.FramedPlans.{FramedProcedure, FramedPlan}
use Rattle.burr_frames.specs.Rules.States.{AbstractState}
use Rattle.burr_frames.specs.Rules.Transfer.{Transfer}
use Rattle.burr_code.proofs.Common.Checked.{HasOne, some_built}
use Rattle.burr_frames.proofs.Common.Built.{transfer_is_built}

pub some_verdict : (homes : List (List Cell)) (plan : FramedPlan) (n : ℕ) (here : FramedProcedure) (s : AbstractState)
    (i : Instruction) → HasOne (Transfer homes plan n here s i)
some_verdict homes plan n here s i = some_built (transfer_is_built homes plan n here s i)
