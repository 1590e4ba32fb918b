-- For crates above: an instruction has one verdict at most in a state.
use Rattle.std.proofs.Common.{ℕ, List}
use Rattle.burr_voxels.specs.declared.cell.Cell.{Cell}
use Rattle.burr_code.specs.Instruction.{Instruction}
use Rattle.burr_frames.specs.Rules.FramedPlans.{FramedProcedure, FramedPlan}
use Rattle.burr_frames.specs.Rules.States.{AbstractState}
use Rattle.burr_frames.specs.Rules.Transfer.{Transfer}
use Rattle.burr_code.proofs.Common.OneAnswer.{IsOne}
use Rattle.burr_code.proofs.Common.Checked.{one_built}
use Rattle.burr_frames.proofs.Common.Built.{transfer_is_built}

pub one_verdict : (homes : List (List Cell)) (plan : FramedPlan) (n : ℕ) (here : FramedProcedure) (s : AbstractState)
    (i : Instruction) → IsOne (Transfer homes plan n here s i)
one_verdict homes plan n here s i = one_built (transfer_is_built homes plan n here s i)
