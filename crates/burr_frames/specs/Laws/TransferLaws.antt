-- The law of the transfer rules.
use Rattle.std.specs.Prelude.{◌≡◌, ℕ, List}
use Rattle.burr_voxels.specs.declared.cell.Cell.{Cell}
use Rattle.burr_code.specs.Instruction.{Instruction}
use Rattle.burr_frames.specs.Rules.FramedPlans.{FramedProcedure, FramedPlan}
use Rattle.burr_frames.specs.Rules.States.{AbstractState}
use Rattle.burr_frames.specs.Rules.Transfer.{Transfer}
use Rattle.burr_frames.specs.Rules.Verdicts.{Verdict}

-- an instruction has exactly one verdict in a state
abbrev pub OneVerdict : Type 0
OneVerdict =
    (homes : List (List Cell)) (plan : FramedPlan) (n : ℕ) (here : FramedProcedure)
    (s : AbstractState) (i : Instruction)
    → ((v : Verdict) × Transfer homes plan n here s i v)
    × ((v w : Verdict) → Transfer homes plan n here s i v → Transfer homes plan n here s i w
    → v ≡ w)
