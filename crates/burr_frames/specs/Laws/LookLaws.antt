-- What holds of the looks of a rule.
use Rattle.std.specs.Prelude.{◌≡◌, ◌≤◌, ◌*◌, ℕ, List, length}
use Rattle.burr_voxels.specs.declared.cell.Cell.{Cell}
use Rattle.burr_code.specs.Instruction.{Instruction, Step, Aside}
use Rattle.burr_forms.specs.declared.limits.TheConstants.{MOST_POINTS}
use Rattle.burr_forms.specs.Rules.Points.{box_size, AreRanges}
use Rattle.burr_frames.specs.Rules.FramedPlans.{FramedProcedure, FramedPlan}
use Rattle.burr_frames.specs.Rules.SpaceRules.{moved}
use Rattle.burr_frames.specs.Rules.States.{AbstractState}
use Rattle.burr_frames.specs.Rules.Transfer.{Transfer}
use Rattle.burr_frames.specs.Rules.Verdicts.{FallsThrough}
use Rattle.burr_frames.specs.Rules.Looks.{all_looks, RuleLooks}

-- a rule has a number of looks
abbrev pub SomeRuleLooks : Type 0
SomeRuleLooks =
    (homes : List (List Cell)) (s : AbstractState) (i : Instruction)
    → (looks : ℕ) × RuleLooks homes s i looks

-- and one at most
abbrev pub OneRuleLooks : Type 0
OneRuleLooks =
    (homes : List (List Cell)) (s : AbstractState) (i : Instruction) (looks others : ℕ)
    → RuleLooks homes s i looks → RuleLooks homes s i others → looks ≡ others

-- for 32 pieces and 4,096 points at most there are at most 256 pairs at each
abbrev pub FewRuleLooks : Type 0
FewRuleLooks =
    (homes : List (List Cell)) (s : AbstractState) (i : Instruction) (looks : ℕ)
    → length homes ≤ 32 → box_size s.ranges ≤ MOST_POINTS → RuleLooks homes s i looks
    → looks ≤ MOST_POINTS * 256

-- all looks of an instruction's rule: each pair at each point
abbrev pub whole_looks : List (List Cell) → AbstractState → Instruction → ℕ
whole_looks homes s (Step direction) =
    length (all_looks homes s (moved s.grip direction s.places))
whole_looks homes s (Aside direction tray) = length (all_looks homes s s.places)
whole_looks homes s i = 0

-- where control falls out of the instruction, no look fails, and all are made
abbrev pub AllAreMade : Type 0
AllAreMade =
    (homes : List (List Cell)) (plan : FramedPlan) (n : ℕ) (here : FramedProcedure)
    (s t : AbstractState) (i : Instruction)
    → AreRanges s.ranges → Transfer homes plan n here s i (FallsThrough t)
    → RuleLooks homes s i (whole_looks homes s i)
