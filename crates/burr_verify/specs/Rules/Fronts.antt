-- What a refusal of the pass means: up to its place the code is cut and the rules hold, and there a
-- check fails.
use Rattle.std.specs.Prelude.{◌≡◌, ◌≢◌, ◌⊎◌, ℕ, ◌<◌, List, [], ◌∷◌, length, Option, Some, None}
use Rattle.burr_voxels.specs.declared.cell.Cell.{Cell}
use Rattle.burr_code.specs.Instruction.{Instruction, StandsAt}
use Rattle.burr_container.specs.Rules.Plans.{Frame}
use Rattle.burr_frames.specs.Rules.FramedPlans.{FramedProcedure, FramedPlan}
use Rattle.burr_frames.specs.Rules.States.{AbstractState, state_of}
use Rattle.burr_frames.specs.Rules.Transfer.{Transfer}
use Rattle.burr_frames.specs.Rules.Verdicts.{Broken, Verdict, Breaks, arriving, no_successor}
use Rattle.burr_verify.specs.Rules.Pass.{FailedCheck, Refuses, broken, refused, Hides}
use Rattle.burr_verify.specs.Rules.WellFramed.{Annotated, after, IsLabelled, HasNoLabel, Enters, FallsOut, IsBefore}
use Rattle.burr_frames.specs.declared.rule.Rule.TheVariants as rules

-- The code from pc on, into which this state falls, is cut into these instructions up to a place
-- into which `out` falls; the rules hold of each, and no label is inside one.
abbrev pub PassesTo : List (List Cell) → FramedPlan → ℕ → FramedProcedure → ℕ → Option AbstractState
    → List Annotated → ℕ → Option AbstractState → Type 0
PassesTo homes plan n here pc falling [] to out = (pc ≡ to) × (falling ≡ out)
PassesTo homes plan n here pc falling (row ∷ rows) to out =
    (row.pc ≡ pc) × StandsAt here.code pc row.instruction × Enters here pc falling row.state
    × (¬ Hides here pc row.instruction)
    × (verdict : Verdict) × (next : Option AbstractState)
    × Transfer homes plan n here row.state row.instruction verdict × FallsOut verdict next
    × PassesTo homes plan n here (after row) next rows to out

-- where the last of these instructions stands
abbrev pub last_from : ℕ → List Annotated → ℕ
last_from last [] = last
last_from last (row ∷ rows) = last_from row.pc rows

-- a front of a cut, up to a place into which this state falls
pub record IsFront (homes : List (List Cell)) (plan : FramedPlan) (n : ℕ) (here : FramedProcedure)
    (rows : List Annotated) (to : ℕ) (out : Option AbstractState) : Type 0 where
  pub passes : PassesTo homes plan n here 0 None rows to out
  pub labels : (p : ℕ) (f : Frame) → p < to → IsLabelled here p f → IsBefore rows p (state_of f)

-- a check between instructions fails: a frame is missing, the code ends too early, or the state
-- does not arrive
abbrev pub FailsBetween : ℕ → FramedProcedure → ℕ → ℕ → Option AbstractState → FailedCheck → Type 0
FailsBetween n here last pc None r =
    (pc ≢ length here.code) × HasNoLabel here pc × (Refuses r ≡ refused n pc rules.MissingFrame)
FailsBetween n here last pc (Some s) r =
    ((pc ≡ length here.code) × (Refuses r ≡ refused n last rules.UnendedCode))
    ⊎ ((f : Frame) × (b : Broken) × (pc ≢ length here.code) × IsLabelled here pc f
    × arriving s f no_successor (Breaks b) × (Refuses r ≡ broken n last b))

-- a check of the instruction at pc fails in this state: none stands there, it hides a label, or its
-- rule is broken
abbrev pub FailsAt : List (List Cell) → FramedPlan → ℕ → FramedProcedure → ℕ → AbstractState
    → FailedCheck → Type 0
FailsAt homes plan n here pc s r =
    (((i : Instruction) → ¬ StandsAt here.code pc i) × (Refuses r ≡ refused n pc rules.BadCode))
    ⊎ (((i : Instruction) × StandsAt here.code pc i × Hides here pc i
    × (Refuses r ≡ refused n pc rules.BadLabel))
    ⊎ ((i : Instruction) × (b : Broken) × StandsAt here.code pc i × (¬ Hides here pc i)
    × Transfer homes plan n here s i (Breaks b) × (Refuses r ≡ broken n pc b)))

-- the check that comes first after a front fails
abbrev pub FailsNext : List (List Cell) → FramedPlan → ℕ → FramedProcedure → ℕ → ℕ
    → Option AbstractState → FailedCheck → Type 0
FailsNext homes plan n here last pc falling r =
    FailsBetween n here last pc falling r
    ⊎ ((s : AbstractState) × (pc ≢ length here.code) × Enters here pc falling s
    × FailsAt homes plan n here pc s r)

-- This refusal names the first check of the pass that fails.
abbrev pub IsFirstFailure : List (List Cell) → FramedPlan → ℕ → FramedProcedure → FailedCheck
    → Type 0
IsFirstFailure homes plan n here r =
    (rows : List Annotated) × (to : ℕ) × (out : Option AbstractState)
    × IsFront homes plan n here rows to out
    × FailsNext homes plan n here (last_from 0 rows) to out r

-- The pass comes to the instruction at pc in this state: it cuts the code before it, and the rules
-- hold there.
abbrev pub ComesTo : List (List Cell) → FramedPlan → ℕ → FramedProcedure → ℕ → AbstractState
    → Type 0
ComesTo homes plan n here pc s =
    (rows : List Annotated) × (falling : Option AbstractState)
    × PassesTo homes plan n here 0 None rows pc falling × Enters here pc falling s

-- The pass goes over the instruction at pc, whose rule holds, and this state falls out of it, if one
-- does.
abbrev pub GoesOver : List (List Cell) → FramedPlan → ℕ → FramedProcedure → ℕ
    → Option AbstractState → Type 0
GoesOver homes plan n here pc out =
    (s : AbstractState) × (i : Instruction) × (verdict : Verdict) × ComesTo homes plan n here pc s
    × StandsAt here.code pc i × Transfer homes plan n here s i verdict × FallsOut verdict out
