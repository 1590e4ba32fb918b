-- Plans that are well framed: code that can be cut into instructions with a state before each, as
-- the type checker of the JVM Specification, 4.10.1, merges code and stack map frames.
use Rattle.std.specs.Prelude.{◌≡◌, ◌≢◌, ◌⊎◌, ℕ, ◌+◌, ◌<◌, ◌≤◌, pos, ◌≤ℤ◌, List, [], ◌∷◌, length, Option, Some, None, slice_get}
use Rattle.burr_voxels.specs.declared.cell.Cell.{Cell}
use Rattle.burr_code.specs.declared.placement.Placement.{Placement}
use Rattle.burr_code.specs.Places.{AllLieIn, count_in}
use Rattle.burr_code.specs.Instruction.{Instruction, spelled, StandsAt}
use Rattle.burr_forms.specs.declared.limits.TheConstants.{MOST_POINTS}
use Rattle.burr_forms.specs.Rules.Forms.{value}
use Rattle.burr_forms.specs.Rules.Points.{box_size}
use Rattle.burr_container.specs.Rules.Plans.{FormCell, Range, Frame}
use Rattle.burr_frames.specs.Rules.FramedPlans.{FramedExit, FramedProcedure, FramedPlan}
use Rattle.burr_frames.specs.Rules.States.{AbstractState, live_ranges, state_of}
use Rattle.burr_frames.specs.Rules.Arrival.{Meets, Arrives}
use Rattle.burr_frames.specs.Rules.Verdicts.{Verdict, Breaks, FallsThrough, NoSuccessor}
use Rattle.burr_frames.specs.Rules.ControlRules.{entry_of}
use Rattle.burr_frames.specs.Rules.Transfer.{Transfer}
use Rattle.burr_frames.specs.Rules.Starts.{start_state}

-- Cuts

-- an instruction of a cut, and the state before it
pub record Annotated : Type 0 where
  pub pc : ℕ
  pub instruction : Instruction
  pub state : AbstractState

-- where the next instruction stands
abbrev pub after : Annotated → ℕ
after row = row.pc + length (spelled row.instruction)

-- a label of this frame stands at pc
abbrev pub IsLabelled : FramedProcedure → ℕ → Frame → Type 0
IsLabelled here pc f = (k : ℕ) × (slice_get here.labels k ≡ Some (pc, f))

abbrev pub HasNoLabel : FramedProcedure → ℕ → Type 0
HasNoLabel here pc = (f : Frame) → ¬ IsLabelled here pc f

-- The state before the instruction at pc, where this state falls in: that of the frame, at which it
-- arrives, or the state itself. Where none falls in a frame is needed.
abbrev pub Enters : FramedProcedure → ℕ → Option AbstractState → AbstractState → Type 0
Enters here pc (Some s) state =
    ((f : Frame) × IsLabelled here pc f × Arrives s f × (state ≡ state_of f))
    ⊎ (HasNoLabel here pc × (state ≡ s))
Enters here pc None state = (f : Frame) × IsLabelled here pc f × (state ≡ state_of f)

-- the state that falls out of an instruction, if there is one; no rule is broken
abbrev pub FallsOut : Verdict → Option AbstractState → Type 0
FallsOut (Breaks broken) falling = ⊥
FallsOut (FallsThrough s) falling = falling ≡ Some s
FallsOut NoSuccessor falling = falling ≡ None

-- The code from pc on, into which this state falls, is cut into these instructions, and the rules
-- hold of each.
abbrev pub IsCutFrom : List (List Cell) → FramedPlan → ℕ → FramedProcedure → ℕ
    → Option AbstractState → List Annotated → Type 0
IsCutFrom homes plan n here pc falling [] = (pc ≡ length here.code) × (falling ≡ None)
IsCutFrom homes plan n here pc falling (row ∷ rows) =
    (row.pc ≡ pc) × StandsAt here.code pc row.instruction × Enters here pc falling row.state
    × (verdict : Verdict) × (out : Option AbstractState)
    × Transfer homes plan n here row.state row.instruction verdict × FallsOut verdict out
    × IsCutFrom homes plan n here (after row) out rows

-- the instruction at pc is one of the cut, and this is the state before it
abbrev pub IsBefore : List Annotated → ℕ → AbstractState → Type 0
IsBefore rows pc s =
    (k : ℕ) × (row : Annotated) × (slice_get rows k ≡ Some row) × (row.pc ≡ pc) × (row.state ≡ s)

-- a cut of a procedure's code: one pass from its first byte, with each label at an instruction
pub record IsCut (homes : List (List Cell)) (plan : FramedPlan) (n : ℕ) (here : FramedProcedure)
    (rows : List Annotated) : Type 0 where
  pub passes : IsCutFrom homes plan n here 0 None rows
  pub labels : (pc : ℕ) (f : Frame) → IsLabelled here pc f → IsBefore rows pc (state_of f)

-- Frames

abbrev pub HasNoLonePiece : List (Placement FormCell) → Type 0
HasNoLonePiece places = (tray : ℕ) → count_in tray places ≢ 1

-- no parameter is forgotten; the grip lies in the current tray; no tray holds one piece
pub record IsFormed (parameters : ℕ) (f : Frame) : Type 0 where
  pub live : (v : ℕ) → v < parameters → (range : Range) × (slice_get f.slots v ≡ Some (Some range))
  pub gripped : AllLieIn f.places f.tray f.grip
  pub trays : HasNoLonePiece f.places

-- an entry frame has no other live slot, and no operand
pub record IsFormedEntry (parameters : ℕ) (f : Frame) : Type 0 where
  pub alone : (v : ℕ) → parameters ≤ v → (range : Range) → slice_get f.slots v ≢ Some (Some range)
  pub bare : f.stack ≡ []

pub record IsFormedExit (f : FramedExit) : Type 0 where
  pub gripped : AllLieIn f.places f.tray f.grip
  pub trays : HasNoLonePiece f.places

-- Plans

-- the frame is formed, and its box has no more than 4,096 points
abbrev pub IsTakenFrame : ℕ → Frame → Type 0
IsTakenFrame parameters f =
    IsFormed parameters f × (box_size (live_ranges f.slots) ≤ MOST_POINTS)

pub record IsFramedProcedure (homes : List (List Cell)) (plan : FramedPlan) (n : ℕ)
    (here : FramedProcedure) : Type 0 where
  pub exit : (f : FramedExit) → here.exit ≡ Some f → IsFormedExit f
  pub entry : (f : Frame) → entry_of here ≡ Some f → IsFormedEntry here.parameters f
  pub frames : (pc : ℕ) (f : Frame) → IsLabelled here pc f → IsTakenFrame here.parameters f
  pub cut : (rows : List Annotated) × IsCut homes plan n here rows

-- the start meets main's entry, whose cost is within the budget
pub record StartsWell (homes : List (List Cell)) (plan : FramedPlan) : Type 0 where
  pub main : FramedProcedure
  pub frame : Frame
  pub is_main : slice_get plan.procedures 0 ≡ Some main
  pub is_entry : entry_of main ≡ Some frame
  pub meets : Meets (start_state homes) frame
  pub cost : value [] frame.cost ≤ℤ pos plan.budget

-- A plan is well framed for these pieces.
pub record IsWellFramed (name : List ℕ) (homes : List (List Cell)) (plan : FramedPlan)
    : Type 0 where
  pub same_name : plan.name ≡ name
  pub same_count : plan.pieces ≡ length homes
  pub each : (n : ℕ) (here : FramedProcedure) → slice_get plan.procedures n ≡ Some here
      → IsFramedProcedure homes plan n here
  pub start : StartsWell homes plan
