-- The pass over a procedure's code, and what it comes to.
use Rattle.std.specs.Prelude.{◌≡◌, ◌≢◌, ℕ, ◌+◌, ◌<◌, List, length, Option, Some, None, slice_get}
use Rattle.burr_voxels.specs.declared.cell.Cell.{Cell}
use Rattle.burr_code.specs.Instruction.{Instruction, spelled, StandsAt}
use Rattle.burr_forms.specs.Rules.Forms.{Point}
use Rattle.burr_container.specs.Rules.Plans.{Frame}
use Rattle.burr_frames.specs.Rules.Arrival.{Arrives}
use Rattle.burr_frames.specs.Rules.FramedPlans.{FramedProcedure, FramedPlan}
use Rattle.burr_frames.specs.Rules.States.{AbstractState, state_of}
use Rattle.burr_frames.specs.Rules.Transfer.{Transfer}
use Rattle.burr_frames.specs.Rules.Verdicts.{Broken, Breaks, FallsThrough, NoSuccessor, arriving, no_successor}
use Rattle.burr_frames.specs.declared.rule.Rule.{Rule}
use Rattle.burr_verify.specs.Rules.WellFramed.{IsLabelled, HasNoLabel}
use Rattle.burr_frames.specs.declared.rule.Rule.TheVariants as rules

-- a check that fails: where, which, and the pieces and the point where it names them
pub record FailedCheck : Type 0 where
  pub procedure : ℕ
  pub pc : ℕ
  pub rule : Rule
  pub pieces : Option (ℕ × ℕ)
  pub point : Option Point

-- what a judge says
pub data Judgement : Type 0 where
  Passed : Judgement
  Refuses : (refusal : FailedCheck) → Judgement

-- this rule is broken in procedure n at this place
abbrev pub broken : ℕ → ℕ → Broken → Judgement
broken n pc b =
    Refuses (record { procedure = n; pc = pc; rule = b.rule; pieces = b.pieces; point = b.point })

-- the same of a rule that names no pieces and no point
abbrev pub refused : ℕ → ℕ → Rule → Judgement
refused n pc rule = broken n pc (record { rule = rule; pieces = None; point = None })

-- where a pass stands
pub data Stage : Type 0 where
  -- before the place pc; what falls in, if a state does, falls out of the instruction at `last`
  BeforeInstruction : (last pc : ℕ) (falling : Option AbstractState) → Stage
  -- at pc, in this state
  AtInstruction : (pc : ℕ) (s : AbstractState) → Stage

-- the pass begins at the first byte, into which no state falls
abbrev pub pass_start : Stage
pass_start = BeforeInstruction 0 0 None

-- a label stands strictly inside the instruction
abbrev pub Hides : FramedProcedure → ℕ → Instruction → Type 0
Hides here pc i =
    (p : ℕ) × (f : Frame) × IsLabelled here p f × (pc < p) × (p < pc + length (spelled i))

-- The pass over procedure n, from a stage on.
pub data Pass (homes : List (List Cell)) (plan : FramedPlan) (n : ℕ) (here : FramedProcedure)
    : Stage → Judgement → Type 0 where
  -- The code ends with no state left: all is well.
  ends : (last pc : ℕ) → pc ≡ length here.code
      → Pass homes plan n here (BeforeInstruction last pc None) Passed
  -- The code ends with a state left: control falls off the end.
  falls_off : (last pc : ℕ) (s : AbstractState) → pc ≡ length here.code
      → Pass homes plan n here (BeforeInstruction last pc (Some s)) (refused n last rules.UnendedCode)
  -- No state falls in and no label stands here: a frame is missing.
  lacks_frame : (last pc : ℕ) → pc ≢ length here.code → HasNoLabel here pc
      → Pass homes plan n here (BeforeInstruction last pc None) (refused n pc rules.MissingFrame)
  -- No state falls in: the frame's goes on.
  resumes : (last pc : ℕ) (f : Frame) (j : Judgement) → pc ≢ length here.code → IsLabelled here pc f
      → Pass homes plan n here (AtInstruction pc (state_of f)) j
      → Pass homes plan n here (BeforeInstruction last pc None) j
  -- The state that falls in does not arrive at the frame; this is judged at the instruction that
  -- falls.
  misses : (last pc : ℕ) (s : AbstractState) (f : Frame) (b : Broken) → pc ≢ length here.code
      → IsLabelled here pc f
      → arriving s f no_successor (Breaks b)
      → Pass homes plan n here (BeforeInstruction last pc (Some s)) (broken n last b)
  -- The state that falls in arrives at the frame, and the frame's goes on.
  arrives : (last pc : ℕ) (s : AbstractState) (f : Frame) (j : Judgement) → pc ≢ length here.code
      → IsLabelled here pc f → Arrives s f
      → Pass homes plan n here (AtInstruction pc (state_of f)) j
      → Pass homes plan n here (BeforeInstruction last pc (Some s)) j
  -- No label stands here: the state that falls in goes on.
  goes_on : (last pc : ℕ) (s : AbstractState) (j : Judgement) → pc ≢ length here.code
      → HasNoLabel here pc
      → Pass homes plan n here (AtInstruction pc s) j
      → Pass homes plan n here (BeforeInstruction last pc (Some s)) j
  -- No instruction stands here.
  lacks_instruction : (pc : ℕ) (s : AbstractState) → ((i : Instruction) → ¬ StandsAt here.code pc i)
      → Pass homes plan n here (AtInstruction pc s) (refused n pc rules.BadCode)
  -- A label stands strictly inside the instruction.
  hides : (pc : ℕ) (s : AbstractState) (i : Instruction) → StandsAt here.code pc i → Hides here pc i
      → Pass homes plan n here (AtInstruction pc s) (refused n pc rules.BadLabel)
  -- The instruction's rule is broken.
  breaks : (pc : ℕ) (s : AbstractState) (i : Instruction) (b : Broken) → StandsAt here.code pc i
      → (¬ Hides here pc i)
      → Transfer homes plan n here s i (Breaks b)
      → Pass homes plan n here (AtInstruction pc s) (broken n pc b)
  -- Control falls out of the instruction with a state.
  falls_through : (pc : ℕ) (s t : AbstractState) (i : Instruction) (j : Judgement)
      → StandsAt here.code pc i → (¬ Hides here pc i)
      → Transfer homes plan n here s i (FallsThrough t)
      → Pass homes plan n here (BeforeInstruction pc (pc + length (spelled i)) (Some t)) j
      → Pass homes plan n here (AtInstruction pc s) j
  -- The instruction leaves no state after.
  stops : (pc : ℕ) (s : AbstractState) (i : Instruction) (j : Judgement) → StandsAt here.code pc i
      → (¬ Hides here pc i)
      → Transfer homes plan n here s i NoSuccessor
      → Pass homes plan n here (BeforeInstruction pc (pc + length (spelled i)) None) j
      → Pass homes plan n here (AtInstruction pc s) j

-- What containers promise: a procedure's labels stand at rising places of its code.
pub record IsLaidOut (here : FramedProcedure) : Type 0 where
  pub rising : (j k : ℕ) (a b : ℕ × Frame) → j < k → slice_get here.labels j ≡ Some a
      → slice_get here.labels k ≡ Some b → a.0 < b.0
  pub within : (pc : ℕ) (f : Frame) → IsLabelled here pc f → pc < length here.code

-- the labels of each procedure of a plan stand in this way
abbrev pub AllLaidOut : FramedPlan → Type 0
AllLaidOut plan =
    (n : ℕ) (here : FramedProcedure) → slice_get plan.procedures n ≡ Some here → IsLaidOut here
