-- What the code's answers say of looks: how many there were so far, whatever follows.
use Rattle.std.specs.Prelude.{◌≡◌, ◌+◌, ℕ, List, drop, slice_get, Option, Some, IfSome}
use Rattle.burr_voxels.specs.declared.cell.Cell.{Cell}
use Rattle.burr_container.specs.declared.procedure_ref.ProcedureRef.{ProcedureRef}
use Rattle.burr_container.specs.Views.Containers.{IsContainer}
use Rattle.burr_container.specs.Rules.Plans.{Plan, Frame}
use Rattle.burr_frames.specs.Rules.FramedPlans.{FramedProcedure, FramedPlan, framed_plan}
use Rattle.burr_frames.specs.Rules.Looks.{HasRoom}
use Rattle.burr_frames.specs.Rules.States.{AbstractState}
use Rattle.burr_verify.specs.Rules.Judging.{HasRoomForPoints}
use Rattle.burr_verify.specs.Rules.Pass.{Judgement, Refuses, Stage, AtInstruction}
use Rattle.burr_verify.specs.Views.Judgements.{failed_check}
use Rattle.burr_verify.specs.declared.refusal.Refusal.{Refusal}
use Rattle.burr_verify.specs.Rules.PassLooks.{LookedPass, looking_code}
use Rattle.burr_verify.specs.Rules.WellFramed.{IsLabelled}

-- from one stage a pass goes on to another by this many looks, whatever it comes to from there
abbrev pub LooksOn : List (List Cell) → FramedPlan → ℕ → FramedProcedure → Stage → Stage → ℕ
    → Type 0
LooksOn homes plan n here from to looks =
    (j : Judgement) (after : ℕ) → LookedPass homes plan n here to j after
    → LookedPass homes plan n here from j (looks + after)

-- from one stage a pass goes on, by no look, to the instruction at pc, in the state that is there
abbrev pub LooksInto : List (List Cell) → FramedPlan → ℕ → FramedProcedure → Stage → ℕ
    → Option AbstractState → Type 0
LooksInto homes plan n here from pc there =
    (s : AbstractState) × (there ≡ Some s) × LooksOn homes plan n here from (AtInstruction pc s) 0

-- the pass ends after this many looks, by this refusal
abbrev pub LooksStop : List (List Cell) → FramedPlan → ℕ → FramedProcedure → Stage → Refusal → ℕ
    → Type 0
LooksStop homes plan n here from r looks =
    LookedPass homes plan n here from (Refuses (failed_check r)) looks

-- after this many looks the procedures from number i on are still to be passed
abbrev pub LooksFrom : List (List Cell) → FramedPlan → ℕ → ℕ → Type 0
LooksFrom homes plan i looks =
    (j : Judgement) (after : ℕ)
    → looking_code homes plan i (drop i plan.procedures) j after
    → looking_code homes plan 0 plan.procedures j (looks + after)

-- Room for points, on which the bound on the looks rests

-- the state that falls in has room, if there is one
abbrev pub HasRoomBefore : Option AbstractState → Type 0
HasRoomBefore falling = IfSome falling HasRoom

-- each frame of the procedure has room
abbrev pub FramesHaveRoom : FramedProcedure → Type 0
FramesHaveRoom here = (pc : ℕ) (f : Frame) → IsLabelled here pc f → HasRoomForPoints f

-- the procedure's container has a plan, and the procedure has such frames in it
abbrev pub HasRoomyFrames : ProcedureRef → Type 0
HasRoomyFrames r =
    (p : Plan) × (here : FramedProcedure) × IsContainer r.container.now p
    × (slice_get (framed_plan p).procedures r.number ≡ Some here) × FramesHaveRoom here
