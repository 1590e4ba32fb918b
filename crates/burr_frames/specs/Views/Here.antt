-- Procedures that a container lends, as the verifier reads them in the container's plan.
use Rattle.std.specs.Prelude.{◌≡◌, ℕ, Option, Some, None, Result, slice_get}
use Rattle.burr_container.specs.declared.frame_ref.FrameRef.{FrameRef}
use Rattle.burr_container.specs.declared.procedure_ref.ProcedureRef.{ProcedureRef}
use Rattle.burr_container.specs.Rules.Plans.{Plan, Frame}
use Rattle.burr_container.specs.Views.Containers.{IsContainer}
use Rattle.burr_container.specs.Views.Refs.{frame_of}
use Rattle.burr_frames.specs.declared.rule.Break.{Break}
use Rattle.burr_frames.specs.declared.rule.Rule.TheVariants as rules
use Rattle.burr_frames.specs.Rules.FramedPlans.{FramedProcedure, FramedPlan, framed, framed_plan}
use Rattle.burr_frames.specs.Views.Breaks.{FindsOrBreaks}

-- it holds of the container's plan and of the procedure in it
abbrev pub OfFramedProcedure : ProcedureRef → (FramedPlan → FramedProcedure → Type 0) → Type 0
OfFramedProcedure r Holds =
    (p : Plan) (here : FramedProcedure) → IsContainer r.container.now p
    → slice_get (framed_plan p).procedures r.number ≡ Some here → Holds (framed_plan p) here

-- the frame that is found is that of the label
abbrev pub IsFrameFound : Option (ℕ × Frame) → FrameRef → Type 0
IsFrameFound label f = (position : ℕ) × (label ≡ Some (position, framed (frame_of f)))

-- it is found; or there is no such label, and the rule is broken
abbrev pub FindsFrame : Option (ℕ × Frame) → Result FrameRef Break → Type 0
FindsFrame label result = FindsOrBreaks (IsFrameFound label) (label ≡ None) rules.BadJump result

-- there is something
abbrev pub IsSomeOf : {A : Type 0} → Option A → Type 0
IsSomeOf {A} found = (a : A) × (found ≡ Some a)
