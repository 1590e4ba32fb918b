-- Bytes of a plan and an assembly: they are refused, or the plan is used.
use Rattle.std.specs.Prelude.{◌≡◌, ◌≢◌, ◌⊎◌, ℕ, List, take, IsTrue, codes}
use Rattle.burr_asm.specs.declared.fault.AsmFault.{AsmFault}
use Rattle.burr_asm.specs.Rules.Faults.{IsFirstFault}
use Rattle.burr_asm.specs.Rules.Assembling.{IsAssembled}
use Rattle.burr_assembly.specs.declared.fault.AssemblyFault.{AssemblyFault}
use Rattle.burr_assembly.specs.Rules.Text.{Assembly, IsText}
use Rattle.burr_assembly.specs.Rules.Faults.{FirstFault}
use Rattle.burr_container.specs.declared.fault.ContainerFault.{ContainerFault}
use Rattle.burr_container.specs.Rules.Plans.{Plan}
use Rattle.burr_container.specs.Rules.Fitting.{is_fitting}
use Rattle.burr_container.specs.Rules.Spelling.{plan_bytes}
use Rattle.burr_container.specs.Rules.Faults.{ContainerFails}
use Rattle.burr_container.specs.Views.Containers.{ContainerView, IsContainer}
use Rattle.burr_verify.specs.Rules.Fitting.{FitsAssembly}
use Rattle.burr_verify.specs.Views.Refusals.{another_assembly}
use Rattle.burr_runs.specs.Rules.Refusals.{assembly_refusal, container_refusal}
use Rattle.burr_runs.specs.Rules.Verdicts.{plan_refusal}
use Rattle.burr_judge.specs.declared.plan_input.PlanInput.{PlanInput}
use Rattle.burr_judge.specs.declared.plan_input.PlanInput.TheVariants as inputs
use Rattle.burr_judge.specs.Refusals.{plan_text_refusal}

-- the bytes are those of a plan within the format, and the container is that plan's
abbrev pub IsRead : List ℕ → ContainerView → Type 0
IsRead bytes kept =
    (p : Plan) × IsTrue (is_fitting p) × (bytes ≡ plan_bytes p) × IsContainer kept p

-- the first fault of an assembly's text is refused, or its assembly is used
abbrev pub TextComes : (List ℕ → Type 0) → (Assembly → Type 0) → List ℕ → Type 0
TextComes Refuses Uses text =
    ((fault : AssemblyFault) × FirstFault text fault × Refuses (assembly_refusal text fault))
    ⊎ ((a : Assembly) × IsText text a × Uses a)

-- the first fault of a plan text is refused, or the bytes that it is assembled to are used
abbrev pub PlanTextComes : (List ℕ → Type 0) → (List ℕ → Type 0) → List ℕ → Type 0
PlanTextComes Refuses Uses text =
    ((fault : AsmFault) × IsFirstFault text fault × Refuses (plan_text_refusal fault))
    ⊎ ((bytes : List ℕ) × IsAssembled text bytes × Uses bytes)

-- the first fault of a container's bytes is refused, or the container is used
abbrev pub BytesCome : (List ℕ → Type 0) → (ContainerView → Type 0) → List ℕ → Type 0
BytesCome Refuses Uses bytes =
    ((fault : ContainerFault) × ContainerFails 0 bytes fault × Refuses (container_refusal fault))
    ⊎ ((kept : ContainerView) × IsRead bytes kept × Uses kept)

-- the bytes of a plan's container, as it is given
abbrev pub IsOfBytes : PlanInput → List ℕ → Type 0
IsOfBytes (inputs.Container kept) bytes = bytes ≡ kept.now
IsOfBytes (inputs.Text text) bytes = IsAssembled text.now bytes

pub record AreBytesOf (plan : PlanInput) (bytes : List ℕ) : Type 0 where
  pub are : IsOfBytes plan bytes

-- this line names the first fault of a plan text
abbrev pub RefusesPlanBytes : List ℕ → List ℕ → Type 0
RefusesPlanBytes text line =
    (fault : AsmFault) × IsFirstFault text fault × (line ≡ plan_text_refusal fault)

-- the same of a plan, as it is given; a container has no fault here
abbrev pub RefusesInput : PlanInput → List ℕ → Type 0
RefusesInput (inputs.Container bytes) line = ⊥
RefusesInput (inputs.Text text) line = RefusesPlanBytes text.now line

-- a plan as it is given by bytes: what begins with the mark of a container is one, and else a text
abbrev pub IsPlanInput : List ℕ → PlanInput → Type 0
IsPlanInput bytes (inputs.Container kept) = (take 4 bytes ≡ codes "BPLN") × (kept.now ≡ bytes)
IsPlanInput bytes (inputs.Text text) = (take 4 bytes ≢ codes "BPLN") × (text.now ≡ bytes)

-- the plan is for the assembly
abbrev pub IsFor : ContainerView → Assembly → Type 0
IsFor kept a = (p : Plan) → IsContainer kept p → FitsAssembly p a

-- the plan is for another assembly
abbrev pub IsMisfit : ContainerView → Assembly → Type 0
IsMisfit kept a = (p : Plan) → IsContainer kept p → ¬ FitsAssembly p a

-- a plan for another assembly is refused, or the plan is run
abbrev pub PlanTried : (List ℕ → Type 0) → Type 0 → ContainerView → Assembly → Type 0
PlanTried Refuses Runs kept a =
    (IsMisfit kept a × Refuses (plan_refusal a another_assembly)) ⊎ (IsFor kept a × Runs)
