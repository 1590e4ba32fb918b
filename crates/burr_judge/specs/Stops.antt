-- Why a command stops before it is done, and what it returns and has printed by then.
use Rattle.std.specs.Prelude.{◌≡◌, ◌++◌, ℕ, List, Some, String, unwrap_or, Result, Ok, Err, IfOk, IfErr, codes}
use Rattle.std.specs.declared.alloc.Global.{Global}
use Rattle.burr_io.specs.Sink.{SinkView, Takes, FailsWithin}
use Rattle.burr_asm.specs.declared.fault.AsmFault.{AsmFault}
use Rattle.burr_asm.specs.declared.fault.AsmFault.TheVariants.{Memory}
use Rattle.burr_assembly.specs.declared.fault.AssemblyFault.{AssemblyFault}
use Rattle.burr_assembly.specs.Rules.Faults.{FirstFault}
use Rattle.burr_assembly.specs.Rules.Text.{Assembly}
use Rattle.burr_container.specs.declared.fault.ContainerFault.{ContainerFault}
use Rattle.burr_container.specs.Rules.Faults.{ContainerFails}
use Rattle.burr_container.specs.Views.Containers.{ContainerView}
use Rattle.burr_runs.specs.declared.input.AnswersFault.{AnswersFault}
use Rattle.burr_runs.specs.declared.input.AnswersFault.TheVariants as answers
use Rattle.burr_runs.specs.Rules.Refusals.{assembly_refusal, container_refusal, answers_refusal}
use Rattle.burr_runs.specs.Rules.Answers.{IsAnswersFault}
use Rattle.burr_runs.specs.Rules.Verdicts.{plan_refusal}
use Rattle.burr_verify.specs.Views.Refusals.{another_assembly}
use Rattle.burr_judge.specs.declared.fault.Fault.{Fault}
use Rattle.burr_judge.specs.declared.status.Status.{Status}
use Rattle.burr_judge.specs.declared.status.Status.TheVariants as statuses
use Rattle.burr_judge.specs.declared.stop.Stop.{Stop}
use Rattle.burr_judge.specs.declared.stop.Stop.TheVariants as stops
use Rattle.burr_judge.specs.Faults.{line_of, output_failed, status_of_fault}
use Rattle.burr_judge.specs.Inputs.{IsMisfit}
use Rattle.burr_judge.specs.PlanEnds.{Ends, PutsEnd, Stops}
use Rattle.burr_judge.specs.Refusals.{plan_text_refusal, refusal_text}

-- Which stops

-- a fault with this line
abbrev pub IsFault : List ℕ → Stop → Type 0
IsFault line (stops.Fault fault) = line_of fault ≡ line
IsFault line (stops.Refused refused notes) = ⊥

-- a refusal whose text is one of these, or out of memory
abbrev pub RefusalIsIn : (List ℕ → Type 0) → Stop → Type 0
RefusalIsIn Texts (stops.Fault fault) = line_of fault ≡ codes "no memory\n"
RefusalIsIn Texts (stops.Refused refused notes) = Texts (refusal_text refused notes)

pub record Refuses (Texts : List ℕ → Type 0) (stop : Stop) : Type 0 where
  pub says : RefusalIsIn Texts stop

-- such a text, and more below it
abbrev pub Noted : (List ℕ → Type 0) → List ℕ → Type 0
Noted Texts text = (first more : List ℕ) × (text ≡ first ++ more) × Texts first

-- a refusal gets notes if it has none
abbrev pub noted : Stop → String Global → Stop
noted (stops.Refused refused before) notes =
    stops.Refused refused (Some (unwrap_or before notes))
noted (stops.Fault fault) notes = stops.Fault fault

-- the stop for a fault of a plan text, or of a text of answers; out of memory is no fault of a text
abbrev pub RefusesPlanText : AsmFault → Stop → Type 0
RefusesPlanText Memory stop = IsFault (codes "no memory\n") stop
RefusesPlanText fault stop = Refuses (λ text. text ≡ plan_text_refusal fault) stop

abbrev pub RefusesAnswers : AnswersFault → Stop → Type 0
RefusesAnswers answers.Memory stop = IsFault (codes "no memory\n") stop
RefusesAnswers (answers.Line n) stop = Refuses (λ text. text ≡ answers_refusal n) stop

-- What refuses, stage by stage

-- this line names the first fault of an assembly's text
abbrev pub RefusesText : List ℕ → List ℕ → Type 0
RefusesText text line =
    (fault : AssemblyFault) × FirstFault text fault × (line ≡ assembly_refusal text fault)

-- this line names the first fault of a container's bytes
abbrev pub RefusesBytes : List ℕ → List ℕ → Type 0
RefusesBytes bytes line =
    (fault : ContainerFault) × ContainerFails 0 bytes fault × (line ≡ container_refusal fault)

-- this line says that the plan is for another assembly
abbrev pub Misfits : ContainerView → Assembly → List ℕ → Type 0
Misfits kept a line = IsMisfit kept a × (line ≡ plan_refusal a another_assembly)

-- this line names the first faulty line of a text of answers
abbrev pub RefusesAnswerText : List ℕ → List ℕ → Type 0
RefusesAnswerText text line =
    (n : ℕ) × IsAnswersFault text (answers.Line n) × (line ≡ answers_refusal n)

-- What a command returns, and what its sink took

-- It stops: nothing is printed, and the refusal is one of its ends; or it stops by a fault.
abbrev pub StopsBy : {S : Type 0} → SinkView S → S → S → Ends → (List ℕ → Type 0) → Stop → Type 0
StopsBy sink before after AreEnds Breaks (stops.Refused refused notes) =
    AreEnds (refusal_text refused notes) statuses.Refused × (after ≡ before)
StopsBy sink before after AreEnds Breaks (stops.Fault fault) =
    Stops sink before after AreEnds Breaks (line_of fault)

-- It is done, or stops.
pub record ResultOn {S : Type 0} (sink : SinkView S) (before after : S) (AreEnds : Ends)
    (Breaks : List ℕ → Type 0) (r : Result Status Stop) : Type 0 where
  pub done : IfOk r (PutsEnd sink before after AreEnds)
  pub stops : IfErr r (StopsBy sink before after AreEnds Breaks)

-- the result of a call that returns what it makes: it is done, or stops
abbrev pub done_of : {A : Type 0} → Result A Stop → Result Status Stop
done_of (Ok made) = Ok statuses.Done
done_of (Err stop) = Err stop

-- the text of a refusal is written, with the status `Refused`; or the sink failed in it
abbrev pub IsRefusalReported : {S : Type 0} → SinkView S → S → S → List ℕ → Result Status Fault
    → Type 0
IsRefusalReported sink before after text (Ok status) =
    (status ≡ statuses.Refused) × Takes sink before after text
IsRefusalReported sink before after text (Err fault) =
    (line_of fault ≡ output_failed) × (status_of_fault fault ≡ statuses.Failed)
    × FailsWithin sink before after text

-- the result is reported
abbrev pub IsReported : {S : Type 0} → SinkView S → S → S → Result Status Stop → Result Status Fault
    → Type 0
IsReported sink before after (Ok status) r = (r ≡ Ok status) × (after ≡ before)
IsReported sink before after (Err (stops.Fault fault)) r = (r ≡ Err fault) × (after ≡ before)
IsReported sink before after (Err (stops.Refused refused notes)) r =
    IsRefusalReported sink before after (refusal_text refused notes) r

pub record Reports {S : Type 0} (sink : SinkView S) (before after : S) (done : Result Status Stop)
    (r : Result Status Fault) : Type 0 where
  pub told : IsReported sink before after done r
