-- How a dialogue about a plan ends: what is printed for the commands that a source gave, and with
-- which status.
use Rattle.std.specs.Prelude.{◌≡◌, ℕ, List, Bool, Option}
use Rattle.burr_io.specs.Source.{SourceView}
use Rattle.burr_assembly.specs.Rules.Text.{Assembly}
use Rattle.burr_container.specs.Views.Containers.{ContainerView}
use Rattle.burr_verify.specs.Rules.Accepting.{Judged}
use Rattle.burr_step.specs.Views.Stepping.{Stepping, IsFresh}
use Rattle.burr_runs.specs.declared.input.BenchFault.{BenchFault}
use Rattle.burr_runs.specs.Views.BenchText.{Streams}
use Rattle.burr_judge.specs.Views.Commanding.{StepAnswers, IsAnswerLine}
use Rattle.burr_judge.specs.Views.Dialogues.{IsDialogue, BreaksDialogue}
use Rattle.burr_judge.specs.declared.dialogue.LineEnd.TheVariants.{LineFeed}
use Rattle.burr_judge.specs.declared.status.Status.TheVariants.{Done, Refused}
use Rattle.burr_judge.specs.Faults.{complaint_of}
use Rattle.burr_judge.specs.PlanEnds.{Ends, JudgedEnds, ContainerEnds, TextEnds, BytesBreak, JudgedBreaks, TextBreaks}

-- what a source had left before and after, and whether it has failed
pub record Left : Type 0 where
  pub old : Option (List ℕ)
  pub new : Option (List ℕ)
  pub failed : Bool

-- of a source before and after
abbrev pub left_by : {R : Type 0} → SourceView R → R → R → Left
left_by source before after = record {
  old = source.left before;
  new = source.left after;
  failed = source.has_failed after;
}

-- the commands that the source gave are answered on such a run
abbrev pub DialogueEnds : Left → Judged → Ends
DialogueEnds left j output status =
    (status ≡ Done)
    × ((old new : Stepping) × IsFresh j old
    × IsDialogue LineFeed StepAnswers old left.old left.new output new)

-- the plan is refused; or it is accepted, and the commands are answered
abbrev pub StepEnds : Left → ContainerView → Assembly → Ends
StepEnds left kept a = JudgedEnds kept a (DialogueEnds left)

-- it ends so; if an input is refused, the source is as it was
abbrev pub ReadsIfAccepted : Left → Ends → Ends
ReadsIfAccepted left AreEnds output status =
    AreEnds output status × (status ≡ Refused → left.new ≡ left.old)

-- the same of an assembly's text and a container
abbrev pub StepTextEnds : Left → List ℕ → List ℕ → Ends
StepTextEnds left text bytes = ReadsIfAccepted left
    (TextEnds text (λ a. ContainerEnds bytes (λ kept. StepEnds left kept a)))

-- what the source of two streams had left
abbrev pub left_of : Streams → Left
left_of s = record { old = s.left_old; new = s.left_new; failed = s.read_failed }

-- the dialogue on such a run breaks off, as this line says
abbrev pub DialogueBreaks : Streams → Judged → List ℕ → Type 0
DialogueBreaks s j line =
    (fault : BenchFault) × (line ≡ complaint_of fault)
    × ((old new : Stepping) × IsFresh j old
    × BreaksDialogue LineFeed StepAnswers IsAnswerLine old s fault new)

-- the plan is accepted, and the dialogue breaks off
abbrev pub StepBreaks : Streams → ContainerView → Assembly → List ℕ → Type 0
StepBreaks s kept a = JudgedBreaks kept a (DialogueBreaks s)

-- the same of an assembly's text and a container
abbrev pub StepTextBreaks : Streams → List ℕ → List ℕ → List ℕ → Type 0
StepTextBreaks s text bytes =
    TextBreaks text (λ a. BytesBreak bytes (λ kept. StepBreaks s kept a))
