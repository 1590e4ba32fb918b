-- How a drive through a plan ends: what is printed for the commands that a source gave, and with
-- which status.
use Rattle.std.specs.Prelude.{◌≡◌, ◌⊎◌, ℕ, List, [], ◌∷◌, ◌++◌, true, Option, codes}
use Rattle.std.specs.Io.KnownBytes.{Appends}
use Rattle.hex.specs.Hex.{encode_lower}
use Rattle.sha2.specs.Sha256.{sha256}
use Rattle.burr_text.specs.Words.{text_line}
use Rattle.burr_io.specs.Sink.{SinkView, HoldsFront}
use Rattle.burr_io.specs.LineWriter.{Lines}
use Rattle.burr_assembly.specs.Rules.Text.{Assembly}
use Rattle.burr_container.specs.Views.Containers.{ContainerView}
use Rattle.burr_verify.specs.Rules.Accepting.{Judged}
use Rattle.burr_state.specs.Views.Benches.{setup_of}
use Rattle.burr_step.specs.Rules.Stepper.{IsAsking}
use Rattle.burr_step.specs.Views.Driving.{Driving, IsReady}
use Rattle.burr_runs.specs.declared.input.BenchFault.{BenchFault}
use Rattle.burr_runs.specs.Views.BenchText.{Streams}
use Rattle.burr_judge.specs.Views.Dialogues.{IsDialogue, BreaksDialogue}
use Rattle.burr_judge.specs.Views.DriveLines.{DriveAnswers, AsksNone}
use Rattle.burr_judge.specs.declared.plan_input.PlanInput.{PlanInput}
use Rattle.burr_judge.specs.declared.dialogue.LineEnd.TheVariants.{LineFeed}
use Rattle.burr_judge.specs.declared.status.Status.{Status}
use Rattle.burr_judge.specs.declared.status.Status.TheVariants.{Done, Waiting}
use Rattle.burr_judge.specs.Faults.{complaint_of, output_failed}
use Rattle.burr_judge.specs.PlanEnds.{Ends, JudgedEnds, ContainerEnds, InputBytesEnd, TextEnds, BytesBreak, InputBreaks, JudgedBreaks, TextBreaks}
use Rattle.burr_judge.specs.StepEnds.{Left, ReadsIfAccepted}

-- the line that says that a run with this digest is ready
abbrev pub ready_line : List ℕ → List ℕ
ready_line digest = text_line (codes "ready" ∷ digest ∷ [])

-- the same with the SHA-256 of what it is of: the assembly's text, and then the bytes of the container
abbrev pub ready_text : List ℕ → List ℕ → List ℕ
ready_text text bytes = ready_line (encode_lower (sha256 (text ++ bytes)))

-- the status of a drive that is left where it stands: it waits where a question is open
abbrev pub LeavesWith : Driving → Status → Type 0
LeavesWith d status =
    (IsAsking (setup_of d.bench) d.bench.state × (status ≡ Waiting))
    ⊎ ((¬ IsAsking (setup_of d.bench) d.bench.state) × (status ≡ Done))

-- the line says that the run is ready
abbrev pub ReadyEnds : List ℕ → List ℕ → Ends
ReadyEnds text bytes output status = (output ≡ ready_text text bytes) × (status ≡ Done)

-- the run is ready, as this line says, and the commands that the source gave are answered
abbrev pub LedEnds : Left → List ℕ → Judged → Ends
LedEnds left ready j output status =
    (old new : Driving) × (said : List ℕ) × IsReady j old
    × IsDialogue LineFeed DriveAnswers old left.old left.new said new
    × (output ≡ ready ++ said) × LeavesWith new status

-- the plan is refused; or it is accepted, and led
abbrev pub DriveEnds : Left → List ℕ → ContainerView → Assembly → Ends
DriveEnds left ready kept a = JudgedEnds kept a (LedEnds left ready)

-- the same of an assembly's text and a plan, which comes as a container or as a text
abbrev pub DriveTextEnds : Left → List ℕ → PlanInput → Ends
DriveTextEnds left text plan = ReadsIfAccepted left
    (TextEnds text (λ a. InputBytesEnd plan (λ bytes. ContainerEnds bytes (λ kept.
    DriveEnds left (ready_text text bytes) kept a))))

-- the streams since this was taken
abbrev pub since : Option (List ℕ) → Streams → Streams
since taken s = record s { taken_old = taken }

-- The drive breaks off, as this line says: the sink failed in the line of a run that is ready, and no command
-- was read; or after it the dialogue broke off.
abbrev pub LedBreaks : Streams → List ℕ → Judged → List ℕ → Type 0
LedBreaks s ready j line =
    ((line ≡ output_failed) × HoldsFront s.taken_old s.taken_new ready
    × (s.write_failed ≡ true) × (s.left_new ≡ s.left_old))
    ⊎ ((taken : Option (List ℕ)) × Appends s.taken_old taken ready
    × ((fault : BenchFault) × (line ≡ complaint_of fault)
    × ((old new : Driving) × IsReady j old
    × BreaksDialogue LineFeed DriveAnswers AsksNone old (since taken s) fault new)))

-- the plan is accepted, and the drive breaks off
abbrev pub DriveBreaks : Streams → List ℕ → ContainerView → Assembly → List ℕ → Type 0
DriveBreaks s ready kept a = JudgedBreaks kept a (LedBreaks s ready)

-- the same of an assembly's text and a plan, which comes as a container or as a text
abbrev pub DriveTextBreaks : Streams → List ℕ → PlanInput → List ℕ → Type 0
DriveTextBreaks s text plan =
    TextBreaks text (λ a. InputBreaks plan (λ bytes. BytesBreak bytes (λ kept.
    DriveBreaks s (ready_text text bytes) kept a)))

-- the sink failed, and holds a front of what it held before and of this line
abbrev pub FailsInReady : {S : Type 0} → SinkView S → Lines S → Lines S → List ℕ → Type 0
FailsInReady sink before after ready =
    HoldsFront (sink.taken before.sink) (sink.taken after.sink) ready
    × (sink.has_failed after.sink ≡ true)

-- why no line says that the run is ready: the sink failed in it; or memory was refused, and it was left alone
abbrev pub FailsToBegin : {S : Type 0} → SinkView S → Lines S → Lines S → List ℕ → List ℕ → Type 0
FailsToBegin sink before after ready line =
    ((line ≡ output_failed) × FailsInReady sink before after ready)
    ⊎ ((line ≡ codes "no memory\n") × (after ≡ before))
