-- How each command ends: what it prints, which files it reads and writes, and why it stops.
use Rattle.std.specs.Prelude.{◌≡◌, ◌⊎◌, ◌≤◌, ◌∷◌, ℕ, List, [], ⊤, Bool, true, false, Option, None, Some, Result, IfOk, IfErr, IsTrue, codes, string_bytes}
use Rattle.burr_io.specs.Sink.{SinkView, Takes}
use Rattle.burr_asm.specs.Rules.Assembling.{IsAssembled}
use Rattle.burr_container.specs.Rules.Plans.{Plan, upgraded}
use Rattle.burr_container.specs.Rules.Fitting.{is_fitting}
use Rattle.burr_container.specs.Rules.Spelling.{plan_bytes}
use Rattle.burr_container.specs.Views.Containers.{ContainerView, IsContainer}
use Rattle.burr_plantext.specs.Rules.Listing.{IsListing}
use Rattle.burr_plantext.specs.Rules.ListedPlaces.{IsListingWithPlaces}
use Rattle.burr_lines.specs.FilledTexts.{IsFilledIn}
use Rattle.burr_runs.specs.Views.BenchText.{Streams}
use Rattle.burr_runs.specs.Views.ReadWhole.{IsWholeInput}
use Rattle.burr_command.specs.declared.job.Job.{Job}
use Rattle.burr_command.specs.declared.job.Job.TheVariants as jobs
use Rattle.burr_judge.specs.declared.dialogue.LineEnd.{LineEnd}
use Rattle.burr_judge.specs.declared.dialogue.LineEnd.TheVariants.{LineFeed, SecondNul}
use Rattle.burr_judge.specs.declared.plan_input.PlanInput.{PlanInput}
use Rattle.burr_judge.specs.declared.status.Status.{Status}
use Rattle.burr_judge.specs.declared.status.Status.TheVariants.{Done, Refused}
use Rattle.burr_judge.specs.declared.stop.Stop.{Stop}
use Rattle.burr_judge.specs.declared.stop.Stop.TheVariants as stops
use Rattle.burr_judge.specs.declared.tasks.Task.{Task}
use Rattle.burr_judge.specs.declared.tasks.Task.TheVariants.{Check, Run, Try}
use Rattle.burr_judge.specs.DriveEnds.{DriveTextEnds, DriveTextBreaks}
use Rattle.burr_judge.specs.Faults.{line_of, output_failed}
use Rattle.burr_judge.specs.Inputs.{IsPlanInput}
use Rattle.burr_judge.specs.PlanEnds.{Ends, PutsFrontOfEnd, TextEnds, PlanTextEnds, ContainerEnds, PlanEnds, never}
use Rattle.burr_judge.specs.Refusals.{refusal_text}
use Rattle.burr_judge.specs.Statuses.{code_of}
use Rattle.burr_judge.specs.StepEnds.{Left, StepTextEnds, StepTextBreaks}
use Rattle.burr_judge.specs.Stops.{RefusesBytes}
use Rattle.burr_program.specs.CellEnds.{CellEnds}
use Rattle.burr_program.specs.ExplainEnds.{CannotExplain, ExplainEnds}
use Rattle.burr_program.specs.FileFaults.{CannotRead, CannotRewrite, Lines, NoMemory}
use Rattle.burr_program.specs.ListEnds.{JudgeCommand, JudgeCommandBreaks}
use Rattle.burr_program.specs.MakingEnds.{MakesPlanOf}
use Rattle.burr_program.specs.NotedEnds.{NotedEnds, TracedEnds}
use Rattle.burr_program.specs.declared.done.Done.{Done as Finished}
use Rattle.burr_program.specs.declared.files.SourceFile.{SourceFile}
use Rattle.burr_program.specs.declared.files.WrittenFile.{WrittenFile}

-- What a command returns, and what its sink took

-- what a command that is done may have printed, with its status and its files
abbrev pub Dones : Type 1
Dones = List ℕ → Finished → Type 0

-- Why a command stops by a fault: the sink failed in what is printed; or it was left alone, and a file
-- failed, or memory; or the command broke off.
abbrev pub StopsOnFiles : {S : Type 0} → SinkView S → S → S → Ends → Lines → Lines → List ℕ → Type 0
StopsOnFiles sink before after AreEnds Fails Breaks line =
    ((line ≡ output_failed) × PutsFrontOfEnd sink before after AreEnds)
    ⊎ ((after ≡ before) × Fails line) ⊎ Breaks line

-- why a command stops: a refusal is one of its ends, and the sink was left alone; or by a fault
abbrev pub CommandStops : {S : Type 0} → SinkView S → S → S → Ends → Lines → Lines → Stop → Type 0
CommandStops sink before after AreEnds Fails Breaks (stops.Refused refused notes) =
    AreEnds (refusal_text refused notes) Refused × (after ≡ before)
CommandStops sink before after AreEnds Fails Breaks (stops.Fault fault) =
    StopsOnFiles sink before after AreEnds Fails Breaks (line_of fault)

-- a command is done, and the sink took what it prints; or it stops
pub record CommandResult {S : Type 0} (sink : SinkView S) (before after : S) (AreDone : Dones)
    (AreEnds : Ends) (Fails Breaks : Lines) (r : Result Finished Stop) : Type 0 where
  pub done : IfOk r (λ done. (output : List ℕ) × AreDone output done
      × Takes sink before after output)
  pub stops : IfErr r (CommandStops sink before after AreEnds Fails Breaks)

-- the same of a call of a command, which reads files and returns the status alone; nothing is said of a fault
abbrev pub RefusesAlone : {S : Type 0} → SinkView S → S → S → Ends → Stop → Type 0
RefusesAlone sink before after AreEnds (stops.Refused refused notes) =
    AreEnds (refusal_text refused notes) Refused × (after ≡ before)
RefusesAlone sink before after AreEnds (stops.Fault fault) = ⊤

pub record FileResult {S : Type 0} (sink : SinkView S) (before after : S) (AreEnds : Ends)
    (r : Result Status Stop) : Type 0 where
  pub done : IfOk r (λ status. (output : List ℕ) × AreEnds output status
      × Takes sink before after output)
  pub stops : IfErr r (RefusesAlone sink before after AreEnds)

-- a refusal is one of the ends, or a file failed, or memory
abbrev pub StopsSilently : Ends → Lines → Stop → Type 0
StopsSilently AreEnds Fails (stops.Refused refused notes) =
    AreEnds (refusal_text refused notes) Refused
StopsSilently AreEnds Fails (stops.Fault fault) = Fails (line_of fault)

-- a command that prints nothing is done, or stops
pub record SilentResult (AreDone : Dones) (AreEnds : Ends) (Fails : Lines)
    (r : Result Finished Stop) : Type 0 where
  pub done : IfOk r (AreDone [])
  pub stops : IfErr r (StopsSilently AreEnds Fails)

-- done, refused, trapped or stopped; or the run waits
abbrev pub IsDone : ℕ → Type 0
IsDone status = (status ≤ 1) ⊎ (status ≡ 5)

-- something was printed, with such a status
abbrev pub DoneEnds : Ends
DoneEnds output status = IsDone (code_of status)

-- notes are written, with the status 0 or 1; or the sink failed in them
pub record PutsNotes {S : Type 0} (sink : SinkView S) (before after : S)
    (r : Result Status Stop) : Type 0 where
  pub done : IfOk r (λ status. (output : List ℕ) × IsDone (code_of status)
      × Takes sink before after output)
  pub stops : IfErr r (CommandStops sink before after DoneEnds NoMemory never)

-- How each command ends, for some bytes of the files that it reads

-- nothing is printed, and a file was made
abbrev pub MakesFile : Ends
MakesFile output status = (output ≡ []) × (status ≡ Done)

-- `cells`: an assembly's text is refused, or its home cells are printed
abbrev pub CellsCommand : Ends
CellsCommand output status = (text : List ℕ) × TextEnds text CellEnds output status

-- `asm`: a plan text is refused, or it is assembled
abbrev pub AsmCommand : Ends
AsmCommand output status = (text : List ℕ) × PlanTextEnds text (λ bytes. MakesFile) output status

-- the text is the listing of the plan, with the places of code or without
abbrev pub IsListingOf : Bool → Plan → List ℕ → Type 0
IsListingOf true p text = IsListingWithPlaces p text
IsListingOf false p text = IsListing p text

-- the text is the listing of the container's plan
abbrev pub IsContainerListing : Bool → ContainerView → List ℕ → Type 0
IsContainerListing places kept text = (p : Plan) → IsContainer kept p → IsListingOf places p text

abbrev pub ListingEnds : Bool → ContainerView → Ends
ListingEnds places kept output status =
    IsContainerListing places kept output × (status ≡ Done)

-- `list`: a container is refused, or its plan is listed
abbrev pub ListCommand : Bool → Ends
ListCommand places output status =
    (bytes : List ℕ) × ContainerEnds bytes (ListingEnds places) output status

-- the bytes are those of the plan of a container, in version 2
abbrev pub IsUpgradeOf : List ℕ → List ℕ → Type 0
IsUpgradeOf bytes new =
    (p : Plan) × IsTrue (is_fitting p) × (bytes ≡ plan_bytes p) × (new ≡ plan_bytes (upgraded p))

-- `upgrade`: a container is refused, or it is upgraded
abbrev pub UpgradeCommand : Ends
UpgradeCommand output status =
    (bytes : List ℕ) × ((RefusesBytes bytes output × (status ≡ Refused))
    ⊎ ((new : List ℕ) × IsUpgradeOf bytes new × MakesFile output status))

-- `check`: as the judgement of some texts
abbrev pub CheckCommand : Ends
CheckCommand output status = (text bytes : List ℕ) × PlanEnds Check text bytes [] output status

-- `run` and `try`: the same with the answers that the source gave
abbrev pub AnsweredCommand : Task → Left → Ends
AnsweredCommand task left output status =
    (text bytes answers : List ℕ) × IsWholeInput left.old left.new left.failed answers
    × PlanEnds task text bytes answers output status

-- `step`: a dialogue over some texts, and where it breaks off
abbrev pub StepCommand : Left → Ends
StepCommand left output status = (text bytes : List ℕ) × StepTextEnds left text bytes output status

abbrev pub StepCommandBreaks : Streams → List ℕ → Type 0
StepCommandBreaks s line = (text bytes : List ℕ) × StepTextBreaks s text bytes line

-- `drive`: a drive through some texts, and where it breaks off
abbrev pub DriveCommand : Left → Ends
DriveCommand left output status =
    (text bytes : List ℕ) × (plan : PlanInput) × IsPlanInput bytes plan
    × DriveTextEnds left text plan output status

abbrev pub DriveCommandBreaks : Streams → List ℕ → Type 0
DriveCommandBreaks s line =
    (text bytes : List ℕ) × (plan : PlanInput) × IsPlanInput bytes plan × DriveTextBreaks s text plan line

-- `why`: the judgement of a plan text, with notes
abbrev pub WhyCommand : Ends
WhyCommand output status = (text plan : List ℕ) × NotedEnds Check text plan [] output status

-- `trace`: its run, with notes
abbrev pub TraceCommand : Left → Ends
TraceCommand left output status =
    (text plan answers : List ℕ) × IsWholeInput left.old left.new left.failed answers
    × TracedEnds text plan answers output status

-- something was refused
abbrev pub SomeRefusal : Ends
SomeRefusal output status = status ≡ Refused

-- `plan`: a plan text is made of a sheet, or something is refused
abbrev pub PlanSheetCommand : Ends
PlanSheetCommand output status =
    ((drawing sheet text : List ℕ) × MakesPlanOf drawing sheet text × MakesFile output status)
    ⊎ SomeRefusal output status

-- Which files a command has read and written when it is done

-- a file of this name was read, with these bytes
abbrev pub IsFileRead : List ℕ → Option SourceFile → List ℕ → Type 0
IsFileRead name place bytes =
    (file : SourceFile) × (place ≡ Some file) × (file.name.now ≡ name) × (file.bytes.items ≡ bytes)

-- a file of this name was written, with these bytes
abbrev pub IsFileWritten : List ℕ → Option WrittenFile → List ℕ → Type 0
IsFileWritten name place bytes =
    (file : WrittenFile) × (place ≡ Some file) × (file.name.now ≡ name) × (file.bytes.items ≡ bytes)

-- an assembly's text and another file were read, and what is printed is of their bytes
abbrev pub ReadsBoth : List ℕ → List ℕ → (List ℕ → List ℕ → Ends) → Dones
ReadsBoth assembly source With output done =
    (text bytes : List ℕ) × IsFileRead assembly done.assembly text
    × IsFileRead source done.source bytes × (done.written ≡ None)
    × With text bytes output done.status

-- a file was read, and another one written with bytes that are so of its own
abbrev pub Rewrites : List ℕ → List ℕ → (List ℕ → List ℕ → Type 0) → Dones
Rewrites source out Are output done =
    (old new : List ℕ) × (done.assembly ≡ None) × IsFileRead source done.source old
    × IsFileWritten out done.written new × Are old new × (output ≡ []) × (done.status ≡ Done)

-- no file was read or written
abbrev pub ReadsNone : Ends → Dones
ReadsNone AreEnds output done =
    (done.assembly ≡ None) × (done.source ≡ None) × (done.written ≡ None)
    × AreEnds output done.status

abbrev pub CellsDone : List ℕ → Dones
CellsDone assembly output done =
    (text : List ℕ) × IsFileRead assembly done.assembly text × (done.source ≡ None)
    × (done.written ≡ None) × TextEnds text CellEnds output done.status

abbrev pub AsmDone : List ℕ → List ℕ → Dones
AsmDone text out = Rewrites text out IsAssembled

abbrev pub ListDone : Bool → List ℕ → Dones
ListDone places plan output done =
    (bytes : List ℕ) × (done.assembly ≡ None) × IsFileRead plan done.source bytes
    × (done.written ≡ None) × ContainerEnds bytes (ListingEnds places) output done.status

abbrev pub UpgradeDone : List ℕ → List ℕ → Dones
UpgradeDone plan out = Rewrites plan out IsUpgradeOf

abbrev pub CheckDone : List ℕ → List ℕ → Dones
CheckDone assembly plan = ReadsBoth assembly plan (λ text bytes. PlanEnds Check text bytes [])

abbrev pub JudgeDone : LineEnd → ℕ → Left → Dones
JudgeDone end separator left = ReadsNone (JudgeCommand end separator left)

abbrev pub AnsweredDone : Task → Left → List ℕ → List ℕ → Dones
AnsweredDone task left assembly plan = ReadsBoth assembly plan (λ text bytes output status.
    (answers : List ℕ) × IsWholeInput left.old left.new left.failed answers
    × PlanEnds task text bytes answers output status)

abbrev pub StepDone : Left → List ℕ → List ℕ → Dones
StepDone left assembly plan = ReadsBoth assembly plan (StepTextEnds left)

abbrev pub DriveDone : Left → List ℕ → List ℕ → Dones
DriveDone left assembly plan = ReadsBoth assembly plan (λ text bytes output status.
    (input : PlanInput) × IsPlanInput bytes input × DriveTextEnds left text input output status)

abbrev pub WhyDone : List ℕ → List ℕ → Dones
WhyDone assembly text = ReadsBoth assembly text (λ drawing plan. NotedEnds Check drawing plan [])

abbrev pub TraceDone : Left → List ℕ → List ℕ → Dones
TraceDone left assembly text = ReadsBoth assembly text (λ drawing plan output status.
    (answers : List ℕ) × IsWholeInput left.old left.new left.failed answers
    × TracedEnds drawing plan answers output status)

-- `frames`: the text was filled in, and notes were printed
abbrev pub FramesDone : List ℕ → List ℕ → List ℕ → Dones
FramesDone assembly text out output done =
    (drawing plan new : List ℕ) × IsFileRead assembly done.assembly drawing
    × IsFileRead text done.source plan × IsFileWritten out done.written new
    × IsFilledIn plan new × IsDone (code_of done.status)

-- `plan`: a plan text was made of a sheet
abbrev pub PlanSheetDone : List ℕ → List ℕ → List ℕ → Dones
PlanSheetDone assembly sheet out output done =
    (drawing moves new : List ℕ) × IsFileRead assembly done.assembly drawing
    × IsFileRead sheet done.source moves × IsFileWritten out done.written new
    × MakesPlanOf drawing moves new × (output ≡ []) × (done.status ≡ Done)

abbrev pub ExplainDone : List ℕ → Dones
ExplainDone line = ReadsNone (ExplainEnds line)

-- Of each command

-- how it is done, with its files; the names of a list have a tab between them and a line feed after
-- them, or a byte 0 after each
abbrev pub JobDone : Left → Job → Dones
JobDone left (jobs.Cells assembly) = CellsDone assembly.now
JobDone left (jobs.Assemble text out) = AsmDone text.now out.now
JobDone left (jobs.List plan places) = ListDone places plan.now
JobDone left (jobs.Upgrade plan out) = UpgradeDone plan.now out.now
JobDone left (jobs.Check assembly plan) = CheckDone assembly.now plan.now
JobDone left (jobs.Judge false) = JudgeDone LineFeed 9 left
JobDone left (jobs.Judge true) = JudgeDone SecondNul 0 left
JobDone left (jobs.Run assembly plan) = AnsweredDone Run left assembly.now plan.now
JobDone left (jobs.Try assembly plan) = AnsweredDone Try left assembly.now plan.now
JobDone left (jobs.Step assembly plan) = StepDone left assembly.now plan.now
JobDone left (jobs.Drive assembly plan) = DriveDone left assembly.now plan.now
JobDone left (jobs.Why assembly text) = WhyDone assembly.now text.now
JobDone left (jobs.Trace assembly text) = TraceDone left assembly.now text.now
JobDone left (jobs.Frames assembly text out) = FramesDone assembly.now text.now out.now
JobDone left (jobs.PlanSheet assembly sheet out) = PlanSheetDone assembly.now sheet.now out.now
JobDone left (jobs.Explain line) = ExplainDone (string_bytes line)

-- what it prints, with which status, for some bytes of its files
abbrev pub JobEnds : Left → Job → Ends
JobEnds left (jobs.Cells assembly) = CellsCommand
JobEnds left (jobs.Assemble text out) = AsmCommand
JobEnds left (jobs.List plan places) = ListCommand places
JobEnds left (jobs.Upgrade plan out) = UpgradeCommand
JobEnds left (jobs.Check assembly plan) = CheckCommand
JobEnds left (jobs.Judge false) = JudgeCommand LineFeed 9 left
JobEnds left (jobs.Judge true) = JudgeCommand SecondNul 0 left
JobEnds left (jobs.Run assembly plan) = AnsweredCommand Run left
JobEnds left (jobs.Try assembly plan) = AnsweredCommand Try left
JobEnds left (jobs.Step assembly plan) = StepCommand left
JobEnds left (jobs.Drive assembly plan) = DriveCommand left
JobEnds left (jobs.Why assembly text) = WhyCommand
JobEnds left (jobs.Trace assembly text) = TraceCommand left
JobEnds left (jobs.Frames assembly text out) = DoneEnds
JobEnds left (jobs.PlanSheet assembly sheet out) = PlanSheetCommand
JobEnds left (jobs.Explain line) = ExplainEnds (string_bytes line)

-- why it stops before it prints anything: a fault names a word of the job
abbrev pub JobFails : Job → Lines
JobFails (jobs.Cells assembly) = CannotRead (assembly.now ∷ [])
JobFails (jobs.Assemble text out) =
    CannotRewrite (text.now ∷ []) (codes "TEXT" ∷ []) out.now
JobFails (jobs.List plan places) = CannotRead (plan.now ∷ [])
JobFails (jobs.Upgrade plan out) =
    CannotRewrite (plan.now ∷ []) (codes "PLAN" ∷ []) out.now
JobFails (jobs.Check assembly plan) = CannotRead (assembly.now ∷ plan.now ∷ [])
JobFails (jobs.Judge null) = NoMemory
JobFails (jobs.Run assembly plan) = CannotRead (assembly.now ∷ plan.now ∷ codes "-" ∷ [])
JobFails (jobs.Try assembly plan) = CannotRead (assembly.now ∷ plan.now ∷ codes "-" ∷ [])
JobFails (jobs.Step assembly plan) = CannotRead (assembly.now ∷ plan.now ∷ [])
JobFails (jobs.Drive assembly plan) = CannotRead (assembly.now ∷ plan.now ∷ [])
JobFails (jobs.Why assembly text) = CannotRead (assembly.now ∷ text.now ∷ [])
JobFails (jobs.Trace assembly text) = CannotRead (assembly.now ∷ text.now ∷ codes "-" ∷ [])
JobFails (jobs.Frames assembly text out) =
    CannotRewrite (assembly.now ∷ text.now ∷ []) (codes "ASSEMBLY" ∷ codes "TEXT" ∷ []) out.now
JobFails (jobs.PlanSheet assembly sheet out) =
    CannotRewrite (assembly.now ∷ sheet.now ∷ []) (codes "ASSEMBLY" ∷ codes "SHEET" ∷ []) out.now
JobFails (jobs.Explain line) = CannotExplain (string_bytes line)

-- where it breaks off: dialogues alone
abbrev pub JobBreaks : Streams → Job → Lines
JobBreaks s (jobs.Judge false) = JudgeCommandBreaks LineFeed 9 s
JobBreaks s (jobs.Judge true) = JudgeCommandBreaks SecondNul 0 s
JobBreaks s (jobs.Step assembly plan) = StepCommandBreaks s
JobBreaks s (jobs.Drive assembly plan) = DriveCommandBreaks s
JobBreaks s job = never
