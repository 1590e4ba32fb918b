-- How a command on a plan and an assembly ends: what is printed, and with which status.
use Rattle.std.specs.Prelude.{◌≡◌, ◌⊎◌, ℕ, ℤ, List, Result, true, false, codes, IsTrue, IfOk, IfErr}
use Rattle.burr_io.specs.Sink.{SinkView, Takes, FailsWithin, HoldsFront}
use Rattle.burr_assembly.specs.Rules.Text.{Assembly, IsText}
use Rattle.burr_container.specs.Rules.Plans.{Plan}
use Rattle.burr_container.specs.Views.Containers.{ContainerView, IsContainer}
use Rattle.burr_verify.specs.Rules.Accepting.{Judged, judged, IsAccepted}
use Rattle.burr_state.specs.Views.Benches.{Benched}
use Rattle.burr_state.specs.Views.Programs.{plan_program}
use Rattle.burr_runs.specs.declared.text_runs.Outcome.{Outcome}
use Rattle.burr_runs.specs.declared.input.AnswersFault.{AnswersFault}
use Rattle.burr_runs.specs.declared.input.AnswersFault.TheVariants.{Line, Memory}
use Rattle.burr_runs.specs.Rules.Answers.{answers_text, IsAnswersFault}
use Rattle.burr_runs.specs.Rules.Headline.{IsSafeSheetOf}
use Rattle.burr_runs.specs.Rules.Output.{IsSheetOf}
use Rattle.burr_runs.specs.Rules.Refusals.{answers_refusal}
use Rattle.burr_runs.specs.Rules.Verdicts.{IsVerdictLine}
use Rattle.burr_judge.specs.declared.fault.Fault.{Fault}
use Rattle.burr_judge.specs.declared.plan_input.PlanInput.{PlanInput}
use Rattle.burr_judge.specs.declared.status.Status.{Status}
use Rattle.burr_judge.specs.declared.status.Status.TheVariants.{Done, Refused}
use Rattle.burr_judge.specs.declared.tasks.Task.{Task}
use Rattle.burr_judge.specs.declared.tasks.Task.TheVariants.{Check, Run, Try}
use Rattle.burr_judge.specs.Faults.{line_of, output_failed}
use Rattle.burr_judge.specs.Inputs.{AreBytesOf, IsRead, RefusesInput, TextComes, PlanTextComes, BytesCome, PlanTried}
use Rattle.burr_judge.specs.Statuses.{status_of}

-- what may be printed, and with which status
abbrev pub Ends : Type 1
Ends = List ℕ → Status → Type 0

-- a refusal by this line
abbrev pub IsRefusal : List ℕ → Ends
IsRefusal line output status = (output ≡ line) × (status ≡ Refused)

-- the plan is refused
abbrev pub RefusedEnds : ContainerView → Assembly → Ends
RefusedEnds kept a output status = IsVerdictLine kept a false output × (status ≡ Refused)

-- of `check`: the plan is accepted, or refused
abbrev pub CheckEnds : ContainerView → Assembly → Ends
CheckEnds kept a output status =
    (IsVerdictLine kept a true output × (status ≡ Done)) ⊎ RefusedEnds kept a output status

-- the faulty line of answers is refused; want of memory is no fault of a text
abbrev pub FaultyEnds : AnswersFault → Ends
FaultyEnds (Line line) output status = IsRefusal (answers_refusal line) output status
FaultyEnds Memory output status = ⊥

-- the first faulty line of a text of answers is refused, or the command ends as given for its
-- answers
abbrev pub AnswersEnd : List ℕ → (List ℤ → Ends) → Ends
AnswersEnd text With output status =
    ((fault : AnswersFault) × IsAnswersFault text fault × FaultyEnds fault output status)
    ⊎ ((answers : List ℤ) × (text ≡ answers_text answers) × With answers output status)

-- the sheet of the safe run of the container's plan, and the status of how it ends
abbrev pub SafeEnds : Judged → List ℤ → Ends
SafeEnds j answers output status =
    (p : Plan) × IsContainer j.container p × (outcome : Outcome)
    × IsSafeSheetOf j.assembly p answers output outcome × (status ≡ status_of outcome)

-- the plan is refused; or it is accepted, and the command ends as given for it
pub data JudgedEnds (kept : ContainerView) (a : Assembly) (With : Judged → Ends) (output : List ℕ)
    (status : Status) : Type 0 where
  plan_refused : RefusedEnds kept a output status → JudgedEnds kept a With output status
  plan_accepted : IsAccepted (judged kept a) → With (judged kept a) output status
      → JudgedEnds kept a With output status

-- of `run`: the plan is refused; or it is accepted, and then answers are judged, and it is run
abbrev pub RunEnds : ContainerView → Assembly → List ℕ → Ends
RunEnds kept a text = JudgedEnds kept a (λ j. AnswersEnd text (SafeEnds j))

-- the sheet of the run of a bench's program, and the status of how it ends
abbrev pub BenchEnds : Benched → List ℤ → Ends
BenchEnds b answers output status =
    (outcome : Outcome) × IsSheetOf b.assembly b.program answers output outcome
    × (status ≡ status_of outcome)

-- the sheet of the run of the container's plan, and the status of how it ends
abbrev pub SheetEnds : ContainerView → Assembly → List ℤ → Ends
SheetEnds kept a answers output status =
    (outcome : Outcome) × ((p : Plan) → IsContainer kept p
    → IsSheetOf a (plan_program p) answers output outcome) × (status ≡ status_of outcome)

-- of `try`: the plan is for another assembly; or answers are judged, and it is run
abbrev pub TryEnds : ContainerView → Assembly → List ℕ → Ends
TryEnds kept a text output status =
    PlanTried (λ line. IsRefusal line output status)
    (AnswersEnd text (SheetEnds kept a) output status) kept a

-- of each of the three, with a text of answers
abbrev pub TaskEnds : Task → ContainerView → Assembly → List ℕ → Ends
TaskEnds Check kept a text = CheckEnds kept a
TaskEnds Run kept a text = RunEnds kept a text
TaskEnds Try kept a text = TryEnds kept a text

-- an assembly's text is refused, or the command ends as given for its assembly
abbrev pub TextEnds : List ℕ → (Assembly → Ends) → Ends
TextEnds text With output status =
    TextComes (λ line. IsRefusal line output status) (λ a. With a output status) text

-- a plan text is refused, or the command ends as given for the bytes that it is assembled to
abbrev pub PlanTextEnds : List ℕ → (List ℕ → Ends) → Ends
PlanTextEnds text With output status =
    PlanTextComes (λ line. IsRefusal line output status) (λ bytes. With bytes output status) text

-- a container's bytes are refused, or the command ends as given for the container
abbrev pub ContainerEnds : List ℕ → (ContainerView → Ends) → Ends
ContainerEnds bytes With output status =
    BytesCome (λ line. IsRefusal line output status) (λ kept. With kept output status) bytes

-- the same of a plan that comes as a container or as a text: a plan text is refused, or it ends as
-- given for the bytes of the container
abbrev pub InputBytesEnd : PlanInput → (List ℕ → Ends) → Ends
InputBytesEnd plan With output status =
    (RefusesInput plan output × (status ≡ Refused))
    ⊎ ((bytes : List ℕ) × AreBytesOf plan bytes × With bytes output status)

abbrev pub InputEnds : PlanInput → (ContainerView → Ends) → Ends
InputEnds plan With = InputBytesEnd plan (λ bytes. ContainerEnds bytes With)

-- an assembly's text, a container, and a text of answers
abbrev pub PlanEnds : Task → List ℕ → List ℕ → List ℕ → Ends
PlanEnds task text bytes answers =
    TextEnds text (λ a. ContainerEnds bytes (λ kept. TaskEnds task kept a answers))

-- of `check`, with a plan as it is given
abbrev pub CheckTextEnds : List ℕ → PlanInput → Ends
CheckTextEnds text plan = TextEnds text (λ a. InputEnds plan (λ kept. CheckEnds kept a))

-- a sink took what is printed with this status
abbrev pub PutsEnd : {S : Type 0} → SinkView S → S → S → Ends → Status → Type 0
PutsEnd sink before after AreEnds status =
    (output : List ℕ) × AreEnds output status × Takes sink before after output

-- a sink failed, and had taken a front of what is to be printed
abbrev pub PutsFrontOfEnd : {S : Type 0} → SinkView S → S → S → Ends → Type 0
PutsFrontOfEnd sink before after AreEnds =
    (output : List ℕ) × (status : Status) × AreEnds output status
    × FailsWithin sink before after output

-- why there is no end, by the line on standard error: the sink failed; or memory was refused, and
-- nothing was printed
abbrev pub FailsToEnd : {S : Type 0} → SinkView S → S → S → Ends → List ℕ → Type 0
FailsToEnd sink before after AreEnds line =
    ((line ≡ output_failed) × PutsFrontOfEnd sink before after AreEnds)
    ⊎ ((line ≡ codes "no memory\n") × (after ≡ before))

-- a sink took what is printed with this status, or why there is no end
abbrev pub EndsOn : {S : Type 0} → SinkView S → S → S → Ends → Result Status Fault → Type 0
EndsOn sink before after AreEnds r =
    IfOk r (PutsEnd sink before after AreEnds)
    × IfErr r (λ fault. FailsToEnd sink before after AreEnds (line_of fault))

-- a sink failed, and holds a front of what it held before and of what is to be printed
abbrev pub HoldsFrontOfEnd : {S : Type 0} → SinkView S → S → S → Ends → Type 0
HoldsFrontOfEnd sink before after AreEnds =
    (output : List ℕ) × (status : Status) × AreEnds output status
    × HoldsFront (sink.taken before) (sink.taken after) output
    × IsTrue (sink.has_failed after)

-- why this sink did not take all that is to be printed, by the line on standard error: it
-- failed; or memory was refused, and it was left alone
abbrev pub StopsBeforeEnd : {S : Type 0} → SinkView S → S → S → Ends → List ℕ → Type 0
StopsBeforeEnd sink before after AreEnds line =
    ((line ≡ output_failed) × HoldsFrontOfEnd sink before after AreEnds)
    ⊎ ((line ≡ codes "no memory\n") × (after ≡ before))

-- How a command ends that may break off

-- the line of a command that breaks off, for one that never does
abbrev pub never : List ℕ → Type 0
never line = ⊥

-- why there is no end, or the command broke off
abbrev pub Stops : {S : Type 0} → SinkView S → S → S → Ends → (List ℕ → Type 0) → List ℕ → Type 0
Stops sink before after AreEnds Breaks line =
    FailsToEnd sink before after AreEnds line ⊎ Breaks line

-- the sink took what is printed with this status, or a fault is reported and it stopped so
abbrev pub Ending : {S : Type 0} → SinkView S → S → S → Ends → (List ℕ → Type 0)
    → Result Status Fault → Type 0
Ending sink before after AreEnds Breaks r =
    IfOk r (PutsEnd sink before after AreEnds)
    × IfErr r (λ fault. Stops sink before after AreEnds Breaks (line_of fault))

-- Where a command breaks off, stage by stage

abbrev pub TextBreaks : List ℕ → (Assembly → List ℕ → Type 0) → List ℕ → Type 0
TextBreaks text With line = (a : Assembly) × IsText text a × With a line

abbrev pub InputBreaks : PlanInput → (List ℕ → List ℕ → Type 0) → List ℕ → Type 0
InputBreaks plan With line = (bytes : List ℕ) × AreBytesOf plan bytes × With bytes line

abbrev pub BytesBreak : List ℕ → (ContainerView → List ℕ → Type 0) → List ℕ → Type 0
BytesBreak bytes With line = (kept : ContainerView) × IsRead bytes kept × With kept line

-- the plan is accepted, and the command breaks off
pub record JudgedBreaks (kept : ContainerView) (a : Assembly) (With : Judged → List ℕ → Type 0)
    (line : List ℕ) : Type 0 where
  pub accepted : IsAccepted (judged kept a)
  pub breaks : With (judged kept a) line
