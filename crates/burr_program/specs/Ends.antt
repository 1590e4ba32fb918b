-- How the program ends: its status, and what it writes to standard error.
use Rattle.std.specs.Prelude.{◌≡◌, ◌⊎◌, ◌*◌, ℕ, zero, suc, List, [], ◌∷◌, ◌++◌, codes, decimal, Bool, Option, true}
use Rattle.std.specs.Io.KnownBytes.{Appends}
use Rattle.burr_text.specs.Words.{text_line}
use Rattle.burr_io.specs.Sink.{HoldsFront, SinkView}
use Rattle.burr_command.specs.Asking.{IsAsked}
use Rattle.burr_command.specs.declared.job.Job.{Job}
use Rattle.burr_command.specs.declared.job.Job.TheVariants as jobs
use Rattle.burr_runs.specs.declared.text_runs.Outcome.{Outcome}
use Rattle.burr_runs.specs.declared.input.BenchFault.{BenchFault}
use Rattle.burr_runs.specs.declared.input.BenchFault.TheVariants.{Read, TooLong, Write, Memory}
use Rattle.burr_runs.specs.Views.ReadWhole.{IsWholeInput}
use Rattle.burr_runs.specs.Rules.Output.{IsOutput}
use Rattle.burr_runs.specs.Views.BenchText.{Streams, Succeeds, Fails}
use Rattle.burr_judge.specs.declared.fault.Fault.{Fault}
use Rattle.burr_judge.specs.declared.status.Status.{Status}
use Rattle.burr_judge.specs.declared.status.Status.TheVariants.{Done, CommandLine}
use Rattle.burr_judge.specs.declared.status.Status.TheVariants.{Memory as OutOfMemory}
use Rattle.burr_judge.specs.Faults.{complaint_of, status_of_complaint, line_of, status_of_fault, output_failed}
use Rattle.burr_judge.specs.Statuses.{code_of, status_of}
use Rattle.burr_judge.specs.PlanEnds.{Ends}
use Rattle.burr_program.specs.Commands.{JobEnds, JobFails, JobBreaks}
use Rattle.burr_judge.specs.StepEnds.{left_of}

-- What a sink had taken before and after, and whether it has failed.
pub record Taken : Type 0 where
  pub old : Option (List ℕ)
  pub new : Option (List ℕ)
  pub failed : Bool

-- such a sink, with what it took
abbrev pub took : Option (List ℕ) → Option (List ℕ) → Bool → Taken
took old new failed = record { old = old; new = new; failed = failed }

-- a sink that stood so before and stands so now
abbrev pub took_by : {S : Type 0} → SinkView S → S → S → Taken
took_by sink before after =
    took (sink.taken before) (sink.taken after) (sink.has_failed after)

-- it took nothing
abbrev pub TakesNothing : Taken → Type 0
TakesNothing t = t.new ≡ t.old

-- it failed, and holds a front of what it held before and a text
abbrev pub FailsInText : Taken → List ℕ → Type 0
FailsInText t text = HoldsFront t.old t.new text × (t.failed ≡ true)

-- it took a text, or it failed in it
abbrev pub TakesText : Taken → List ℕ → Type 0
TakesText t text = Appends t.old t.new text ⊎ FailsInText t text

-- it took a text, or it failed in it; and of no text it took nothing
abbrev pub TakesAny : Taken → List ℕ → Type 0
TakesAny t text = TakesText t text × (text ≡ [] → TakesNothing t)

-- Without words

-- The run on the streams had an outcome, which the status says, and standard error took nothing.
abbrev pub HasOutcome : Streams → Taken → ℕ → Outcome → Type 0
HasOutcome streams errors status outcome =
    Succeeds streams outcome × (status ≡ code_of (status_of outcome)) × TakesNothing errors

-- The sink failed in the output of the whole input.
abbrev pub FailsInOutput : Streams → Type 0
FailsInOutput s =
    (input : List ℕ) × IsWholeInput s.left_old s.left_new s.read_failed input
    × ((output : List ℕ) × (outcome : Outcome) × IsOutput input output outcome
    × FailsInText (took s.taken_old s.taken_new s.write_failed) output)

-- Why the run on the streams has no outcome.
abbrev pub HasNoOutcome : Streams → BenchFault → Type 0
HasNoOutcome s Read = Fails s Read
HasNoOutcome s TooLong = Fails s TooLong
HasNoOutcome s Memory = Fails s Memory
HasNoOutcome s Write = FailsInOutput s

-- The run on the streams had a fault, which the status and standard error tell.
abbrev pub HasFault : Streams → Taken → ℕ → BenchFault → Type 0
HasFault streams errors status fault =
    HasNoOutcome streams fault × (status ≡ code_of (status_of_complaint fault))
    × TakesText errors (complaint_of fault)

-- one of the two
abbrev pub IsRun : Streams → Taken → ℕ → Type 0
IsRun streams errors status =
    ((outcome : Outcome) × HasOutcome streams errors status outcome)
    ⊎ ((fault : BenchFault) × HasFault streams errors status fault)

-- With words

-- the line that says how many runs were made
abbrev pub runs_line : ℕ → List ℕ
runs_line count = text_line (codes "frames:" ∷ decimal count ∷ codes "runs" ∷ [])

-- these lines, after this many hundreds of runs
abbrev pub runs_lines : ℕ → List ℕ
runs_lines zero = []
runs_lines (suc hundreds) = runs_lines hundreds ++ runs_line (suc hundreds * 100)

-- what a job reports on standard error on its way: nothing, but of `frames` how many runs were made
abbrev pub IsHowFar : Job → List ℕ → Type 0
IsHowFar (jobs.Frames assembly text out) told = (hundreds : ℕ) × (told ≡ runs_lines hundreds)
IsHowFar job told = told ≡ []

-- A fault is reported after a text: its line, with the status that goes with it.
abbrev pub TellsFault : Taken → List ℕ → ℕ → Fault → Type 0
TellsFault errors told status fault =
    (status ≡ code_of (status_of_fault fault)) × TakesText errors (told ++ line_of fault)

-- standard output took what is printed if it ends so, with this status, and a text is reported
abbrev pub Prints : Ends → Taken → Taken → List ℕ → ℕ → Type 0
Prints AreEnds sink errors told status =
    (output : List ℕ) × (ended : Status) × AreEnds output ended
    × Appends sink.old sink.new output × (status ≡ code_of ended) × TakesAny errors told

-- standard output failed in what is printed where it ends so
abbrev pub FailsToPrint : Ends → Taken → Type 0
FailsToPrint AreEnds sink =
    (output : List ℕ) × (ended : Status) × AreEnds output ended × FailsInText sink output

-- the sink of two streams
abbrev pub sink_of : Streams → Taken
sink_of s = took s.taken_old s.taken_new s.write_failed

-- what standard output took if a job stops with a fault's line: a front of what it prints; or nothing, and
-- the line names a word of the job; or answers to commands before it broke off
abbrev pub StopsJob : Job → Streams → List ℕ → Type 0
StopsJob job s line =
    ((line ≡ output_failed) × FailsToPrint (JobEnds (left_of s) job) (sink_of s))
    ⊎ (TakesNothing (sink_of s) × JobFails job line) ⊎ JobBreaks s job line

-- a job was done, or stopped with a fault, which is reported; and before that, how far it was
abbrev pub DoesJob : Streams → Taken → ℕ → Job → Type 0
DoesJob s errors status job =
    (told : List ℕ) × IsHowFar job told
    × (Prints (JobEnds (left_of s) job) (sink_of s) errors told status
    ⊎ ((fault : Fault) × TellsFault errors told status fault × StopsJob job s (line_of fault)))

-- a text, with status 0
abbrev pub IsText : List ℕ → Ends
IsText text output status = (output ≡ text) × (status ≡ Done)

-- the text of a reply was printed, or standard output failed in it
abbrev pub Replies : List ℕ → Taken → Taken → ℕ → Type 0
Replies text sink errors status =
    Prints (IsText text) sink errors [] status
    ⊎ ((fault : Fault) × TellsFault errors [] status fault
    × (line_of fault ≡ output_failed) × FailsToPrint (IsText text) sink)

-- standard error took a text, or failed in it, with this status, and standard output took nothing
abbrev pub Complains : List ℕ → Status → Taken → Taken → ℕ → Type 0
Complains text ended sink errors status =
    (status ≡ code_of ended) × TakesText errors text × TakesNothing sink

-- a reply: help or the version was printed, or what is wrong with the words
abbrev pub IsReplied : List ℕ → Taken → Taken → ℕ → Type 0
IsReplied text sink errors status =
    Replies text sink errors status ⊎ Complains text CommandLine sink errors status

-- The words were answered: by a reply, or by the job that they ask for; or memory was out.
abbrev pub IsEnd : List (List ℕ) → Streams → Taken → ℕ → Type 0
IsEnd words s errors status =
    ((text : List ℕ) × IsReplied text (sink_of s) errors status)
    ⊎ ((job : Job) × IsAsked words job × DoesJob s errors status job)
    ⊎ Complains (codes "no memory\n") OutOfMemory (sink_of s) errors status
