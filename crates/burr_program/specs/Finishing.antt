-- How the program reports what a command returned.
use Rattle.std.specs.Prelude.{◌≡◌, ◌≢◌, ◌⊎◌, ℕ, List, [], Result, Ok, Err, IfOk, IfErr}
use Rattle.burr_io.specs.Sink.{SinkView, Takes, FailsWithin}
use Rattle.burr_io.specs.LineWriter.{Lines}
use Rattle.burr_runs.specs.declared.text_runs.Outcome.{Outcome}
use Rattle.burr_runs.specs.declared.input.BenchFault.{BenchFault}
use Rattle.burr_runs.specs.declared.input.BenchFault.TheVariants.{Write}
use Rattle.burr_runs.specs.Views.BenchText.{Streams, Succeeds, Fails}
use Rattle.burr_judge.specs.declared.fault.Fault.{Fault}
use Rattle.burr_judge.specs.declared.status.Status.{Status}
use Rattle.burr_judge.specs.declared.status.Status.TheVariants as statuses
use Rattle.burr_judge.specs.declared.stop.Stop.{Stop}
use Rattle.burr_judge.specs.declared.stop.Stop.TheVariants as stops
use Rattle.burr_judge.specs.Faults.{line_of, status_of_fault, output_failed, complaint_of, status_of_complaint}
use Rattle.burr_judge.specs.Refusals.{refusal_text}
use Rattle.burr_judge.specs.Statuses.{status_of}
use Rattle.burr_program.specs.declared.done.Done.{Done as Finished}
use Rattle.burr_program.specs.Ends.{FailsInText, took_by}
use Rattle.burr_program.specs.HowFar.{Tells}

-- standard error gets the line of a fault, whose status is this
abbrev pub EndsBy : {T : Type 0} → SinkView T → Lines T → Lines T → Fault → Status → Type 0
EndsBy errors old new fault status =
    (status ≡ status_of_fault fault) × Tells errors old new (line_of fault)

-- standard output failed, which is reported
abbrev pub OutputFails : {T : Type 0} → SinkView T → Lines T → Lines T → Status → Type 0
OutputFails errors old new status =
    (fault : Fault) × (line_of fault ≡ output_failed) × (status_of_fault fault ≡ statuses.Failed)
    × EndsBy errors old new fault status

-- What is held back goes out, with the status of what is done; a refusal's text goes out with status 1,
-- if nothing was held back; a fault is reported, and standard output is left alone.
abbrev pub FinishesSo : {S T : Type 0} → SinkView S → SinkView T → Lines S → Lines S → Lines T
    → Lines T → Result Status Stop → Status → Type 0
FinishesSo sink errors old new was is (Ok given) status =
    ((status ≡ given) × Takes sink old.sink new.sink old.held × (is ≡ was))
    ⊎ (FailsWithin sink old.sink new.sink old.held × OutputFails errors was is status)
FinishesSo sink errors old new was is (Err (stops.Refused refused notes)) status =
    old.held ≡ []
    → ((status ≡ statuses.Refused)
    × Takes sink old.sink new.sink (refusal_text refused notes) × (is ≡ was))
    ⊎ (FailsInText (took_by sink old.sink new.sink) (refusal_text refused notes)
    × OutputFails errors was is status)
FinishesSo sink errors old new was is (Err (stops.Fault fault)) status =
    (new ≡ old) × EndsBy errors was is fault status

pub record Finishes {S T : Type 0} (sink : SinkView S) (errors : SinkView T) (old new : Lines S)
    (was is : Lines T) (done : Result Status Stop) (status : Status) : Type 0 where
  pub so : FinishesSo sink errors old new was is done status

-- the status of a command that is done
abbrev pub IsStatusOf : Result Finished Stop → Result Status Stop → Type 0
IsStatusOf (Ok done) r = r ≡ Ok done.status
IsStatusOf (Err stop) r = r ≡ Err stop

-- a reply's text was written, or the sink failed in it
abbrev pub AnswerStops : {S : Type 0} → SinkView S → S → S → List ℕ → Stop → Type 0
AnswerStops sink old new text (stops.Fault fault) =
    (line_of fault ≡ output_failed) × FailsWithin sink old new text
AnswerStops sink old new text (stops.Refused refused notes) = ⊥

pub record Answers {S : Type 0} (sink : SinkView S) (old new : S) (text : List ℕ)
    (r : Result Status Stop) : Type 0 where
  pub done : IfOk r (λ status. (status ≡ statuses.Done) × Takes sink old new text)
  pub stops : IfErr r (AnswerStops sink old new text)

-- a fault of the streams
abbrev pub IsStreamFault : BenchFault → Stop → Type 0
IsStreamFault given (stops.Fault fault) =
    (line_of fault ≡ complaint_of given) × (status_of_fault fault ≡ status_of_complaint given)
IsStreamFault given (stops.Refused refused notes) = ⊥

-- the run of bare code had an outcome, or a fault
abbrev pub BareResultIs : {S : Type 0} → Streams → S → S → Result Status Stop → Type 0
BareResultIs s old new (Ok status) =
    (outcome : Outcome) × Succeeds s outcome × (status ≡ status_of outcome)
BareResultIs s old new (Err stop) =
    (fault : BenchFault) × IsStreamFault fault stop × Fails s fault × (fault ≢ Write → new ≡ old)

pub record BareResult {S : Type 0} (s : Streams) (old new : S) (r : Result Status Stop) : Type 0 where
  pub is : BareResultIs s old new r
