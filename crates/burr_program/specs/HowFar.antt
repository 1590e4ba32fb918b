-- How far a job tells on standard error that it has come: what a sink of whole lines, which the line of a
-- fault may follow, took of it.
use Rattle.std.specs.Prelude.{◌≡◌, ◌⊎◌, ℕ, List, [], IsTrue}
use Rattle.burr_io.specs.Sink.{SinkView}
use Rattle.burr_io.specs.LineWriter.{Lines}
use Rattle.burr_command.specs.declared.job.Job.{Job}
use Rattle.burr_program.specs.Ends.{IsHowFar, TakesAny, TakesText, runs_lines, took_by}

-- nothing is held back, or the sink below has failed and takes no more
abbrev pub IsReady : {S : Type 0} → SinkView S → Lines S → Type 0
IsReady sink lines = (lines.held ≡ []) ⊎ IsTrue (sink.has_failed lines.sink)

-- a text is reported at once
pub record Tells {S : Type 0} (sink : SinkView S) (old new : Lines S) (text : List ℕ) : Type 0 where
  pub takes : TakesText (took_by sink old.sink new.sink) text
  pub ready : IsReady sink new
  pub kept : IsTrue (sink.has_failed old.sink) → new ≡ old

-- a text was reported so far
pub record HasTold {S : Type 0} (sink : SinkView S) (old new : Lines S)
    (text : List ℕ) : Type 0 where
  pub takes : TakesAny (took_by sink old.sink new.sink) text
  pub ready : IsReady sink new

-- how many runs were made is reported
abbrev pub TellsRuns : {S : Type 0} → SinkView S → Lines S → Lines S → Type 0
TellsRuns sink old new = (hundreds : ℕ) × HasTold sink old new (runs_lines hundreds)

-- a job reports how far it is
abbrev pub TellsHowFar : {S : Type 0} → SinkView S → Job → Lines S → Lines S → Type 0
TellsHowFar sink job old new = (told : List ℕ) × IsHowFar job told × HasTold sink old new told
