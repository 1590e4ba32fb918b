-- What the run of an input leaves in its source and its sink.
use Rattle.std.specs.Prelude.{◌≡◌, ℕ, List, Bool, true, Option}
use Rattle.std.specs.Io.KnownBytes.{Appends}
use Rattle.burr_io.specs.Sink.{SinkView, TakesFront}
use Rattle.burr_io.specs.Source.{SourceView}
use Rattle.burr_runs.specs.declared.text_runs.Outcome.{Outcome}
use Rattle.burr_runs.specs.declared.input.BenchFault.{BenchFault}
use Rattle.burr_runs.specs.declared.input.BenchFault.TheVariants.{Read, TooLong, Write, Memory}
use Rattle.burr_runs.specs.Views.ReadWhole.{IsWholeInput, ReadFails}
use Rattle.burr_runs.specs.Rules.Output.{IsOutput}

-- which outputs are right for an input, and how each of them ends
abbrev pub Outputs : Type 1
Outputs = List ℕ → Outcome → Type 0

-- a sink took a right output
abbrev pub PutsOutput : Outputs → Option (List ℕ) → Option (List ℕ) → Outcome → Type 0
PutsOutput IsRight taken_old taken_new outcome =
    (output : List ℕ) × IsRight output outcome × Appends taken_old taken_new output

-- a sink failed, and had taken a front of a right output
abbrev pub PutsFrontOfOutput : Outputs → Option (List ℕ) → Option (List ℕ) → Bool → Type 0
PutsFrontOfOutput IsRight taken_old taken_new failed =
    (output : List ℕ) × (outcome : Outcome) × IsRight output outcome
    × TakesFront taken_old taken_new output × (failed ≡ true)

-- why no right output was written whole, where the input was read whole
abbrev pub OutputFails : Outputs → Option (List ℕ) → Option (List ℕ) → Bool → BenchFault → Type 0
OutputFails IsRight taken_old taken_new failed Read = ⊥
OutputFails IsRight taken_old taken_new failed TooLong = ⊥
OutputFails IsRight taken_old taken_new failed Write =
    PutsFrontOfOutput IsRight taken_old taken_new failed
OutputFails IsRight taken_old taken_new failed Memory = taken_new ≡ taken_old

-- What the source had left before and after, and whether it has failed; what the sink had taken
-- before and after, and whether it has failed.
pub record Streams : Type 0 where
  pub left_old : Option (List ℕ)
  pub left_new : Option (List ℕ)
  pub read_failed : Bool
  pub taken_old : Option (List ℕ)
  pub taken_new : Option (List ℕ)
  pub write_failed : Bool

-- this of a source and a sink, each before and after
abbrev pub streams : {R W : Type 0} → SourceView R → R → R → SinkView W → W → W → Streams
streams source source_old source_new sink sink_old sink_new = record {
  left_old = source.left source_old;
  left_new = source.left source_new;
  read_failed = source.has_failed source_new;
  taken_old = sink.taken sink_old;
  taken_new = sink.taken sink_new;
  write_failed = sink.has_failed sink_new;
}

-- The source gave a whole input, and the sink took its output.
abbrev pub Succeeds : Streams → Outcome → Type 0
Succeeds s outcome =
    (input : List ℕ) × IsWholeInput s.left_old s.left_new s.read_failed input
    × PutsOutput (IsOutput input) s.taken_old s.taken_new outcome

-- nothing was written
abbrev pub NothingWritten : Streams → Type 0
NothingWritten s = s.taken_new ≡ s.taken_old

-- the source was not read to its end, or was and memory was refused then
abbrev pub FailsToRead : Streams → BenchFault → Type 0
FailsToRead s fault = ReadFails s.left_old s.left_new s.read_failed fault

-- Why there is no outcome: a call of the source failed, or the source gave too many bytes, or
-- memory was refused, and nothing was written; or a call of the sink failed, and a front of the
-- output was written.
abbrev pub Fails : Streams → BenchFault → Type 0
Fails s Read = FailsToRead s Read × NothingWritten s
Fails s TooLong = FailsToRead s TooLong × NothingWritten s
Fails s Memory = FailsToRead s Memory × NothingWritten s
Fails s Write =
    (input : List ℕ) × IsWholeInput s.left_old s.left_new s.read_failed input
    × PutsFrontOfOutput (IsOutput input) s.taken_old s.taken_new s.write_failed
