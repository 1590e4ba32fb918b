-- A text, or a run's output, that was put on a sink of whole lines, once it is handed on.
use Rattle.std.proofs.Common.{◌≡◌, ◌≢◌, ℕ, List, [], sym, ap, ◌∙◌, inl, inr}
use Rattle.std.specs.Prelude.{Option, None, Some, Result, Ok, Err, OnErr, IsTrue, IsErr, ◌++◌}
use Rattle.std.proofs.lemmas.List.{append_assoc}
use Rattle.burr_io.specs.Sink.{SinkView, Takes, FailsWithin, HoldsFront, Puts}
use Rattle.burr_io.specs.Source.{SourceView}
use Rattle.burr_io.specs.LineWriter.{Lines, lines_view}
use Rattle.burr_io.proofs.Common.Lines.{went, failed_late, failed_early}
use Rattle.burr_runs.specs.declared.text_runs.Outcome.{Outcome}
use Rattle.burr_runs.specs.declared.input.BenchFault.{BenchFault}
use Rattle.burr_runs.specs.declared.input.BenchFault.TheVariants.{Read, TooLong, Write, Memory}
use Rattle.burr_runs.specs.Views.BenchText.{streams, Succeeds, Fails}
use Rattle.burr_program.specs.Ends.{took, TakesText, FailsInOutput, HasNoOutcome}

-- a front of a front is one of the whole
pub front_more : (old new : Option (List ℕ)) (front rest text : List ℕ) → text ≡ front ++ rest → HoldsFront old new front → HoldsFront old new text
front_more None new front rest text parts holds = tt
front_more (Some x) None front rest text parts holds = holds
front_more (Some x) (Some y) front rest text parts (more, same) =
    (more ++ rest, ap (λ t. x ++ t) parts ∙ sym (append_assoc x front rest) ∙ ap (λ t. t ++ rest) same ∙ append_assoc y more rest)

-- a text that is put and then handed on is taken, or the sink below failed in it
pub told : {S A E B F : Type 0} (sink : SinkView S) (old mid new : Lines S) (text : List ℕ) (put : Result A E) (flushed : Result B F) → old.held ≡ []
    → Puts (lines_view sink) old mid text put → Puts sink mid.sink new.sink mid.held flushed → (IsTrue (sink.has_failed mid.sink) → IsErr flushed)
    → TakesText (took (sink.taken old.sink) (sink.taken new.sink) (sink.has_failed new.sink)) text
told sink old mid new text (Ok a) (Ok b) none puts goes good = inl (went sink old mid new text none puts.ok goes.ok)
told sink old mid new text (Ok a) (Err f) none puts goes good = inr (failed_late sink old mid new text none puts.ok goes.err)
told sink old mid new text (Err e) (Ok b) none puts goes good = let bad = good puts.err.fails in cc
told sink old mid new text (Err e) (Err f) none puts goes good =
    let (front, rest, parts, put) = puts.err.takes in
    let late = failed_late sink old mid new front none put goes.err in
    inr (front_more (sink.taken old.sink) (sink.taken new.sink) front rest text parts late.0, late.1)

-- an error with a fact
pub on_err : {A E : Type 0} (r : Result A E) {P : Type 0} → P → OnErr r P
on_err (Ok a) p = tt
on_err (Err e) p = p

-- the output of a whole input was handed on
pub output_handed : {R S : Type 0} (source : SourceView R) (before after : R) (sink : SinkView S) (old mid new : Lines S) (outcome : Outcome) → old.held ≡ []
    → Succeeds (streams source before after (lines_view sink) old mid) outcome → Takes sink mid.sink new.sink mid.held
    → Succeeds (streams source before after sink old.sink new.sink) outcome
output_handed source before after sink old mid new outcome none (input, whole, (output, is, put)) handed =
    (input, whole, (output, is, went sink old mid new output none put handed))

-- or the sink below failed then
pub output_failed_late : {R S : Type 0} (source : SourceView R) (before after : R) (sink : SinkView S) (old mid new : Lines S) (outcome : Outcome) → old.held ≡ []
    → Succeeds (streams source before after (lines_view sink) old mid) outcome → FailsWithin sink mid.sink new.sink mid.held
    → FailsInOutput (streams source before after sink old.sink new.sink)
output_failed_late source before after sink old mid new outcome none (input, whole, (output, is, put)) fails =
    (input, whole, (output, outcome, is, failed_late sink old mid new output none put fails))

-- why there is no outcome, of the sink below
pub no_outcome : {R S : Type 0} (source : SourceView R) (before after : R) (sink : SinkView S) (old mid : Lines S) (fault : BenchFault) → old.held ≡ []
    → Fails (streams source before after (lines_view sink) old mid) fault → (fault ≢ Write → mid ≡ old)
    → HasNoOutcome (streams source before after sink old.sink mid.sink) fault
no_outcome source before after sink old mid Read none fails kept = (fails.0, ap (λ l. sink.taken l.sink) (kept (λ same. cc)))
no_outcome source before after sink old mid TooLong none fails kept = (fails.0, ap (λ l. sink.taken l.sink) (kept (λ same. cc)))
no_outcome source before after sink old mid Memory none fails kept = (fails.0, ap (λ l. sink.taken l.sink) (kept (λ same. cc)))
no_outcome source before after sink old mid Write none (input, whole, (output, outcome, is, takes, fails)) kept =
    (input, whole, (output, outcome, is, failed_early sink old mid output none (record { takes = takes; fails = fails })))
