-- How a run of bare code ends, from its result and how that was reported.
use Rattle.std.proofs.Common.{◌≡◌, ℕ, List, [], sym, ap, subst, ◌∙◌, inl, inr}
use Rattle.std.specs.Prelude.{Result, Ok, Err}
use Rattle.burr_io.specs.Sink.{SinkView}
use Rattle.burr_io.specs.Source.{SourceView}
use Rattle.burr_io.specs.LineWriter.{Lines, lines_view}
use Rattle.burr_runs.specs.declared.input.BenchFault.TheVariants.{Write}
use Rattle.burr_runs.specs.Views.BenchText.{streams}
use Rattle.burr_judge.specs.declared.status.Status.{Status}
use Rattle.burr_judge.specs.declared.stop.Stop.{Stop}
use Rattle.burr_judge.specs.declared.stop.Stop.TheVariants as halts
use Rattle.burr_judge.specs.Statuses.{code_of}
use Rattle.burr_program.specs.Ends.{HasNoOutcome, IsRun, TakesText, took_by}
use Rattle.burr_program.specs.Finishing.{BareResultIs, FinishesSo}
use Rattle.burr_program.proofs.HandedText.{no_outcome, output_failed_late, output_handed}

pub bare_run : {R S T : Type 0} (source : SourceView R) (first last : R) (sink : SinkView S) (old mid new : Lines S) (errors : SinkView T) (was is : Lines T) (r : Result Status Stop) (status : Status) → old.held ≡ []
    → BareResultIs (streams source first last (lines_view sink) old mid) old mid r → FinishesSo sink errors mid new was is r status
    → IsRun (streams source first last sink old.sink new.sink) (took_by errors was.sink is.sink) (code_of status)
bare_run {T = T} source first last sink old mid new errors was is (Ok given) status none (outcome, succeeds, of) (inl (same, handed, kept)) =
    inl (outcome, (output_handed source first last sink old mid new outcome none succeeds handed, ap code_of (same ∙ of), ap (λ (l : Lines T). errors.taken l.sink) kept))
bare_run source first last sink old mid new errors was is (Ok given) status none (outcome, succeeds, of) (inr (fails, (fault, line, failed, ends))) =
    inr (
      Write,
      (
        output_failed_late source first last sink old mid new outcome none succeeds fails,
        ap code_of (ends.0 ∙ failed),
        subst (λ (text : List ℕ). TakesText (took_by errors was.sink is.sink) text) line ends.1.takes,
      ),
    )
bare_run {S = S} source first last sink old mid new errors was is (Err (halts.Fault fault)) status none (given, (line, code), fails, kept) (left, ends) =
    inr (
      given,
      (
        subst (λ (l : Lines S). HasNoOutcome (streams source first last sink old.sink l.sink) given) (sym left) (no_outcome source first last sink old mid given none fails kept),
        ap code_of (ends.0 ∙ code),
        subst (λ (text : List ℕ). TakesText (took_by errors was.sink is.sink) text) line ends.1.takes,
      ),
    )
bare_run source first last sink old mid new errors was is (Err (halts.Refused refused notes)) status none (given, is_so, fails, kept) finishes = absurd is_so
