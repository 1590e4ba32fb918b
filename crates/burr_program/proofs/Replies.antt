-- What a reply says, once its output is flushed or its fault is reported.
use Rattle.std.proofs.Common.{◌≡◌, ℕ, List, [], refl, sym, ap, subst, ◌∙◌, inl, inr}
use Rattle.std.specs.Prelude.{Result, Ok, Err}
use Rattle.burr_io.specs.Sink.{SinkView, Takes}
use Rattle.burr_io.specs.LineWriter.{Lines, lines_view}
use Rattle.burr_io.proofs.Common.Lines.{went, failed_late, failed_early}
use Rattle.burr_judge.specs.declared.status.Status.{Status}
use Rattle.burr_judge.specs.declared.status.Status.TheVariants.{Done}
use Rattle.burr_judge.specs.declared.stop.Stop.{Stop}
use Rattle.burr_judge.specs.declared.stop.Stop.TheVariants as halts
use Rattle.burr_judge.specs.Statuses.{code_of}
use Rattle.burr_program.specs.Ends.{FailsInText, Replies, TakesAny, took_by}
use Rattle.burr_program.specs.Finishing.{Answers, Finishes, FinishesSo}
use Rattle.burr_program.proofs.HowFar.{tells_nothing}

module _ {S T : Type 0} (sink : SinkView S) (old mid new : Lines S) (errors : SinkView T) (before after : Lines T) where
  -- a reply
  pub reply_done : (text : List ℕ) (r : Result Status Stop) (status : Status) → old.held ≡ [] → before.held ≡ [] → Answers (lines_view sink) old mid text r → Finishes sink errors mid new before after r status
      → Replies text (took_by sink old.sink new.sink) (took_by errors before.sink after.sink) (code_of status)
  reply_done text (Ok given) status none still answers finishes = done answers.done finishes.so
    where
      done : (given ≡ Done) × Takes (lines_view sink) old mid text → FinishesSo sink errors mid new before after (Ok given) status → Replies text (took_by sink old.sink new.sink) (took_by errors before.sink after.sink) (code_of status)
      done (fine, takes) (inl (same, handed, kept)) =
          inl (text, given, (refl, fine), went sink old mid new text none takes handed, ap code_of same, subst (λ (l : Lines T). TakesAny (took_by errors before.sink l.sink) []) (sym kept) (tells_nothing errors before still).takes)
      done (fine, takes) (inr (fails, (fault, line, failed, ends))) =
          inr (fault, (ap code_of ends.0, ends.1.takes), line, (text, given, (refl, fine), failed_late sink old mid new text none takes fails))
  reply_done text (Err (halts.Fault fault)) status none still answers finishes =
      let (line, fails) = answers.stops in
      let (left, ends) = finishes.so in
      inr (fault, (ap code_of ends.0, ends.1.takes), line, (text, Done, (refl, refl), subst (λ (l : Lines S). FailsInText (took_by sink old.sink l.sink) text) (sym left) (failed_early sink old mid text none fails)))
  reply_done text (Err (halts.Refused refused notes)) status none still answers finishes = absurd answers.stops
