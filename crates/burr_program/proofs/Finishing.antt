-- How a result is reported: what was put on a sink of whole lines, once it is flushed.
use Rattle.std.proofs.Common.{◌≡◌, ℕ, List, [], refl, sym, ap, subst, ◌∙◌, inl, inr}
use Rattle.std.specs.Prelude.{Result, Ok, Err}
use Rattle.burr_io.specs.Sink.{SinkView, Takes, FailsWithin}
use Rattle.burr_io.specs.LineWriter.{Lines, lines_view}
use Rattle.burr_io.proofs.Common.Lines.{went, failed_late, failed_early}
use Rattle.burr_judge.specs.declared.fault.Fault.{Fault}
use Rattle.burr_judge.specs.declared.status.Status.{Status}
use Rattle.burr_judge.specs.declared.stop.Stop.{Stop}
use Rattle.burr_judge.specs.declared.stop.Stop.TheVariants as halts
use Rattle.burr_judge.specs.declared.status.Status.TheVariants.{Failed}
use Rattle.burr_judge.specs.Faults.{line_of, output_failed, status_of_fault}
use Rattle.burr_judge.specs.Refusals.{refusal_text}
use Rattle.burr_judge.specs.Stops.{Reports}
use Rattle.burr_program.specs.Finishing.{EndsBy, Finishes}

module _ {S T : Type 0} (sink : SinkView S) (errors : SinkView T) (old mid new : Lines S) where
  -- all is flushed
  pub flushed : (was : Lines T) (done : Result Status Stop) (status : Status) → Reports (lines_view sink) old mid done (Ok status) → Takes sink mid.sink new.sink mid.held
      → Finishes sink errors old new was was done status
  flushed was (Ok given) status reports handed =
      let (same, kept) = reports.told in
      record { so = inl (cc, subst (λ (l : Lines S). Takes sink l.sink new.sink l.held) kept handed, refl) }
  flushed was (Err (halts.Fault fault)) status reports handed = let (same, kept) = reports.told in absurd cc
  flushed was (Err (halts.Refused refused notes)) status reports handed =
      let (is, takes) = reports.told in
      record { so = λ none. inl (is, went sink old mid new (refusal_text refused notes) none takes handed, refl) }

  -- the sink below fails at the flush
  pub flush_fails : (was is : Lines T) (done : Result Status Stop) (given status : Status) (fault : Fault) → Reports (lines_view sink) old mid done (Ok given) → FailsWithin sink mid.sink new.sink mid.held
      → line_of fault ≡ output_failed → status_of_fault fault ≡ Failed → EndsBy errors was is fault status → Finishes sink errors old new was is done status
  flush_fails was is (Ok x) given status fault reports fails line failed ends =
      let (same, kept) = reports.told in
      record { so = inr (subst (λ (l : Lines S). FailsWithin sink l.sink new.sink l.held) kept fails, (fault, line, failed, ends)) }
  flush_fails was is (Err (halts.Fault x)) given status fault reports fails line failed ends = let (same, kept) = reports.told in absurd cc
  flush_fails was is (Err (halts.Refused refused notes)) given status fault reports fails line failed ends =
      let (fine, takes) = reports.told in
      record { so = λ none. inr (failed_late sink old mid new (refusal_text refused notes) none takes fails, (fault, line, failed, ends)) }

-- a fault is reported, and the sink is left alone
pub faulted : {S T : Type 0} (sink : SinkView S) (errors : SinkView T) (old new : Lines S) (was is : Lines T) (done : Result Status Stop) (status : Status) (fault : Fault)
    → Reports (lines_view sink) old new done (Err fault) → EndsBy errors was is fault status → Finishes sink errors old new was is done status
faulted sink errors old new was is (Ok given) status fault reports ends = let (same, kept) = reports.told in absurd cc
faulted sink errors old new was is (Err (halts.Fault given)) status fault reports ends =
    let (same, kept) = reports.told in
    let equal : fault ≡ given = cc in
    record { so = (kept, subst (λ (f : Fault). EndsBy errors was is f status) equal ends) }
faulted sink errors old new was is (Err (halts.Refused refused notes)) status fault reports ends =
    let (line, failed, fails) = reports.told in
    record { so = λ none. inr (failed_early sink old new (refusal_text refused notes) none fails, (fault, line, failed, ends)) }
