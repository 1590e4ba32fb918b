-- What a job's result says, once its files are left out and its output is flushed.
use Rattle.std.proofs.Common.{◌≡◌, List, ℕ, [], ◌++◌, true, false, ap, refl, sym, subst, ◌∙◌, ◌⊎◌, inl, inr}
use Rattle.std.specs.Prelude.{Result, Ok, Err, IfOk, IfErr, string_bytes}
use Rattle.burr_io.specs.Sink.{SinkView, Takes}
use Rattle.burr_io.specs.Source.{SourceView}
use Rattle.burr_io.specs.LineWriter.{Lines, lines_view}
use Rattle.burr_io.proofs.Common.Lines.{went, failed_late, failed_early}
use Rattle.burr_runs.specs.Views.BenchText.{streams}
use Rattle.burr_command.specs.declared.job.Job.{Job}
use Rattle.burr_command.specs.declared.job.Job.TheVariants as jobs
use Rattle.burr_judge.specs.declared.fault.Fault.{Fault}
use Rattle.burr_judge.specs.declared.status.Status.{Status}
use Rattle.burr_judge.specs.declared.status.Status.TheVariants.{Refused}
use Rattle.burr_judge.specs.declared.stop.Stop.{Stop}
use Rattle.burr_judge.specs.declared.stop.Stop.TheVariants as halts
use Rattle.burr_judge.specs.Faults.{line_of, output_failed}
use Rattle.burr_judge.specs.PlanEnds.{Ends}
use Rattle.burr_judge.specs.Refusals.{refusal_text}
use Rattle.burr_judge.specs.Statuses.{code_of}
use Rattle.burr_judge.specs.StepEnds.{Left, left_by}
use Rattle.burr_program.specs.declared.done.Done.{Done as Finished}
use Rattle.burr_program.specs.Commands.{CommandResult, CommandStops, JobBreaks, JobDone, JobEnds, JobFails}
use Rattle.burr_program.specs.Ends.{DoesJob, FailsInText, StopsJob, TakesAny, TakesText, took_by}
use Rattle.burr_program.specs.Finishing.{EndsBy, FinishesSo, IsStatusOf, OutputFails}
use Rattle.burr_program.specs.HowFar.{HasTold, TellsHowFar}
use Rattle.burr_program.proofs.HowFar.{told_after}

-- what a job printed when it was done is one of its ends
pub job_ends : (left : Left) (job : Job) (output : List ℕ) (done : Finished) → JobDone left job output done → JobEnds left job output done.status
job_ends left (jobs.Cells assembly) output done (text, read, none, unwritten, ends) = (text, ends)
job_ends left (jobs.Assemble text out) output done (old, new, none, read, written, are, silent, fine) = (old, inr (new, are, (silent, fine)))
job_ends left (jobs.List plan places) output done (bytes, none, read, unwritten, ends) = (bytes, ends)
job_ends left (jobs.Upgrade plan out) output done (old, new, none, read, written, are, silent, fine) = (old, inr (new, are, (silent, fine)))
job_ends left (jobs.Check assembly plan) output done (text, bytes, read, other, unwritten, ends) = (text, bytes, ends)
job_ends left (jobs.Judge false) output done (none, nothing, unwritten, ends) = ends
job_ends left (jobs.Judge true) output done (none, nothing, unwritten, ends) = ends
job_ends left (jobs.Run assembly plan) output done (text, bytes, read, other, unwritten, (answers, whole, ends)) = (text, bytes, answers, whole, ends)
job_ends left (jobs.Try assembly plan) output done (text, bytes, read, other, unwritten, (answers, whole, ends)) = (text, bytes, answers, whole, ends)
job_ends left (jobs.Step assembly plan) output done (text, bytes, read, other, unwritten, ends) = (text, bytes, ends)
job_ends left (jobs.Drive assembly plan) output done (text, bytes, read, other, unwritten, (input, is, ends)) = (text, bytes, input, is, ends)
job_ends left (jobs.Why assembly text) output done (drawing, plan, read, other, unwritten, ends) = (drawing, plan, ends)
job_ends left (jobs.Trace assembly text) output done (drawing, plan, read, other, unwritten, (answers, whole, ends)) = (drawing, plan, answers, whole, ends)
job_ends left (jobs.Frames assembly text out) output done (drawing, plan, new, read, other, written, filled, fine) = fine
job_ends left (jobs.PlanSheet assembly sheet out) output done (drawing, moves, new, read, other, written, makes, silent, fine) = inl (drawing, moves, new, makes, (silent, fine))
job_ends left (jobs.Explain line) output done (none, nothing, unwritten, ends) = ends

-- what a job told on its way, and then the line of a fault
told_fault : {T : Type 0} (errors : SinkView T) (old mid new : Lines T) (told : List ℕ) (fault : Fault) (status : Status) → HasTold errors old mid told → EndsBy errors mid new fault status
    → TakesText (took_by errors old.sink new.sink) (told ++ line_of fault)
told_fault errors old mid new told fault status has ends = told_after errors old mid new told (line_of fault) has ends.1

module _ {R S T : Type 0} (source : SourceView R) (first last : R) (sink : SinkView S) (old mid new : Lines S) (errors : SinkView T) (before then after : Lines T) (job : Job) where
  abbrev Does : Status → Type 0
  Does status = DoesJob (streams source first last sink old.sink new.sink) (took_by errors before.sink after.sink) (code_of status) job

  done_so : (done : Finished) (status : Status) → old.held ≡ [] → (output : List ℕ) → JobDone (left_by source first last) job output done → Takes (lines_view sink) old mid output
      → TellsHowFar errors job before then → FinishesSo sink errors mid new then after (Ok done.status) status → Does status
  done_so done status none output is takes (told, far, has) (inl (same, handed, kept)) = (
    told,
    far,
    inl (
      output,
      done.status,
      job_ends (left_by source first last) job output done is,
      went sink old mid new output none takes handed,
      ap code_of same,
      subst (λ (l : Lines T). TakesAny (took_by errors before.sink l.sink) told) (sym kept) has.takes,
    ),
  )
  done_so done status none output is takes (told, far, has) (inr (fails, (fault, line, failed, ends))) = (
    told,
    far,
    inr (
      fault,
      (ap code_of ends.0, told_fault errors before then after told fault status has ends),
      inl (line, (output, done.status, job_ends (left_by source first last) job output done is, failed_late sink old mid new output none takes fails)),
    ),
  )

  refused_so : (text : List ℕ) (status : Status) → old.held ≡ [] → JobEnds (left_by source first last) job text Refused → mid ≡ old → TellsHowFar errors job before then
      → ((status ≡ Refused) × Takes sink mid.sink new.sink text × (after ≡ then)) ⊎ (FailsInText (took_by sink mid.sink new.sink) text × OutputFails errors then after status) → Does status
  refused_so text status none is same (told, far, has) (inl (fine, took, kept)) =
      (told, far, inl (text, Refused, is, subst (λ (l : Lines S). Takes sink l.sink new.sink text) same took, ap code_of fine, subst (λ (l : Lines T). TakesAny (took_by errors before.sink l.sink) told) (sym kept) has.takes))
  refused_so text status none is same (told, far, has) (inr (fails, (fault, line, failed, ends))) = (
    told,
    far,
    inr (
      fault,
      (ap code_of ends.0, told_fault errors before then after told fault status has ends),
      inl (line, (text, Refused, is, subst (λ (l : Lines S). FailsInText (took_by sink l.sink new.sink) text) same fails)),
    ),
  )

  fault_so : (fault : Fault) (status : Status) → old.held ≡ [] → CommandStops (lines_view sink) old mid (JobEnds (left_by source first last) job) (JobFails job) (JobBreaks (streams source first last sink old.sink mid.sink) job) (halts.Fault fault)
      → TellsHowFar errors job before then → new ≡ mid → EndsBy errors then after fault status → Does status
  fault_so fault status none stops (told, far, has) left ends = (told, far, inr (fault, (ap code_of ends.0, told_fault errors before then after told fault status has ends), stopped stops))
    where
      stopped : CommandStops (lines_view sink) old mid (JobEnds (left_by source first last) job) (JobFails job) (JobBreaks (streams source first last sink old.sink mid.sink) job) (halts.Fault fault)
          → StopsJob job (streams source first last sink old.sink new.sink) (line_of fault)
      stopped (inl (line, (output, ended, is, within))) =
          inl (line, (output, ended, is, subst (λ (l : Lines S). FailsInText (took_by sink old.sink l.sink) output) (sym left) (failed_early sink old mid output none within)))
      stopped (inr (inl (same, fails))) = inr (inl (ap (λ (l : Lines S). sink.taken l.sink) (left ∙ same), fails))
      stopped (inr (inr breaks)) = inr (inr (subst (λ (l : Lines S). JobBreaks (streams source first last sink old.sink l.sink) job (line_of fault)) (sym left) breaks))

  -- what the program did, from what the job returned and how that was reported
  pub job_done : (done : Result Finished Stop) (r : Result Status Stop) (status : Status) → old.held ≡ []
      → CommandResult (lines_view sink) old mid (JobDone (left_by source first last) job) (JobEnds (left_by source first last) job) (JobFails job) (JobBreaks (streams source first last sink old.sink mid.sink) job) done
      → IsStatusOf done r → TellsHowFar errors job before then → FinishesSo sink errors mid new then after r status
      → DoesJob (streams source first last sink old.sink new.sink) (took_by errors before.sink after.sink) (code_of status) job
  job_done (Ok done) r status none result is tells so =
      let (output, ended, takes) = result.done in
      done_so done status none output ended takes tells (subst (λ (x : Result Status Stop). FinishesSo sink errors mid new then after x status) is so)
  job_done (Err (halts.Refused refused notes)) r status none result is tells so =
      let (ends, same) = result.stops in
      refused_so (refusal_text refused notes) status none ends same tells
      (subst (λ (x : Result Status Stop). FinishesSo sink errors mid new then after x status) is so (ap (λ (l : Lines S). l.held) same ∙ none))
  job_done (Err (halts.Fault fault)) r status none result is tells so =
      let (left, ends) = subst (λ (x : Result Status Stop). FinishesSo sink errors mid new then after x status) is so in
      fault_so fault status none result.stops tells left ends
