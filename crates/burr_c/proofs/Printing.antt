-- What there is to print, and how it is given to the caller.
use Rattle.std.proofs.Common.{◌≡◌, ◌↔◌, ◌∙◌, List, ℕ, [], ap, refl, sym, subst, inl, inr, arith}
use Rattle.std.specs.Prelude.{Option, Some, Result, Ok, Err, IfOk, IfErr}
use Rattle.std.specs.Result.{IsErrAnd}
use Rattle.std.specs.Io.KnownBytes.{Appends, append_known}
use Rattle.burr_c.specs.declared.printed.CallFault.{CallFault}
use Rattle.burr_c.specs.declared.printed.CallFault.TheVariants.{TooLong, Memory}
use Rattle.burr_c.specs.declared.printed.Printed.{Printed}
use Rattle.burr_c.specs.Calls.{Call, Gives, Returns}
use Rattle.burr_c.specs.CallEnds.{StepsEnd}
use Rattle.burr_c.specs.OpenCalls.{NothingEnds}
use Rattle.burr_c.specs.Printing.{HoldsAll}
use Rattle.burr_c.specs.Statuses.{status_of_fault}
use Rattle.burr_io.specs.Sink.{SinkView}
use Rattle.burr_io.specs.Source.{SourceView}
use Rattle.burr_io.specs.LineWriter.{Lines, lines_view}
use Rattle.burr_io.specs.declared.writing.VecSink.{VecSink}
use Rattle.burr_runs.specs.Views.BenchText.{streams}
use Rattle.burr_judge.specs.declared.status.Status.{Status}
use Rattle.burr_judge.specs.declared.status.Status.TheVariants.{Done, Refused}
use Rattle.burr_judge.specs.declared.stop.Stop.{Stop}
use Rattle.burr_judge.specs.declared.stop.Stop.TheVariants as halts
use Rattle.burr_judge.specs.OpenEnds.{Beginnings, IsOpened, OpenEnds, RefusesToOpen}
use Rattle.burr_judge.specs.PlanEnds.{Ends, PutsEnd, never, plan_accepted, plan_refused}
use Rattle.burr_judge.specs.Refusals.{refusal_text}
use Rattle.burr_judge.specs.StepEnds.{StepTextBreaks, StepTextEnds, left_by}
use Rattle.burr_judge.specs.Stops.{Refuses, Reports, ResultOn}
use Rattle.burr_judge.proofs.Common.Results.{told_ending, told_ends}

-- the memory that a sink fills
abbrev pub vec_view : SinkView VecSink
vec_view = record { taken = λ kept. Some kept.bytes.items; has_failed = λ kept. kept.failed }

-- what was put since there was nothing is all that is kept
pub all_kept : (AreEnds : Ends) (old new : Option (List ℕ)) (bytes : List ℕ) (status : Status) → old ≡ Some [] → new ≡ Some bytes
    → ((output : List ℕ) × AreEnds output status × Appends old new output) → AreEnds bytes status
all_kept AreEnds old new bytes status first last (output, is, took) =
    let same : Appends (Some []) (Some bytes) output = subst (λ (o : Option (List ℕ)). Appends o (Some bytes) output) first (subst (λ (n : Option (List ℕ)). Appends old n output) last took) in
    subst (λ (b : List ℕ). AreEnds b status) (sym same) is

-- what was put on a sink of whole lines over such a one, with what is held back
pub all_lines_kept : (AreEnds : Ends) (old new : Lines VecSink) (bytes : List ℕ) (status : Status) → old.held ≡ [] → vec_view.taken old.sink ≡ Some [] → HoldsAll new bytes
    → PutsEnd (lines_view vec_view) old new AreEnds status → AreEnds bytes status
all_lines_kept AreEnds old new bytes status none begins whole ends =
    all_kept AreEnds (append_known (vec_view.taken old.sink) old.held) (append_known (vec_view.taken new.sink) new.held) bytes status
    (ap (λ held. append_known (vec_view.taken old.sink) held) none ∙ ap (λ taken. append_known taken []) begins) (ap Some (sym whole)) ends

-- so what `step` puts for these commands
pub steps_end : {R : Type 0} (from to : R) (source : SourceView R) (old mid new : Lines VecSink) (commands text container bytes : List ℕ) (done : Result Status Stop) (status : Status)
    → source.left from ≡ Some commands → old.held ≡ [] → vec_view.taken old.sink ≡ Some [] → HoldsAll new bytes
    → ResultOn (lines_view vec_view) old mid (StepTextEnds (left_by source from to) text container) (StepTextBreaks (streams source from to vec_view old.sink mid.sink) text container) done
    → Reports (lines_view vec_view) mid new done (Ok status) → StepsEnd commands text container bytes status
steps_end from to source old mid new commands text container bytes done status given none begins whole result reports = (
  left_by source from to,
  given,
  all_lines_kept (StepTextEnds (left_by source from to) text container) old new bytes status none begins whole
      (told_ending (λ (after : Lines VecSink). StepTextBreaks (streams source from to vec_view old.sink after.sink) text container) result reports).0,
)

-- A run that is opened

-- a refusal of what is to be opened, once it is reported
pub refusal_kept : (first last : VecSink) (text container bytes : List ℕ) (stop : Stop) (status : Status) → Refuses (RefusesToOpen text container) stop → Reports vec_view first last (Err stop) (Ok status)
    → vec_view.taken first ≡ Some [] → vec_view.taken last ≡ Some bytes → OpenEnds NothingEnds text container bytes status
refusal_kept first last text container bytes stop status refuses reports begins kept =
    all_kept (OpenEnds NothingEnds text container) (vec_view.taken first) (vec_view.taken last) bytes status begins kept
    (told_ends {done = Err stop} {r = Ok status} (refused stop refuses) reports).0
  where
    ends : (line : List ℕ) → RefusesToOpen text container line → OpenEnds NothingEnds text container line Refused
    ends line (inl is) = inl is
    ends line (inr (a, of, inl is)) = inr (a, of, inl is)
    ends line (inr (a, of, inr (kept, read, is))) = inr (a, of, inr (kept, read, plan_refused is))

    refused : (stop : Stop) → Refuses (RefusesToOpen text container) stop → ResultOn vec_view first first (OpenEnds NothingEnds text container) never (Err stop)
    refused (halts.Fault fault) is = record { done = tt; stops = inl (inr (is.says, refl)) }
    refused (halts.Refused said notes) is = record { done = tt; stops = (ends (refusal_text said notes) is.says, refl) }

-- a refusal is reported as one
pub reported_refused : {S : Type 0} (sink : SinkView S) (before after : S) (stop : Stop) (status : Status) → Reports sink before after (Err stop) (Ok status) → status ≡ Refused
reported_refused sink before after (halts.Fault fault) status reports = let (same, kept) = reports.told in absurd cc
reported_refused sink before after (halts.Refused said notes) status reports = reports.told.0

-- a run is opened, and nothing is printed
pub opened_ends : {Run : Type 0} (Begins : Beginnings Run) (text container bytes : List ℕ) (run : Run) → IsOpened Begins text container run → bytes ≡ [] → OpenEnds NothingEnds text container bytes Done
opened_ends Begins text container bytes run (a, of, (kept, read, (accepted, begins))) none = inr (a, of, inr (kept, read, plan_accepted accepted (none, refl)))

-- a fault of memory is not one of a length
pub not_long : {A : Type 0} (r : Result A CallFault) (TooMuch : Type 0) → ¬ TooMuch → IsErrAnd r (λ fault. fault ≡ Memory) → IfErr r (λ fault. fault ≡ TooLong ↔ TooMuch)
not_long (Ok a) TooMuch fits is = tt
not_long (Err fault) TooMuch fits is = ((λ same. let is : Memory ≡ TooLong = sym is ∙ same in absurd (grind arith)), λ much. absurd (fits much))

-- what is printed, or a fault, is given
pub returned : (printed : Result Printed CallFault) (TooMuch : Type 0) (AreEnds : Ends) (c : Call) → IfOk printed (λ p. AreEnds p.bytes.items p.status)
    → IfOk printed (λ _. ¬ TooMuch) → IfErr printed (λ fault. fault ≡ TooLong ↔ TooMuch) → IfOk printed (λ p. Gives p.bytes.items p.status c)
    → IfErr printed (λ fault. Gives [] (status_of_fault fault) c) → Returns TooMuch AreEnds c
returned (Ok p) TooMuch AreEnds c ends short long gives fails = inr (short, inr (p.bytes.items, p.status, ends, gives))
returned (Err TooLong) TooMuch AreEnds c ends short long gives fails = inl (long.0 refl, fails)
returned (Err Memory) TooMuch AreEnds c ends short long gives fails = inr ((λ much. let is : Memory ≡ TooLong = long.1 much in absurd (grind arith)), inl fails)
