-- Steps from one stage of a command to the next: what may be printed at the one may be at the other.
use Rattle.std.proofs.Common.{List, ℕ, inl, inr}
use Rattle.std.specs.Prelude.{Result, Ok, Err, IfOk, IfErr}
use Rattle.burr_io.specs.Sink.{SinkView}
use Rattle.burr_judge.specs.declared.fault.Fault.{Fault}
use Rattle.burr_judge.specs.Faults.{line_of}
use Rattle.burr_judge.specs.declared.status.Status.{Status}
use Rattle.burr_judge.specs.PlanEnds.{Ends, PutsEnd, FailsToEnd, EndsOn, Ending}

-- all that may be printed at one stage may be printed at the other
abbrev pub AreAmong : Ends → Ends → Type 0
AreAmong These Those = (output : List ℕ) (status : Status) → These output status → Those output status

pub puts_among : {S : Type 0} (sink : SinkView S) (before after : S) (These Those : Ends) (r : Result Status Fault)
    → AreAmong These Those → IfOk r (PutsEnd sink before after These) → IfOk r (PutsEnd sink before after Those)
puts_among sink before after These Those (Ok status) among (output, is, takes) = (output, among output status is, takes)
puts_among sink before after These Those (Err fault) among puts = tt

pub fails_among : {S : Type 0} (sink : SinkView S) (before after : S) (These Those : Ends) (r : Result Status Fault)
    → AreAmong These Those → IfErr r (λ fault. FailsToEnd sink before after These (line_of fault))
    → IfErr r (λ fault. FailsToEnd sink before after Those (line_of fault))
fails_among sink before after These Those (Ok status) among fails = tt
fails_among sink before after These Those (Err fault) among (inl (line, (output, status, is, fails))) = inl (line, (output, status, among output status is, fails))
fails_among sink before after These Those (Err fault) among (inr want) = inr want

-- all that is told of the one is told of the other
pub ends_among : {S : Type 0} (sink : SinkView S) (before after : S) (These Those : Ends) (r : Result Status Fault)
    → AreAmong These Those → EndsOn sink before after These r → EndsOn sink before after Those r
ends_among sink before after These Those r among (puts, fails) =
    (puts_among sink before after These Those r among puts, fails_among sink before after These Those r among fails)

-- what is told of a call is told of the command
pub ending_from : {S : Type 0} (sink : SinkView S) (before after : S) (These Those : Ends) (Breaks : List ℕ → Type 0) (r : Result Status Fault)
    → AreAmong These Those → EndsOn sink before after These r → Ending sink before after Those Breaks r
ending_from sink before after These Those Breaks (Ok status) among ((output, is, takes), tt) = ((output, among output status is, takes), tt)
ending_from sink before after These Those Breaks (Err fault) among (tt, fails) = (tt, inl (fails_among sink before after These Those (Err fault) among fails))

-- so it is of one stage and the next of a command
pub ending_among : {S : Type 0} (sink : SinkView S) (before after : S) (These Those : Ends) (Breaks Others : List ℕ → Type 0) (r : Result Status Fault)
    → AreAmong These Those → ((line : List ℕ) → Breaks line → Others line) → Ending sink before after These Breaks r → Ending sink before after Those Others r
ending_among sink before after These Those Breaks Others (Ok status) among more ((output, is, takes), tt) = ((output, among output status is, takes), tt)
ending_among sink before after These Those Breaks Others (Err fault) among more (tt, inl fails) = (tt, inl (fails_among sink before after These Those (Err fault) among fails))
ending_among sink before after These Those Breaks Others (Err fault) among more (tt, inr breaks) = (tt, inr (more (line_of fault) breaks))
