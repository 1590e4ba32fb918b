-- What the code's answers say of a judgement.
use Rattle.std.specs.Prelude.{◌≡◌, ⊤, ℕ, Option, Some, None, Result, Ok, Err, MatchResult, MatchOption, ◌↔◌, ◌<◌, ◌≤◌, slice_get, option_map}
use Rattle.burr_container.specs.Rules.Plans.{Frame}
use Rattle.burr_frames.specs.Rules.FramedPlans.{FramedProcedure}
use Rattle.burr_frames.specs.Rules.States.{AbstractState}
use Rattle.burr_frames.specs.Views.Breaks.{broken_of}
use Rattle.burr_frames.specs.Rules.Verdicts.{Verdict, Breaks, FallsThrough, NoSuccessor, arriving, no_successor}
use Rattle.burr_frames.specs.declared.rule.Break.{Break}
use Rattle.burr_verify.specs.declared.refusal.Refusal.{Refusal}
use Rattle.burr_verify.specs.declared.states.Successor.{Successor}
use Rattle.burr_verify.specs.declared.states.Successor.TheVariants as successors
use Rattle.burr_verify.specs.Rules.Judging.{Rest, passes}
use Rattle.burr_verify.specs.Rules.Judging.{nothing}
use Rattle.burr_verify.specs.Rules.Pass.{Judgement, Passed, Refuses, FailedCheck}

abbrev pub failed_check : Refusal → FailedCheck
failed_check r = record {
  procedure = r.proc;
  pc = r.pc;
  rule = r.rule;
  pieces = r.pieces;
  point = option_map (λ point. point.items) r.point;
}

abbrev pub judgement_of : Result ⊤ Refusal → Judgement
judgement_of (Ok _) = Passed
judgement_of (Err r) = Refuses (failed_check r)

-- what an instruction comes to, where it leaves this state
abbrev pub verdict_of : AbstractState → Result Successor Break → Verdict
verdict_of s (Ok successors.FallsThrough) = FallsThrough s
verdict_of s (Ok successors.None) = NoSuccessor
verdict_of s (Err b) = Breaks (broken_of b)

-- the verdict of an instruction whose rule holds
abbrev pub NamesNoRule : Verdict → Type 0
NamesNoRule (Breaks broken) = ⊥
NamesNoRule verdict = ⊤

-- The result of a part of the checks: where they hold, the part passes if what follows passes; and
-- else the part refuses, whatever would follow.
abbrev pub AnswersPart : (Rest → Rest) → Result ⊤ Refusal → Type 0
AnswersPart part result =
    MatchResult result (λ _. part passes Passed) (λ r. part nothing (Refuses (failed_check r)))

-- what a part says where it begins, it says from an earlier place on
abbrev pub PartFrom : (Rest → Rest) → (Rest → Rest) → Type 0
PartFrom later part =
    (later passes Passed → part passes Passed)
    × ((r : FailedCheck) → later nothing (Refuses r) → part nothing (Refuses r))

-- The state that falls in, if one does, arrives at the frame, or this verdict says where it does not.
abbrev pub ArrivesIfAny : Option AbstractState → Frame → Verdict → Type 0
ArrivesIfAny None f verdict = verdict ≡ NoSuccessor
ArrivesIfAny (Some s) f verdict = arriving s f no_successor verdict

-- the labels that stand before this place are those with numbers below n
abbrev pub AreBefore : FramedProcedure → ℕ → ℕ → Type 0
AreBefore here place n =
    (k : ℕ) (l : ℕ × Frame) → slice_get here.labels k ≡ Some l → (k < n) ↔ (l.0 < place)

-- the first label at a place from `from` on and before `end`; None where there is no such label
abbrev pub IsLabelWithin : FramedProcedure → ℕ → ℕ → Option ℕ → Type 0
IsLabelWithin here from end result =
    MatchOption result
    ((k : ℕ) (l : ℕ × Frame) → slice_get here.labels k ≡ Some l → from ≤ l.0 → end ≤ l.0)
    (λ n. (l : ℕ × Frame) × (slice_get here.labels n ≡ Some l) × (from ≤ l.0) × (l.0 < end))
