-- Agreement with a frame, or none, and what that says of the verdict.
use Rattle.std.proofs.Common.{◌≡◌, List, [], ◌∷◌, refl, sym, subst, inl, inr}
use Rattle.std.specs.Prelude.{⊤, Option, Some, None, Result, Ok, Err}
use Rattle.std.specs.Result.{result_and}
use Rattle.arrayvec.specs.ArrayVec.{ArrayVec}
use Rattle.burr_forms.specs.Rules.Forms.{Form, Point, AllSmallForms}
use Rattle.burr_container.specs.Rules.Plans.{Frame}
use Rattle.burr_frames.specs.declared.rule.Rule.{Rule}
use Rattle.burr_frames.specs.declared.state.meeting.Miss.{Miss}
use Rattle.burr_frames.specs.Rules.States.{AbstractState, region_of, state_of}
use Rattle.burr_frames.specs.Rules.Arrival.{live_forms, IsAlike}
use Rattle.burr_frames.specs.Rules.Verdicts.{Rest, Verdict, Breaks, NoSuccessor, meeting, arriving, no_successor}
use Rattle.burr_frames.specs.Views.ArrivalViews.{AgreesAbove, AgreesOrMisses, AgreesWith, HoldsOrMisses, IsMissed, missed_at}
use Rattle.burr_frames.specs.Views.Breaks.{missed_break}

-- what is judged with the forms in the live slots
pub agrees_or_misses : (s : AbstractState) (f : Frame) (upper least : List Form) (live : ArrayVec Form) (result : Result ⊤ Miss)
    → live_forms f.slots s.slots ≡ Some live.items → AllSmallForms live.items → IsAlike s (state_of f)
    → HoldsOrMisses (region_of s) (AgreesAbove s (state_of f) upper least live.items) result
    → AgreesOrMisses s f upper least (result_and result (Ok live))
agrees_or_misses s f upper least live (Ok _) known small alike agrees =
    (record { known = known; alike = alike; agrees = agrees }, small)
agrees_or_misses s f upper least live (Err miss) known small alike (point, first, is) =
    subst (IsMissed s f upper least) (sym is) (live.items, known, alike, first)

-- a frame that is met, and what follows
pub meeting_on : (s : AbstractState) (f : Frame) (rule : Rule) (rest : List Form → Rest) (forms : List Form) (v : Verdict)
    → AgreesWith s f [] [] forms → rest forms v → meeting s f rule rest v
meeting_on s f rule rest forms v a h =
    inr (forms, a.known, inr (a.alike, inr (λ point is. (a.agrees point is).0, h)))

-- a frame that is not met, whatever follows
pub meeting_breaks : (s : AbstractState) (f : Frame) (rule : Rule) (rest : List Form → Rest) (point : Option Point)
    → IsMissed s f [] [] point → meeting s f rule rest (Breaks (missed_break rule point))
meeting_breaks s f rule rest None (inl none) = inl (none, refl)
meeting_breaks s f rule rest None (inr (forms, known, unlike)) = inr (forms, known, inl (unlike, refl))
meeting_breaks s f rule rest (Some point) (forms, known, alike, first) =
    inr (
      forms,
      known,
      inr (
        alike,
        inl (
          point,
          record {
            is_point = first.is_point;
            fails = λ agrees. first.fails (agrees, tt);
            before = λ q is before. (first.before q is before).0;
          },
          refl,
        ),
      ),
    )

-- a frame at which the state arrives
pub arriving_met : (s : AbstractState) (f : Frame) (forms : List Form) → AgreesWith s f (s.cost ∷ []) (f.cost ∷ []) forms
    → arriving s f no_successor NoSuccessor
arriving_met s f forms a =
    inr (forms, a.known, inr (a.alike, inr (λ point is. ((a.agrees point is).0, (a.agrees point is).1.0), refl)))

-- a frame at which it does not
pub arriving_missed : (s : AbstractState) (f : Frame) (point : Option Point) → IsMissed s f (s.cost ∷ []) (f.cost ∷ []) point
    → arriving s f no_successor (missed_at point)
arriving_missed s f None (inl none) = inl (none, refl)
arriving_missed s f None (inr (forms, known, unlike)) = inr (forms, known, inl (unlike, refl))
arriving_missed s f (Some point) (forms, known, alike, first) =
    inr (
      forms,
      known,
      inr (
        alike,
        inl (
          point,
          record {
            is_point = first.is_point;
            fails = λ agrees. first.fails (agrees.0, (agrees.1, tt));
            before = λ q is before. ((first.before q is before).0, (first.before q is before).1.0);
          },
          refl,
        ),
      ),
    )
