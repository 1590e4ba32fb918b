-- A state's agreement with a frame, and what an arrival that was judged says of the verdict.
use Rattle.std.specs.Prelude.{◌≡◌, ◌⊎◌, ⊤, List, Option, Some, None, Result, Ok, Err, MatchResult, option_map}
use Rattle.arrayvec.specs.ArrayVec.{ArrayVec}
use Rattle.burr_forms.specs.Rules.Forms.{Form, Point, values, AllSmallForms}
use Rattle.burr_forms.specs.Rules.Conditions.{Region, Throughout, FailsFirstAt}
use Rattle.burr_container.specs.Rules.Plans.{Frame}
use Rattle.burr_frames.specs.declared.state.meeting.Miss.{Miss}
use Rattle.burr_frames.specs.declared.rule.Rule.TheVariants as rules
use Rattle.burr_frames.specs.Rules.States.{AbstractState, Everywhere, IsFirstFailing, state_of}
use Rattle.burr_frames.specs.Rules.Arrival.{live_forms, IsAlike, Agrees}
use Rattle.burr_frames.specs.Rules.Verdicts.{Verdict, NoSuccessor, plainly, at_point}
use Rattle.burr_frames.specs.Views.Comparing.{NoneBelow}

-- Verdicts

-- a miss at this point, or without regard to points
abbrev pub missed_at : Option Point → Verdict
missed_at None = plainly rules.FrameMissed
missed_at (Some point) = at_point rules.FrameMissed point

abbrev pub arrival_verdict : {A : Type 0} → Result A Miss → Verdict
arrival_verdict (Ok _) = NoSuccessor
arrival_verdict (Err miss) = missed_at (option_map (λ point. point.items) miss.point)

-- Agreement

-- the condition holds at each point of a region, or it is missed at the first at which it does not
abbrev pub HoldsOrMisses : Region → (Point → Type 0) → Result ⊤ Miss → Type 0
HoldsOrMisses r P result =
    MatchResult result (λ _. Throughout r P)
    (λ miss. (point : Point) × FailsFirstAt r P point
    × (option_map (λ point. point.items) miss.point ≡ Some point))

-- at this point the state agrees with another one, at the point of that which these forms give, and
-- of the upper forms none is below the least one in its place there
abbrev pub AgreesAbove : AbstractState → AbstractState → List Form → List Form → List Form → Point
    → Type 0
AgreesAbove s t upper least forms point =
    Agrees s point t (values point forms)
    × NoneBelow (values (values point forms) least) (values point upper)

-- the state agrees with a frame so, at all of its points; these are the forms in the frame's live
-- slots
pub record AgreesWith (s : AbstractState) (f : Frame) (upper least forms : List Form)
    : Type 0 where
  pub known : live_forms f.slots s.slots ≡ Some forms
  pub alike : IsAlike s (state_of f)
  pub agrees : Everywhere s (AgreesAbove s (state_of f) upper least forms)

-- it does not: at its first point where they do not agree, or without regard to points
abbrev pub IsMissed : AbstractState → Frame → List Form → List Form → Option Point → Type 0
IsMissed s f upper least None =
    (live_forms f.slots s.slots ≡ None)
    ⊎ ((forms : List Form) × (live_forms f.slots s.slots ≡ Some forms) × (¬ IsAlike s (state_of f)))
IsMissed s f upper least (Some point) =
    (forms : List Form) × (live_forms f.slots s.slots ≡ Some forms) × IsAlike s (state_of f)
    × IsFirstFailing s (AgreesAbove s (state_of f) upper least forms) point

-- the forms in the live slots, all small, of a state that agrees with a frame; or how it does not
abbrev pub AgreesOrMisses : AbstractState → Frame → List Form → List Form
    → Result (ArrayVec Form) Miss → Type 0
AgreesOrMisses s f upper least result =
    MatchResult result
    (λ forms. AgreesWith s f upper least forms.items × AllSmallForms forms.items)
    (λ miss. IsMissed s f upper least (option_map (λ point. point.items) miss.point))
