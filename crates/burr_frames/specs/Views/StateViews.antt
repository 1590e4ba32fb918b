-- What the code's states stand for, and what holds of each.
use Rattle.std.specs.Prelude.{◌≡◌, ℕ, List, Option, Some, None, All, IfSome, MatchOption, reverse}
use Rattle.arrayvec.specs.ArrayVec.{ArrayVec}
use Rattle.burr_code.specs.declared.placement.Placement.{Placement}
use Rattle.burr_forms.specs.Rules.Forms.{Form, IsSmallForm, AllSmallForms}
use Rattle.burr_forms.specs.Rules.Points.{AreRanges}
use Rattle.burr_container.specs.Rules.Plans.{FormCell, Range}
use Rattle.burr_frames.specs.Rules.FramedPlans.{FramedExit}
use Rattle.burr_frames.specs.Rules.States.{AbstractState}
use Rattle.burr_frames.specs.Rules.Arrival.{live_forms}
use Rattle.burr_frames.specs.Rules.SpaceRules.{AllSmallPlaces}

-- a state with these parts, its operands the bottom first
abbrev pub abstract_state : List Range → List Form → List (Option Form) → List Form
    → List (Placement FormCell) → ℕ → ℕ → Form → AbstractState
abstract_state ranges guards slots operands places tray grip cost = record {
  ranges = ranges;
  guards = guards;
  slots = slots;
  operands = reverse operands;
  places = places;
  tray = tray;
  grip = grip;
  cost = cost;
}

-- nothing is known of the slot, or its form is small
abbrev pub IsSmallSlot : Option Form → Type 0
IsSmallSlot slot = IfSome slot IsSmallForm

-- these are the forms in the live slots, all small; or there is nothing known of one of them
abbrev pub GivesLiveForms : List (Option Range) → List (Option Form) → Option (ArrayVec Form)
    → Type 0
GivesLiveForms slots known result =
    MatchOption result (live_forms slots known ≡ None)
    (λ forms. (live_forms slots known ≡ Some forms.items) × AllSmallForms forms.items)

-- the ranges hold numbers of a code, and all forms are small
pub record IsSmallState (s : AbstractState) : Type 0 where
  pub ranges : AreRanges s.ranges
  pub guards : AllSmallForms s.guards
  pub slots : All IsSmallSlot s.slots
  pub operands : AllSmallForms s.operands
  pub places : AllSmallPlaces s.places
  pub cost : IsSmallForm s.cost

-- an exit frame with these parts
abbrev pub framed_exit_with : List Range → List Form → List (Placement FormCell) → ℕ → ℕ
    → FramedExit
framed_exit_with results guards places tray grip = record {
  tray = tray;
  grip = grip;
  results = results;
  guards = guards;
  places = places;
}

-- the same of an exit frame
pub record IsSmallExit (exit : FramedExit) : Type 0 where
  pub results : AreRanges exit.results
  pub guards : AllSmallForms exit.guards
  pub places : AllSmallPlaces exit.places
