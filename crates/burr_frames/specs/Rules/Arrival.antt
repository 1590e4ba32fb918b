-- Arrival at a frame, as the assignability of stack map frames in the JVM Specification, 4.10.1.4:
-- first what is equal without regard to points, and then what holds at every point.
use Rattle.std.specs.Prelude.{◌≡◌, List, [], ◌∷◌, length, map, Option, Some, None, ◌≤ℤ◌}
use Rattle.burr_code.specs.Places.{tray_of}
use Rattle.burr_code.specs.Labels.{with_first}
use Rattle.burr_forms.specs.Rules.Forms.{Form, Point, value, values}
use Rattle.burr_container.specs.Rules.Plans.{Range, Frame}
use Rattle.burr_frames.specs.Rules.States.{AbstractState, IsPoint, Everywhere, places_at, state_of}

-- the forms in the live slots, if all are known
abbrev pub live_forms : List (Option Range) → List (Option Form) → Option (List Form)
live_forms [] forms = Some []
live_forms (None ∷ slots) [] = live_forms slots []
live_forms (None ∷ slots) (form ∷ forms) = live_forms slots forms
live_forms (Some range ∷ slots) [] = None
live_forms (Some range ∷ slots) (form ∷ forms) = with_first form (live_forms slots forms)

-- what must be equal without regard to points
pub record IsAlike (s t : AbstractState) : Type 0 where
  pub tray : s.tray ≡ t.tray
  pub grip : s.grip ≡ t.grip
  pub operands : length s.operands ≡ length t.operands
  pub trays : map tray_of s.places ≡ map tray_of t.places

-- state s at a point agrees with state t at its point
pub record Agrees (s : AbstractState) (point : Point) (t : AbstractState) (there : Point)
    : Type 0 where
  pub is_point : IsPoint t there
  pub operands : values point s.operands ≡ values there t.operands
  pub places : places_at point s.places ≡ places_at there t.places

-- a state meets a frame, without regard to the cost; these are the forms in the frame's live slots
pub record Meets (s : AbstractState) (f : Frame) : Type 0 where
  pub forms : List Form
  pub known : live_forms f.slots s.slots ≡ Some forms
  pub alike : IsAlike s (state_of f)
  pub agrees : Everywhere s (λ point. Agrees s point (state_of f) (values point forms))

-- a state arrives at a frame: it meets it, and its cost is at least the frame's
pub record Arrives (s : AbstractState) (f : Frame) : Type 0 where
  pub meets : Meets s f
  pub cost : Everywhere s (λ point. value (values point meets.forms) f.cost ≤ℤ value point s.cost)
