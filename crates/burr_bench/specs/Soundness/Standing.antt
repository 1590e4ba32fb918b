-- What it is that the bench stands for an abstract state of the verifier at a point.
use Rattle.std.specs.Prelude.{◌≡◌, ℕ, ℤ, List, length, Option, Some, None, get_or}
use Rattle.burr_forms.specs.Rules.Forms.{Form, Point, value, values}
use Rattle.burr_frames.specs.Rules.States.{AbstractState, IsPoint, places_at}
use Rattle.burr_state.specs.Rules.Bench.{BenchState}

-- an activation's slots and operands have the values that the state's forms have at the point
pub record StandsFor (s : AbstractState) (point : Point) (slots : List (Option ℤ))
    (operands : List ℤ) : Type 0 where
  pub is_point : IsPoint s point
  pub slots_known : (v : ℕ) (f : Form) → get_or s.slots v None ≡ Some f
      → get_or slots v None ≡ Some (value point f)
  pub slots_as_many : length slots ≡ length s.slots
  pub operands_are : operands ≡ values point s.operands

-- the pieces, the current tray and the grip are those of the state at the point
pub record LieAs (s : AbstractState) (point : Point) (b : BenchState) : Type 0 where
  pub places : b.places ≡ places_at point s.places
  pub tray : b.tray ≡ s.tray
  pub grip : b.grip ≡ s.grip

-- the bench, with its running activation, stands for the state at the point
pub record Stands (s : AbstractState) (point : Point) (b : BenchState) : Type 0 where
  pub running : StandsFor s point b.running.slots b.running.operands
  pub lie : LieAs s point b
