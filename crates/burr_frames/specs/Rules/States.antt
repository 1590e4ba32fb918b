-- The verifier's abstract states: forms in place of numbers. What a frame says is such a state.
use Rattle.std.specs.Prelude.{ℕ, suc, List, [], ◌∷◌, map, reverse, Option, Some, None}
use Rattle.burr_voxels.specs.declared.cell.Cell.{Cell}
use Rattle.burr_voxels.specs.Grid.{at}
use Rattle.burr_code.specs.declared.placement.Placement.{Placement}
use Rattle.burr_code.specs.Places.{at_position}
use Rattle.burr_forms.specs.Rules.Forms.{Form, Point, value, symbol}
use Rattle.burr_forms.specs.Rules.Points.{IsPointOf}
use Rattle.burr_forms.specs.Rules.Conditions.{Region, Throughout, FailsFirstAt}
use Rattle.burr_container.specs.Rules.Plans.{FormCell, Range, Frame}

pub record AbstractState : Type 0 where
  -- of each symbol
  pub ranges : List Range
  pub guards : List Form
  -- eight; None where nothing is known
  pub slots : List (Option Form)
  -- the top first
  pub operands : List Form
  pub places : List (Placement FormCell)
  pub tray : ℕ
  pub grip : ℕ
  pub cost : Form

-- Points

abbrev pub region_of : AbstractState → Region
region_of s = record { ranges = s.ranges; guards = s.guards }

abbrev pub IsPoint : AbstractState → Point → Type 0
IsPoint s point = IsPointOf s.ranges s.guards point

-- the condition holds at each point of the state
abbrev pub Everywhere : AbstractState → (Point → Type 0) → Type 0
Everywhere s P = Throughout (region_of s) P

-- the first point of the state at which the condition fails
abbrev pub IsFirstFailing : AbstractState → (Point → Type 0) → Point → Type 0
IsFirstFailing s P point = FailsFirstAt (region_of s) P point

abbrev pub cell_at : Point → FormCell → Cell
cell_at point c = at (value point c.x) (value point c.y) (value point c.z)

-- places, the forms taken at a point
abbrev pub places_at : Point → List (Placement FormCell) → List (Placement Cell)
places_at point places = map (at_position (cell_at point)) places

-- The state of a frame

abbrev pub live_ranges : List (Option Range) → List Range
live_ranges [] = []
live_ranges (None ∷ slots) = live_ranges slots
live_ranges (Some range ∷ slots) = range ∷ live_ranges slots

-- the live slots are the symbols, numbered from j
abbrev pub numbered : ℕ → List (Option Range) → List (Option Form)
numbered j [] = []
numbered j (None ∷ slots) = None ∷ numbered j slots
numbered j (Some range ∷ slots) = Some (symbol j) ∷ numbered (suc j) slots

-- what holds at a label with this frame, its forms over symbols
abbrev pub state_of : Frame → AbstractState
state_of f = record {
  ranges = live_ranges f.slots;
  guards = f.guards;
  slots = numbered 0 f.slots;
  operands = reverse f.stack;
  places = f.places;
  tray = f.tray;
  grip = f.grip;
  cost = f.cost;
}
