-- What holds of a verifier's state at a point: numbers in place of its forms.
use Rattle.std.specs.Prelude.{◌≡◌, ◌<◌, ℕ, None, get_or, map, option_map, reverse}
use Rattle.burr_voxels.specs.declared.cell.Cell.{Cell}
use Rattle.burr_voxels.specs.Grid.{at}
use Rattle.burr_code.specs.Places.{at_position}
use Rattle.burr_forms.specs.Rules.Forms.{Point, value, values}
use Rattle.burr_frames.specs.Rules.States.{AbstractState, places_at}
use Rattle.burr_verify.specs.declared.point_state.Offset.{Offset}
use Rattle.burr_verify.specs.declared.point_state.PointState.{PointState}

-- the cell that is this far from home
abbrev pub cell_of : Offset → Cell
cell_of o = at o.x o.y o.z

-- These are the numbers of the state at the point: what its forms come to there.
pub record AreNumbersAt (s : AbstractState) (point : Point) (n : PointState) : Type 0 where
  pub slots : (v : ℕ) → v < 8 → get_or n.slots v None ≡ option_map (value point) (get_or s.slots v None)
  pub operands : reverse n.operands.items ≡ values point s.operands
  pub places : map (at_position cell_of) n.places.items ≡ places_at point s.places
  pub tray : n.tray ≡ s.tray
  pub grip : n.grip ≡ s.grip
  pub cost : n.cost ≡ value point s.cost
