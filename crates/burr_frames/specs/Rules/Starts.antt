-- The state of the start of a run.
use Rattle.std.specs.Prelude.{pos, List, [], map, replicate, None}
use Rattle.burr_voxels.specs.declared.cell.Cell.{Cell}
use Rattle.burr_code.specs.declared.placement.Placement.TheVariants.{On}
use Rattle.burr_forms.specs.Rules.Forms.{number}
use Rattle.burr_container.specs.Rules.Plans.{FormCell}
use Rattle.burr_frames.specs.Rules.States.{AbstractState}

-- at home, in the verifier's state
abbrev pub home_position : FormCell
home_position = record { x = number (pos 0); y = number (pos 0); z = number (pos 0) }

-- the state of the start, without a cost
abbrev pub start_state : List (List Cell) → AbstractState
start_state homes = record {
  ranges = [];
  guards = [];
  slots = replicate 8 None;
  operands = [];
  places = map (λ _. On 0 home_position) homes;
  tray = 0;
  grip = 0;
  cost = number (pos 0);
}
