-- Plans as the verifier reads them. The forms of a frame are over symbols, one for each live slot
-- in their order; those of an exit frame are over the parameters and then the results. As the stack
-- map frames of the JVM Specification, 4.10.1; forms, ranges and guards are this project's own.
use Rattle.std.specs.Prelude.{ℕ, Bool, List, map, Option, option_map}
use Rattle.burr_code.specs.declared.placement.Placement.{Placement}
use Rattle.burr_forms.specs.Rules.Forms.{Form}
use Rattle.burr_container.specs.Rules.Plans.{FormCell, Range, Frame, ExitFrame, PlanProcedure, Plan, live_slots, exit_symbols, over_symbols, place_over_symbols}

-- what holds where a procedure returns
pub record FramedExit : Type 0 where
  pub tray : ℕ
  pub grip : ℕ
  -- the ranges of what is given back
  pub results : List Range
  pub guards : List Form
  pub places : List (Placement FormCell)

pub record FramedProcedure : Type 0 where
  pub parameters : ℕ
  -- how many numbers are given back
  pub results : ℕ
  -- main has none
  pub exit : Option FramedExit
  -- the position and the frame of each
  pub labels : List (ℕ × Frame)
  pub code : List ℕ

pub record FramedPlan : Type 0 where
  pub name : List ℕ
  pub pieces : ℕ
  pub budget : ℕ
  -- main first
  pub procedures : List FramedProcedure

-- The plan of a container

-- the frame, its forms over symbols
abbrev pub framed : Frame → Frame
framed f = record f {
  guards = map (over_symbols (live_slots f.slots)) f.guards;
  stack = map (over_symbols (live_slots f.slots)) f.stack;
  cost = over_symbols (live_slots f.slots) f.cost;
  places = map (place_over_symbols (live_slots f.slots)) f.places;
}

-- the exit frame, its forms over these symbols
abbrev pub framed_exit : List Bool → ExitFrame → FramedExit
framed_exit live f = record {
  tray = f.tray;
  grip = f.grip;
  results = f.results;
  guards = map (over_symbols live) f.guards;
  places = map (place_over_symbols live) f.places;
}

abbrev pub framed_label : ℕ × Frame → ℕ × Frame
framed_label label = (label.0, framed label.1)

abbrev pub framed_procedure : PlanProcedure → FramedProcedure
framed_procedure p = record {
  parameters = p.parameters;
  results = p.results;
  exit = option_map (framed_exit (exit_symbols p.parameters p.results)) p.exit;
  labels = map framed_label p.labels;
  code = p.code;
}

abbrev pub framed_plan : Plan → FramedPlan
framed_plan p = record {
  name = p.name;
  pieces = p.pieces;
  budget = p.budget;
  procedures = map framed_procedure p.procedures;
}
