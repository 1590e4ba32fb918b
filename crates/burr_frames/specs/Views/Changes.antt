-- States with a part changed.
use Rattle.std.specs.Prelude.{ℕ, List, ◌∷◌, Some, set, drop}
use Rattle.burr_code.specs.declared.placement.Placement.{Placement}
use Rattle.burr_forms.specs.Rules.Forms.{Form}
use Rattle.burr_container.specs.Rules.Plans.{FormCell}
use Rattle.burr_frames.specs.Rules.States.{AbstractState}

abbrev pub at_cost : Form → AbstractState → AbstractState
at_cost cost s = record s { cost = cost }

-- one operand more
abbrev pub with_operand : Form → AbstractState → AbstractState
with_operand f s = record s { operands = f ∷ s.operands }

-- the topmost operand is gone
abbrev pub without_top : AbstractState → AbstractState
without_top s = record s { operands = drop 1 s.operands }

-- this form in slot v
abbrev pub with_form : ℕ → Form → AbstractState → AbstractState
with_form v f s = record s { slots = set s.slots v (Some f) }

abbrev pub with_grip : ℕ → AbstractState → AbstractState
with_grip grip s = record s { grip = grip }

-- this is the current tray, and nothing is gripped
abbrev pub in_tray : ℕ → AbstractState → AbstractState
in_tray tray s = record s { tray = tray; grip = 0 }

abbrev pub with_places : List (Placement FormCell) → AbstractState → AbstractState
with_places places s = record s { places = places }
