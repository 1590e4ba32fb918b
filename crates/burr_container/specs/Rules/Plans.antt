-- What a plan is: procedures of code with a frame at each label, as the stack map frames of the JVM
-- Specification, 4.10.1. That frames hold forms, ranges, guards and a cost is this project's own.
use Rattle.std.specs.Prelude.{ℕ, ℤ, pos, List, Option, Bool, is_some, map, true, false, ◌++◌, ◌+◌, ◌-◌, replicate, [], ◌∷◌, length, if◌then◌else◌}
use Rattle.burr_code.specs.declared.placement.Placement.{Placement}
use Rattle.burr_code.specs.Places.{at_position}
use Rattle.burr_code.specs.declared.limits.TheConstants.{SLOTS}
use Rattle.burr_forms.specs.Rules.Forms.{Form}
use Rattle.burr_container.specs.declared.frame_ref.FormOffset.{FormOffset}

-- a position by forms
abbrev pub FormCell : Type 0
FormCell = FormOffset

-- a range of numbers, both ends in it
abbrev pub Range : Type 0
Range = ℤ × ℤ

-- What holds at a label. In a plan the symbols of a form are the slots: coefficient v is slot v's.
pub record Frame : Type 0 where
  pub tray : ℕ
  pub grip : ℕ
  -- of each of the eight slots, its range if it is live
  pub slots : List (Option Range)
  pub guards : List Form
  -- the bottom first
  pub stack : List Form
  pub cost : Form
  pub places : List (Placement FormCell)

-- What holds where a procedure returns. A form is over the parameters, and after them the results.
pub record ExitFrame : Type 0 where
  pub tray : ℕ
  pub grip : ℕ
  -- the range of each result
  pub results : List Range
  pub guards : List Form
  pub places : List (Placement FormCell)

pub record PlanProcedure : Type 0 where
  pub parameters : ℕ
  pub results : ℕ
  -- main has none
  pub exit : Option ExitFrame
  -- the position and the frame of each
  pub labels : List (ℕ × Frame)
  pub code : List ℕ

pub record Plan : Type 0 where
  -- 1, or 2, where procedures may have results
  pub version : ℕ
  pub name : List ℕ
  pub pieces : ℕ
  pub budget : ℕ
  -- main first
  pub procedures : List PlanProcedure

-- the plan in version 2, each other field as it was
abbrev pub upgraded : Plan → Plan
upgraded p = record p { version = 2 }

-- which slots are live
abbrev pub live_slots : List (Option Range) → List Bool
live_slots slots = map is_some slots

-- which symbols an exit frame has: the first ones
abbrev pub exit_symbols : ℕ → ℕ → List Bool
exit_symbols parameters results =
    replicate (parameters + results) true ++ replicate (SLOTS - (parameters + results)) false

-- of a list with an element for each slot, those of the live ones
abbrev pub of_live : {A : Type 0} → List Bool → List A → List A
of_live [] xs = []
of_live (l ∷ live) [] = []
of_live (l ∷ live) (x ∷ xs) = if l then x ∷ of_live live xs else of_live live xs

-- as many as there are slots, with zeros after
abbrev pub padded : List ℤ → List ℤ
padded xs = xs ++ replicate (SLOTS - length xs) (pos 0)

-- the form over symbols, one for each live slot, in their order
abbrev pub over_symbols : List Bool → Form → Form
over_symbols live f = record { constant = f.constant; coefs = padded (of_live live f.coefs) }

-- a position by forms, each changed
abbrev pub of_each_form : (Form → Form) → FormCell → FormCell
of_each_form change at = record { x = change at.x; y = change at.y; z = change at.z }

-- a place by forms over symbols
abbrev pub place_over_symbols : List Bool → Placement FormCell → Placement FormCell
place_over_symbols live place = at_position (of_each_form (over_symbols live)) place
