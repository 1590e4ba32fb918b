-- The plan that a source stands for.
use Rattle.std.specs.Prelude.{ℕ, suc, ◌+◌, List, [], ◌∷◌, length, map, Option, Some, None, if◌then◌else◌, ◌==◌}
use Rattle.std.specs.List.{flat_map}
use Rattle.std.specs.Str.{bytes_eq}
use Rattle.burr_code.specs.Instruction as code
use Rattle.burr_code.specs.Instruction.{spelled}
use Rattle.burr_code.specs.declared.placement.Placement.TheVariants as places
use Rattle.burr_code.specs.declared.placement.Placement.{Placement}
use Rattle.burr_container.specs.Rules.Plans.{FormCell, Range, Frame, ExitFrame, PlanProcedure, Plan}
use Rattle.burr_plantext.specs.Rules.Written.{natural_in, number_in, set_in, form_in, slot_numbers}
use Rattle.burr_plantext.specs.Rules.Statements.{Statement, Alone, Push, Load, Store, Grip, Step, Aside, Tray, Jump, Down, Ask, Pick, Call, Byte}
use Rattle.burr_plantext.specs.Rules.Lines.{RangeWords, SlotWords, PlaceWords, Apart, On, PieceWords}
use Rattle.burr_plantext.specs.Rules.Sources.{ExitSource, FrameSource, Block, ProcedureSource, PlanSource}

-- Code

-- the number of a name among names; where it is not among them, how many names there are
abbrev pub number_of : List (List ℕ) → List ℕ → ℕ
number_of [] name = 0
number_of (first ∷ names) name = if bytes_eq first name then 0 else suc (number_of names name)

-- the bytes of a line of code, where labels and procedures have these names
abbrev pub statement_bytes : List (List ℕ) → List (List ℕ) → Statement → List ℕ
statement_bytes labels procedures (Alone bare) = spelled bare.instruction
statement_bytes labels procedures (Push number) = spelled (code.Push (number_in number))
statement_bytes labels procedures (Load slot) = spelled (code.Load (natural_in slot))
statement_bytes labels procedures (Store slot) = spelled (code.Store (natural_in slot))
statement_bytes labels procedures (Grip set) = spelled (code.Grip (set_in set))
statement_bytes labels procedures (Step direction) = spelled (code.Step direction)
statement_bytes labels procedures (Aside direction tray) =
    spelled (code.Aside direction (natural_in tray))
statement_bytes labels procedures (Tray tray) = spelled (code.Tray (natural_in tray))
statement_bytes labels procedures (Jump label) = spelled (code.Jump (number_of labels label))
statement_bytes labels procedures (Down slot label) =
    spelled (code.Down (natural_in slot) (number_of labels label))
statement_bytes labels procedures (Ask low high) =
    spelled (code.Ask (number_in low) (number_in high))
statement_bytes labels procedures (Pick names) = spelled (code.Pick (map (number_of labels) names))
statement_bytes labels procedures (Call procedure) =
    spelled (code.Call (number_of procedures procedure))
statement_bytes labels procedures (Byte byte) = byte ∷ []

-- the bytes of code
abbrev pub code_bytes : List (List ℕ) → List (List ℕ) → List Statement → List ℕ
code_bytes labels procedures code = flat_map (statement_bytes labels procedures) code

-- how many bytes code has, which no name changes
abbrev pub code_size : List Statement → ℕ
code_size code = length (code_bytes [] [] code)

-- Frames

-- the range that the words write
abbrev pub range_in : RangeWords → Range
range_in ends = (number_in ends.low, number_in ends.high)

-- the range of the slot of this number, if it is live
abbrev pub slot_in : List SlotWords → ℕ → Option Range
slot_in [] v = None
slot_in (first ∷ slots) v =
    if natural_in first.slot == v then Some (range_in first.ends) else slot_in slots v

-- the ranges of the eight slots
abbrev pub slots_in : List SlotWords → List (Option Range)
slots_in slots = map (slot_in slots) slot_numbers

-- the place that the words write
abbrev pub place_in : PlaceWords → Placement FormCell
place_in Apart = places.Apart
place_in (On tray x y z) =
    places.On (natural_in tray) (record { x = form_in x; y = form_in y; z = form_in z })

-- the places of the pieces
abbrev pub places_in : List PieceWords → List (Placement FormCell)
places_in pieces = map (λ (piece : PieceWords). place_in piece.spot) pieces

-- the frame that the words write
abbrev pub frame_in : FrameSource → Frame
frame_in f = record {
  tray = natural_in f.conditions.grip.tray;
  grip = set_in f.conditions.grip.set;
  slots = slots_in f.conditions.slots;
  guards = map form_in f.conditions.guards;
  stack = map form_in f.conditions.stack;
  cost = form_in f.cost;
  places = places_in f.pieces;
}

-- the exit frame that the words write
abbrev pub exit_in : ExitSource → ExitFrame
exit_in e = record {
  tray = natural_in e.grip.tray;
  grip = set_in e.grip.set;
  results = map range_in e.results;
  guards = map form_in e.guards;
  places = places_in e.pieces;
}

-- an exit frame, if there is one
abbrev pub some_exit_in : Option ExitSource → Option ExitFrame
some_exit_in None = None
some_exit_in (Some e) = Some (exit_in e)

-- Procedures

-- the labels of blocks; the first block begins at this position
abbrev pub labels_in : ℕ → List Block → List (ℕ × Frame)
labels_in position [] = []
labels_in position (b ∷ blocks) =
    (position, frame_in b.frame) ∷ labels_in (position + code_size b.code) blocks

-- the names of the labels
abbrev pub label_names : List Block → List (List ℕ)
label_names blocks = map (λ (b : Block). b.label) blocks

-- the names of the procedures
abbrev pub procedure_names : List ProcedureSource → List (List ℕ)
procedure_names procedures = map (λ (p : ProcedureSource). p.head.name) procedures

-- how many results a procedure has; none where the number isn't given
abbrev pub result_count : Option (List ℕ) → ℕ
result_count None = 0
result_count (Some results) = natural_in results

-- all code of blocks
abbrev pub block_code : List Block → List Statement
block_code blocks = flat_map (λ (b : Block). b.code) blocks

-- a procedure, where all procedures have these names
abbrev pub procedure_in : List (List ℕ) → ProcedureSource → PlanProcedure
procedure_in procedures p = record {
  parameters = natural_in p.head.parameters;
  results = result_count p.head.results;
  exit = some_exit_in p.exit;
  labels = labels_in 0 p.blocks;
  code = code_bytes (label_names p.blocks) procedures (block_code p.blocks);
}

-- The plan that the source stands for.
abbrev pub plan_of : PlanSource → Plan
plan_of s = record {
  version = s.title.version;
  name = s.title.name;
  pieces = natural_in s.title.pieces;
  budget = natural_in s.title.budget;
  procedures = map (procedure_in (procedure_names s.procedures)) s.procedures;
}
