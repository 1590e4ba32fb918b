-- A plan as it is written: its parts with their words, and the lines that they are.
use Rattle.std.specs.Prelude.{ℕ, List, [], ◌∷◌, ◌++◌, Option, Some, None, map}
use Rattle.std.specs.List.{flat_map}
use Rattle.burr_plantext.specs.Rules.Statements.{Statement}
use Rattle.burr_plantext.specs.Rules.Lines.{PlanWords, ProcedureWords, GripWords, RangeWords, SlotWords, PieceWords, Line, PlanLine, ProcLine, ExitLine, ResultLine, LabelLine, FrameLine, SlotLine, GuardLine, StackLine, CostLine, AtLine, CodeLine}

-- an exit frame
pub record ExitSource : Type 0 where
  pub grip : GripWords
  pub results : List RangeWords
  pub guards : List (List ℕ)
  pub pieces : List PieceWords

-- what stands in a frame before its cost
pub record Conditions : Type 0 where
  pub grip : GripWords
  pub slots : List SlotWords
  pub guards : List (List ℕ)
  pub stack : List (List ℕ)

-- a frame
pub record FrameSource : Type 0 where
  pub conditions : Conditions
  pub cost : List ℕ
  pub pieces : List PieceWords

-- a label with its frame, and the code after it
pub record Block : Type 0 where
  pub label : List ℕ
  pub frame : FrameSource
  pub code : List Statement

-- a procedure
pub record ProcedureSource : Type 0 where
  pub head : ProcedureWords
  pub exit : Option ExitSource
  pub blocks : List Block

-- a plan
pub record PlanSource : Type 0 where
  pub title : PlanWords
  -- main first
  pub procedures : List ProcedureSource

-- Lines

-- the lines of an exit frame
abbrev pub exit_lines : ExitSource → List Line
exit_lines e =
    ExitLine e.grip ∷ (map ResultLine e.results ++ (map GuardLine e.guards ++ map AtLine e.pieces))

-- the lines of an exit frame, if there is one
abbrev pub some_exit_lines : Option ExitSource → List Line
some_exit_lines None = []
some_exit_lines (Some e) = exit_lines e

-- the lines of a frame before its cost
abbrev pub condition_lines : Conditions → List Line
condition_lines c =
    FrameLine c.grip ∷ (map SlotLine c.slots ++ (map GuardLine c.guards ++ map StackLine c.stack))

-- the lines of a frame
abbrev pub frame_lines : FrameSource → List Line
frame_lines f = condition_lines f.conditions ++ (CostLine f.cost ∷ map AtLine f.pieces)

-- the lines of a label, its frame and its code
abbrev pub block_lines : Block → List Line
block_lines b = LabelLine b.label ∷ (frame_lines b.frame ++ map CodeLine b.code)

-- the lines of a procedure
abbrev pub procedure_lines : ProcedureSource → List Line
procedure_lines p = ProcLine p.head ∷ (some_exit_lines p.exit ++ flat_map block_lines p.blocks)

-- The lines of a plan as it is written, without empty lines and comments.
abbrev pub source_lines : PlanSource → List Line
source_lines s = PlanLine s.title ∷ flat_map procedure_lines s.procedures
