-- The lines of a plan text by their form alone: which line words are. Numbers, sets and forms are
-- not judged, names are not looked for.
use Rattle.std.specs.Prelude.{ℕ, List, [], ◌∷◌, codes, Option, Some, None, ◌&&◌}
use Rattle.std.specs.Str.{bytes_eq}
use Rattle.burr_container.specs.Rules.Fitting.{is_name_text}
use Rattle.burr_plantext.specs.Rules.Written.{is_number, is_set, is_form}
use Rattle.burr_plantext.specs.Rules.Operands.{given, one, two, three, by_word}
use Rattle.burr_plantext.specs.Rules.Statements.{Statement, code_of}

-- the plan's line; version 2 has the word `plan2`
pub record PlanWords : Type 0 where
  pub version : ℕ
  pub name : List ℕ
  pub pieces : List ℕ
  pub budget : List ℕ

-- a procedure's line; in version 2 it has a number of results
pub record ProcedureWords : Type 0 where
  pub name : List ℕ
  pub parameters : List ℕ
  pub results : Option (List ℕ)

-- the current tray and the grip, with which a frame begins
pub record GripWords : Type 0 where
  pub tray : List ℕ
  pub set : List ℕ

-- the ends of a range
pub record RangeWords : Type 0 where
  pub low : List ℕ
  pub high : List ℕ

-- a live slot and its range
pub record SlotWords : Type 0 where
  pub slot : List ℕ
  pub ends : RangeWords

-- where a piece lies: apart, or in a tray with its offset as three forms
pub data PlaceWords : Type 0 where
  Apart : PlaceWords
  On : (tray x y z : List ℕ) → PlaceWords

-- a piece, by its number, and where it lies
pub record PieceWords : Type 0 where
  pub piece : List ℕ
  pub spot : PlaceWords

-- a line by its form alone
pub data Line : Type 0 where
  PlanLine : (title : PlanWords) → Line
  ProcLine : (head : ProcedureWords) → Line
  ExitLine : (grip : GripWords) → Line
  ResultLine : (ends : RangeWords) → Line
  LabelLine : (name : List ℕ) → Line
  FrameLine : (grip : GripWords) → Line
  SlotLine : (slot : SlotWords) → Line
  GuardLine : (form : List ℕ) → Line
  StackLine : (form : List ℕ) → Line
  CostLine : (form : List ℕ) → Line
  AtLine : (piece : PieceWords) → Line
  CodeLine : (statement : Statement) → Line

-- Which line words are

-- a name and two numbers
abbrev pub title_line : ℕ → List (List ℕ) → Option Line
title_line version =
    three is_name_text is_number is_number (λ name pieces budget.
    PlanLine (record { version = version; name = name; pieces = pieces; budget = budget }))

-- a procedure's line
abbrev pub head_line : List ℕ → List ℕ → Option (List ℕ) → Line
head_line name parameters results =
    ProcLine (record { name = name; parameters = parameters; results = results })

-- a name, a number, and perhaps another number
abbrev pub procedure_line : List (List ℕ) → Option Line
procedure_line (name ∷ parameters ∷ []) =
    given (is_name_text name && is_number parameters) (head_line name parameters None)
procedure_line (name ∷ parameters ∷ results ∷ []) =
    given (is_name_text name && is_number parameters && is_number results)
    (head_line name parameters (Some results))
procedure_line words = None

-- a number and a set
abbrev pub grip_line : {A : Type 0} → (GripWords → A) → List (List ℕ) → Option A
grip_line line = two is_number is_set (λ tray set. line (record { tray = tray; set = set }))

-- two numbers
abbrev pub result_line : List (List ℕ) → Option Line
result_line = two is_number is_number (λ low high. ResultLine (record { low = low; high = high }))

-- three numbers
abbrev pub slot_line : List (List ℕ) → Option Line
slot_line =
    three is_number is_number is_number (λ slot low high.
    SlotLine (record { slot = slot; ends = record { low = low; high = high } }))

-- a piece's line
abbrev pub at_line : List ℕ → PlaceWords → Line
at_line piece spot = AtLine (record { piece = piece; spot = spot })

-- a number and `apart`, or two numbers and three forms
abbrev pub piece_line : List (List ℕ) → Option Line
piece_line (piece ∷ word ∷ []) =
    given (is_number piece && bytes_eq word (codes "apart")) (at_line piece Apart)
piece_line (piece ∷ tray ∷ x ∷ y ∷ z ∷ []) =
    given (is_number piece && is_number tray && is_form x && is_form y && is_form z)
    (at_line piece (On tray x y z))
piece_line words = None

-- the words that begin other lines than those of code
abbrev pub line_words : List (List ℕ × (List (List ℕ) → Option Line))
line_words =
    (codes "plan", title_line 1) ∷ (codes "plan2", title_line 2)
    ∷ (codes "proc", procedure_line) ∷ (codes "exit", grip_line ExitLine)
    ∷ (codes "result", result_line) ∷ (codes "label", one is_name_text LabelLine)
    ∷ (codes "frame", grip_line FrameLine) ∷ (codes "slot", slot_line)
    ∷ (codes "guard", one is_form GuardLine) ∷ (codes "stack", one is_form StackLine)
    ∷ (codes "cost", one is_form CostLine) ∷ (codes "at", piece_line) ∷ []

-- a line of code, if there is one
abbrev pub code_line : Option Statement → Option Line
code_line None = None
code_line (Some statement) = Some (CodeLine statement)

-- one of the two lines, if there is one
abbrev pub or_else : Option Line → Option Line → Option Line
or_else None other = other
or_else (Some line) other = Some line

-- The line that words are, if they are one of the grammar.
abbrev pub line_of : List (List ℕ) → Option Line
line_of [] = None
line_of (word ∷ operands) =
    or_else (by_word word line_words operands) (code_line (code_of word operands))
