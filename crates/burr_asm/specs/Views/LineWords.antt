-- The words of lines that the code's values are.
use Rattle.std.specs.Prelude.{ℕ, List, Option, Some, None}
use Rattle.burr_plantext.specs.Rules.Texts.{words_of}
use Rattle.burr_plantext.specs.Rules.Statements.{Statement, Push, Load, Store, Grip, Step, Aside, Tray, Jump, Down, Ask, Pick, Call, Byte}
use Rattle.burr_plantext.specs.Rules.Lines.{Line, PlanLine, ProcLine, ExitLine, ResultLine, LabelLine, FrameLine, SlotLine, GuardLine, StackLine, CostLine, AtLine, CodeLine, PlanWords, ProcedureWords, GripWords, RangeWords, SlotWords, PlaceWords, Apart, On, PieceWords}
use Rattle.burr_asm.specs.Views.Words.{line_alone}
use Rattle.burr_asm.specs.declared.text.words.NumberWord.{NumberWord}
use Rattle.burr_asm.specs.declared.text.line.NumberKeyword.{NumberKeyword}
use Rattle.burr_asm.specs.declared.text.line.NumberKeyword.TheVariants as number
use Rattle.burr_asm.specs.declared.text.code.PlainLine.{PlainLine}
use Rattle.burr_asm.specs.declared.text.code.PlainLine.TheVariants as plain
use Rattle.burr_asm.specs.declared.text.code.CodeLine.{CodeLine as CodeParts}
use Rattle.burr_asm.specs.declared.text.code.CodeLine.TheVariants as code
use Rattle.burr_asm.specs.declared.text.line.PlanWords.{PlanWords as PlanParts}
use Rattle.burr_asm.specs.declared.text.line.ProcedureWords.{ProcedureWords as ProcedureParts}
use Rattle.burr_asm.specs.declared.text.line.GripWords.{GripWords as GripParts}
use Rattle.burr_asm.specs.declared.text.line.RangeWords.{RangeWords as RangeParts}
use Rattle.burr_asm.specs.declared.text.line.SlotWords.{SlotWords as SlotParts}
use Rattle.burr_asm.specs.declared.text.line.PlaceWords.{PlaceWords as PlaceParts}
use Rattle.burr_asm.specs.declared.text.line.PlaceWords.TheVariants as place
use Rattle.burr_asm.specs.declared.text.line.PieceWords.{PieceWords as PieceParts}
use Rattle.burr_asm.specs.declared.text.line.LineForm.{LineForm}
use Rattle.burr_asm.specs.declared.text.line.LineForm.TheVariants as form

-- Code

-- the line of an instruction whose only operand is a number
abbrev pub number_words : NumberKeyword → List ℕ → Statement
number_words number.Push = Push
number_words number.Load = Load
number_words number.Store = Store
number_words number.Tray = Tray

-- the line of an instruction that names nothing
abbrev pub plain_words : PlainLine → Statement
plain_words (plain.Bare word) = line_alone word.bytes.now
plain_words (plain.Number keyword number) = number_words keyword number.bytes.now
plain_words (plain.Grip set) = Grip set.bytes.now
plain_words (plain.Step direction) = Step direction
plain_words (plain.Aside direction tray) = Aside direction tray.bytes.now
plain_words (plain.Ask low high) = Ask low.bytes.now high.bytes.now

-- a line of code
abbrev pub code_words : CodeParts → Statement
code_words (code.Plain line) = plain_words line
code_words (code.Jump label) = Jump label.now
code_words (code.Down slot label) = Down slot.bytes.now label.now
code_words (code.Pick labels) = Pick (words_of labels.names.now)
code_words (code.Call procedure) = Call procedure.now
code_words (code.Byte byte) = Byte byte

-- Other lines

-- a word, if there is one
abbrev pub word_if_any : Option NumberWord → Option (List ℕ)
word_if_any None = None
word_if_any (Some word) = Some word.bytes.now

-- the plan's line
abbrev pub plan_words : PlanParts → PlanWords
plan_words w = record {
  version = w.version;
  name = w.name.now;
  pieces = w.pieces.bytes.now;
  budget = w.budget.bytes.now;
}

-- a procedure's line
abbrev pub procedure_words : ProcedureParts → ProcedureWords
procedure_words w = record {
  name = w.name.now;
  parameters = w.parameters.bytes.now;
  results = word_if_any w.results;
}

-- the words with which a frame begins
abbrev pub grip_words : GripParts → GripWords
grip_words w = record { tray = w.tray.bytes.now; set = w.set.bytes.now }

-- the words of a range
abbrev pub range_words : RangeParts → RangeWords
range_words w = record { low = w.low.bytes.now; high = w.high.bytes.now }

-- the range with these ends
abbrev pub range_between : List ℕ → List ℕ → RangeWords
range_between low high = record { low = low; high = high }

-- the words of a slot
abbrev pub slot_words : SlotParts → SlotWords
slot_words w = record { slot = w.slot.bytes.now; ends = range_words w.range }

-- the slot with a range between these ends
abbrev pub slot_between : List ℕ → List ℕ → List ℕ → SlotWords
slot_between slot low high = record { slot = slot; ends = range_between low high }

-- where a piece lies
abbrev pub place_words : PlaceParts → PlaceWords
place_words place.Apart = Apart
place_words (place.On tray x y z) = On tray.bytes.now x.bytes.now y.bytes.now z.bytes.now

-- the words of a piece
abbrev pub piece_words : PieceParts → PieceWords
piece_words w = record { piece = w.piece.bytes.now; spot = place_words w.place }

-- The line
abbrev pub line_words : LineForm → Line
line_words (form.Plan words) = PlanLine (plan_words words)
line_words (form.Procedure words) = ProcLine (procedure_words words)
line_words (form.Exit words) = ExitLine (grip_words words)
line_words (form.Result words) = ResultLine (range_words words)
line_words (form.Label name) = LabelLine name.now
line_words (form.Frame words) = FrameLine (grip_words words)
line_words (form.Slot words) = SlotLine (slot_words words)
line_words (form.Guard word) = GuardLine word.bytes.now
line_words (form.Stack word) = StackLine word.bytes.now
line_words (form.Cost word) = CostLine word.bytes.now
line_words (form.At words) = AtLine (piece_words words)
line_words (form.Code line) = CodeLine (code_words line)
