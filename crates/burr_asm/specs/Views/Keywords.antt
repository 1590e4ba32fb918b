-- The words with which lines begin that have others after them, and the lines that the others make.
use Rattle.std.specs.Prelude.{ℕ, List, codes, Option}
use Rattle.burr_container.specs.Rules.Fitting.{is_name_text}
use Rattle.burr_plantext.specs.Rules.Written.{is_number, is_set, is_form}
use Rattle.burr_plantext.specs.Rules.Operands.{alone, one, two, directed}
use Rattle.burr_plantext.specs.Rules.Statements.{Statement, Grip, Step, Aside, Ask, Jump, Down, Call, offer, bytes_line}
use Rattle.burr_plantext.specs.Rules.Lines.{Line, ExitLine, LabelLine, FrameLine, GuardLine, StackLine, CostLine, title_line, procedure_line, grip_line, result_line, slot_line, piece_line, code_line}
use Rattle.burr_asm.specs.declared.text.line.Keyword.{Keyword}
use Rattle.burr_asm.specs.declared.text.line.Keyword.TheVariants as key
use Rattle.burr_asm.specs.declared.text.line.CodeKeyword.{CodeKeyword}
use Rattle.burr_asm.specs.declared.text.line.CodeKeyword.TheVariants as code
use Rattle.burr_asm.specs.declared.text.line.NumberKeyword.{NumberKeyword}
use Rattle.burr_asm.specs.declared.text.line.NumberKeyword.TheVariants as number
use Rattle.burr_asm.specs.Views.LineWords.{number_words}

-- Words

abbrev pub number_word : NumberKeyword → List ℕ
number_word number.Push = codes "push"
number_word number.Load = codes "load"
number_word number.Store = codes "store"
number_word number.Tray = codes "tray"

abbrev pub code_word : CodeKeyword → List ℕ
code_word (code.Number keyword) = number_word keyword
code_word code.Ask = codes "ask"
code_word code.Grip = codes "grip"
code_word code.Step = codes "step"
code_word code.Aside = codes "aside"
code_word code.Jump = codes "jump"
code_word code.Down = codes "down"
code_word code.Pick = codes "pick"
code_word code.Call = codes "call"
code_word code.Byte = codes "byte"

-- how a keyword is written
abbrev pub word_of : Keyword → List ℕ
word_of key.Plan = codes "plan"
word_of key.Plan2 = codes "plan2"
word_of key.Procedure = codes "proc"
word_of key.Exit = codes "exit"
word_of key.Result = codes "result"
word_of key.Label = codes "label"
word_of key.Frame = codes "frame"
word_of key.Slot = codes "slot"
word_of key.Guard = codes "guard"
word_of key.Stack = codes "stack"
word_of key.Cost = codes "cost"
word_of key.At = codes "at"
word_of (key.Code keyword) = code_word keyword

-- Lines

-- a line of code
abbrev pub operands_line : CodeKeyword → List (List ℕ) → Option Statement
operands_line (code.Number keyword) = one is_number (number_words keyword)
operands_line code.Ask = two is_number is_number Ask
operands_line code.Grip = one is_set Grip
operands_line code.Step = directed (λ d. alone (Step d))
operands_line code.Aside = directed (λ d. one is_number (Aside d))
operands_line code.Jump = one is_name_text Jump
operands_line code.Down = two is_number is_name_text Down
operands_line code.Pick = offer
operands_line code.Call = one is_name_text Call
operands_line code.Byte = bytes_line

-- the line that begins with a keyword and has these operands, if there is one
abbrev pub keyword_line : Keyword → List (List ℕ) → Option Line
keyword_line key.Plan operands = title_line 1 operands
keyword_line key.Plan2 operands = title_line 2 operands
keyword_line key.Procedure operands = procedure_line operands
keyword_line key.Exit operands = grip_line ExitLine operands
keyword_line key.Result operands = result_line operands
keyword_line key.Label operands = one is_name_text LabelLine operands
keyword_line key.Frame operands = grip_line FrameLine operands
keyword_line key.Slot operands = slot_line operands
keyword_line key.Guard operands = one is_form GuardLine operands
keyword_line key.Stack operands = one is_form StackLine operands
keyword_line key.Cost operands = one is_form CostLine operands
keyword_line key.At operands = piece_line operands
keyword_line (key.Code keyword) operands = code_line (operands_line keyword operands)
