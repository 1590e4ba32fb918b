-- What the stepper writes, and the lines that it takes.
use Rattle.std.specs.Prelude.{◌≡◌, ◌==◌, ◌≢◌, ◌⊎◌, ◌<◌, ◌≤◌, ◌^◌, ℕ, ℤ, List, [], ◌∷◌, ◌++◌, length, map, reverse, Bool, true, false, Option, Some, None, codes, decimal, FitsSigned, if◌then◌else◌}
use Rattle.std.specs.Int.{w32}
use Rattle.std.specs.List.{join_with_byte}
use Rattle.std.specs.Fmt.{signed_decimal}
use Rattle.burr_text.specs.Checks.{looks_for}
use Rattle.burr_text.specs.Words.{text_line}
use Rattle.burr_voxels.specs.declared.cell.Cell.{Cell}
use Rattle.burr_code.specs.declared.placement.Placement.{Placement}
use Rattle.burr_code.specs.declared.placement.Placement.TheVariants.{Apart, On}
use Rattle.burr_state.specs.declared.effect.Mode.{Mode}
use Rattle.burr_state.specs.declared.effect.Mode.TheVariants.{Running, Ended, Trapped}
use Rattle.burr_state.specs.Rules.Bench.{BenchState, Setup, HasLabelOf}
use Rattle.burr_state.specs.Rules.Step.{AsksNow}
use Rattle.burr_sheet.specs.Rules.SheetText.{names_from}
use Rattle.burr_step.specs.Rules.Stepper.{History, IsAsking, StepCommand, Forward, Over, Until, Answer, Back, StepRefusal, S1, S2, S3, S4, StepOutcome, Taken, Refused, Commanding, history_left, state_left}

-- What `show` writes

-- the word `ended` of a run that has
abbrev pub ended_word : Mode → List (List ℕ)
ended_word Running = []
ended_word Ended = codes "ended" ∷ []
ended_word (Trapped trap) = []

-- the names of the gripped pieces joined by commas, and `-` where nothing is gripped
abbrev pub grip_word : List (List ℕ) → ℕ → List ℕ
grip_word names grip =
    if grip == 0 then codes "-" else join_with_byte 44 (names_from 0 grip names)

-- a slot's number, and `-` for an empty one
abbrev pub slot_word : Option ℤ → List ℕ
slot_word None = codes "-"
slot_word (Some n) = signed_decimal n

-- the operands, bottom first, and `-` for none
abbrev pub stack_words : List ℤ → List (List ℕ)
stack_words [] = codes "-" ∷ []
stack_words (n ∷ operands) = map signed_decimal (reverse (n ∷ operands))

-- where a piece of this name lies
abbrev pub piece_line : List ℕ → Placement Cell → List ℕ
piece_line name Apart = text_line (name ∷ codes "apart" ∷ [])
piece_line name (On tray at) =
    text_line (name ∷ codes "tray" ∷ decimal tray ∷ codes "at" ∷ signed_decimal at.x
    ∷ signed_decimal at.y ∷ signed_decimal at.z ∷ [])

abbrev pub piece_lines : List (List ℕ) → List (Placement Cell) → List ℕ
piece_lines [] places = []
piece_lines (name ∷ names) [] = []
piece_lines (name ∷ names) (place ∷ places) = piece_line name place ++ piece_lines names places

-- the text of a state, for pieces of these names
abbrev pub show_text : List (List ℕ) → BenchState → List ℕ
show_text names s =
    text_line (codes "after" ∷ decimal s.steps ∷ codes "steps" ∷ codes "proc"
    ∷ decimal s.running.procedure ∷ codes "pc" ∷ decimal s.running.pc ∷ ended_word s.mode)
    ++ (text_line (codes "tray" ∷ decimal s.tray ∷ codes "grip"
    ∷ grip_word names s.grip ∷ [])
    ++ (text_line (codes "slots" ∷ map slot_word s.running.slots)
    ++ (text_line (codes "stack" ∷ stack_words s.running.operands)
    ++ piece_lines names s.places)))

-- What the other commands write

-- what stands after the steps of a state: that it has ended, what it asks for, or nothing
abbrev pub IsStandingWords : Setup → BenchState → List (List ℕ) → Type 0
IsStandingWords setup s words =
    ((s.mode ≡ Ended) × (words ≡ codes "ended" ∷ []))
    ⊎ (((low high : ℤ) × AsksNow setup s low high
    × (words ≡ codes "asks" ∷ signed_decimal low ∷ signed_decimal high ∷ []))
    ⊎ ((s.mode ≢ Ended) × (¬ IsAsking setup s) × (words ≡ [])))

-- the line of a command that was taken
abbrev pub IsAfterLine : Setup → BenchState → List ℕ → Type 0
IsAfterLine setup s line =
    (words : List (List ℕ)) × IsStandingWords setup s words
    × (line ≡ text_line (codes "after" ∷ decimal s.steps ∷ codes "steps" ∷ words))

abbrev pub refusal_word : StepRefusal → List ℕ
refusal_word S1 = codes "S1"
refusal_word S2 = codes "S2"
refusal_word S3 = codes "S3"
refusal_word S4 = codes "S4"

abbrev pub refused_line : List ℕ → List ℕ
refused_line word = text_line (codes "refused" ∷ word ∷ [])

-- the line of a command that came to this
abbrev pub IsOutcomeLine : Setup → StepOutcome → List ℕ → Type 0
IsOutcomeLine setup (Taken h s) line = IsAfterLine setup s line
IsOutcomeLine setup (Refused refusal) line = line ≡ refused_line (refusal_word refusal)

-- The lines that it takes

pub data LineCommand : Type 0 where
  Steps : (command : StepCommand) → LineCommand
  Shows : LineCommand
  Quits : LineCommand

abbrev pub command_words : StepCommand → List (List ℕ)
command_words Forward = codes "forward" ∷ []
command_words Over = codes "over" ∷ []
command_words (Until procedure label) = codes "until" ∷ decimal procedure ∷ decimal label ∷ []
command_words (Answer answer) = codes "answer" ∷ signed_decimal answer ∷ []
command_words (Back steps) = codes "back" ∷ decimal steps ∷ []

-- the line of a command, without its end
abbrev pub line_of : LineCommand → List ℕ
line_of (Steps command) = join_with_byte 32 (command_words command)
line_of Shows = codes "show"
line_of Quits = codes "quit"

-- its numbers are in range, and its label is there
abbrev pub IsTakeable : Setup → LineCommand → Type 0
IsTakeable setup (Steps (Until procedure label)) = HasLabelOf setup procedure label
IsTakeable setup (Steps (Answer answer)) = FitsSigned w32 answer
IsTakeable setup (Steps (Back steps)) = steps < 2 ^ 32
IsTakeable setup command = Unit {0}

-- the line is that of the command
abbrev pub IsLineOf : Setup → List ℕ → LineCommand → Type 0
IsLineOf setup line command = IsTakeable setup command × (line ≡ line_of command)

-- what is written for a line, what it leaves, and whether more lines are taken
pub record LineAnswer : Type 0 where
  pub text : List ℕ
  pub history : History
  pub state : BenchState
  pub goes_on : Bool

abbrev pub answered : List ℕ → History → BenchState → Bool → LineAnswer
answered text h s goes_on =
    record { text = text; history = h; state = s; goes_on = goes_on }

-- what a command comes to, its text with it
abbrev pub AnswersLine : Setup → List (List ℕ) → History → BenchState → LineCommand → LineAnswer
    → Type 0
AnswersLine setup names h s (Steps command) answer =
    (outcome : StepOutcome) × (text : List ℕ) × Commanding setup h s command outcome
    × IsOutcomeLine setup outcome text
    × (answer ≡ answered text (history_left h outcome) (state_left s outcome) true)
AnswersLine setup names h s Shows answer = answer ≡ answered (show_text names s) h s true
AnswersLine setup names h s Quits answer = answer ≡ answered [] h s false

-- What comes of a line: that of its command, and a refusal where it is no command's.
abbrev pub Lined : Setup → List (List ℕ) → History → BenchState → List ℕ → LineAnswer → Type 0
Lined setup names h s line =
    looks_for (IsLineOf setup line) (answered (refused_line (codes "command")) h s true)
    (AnswersLine setup names h s)

-- Laws

-- numbers of few digits
abbrev pub HasFewDigits : LineCommand → Type 0
HasFewDigits (Steps (Until procedure label)) = (procedure < 10 ^ 10) × (label < 10 ^ 10)
HasFewDigits command = Unit {0}

-- no command's line has more than 64 bytes, where its label's numbers have no more than 10 digits
abbrev pub LinesAreShort : Type 0
LinesAreShort =
    (setup : Setup) (line : List ℕ) (command : LineCommand)
    → HasFewDigits command → IsLineOf setup line command → length line ≤ 64

-- a line is one command's at most
abbrev pub OneLine : Type 0
OneLine =
    (setup : Setup) (line : List ℕ) (command other : LineCommand)
    → HasFewDigits command → HasFewDigits other
    → IsLineOf setup line command → IsLineOf setup line other → command ≡ other
