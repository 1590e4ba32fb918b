-- What a drive writes, and the lines that it takes.
use Rattle.std.specs.Prelude.{◌≡◌, ◌⊎◌, ◌==◌, ◌<◌, ◌≤◌, ◌^◌, ℕ, ℤ, List, [], ◌∷◌, ◌++◌, Bool, true, false, Option, Some, None, codes, decimal, FitsSigned, length, if◌then◌else◌}
use Rattle.std.specs.Int.{w32}
use Rattle.std.specs.List.{join_with_byte}
use Rattle.std.specs.Fmt.{signed_decimal}
use Rattle.burr_text.specs.Checks.{looks_for, needs}
use Rattle.burr_text.specs.Words.{text_line}
use Rattle.burr_state.specs.Rules.Bench.{Setup}
use Rattle.burr_sheet.specs.Rules.SheetText.{move_words, names_from}
use Rattle.burr_step.specs.declared.drive.Halt.{Halt}
use Rattle.burr_step.specs.declared.drive.Halt.TheVariants.{Asks, Ends}
use Rattle.burr_step.specs.declared.drive.Move.{Move}
use Rattle.burr_step.specs.Rules.Moves.{line_of as sheet_line_of}
use Rattle.burr_step.specs.Rules.Drive.{Led, HaltsAt, Moves, GoesTo, IsFitting, Takes}
use Rattle.burr_step.specs.Rules.StepTexts.{refused_line, show_text}

-- What it writes

-- the tray to which a group goes
abbrev pub to_words : Option ℕ → List (List ℕ)
to_words None = []
to_words (Some tray) = (codes "t" ++ decimal tray) ∷ []

-- the names of the pieces that are apart by a move, if there are any
abbrev pub apart_words : List (List ℕ) → ℕ → List (List ℕ)
apart_words names set =
    if set == 0 then [] else (codes "apart" ∷ join_with_byte 44 (names_from 0 set names) ∷ [])

-- a move: the words of its line in a sheet, the tray, and the pieces that are apart by it
abbrev pub move_text : List (List ℕ) → Move → List ℕ
move_text names m =
    text_line (codes "move" ∷ (move_words names m.number (sheet_line_of m)
    ++ (to_words m.out ++ apart_words names m.apart)))

-- why there is no next move: a question and where it stands, or the end and after how many steps
abbrev pub halt_text : Halt → List ℕ
halt_text (Asks q) =
    text_line (codes "ask" ∷ decimal q.number ∷ signed_decimal q.low ∷ signed_decimal q.high
    ∷ codes "proc" ∷ decimal q.procedure ∷ codes "pc" ∷ decimal q.pc ∷ [])
halt_text (Ends steps) = text_line (codes "end" ∷ decimal steps ∷ [])

abbrev pub taken_text : ℕ → List ℕ
taken_text question = text_line (codes "taken" ∷ decimal question ∷ [])

abbrev pub at_text : ℕ → List ℕ
at_text number = text_line (codes "at" ∷ decimal number ∷ [])

-- The lines that it takes

pub data DriveCommand : Type 0 where
  Next : DriveCommand
  Answer : (question : ℕ) (answer : ℤ) → DriveCommand
  GoTo : (number : ℕ) → DriveCommand
  Show : DriveCommand
  Quit : DriveCommand

abbrev pub drive_words : DriveCommand → List (List ℕ)
drive_words Next = codes "next" ∷ []
drive_words (Answer question answer) =
    codes "answer" ∷ decimal question ∷ signed_decimal answer ∷ []
drive_words (GoTo number) = codes "goto" ∷ decimal number ∷ []
drive_words Show = codes "show" ∷ []
drive_words Quit = codes "quit" ∷ []

-- the line of a command, without its end
abbrev pub drive_line : DriveCommand → List ℕ
drive_line command = join_with_byte 32 (drive_words command)

-- its numbers are in range
abbrev pub HasSmallNumbers : DriveCommand → Type 0
HasSmallNumbers (Answer question answer) = (question < 2 ^ 32) × FitsSigned w32 answer
HasSmallNumbers (GoTo number) = number < 2 ^ 32
HasSmallNumbers command = Unit {0}

-- the line is that of the command
abbrev pub IsDriveLine : List ℕ → DriveCommand → Type 0
IsDriveLine line command = HasSmallNumbers command × (line ≡ drive_line command)

-- what is written for a line, whether more lines are taken, and where it leaves the drive
pub record Reply : Type 0 where
  pub text : List ℕ
  pub goes_on : Bool
  pub left : Led

abbrev pub reply : List ℕ → Led → Reply
reply text left = record { text = text; goes_on = true; left = left }

-- where no move was made the run has halted
abbrev pub HaltReply : Setup → Led → Reply → Type 0
HaltReply setup d answer = (halt : Halt) × HaltsAt setup d halt × (answer ≡ reply (halt_text halt) d)

-- what a command comes to
abbrev pub Replies : Setup → List (List ℕ) → Led → DriveCommand → Reply → Type 0
Replies setup names d Next answer =
    ((m : Move) × (new : Led) × Moves setup d m new × (answer ≡ reply (move_text names m) new))
    ⊎ HaltReply setup d answer
Replies setup names d (Answer question n) answer =
    needs (IsFitting setup d question n) (reply (refused_line (codes "answer")) d) (λ answer.
    (new : Led) × Takes setup d n new × (answer ≡ reply (taken_text question) new)) answer
Replies setup names d (GoTo number) answer =
    needs (d.moves ≤ number) (reply (refused_line (codes "command")) d) (λ answer.
    (new : Led) × GoesTo setup number d new
    × (((new.moves ≡ number) × (answer ≡ reply (at_text number) new))
    ⊎ ((new.moves < number) × HaltReply setup new answer))) answer
Replies setup names d Show answer = answer ≡ reply (show_text names d.state) d
Replies setup names d Quit answer = answer ≡ record { text = []; goes_on = false; left = d }

-- What comes of a line: what its command comes to, and a refusal where it is no command's.
abbrev pub Replied : Setup → List (List ℕ) → Led → List ℕ → Reply → Type 0
Replied setup names d line =
    looks_for (IsDriveLine line) (reply (refused_line (codes "command")) d) (Replies setup names d)

-- no command's line has more than 64 bytes
abbrev pub DriveLinesAreShort : Type 0
DriveLinesAreShort =
    (line : List ℕ) (command : DriveCommand) → IsDriveLine line command → length line ≤ 64

-- a line is one command's at most
abbrev pub OneDriveLine : Type 0
OneDriveLine =
    (line : List ℕ) (command other : DriveCommand) → IsDriveLine line command
    → IsDriveLine line other → command ≡ other
