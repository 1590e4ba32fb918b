-- The words of lines, and the text that lines are.
use Rattle.std.specs.Prelude.{ℕ, ◌+◌, ◌/◌, ◌%◌, List, [], ◌∷◌, codes, Option, Some, None, nat_lt, if◌then◌else◌, ◌==◌}
use Rattle.std.specs.List.{flat_map}
use Rattle.burr_text.specs.Words.{text_line}
use Rattle.burr_voxels.specs.Grid.{name_of}
use Rattle.burr_plantext.specs.Rules.Statements.{Statement, Alone, Push, Load, Store, Grip, Step, Aside, Tray, Jump, Down, Ask, Pick, Call, Byte}
use Rattle.burr_plantext.specs.Rules.Lines.{PlaceWords, Apart, On, Line, PlanLine, ProcLine, ExitLine, ResultLine, LabelLine, FrameLine, SlotLine, GuardLine, StackLine, CostLine, AtLine, CodeLine}

-- a lower case digit of base 16
abbrev pub hex_digit : ℕ → ℕ
hex_digit n = if nat_lt n 10 then 48 + n else 87 + n

-- the two digits of a byte
abbrev pub hex_word : ℕ → List ℕ
hex_word byte = hex_digit (byte / 16) ∷ hex_digit (byte % 16) ∷ []

-- the words of a line of code
abbrev pub statement_words : Statement → List (List ℕ)
statement_words (Alone bare) = bare.word ∷ []
statement_words (Push number) = codes "push" ∷ number ∷ []
statement_words (Load slot) = codes "load" ∷ slot ∷ []
statement_words (Store slot) = codes "store" ∷ slot ∷ []
statement_words (Grip set) = codes "grip" ∷ set ∷ []
statement_words (Step direction) = codes "step" ∷ name_of direction ∷ []
statement_words (Aside direction tray) = codes "aside" ∷ name_of direction ∷ tray ∷ []
statement_words (Tray tray) = codes "tray" ∷ tray ∷ []
statement_words (Jump label) = codes "jump" ∷ label ∷ []
statement_words (Down slot label) = codes "down" ∷ slot ∷ label ∷ []
statement_words (Ask low high) = codes "ask" ∷ low ∷ high ∷ []
statement_words (Pick labels) = codes "pick" ∷ labels
statement_words (Call procedure) = codes "call" ∷ procedure ∷ []
statement_words (Byte byte) = codes "byte" ∷ hex_word byte ∷ []

-- the word with which the plan's line begins
abbrev pub plan_word : ℕ → List ℕ
plan_word version = if version == 2 then codes "plan2" else codes "plan"

-- the number of results, if it is given
abbrev pub result_words : Option (List ℕ) → List (List ℕ)
result_words None = []
result_words (Some results) = results ∷ []

-- the words of a place
abbrev pub spot_words : PlaceWords → List (List ℕ)
spot_words Apart = codes "apart" ∷ []
spot_words (On tray x y z) = tray ∷ x ∷ y ∷ z ∷ []

-- the words of a line
abbrev pub line_words : Line → List (List ℕ)
line_words (PlanLine t) = plan_word t.version ∷ t.name ∷ t.pieces ∷ t.budget ∷ []
line_words (ProcLine h) = codes "proc" ∷ h.name ∷ h.parameters ∷ result_words h.results
line_words (ExitLine g) = codes "exit" ∷ g.tray ∷ g.set ∷ []
line_words (ResultLine ends) = codes "result" ∷ ends.low ∷ ends.high ∷ []
line_words (LabelLine name) = codes "label" ∷ name ∷ []
line_words (FrameLine g) = codes "frame" ∷ g.tray ∷ g.set ∷ []
line_words (SlotLine s) = codes "slot" ∷ s.slot ∷ s.ends.low ∷ s.ends.high ∷ []
line_words (GuardLine form) = codes "guard" ∷ form ∷ []
line_words (StackLine form) = codes "stack" ∷ form ∷ []
line_words (CostLine form) = codes "cost" ∷ form ∷ []
line_words (AtLine p) = codes "at" ∷ p.piece ∷ spot_words p.spot
line_words (CodeLine statement) = statement_words statement

-- the text of a line
abbrev pub line_text : Line → List ℕ
line_text line = text_line (line_words line)

-- The text that lines are.
abbrev pub text_of : List Line → List ℕ
text_of lines = flat_map line_text lines
