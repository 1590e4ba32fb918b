-- Plan texts: their lines, and the plans that they stand for.
use Rattle.std.specs.Prelude.{◌≡◌, ℕ, suc, List, [], ◌∷◌, ◌++◌, length, map, Option, Some, None, Bool, true, ◌==◌, slice_index_or, if◌then◌else◌, IsTrue}
use Rattle.burr_container.specs.Rules.Plans.{Plan}
use Rattle.burr_plantext.specs.Rules.Written.{pieces}
use Rattle.burr_plantext.specs.Rules.Lines.{Line, line_of}
use Rattle.burr_plantext.specs.Rules.Sources.{PlanSource, source_lines}
use Rattle.burr_plantext.specs.Rules.Meaning.{plan_of}
use Rattle.burr_plantext.specs.Rules.Right.{is_right}

-- what a line is, which isn't skipped
pub data LineRead : Type 0 where
  Reads : (line : Line) → LineRead
  -- it is of no form or isn't ended: its first word
  Unread : (word : List ℕ) → LineRead
  -- a comment that isn't ended
  Broken : LineRead

-- a line says nothing where it is empty or begins with `;`
abbrev pub is_skipped : List ℕ → Bool
is_skipped [] = true
is_skipped (b ∷ bytes) = b == 59

-- the words of a line, with a blank between each two
abbrev pub words_of : List ℕ → List (List ℕ)
words_of line = pieces 32 line

-- what stands before the first blank
abbrev pub first_word : List ℕ → List ℕ
first_word line = slice_index_or (words_of line) 0 []

-- the line that is read, if it is of the grammar
abbrev pub read_if : List ℕ → Option Line → LineRead
read_if word None = Unread word
read_if word (Some line) = Reads line

-- a line that is ended
abbrev pub ended_line : List ℕ → LineRead
ended_line line = read_if (first_word line) (line_of (words_of line))

-- a line that isn't
abbrev pub unended_line : List ℕ → LineRead
unended_line line = if is_skipped line then Broken else Unread (first_word line)

-- after the last end of a line nothing stands, or a line that isn't ended
abbrev pub last_line : ℕ → List ℕ → List (ℕ × LineRead)
last_line n [] = []
last_line n (b ∷ line) = (n, unended_line (b ∷ line)) ∷ []

-- The lines from the n-th on that are not skipped, each with its number.
abbrev pub numbered_from : ℕ → List (List ℕ) → List (ℕ × LineRead)
numbered_from n [] = []
numbered_from n (line ∷ []) = last_line n line
numbered_from n (line ∷ next ∷ more) =
    (if is_skipped line then [] else (n, ended_line line) ∷ [])
    ++ numbered_from (suc n) (next ∷ more)

-- the lines of a text that are not skipped, each with its number
abbrev pub numbered_lines : List ℕ → List (ℕ × LineRead)
numbered_lines text = numbered_from 1 (pieces 10 text)

-- the lines of a text that are not skipped
abbrev pub lines_read : List ℕ → List LineRead
lines_read text = map (λ (line : ℕ × LineRead). line.1) (numbered_lines text)

-- the number of such a line, counted with those that are skipped; after the last of them, that of
-- the line after the text's last
abbrev pub line_number : List ℕ → ℕ → ℕ
line_number text place =
    slice_index_or (map (λ (line : ℕ × LineRead). line.0) (numbered_lines text)) place
    (length (pieces 10 text))

-- The text is that of the source, perhaps with lines that are skipped.
pub record IsTextOf (text : List ℕ) (s : PlanSource) : Type 0 where
  pub right : IsTrue (is_right s)
  pub lines : lines_read text ≡ map Reads (source_lines s)

-- The text stands for the plan.
abbrev pub StandsFor : List ℕ → Plan → Type 0
StandsFor text plan = (s : PlanSource) × IsTextOf text s × (plan ≡ plan_of s)
