-- The lines of a text, and the words of a line.
use Rattle.std.specs.Prelude.{◌≡◌, ◌≢◌, ◌≤◌, ◌⊎◌, ℕ, pos, List, [], ◌∷◌, ◌==◌, if◌then◌else◌}
use Rattle.std.specs.Fmt.{signed_decimal}
use Rattle.burr_lines.specs.declared.lines.Line.{Line}

-- a byte before the first of these, or alone where there are none
abbrev pub onto_first : ℕ → List (List ℕ) → List (List ℕ)
onto_first byte [] = (byte ∷ []) ∷ []
onto_first byte (first ∷ more) = (byte ∷ first) ∷ more

-- The lines of a text, without their line feeds. What follows the last line feed is one too, where something does.
abbrev pub text_lines : List ℕ → List (List ℕ)
text_lines [] = []
text_lines (byte ∷ text) = if byte == 10 then [] ∷ text_lines text else onto_first byte (text_lines text)

abbrev pub bytes_of : Line → List ℕ
bytes_of line = line.bytes.now

-- a line's number and its bytes
abbrev pub told : Line → ℕ × List ℕ
told line = (line.number, line.bytes.now)

-- The words of a line: a blank parts each two.
abbrev pub words_of : List ℕ → List (List ℕ)
words_of [] = [] ∷ []
words_of (byte ∷ line) = if byte == 32 then [] ∷ words_of line else onto_first byte (words_of line)

-- the number of 0 to 255 that a word tells, or 0 where it tells none
abbrev pub TellsNumber : List ℕ → ℕ → Type 0
TellsNumber word answer =
    ((word ≡ signed_decimal (pos answer)) × (answer ≤ 255))
    ⊎ (((number : ℕ) → number ≤ 255 → word ≢ signed_decimal (pos number)) × (answer ≡ 0))
