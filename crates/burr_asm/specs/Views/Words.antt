-- Words of a line, as the code cuts them off.
use Rattle.std.specs.Prelude.{ℕ, List, [], ◌∷◌, Option, Some, None, unwrap_or, Bool, if◌then◌else◌}
use Rattle.burr_plantext.specs.Rules.Statements.{Statement, Byte, code_of}

-- the first word and those after it, where it is so and others follow
abbrev pub cut_word : (List ℕ → Bool) → List (List ℕ) → Option (List ℕ × List (List ℕ))
cut_word is_so [] = None
cut_word is_so (word ∷ []) = None
cut_word is_so (word ∷ next ∷ words) = if is_so word then Some (word, next ∷ words) else None

-- the line of code that a word alone is; any line for another word
abbrev pub line_alone : List ℕ → Statement
line_alone word = unwrap_or (code_of word []) (Byte 0)
