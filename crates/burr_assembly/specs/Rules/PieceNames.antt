-- The name of a piece in a text, by the lines of the text. Tests tell which lines have a piece's form.
use Rattle.std.specs.Prelude.{ℕ, ◌==◌, Bool, true, false, ◌&&◌, ◌||◌, nat_le, List, [], ◌∷◌, length, drop, map, codes, slice_index, slice_index_or, bytes_eq}
use Rattle.std.specs.List.{filter, list_all, slice_split}
use Rattle.burr_text.specs.Names.{is_digit}

-- all parts but the last
abbrev pub but_last : List (List ℕ) → List (List ℕ)
but_last [] = []
but_last (part ∷ []) = []
but_last (part ∷ next ∷ parts) = part ∷ but_last (next ∷ parts)

-- the lines of a text, each without its end; what stands after the last end is no line
abbrev pub lines_of : List ℕ → List (List ℕ)
lines_of text = but_last (slice_split (λ b. b == 10) text)

-- the words of a line
abbrev pub line_words : List ℕ → List (List ℕ)
line_words line = slice_split (λ b. b == 32) line

-- one or more printable bytes that are no blank
abbrev pub is_word : List ℕ → Bool
is_word word = nat_le 1 (length word) && list_all (λ b. nat_le 33 b && nat_le b 126) word

-- digits whose first isn't `0`
abbrev pub is_count : List ℕ → Bool
is_count word = nat_le 49 (slice_index word 0) && list_all is_digit word

-- `0`, or a count, perhaps after a `-`
abbrev pub is_number : List ℕ → Bool
is_number word =
    bytes_eq word (codes "0") || is_count word ||
    ((slice_index word 0 == 45) && is_count (drop 1 word))

-- there are as many words as tests, and each passes its own
abbrev pub each_passes : List (List ℕ → Bool) → List (List ℕ) → Bool
each_passes [] [] = true
each_passes (test ∷ tests) (word ∷ words) = test word && each_passes tests words
each_passes tests words = false

-- the tests of the words of a piece's line: the key word, name, shape, orientation, and coordinates
abbrev pub piece_tests : List (List ℕ → Bool)
piece_tests =
    bytes_eq (codes "piece") ∷ is_word ∷ is_word ∷ is_word ∷ is_number ∷ is_number ∷ is_number ∷ []

-- the line is of a piece's form
abbrev pub is_piece_line : List ℕ → Bool
is_piece_line line = each_passes piece_tests (line_words line)

-- the name in a piece's line: its second word
abbrev pub name_in : List ℕ → List ℕ
name_in line = slice_index_or (line_words line) 1 []

-- the names in a text: those in its lines of a piece's form
abbrev pub names_in : List ℕ → List (List ℕ)
names_in text = map name_in (filter is_piece_line (lines_of text))

-- the name of the n-th piece in a text
abbrev pub name_at : List ℕ → ℕ → List ℕ
name_at text n = slice_index_or (names_in text) n []
