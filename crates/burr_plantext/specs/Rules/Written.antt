-- Words as they are written, and what they stand for.
use Rattle.std.specs.Prelude.{ℕ, suc, ◌+◌, ◌^◌, ℤ, pos, neg_ℤ, int_le, List, [], ◌∷◌, length, drop, map, codes, Bool, true, false, not, ◌&&◌, ◌||◌, ◌==◌, nat_le, nat_lt, slice_index_or, if◌then◌else◌}
use Rattle.std.specs.List.{list_all}
use Rattle.std.specs.Str.{bytes_eq}
use Rattle.std.specs.Str.Parse.{digits_value, signed_digits_value, starts_with_minus}
use Rattle.burr_text.specs.Names.{is_digit}
use Rattle.burr_forms.specs.Rules.Forms.{Form}
use Rattle.burr_container.specs.Rules.Fitting.{is_between}

-- Pieces

-- the byte in front of the first piece
abbrev pub in_first : ℕ → List (List ℕ) → List (List ℕ)
in_first b [] = (b ∷ []) ∷ []
in_first b (piece ∷ more) = (b ∷ piece) ∷ more

-- one more byte in front: a separator, which ends a piece, or a byte of the first piece
abbrev pub parted : Bool → ℕ → List (List ℕ) → List (List ℕ)
parted true b more = [] ∷ more
parted false b more = in_first b more

-- what stands between the separators
abbrev pub pieces : ℕ → List ℕ → List (List ℕ)
pieces separator [] = [] ∷ []
pieces separator (b ∷ bytes) = parted (b == separator) b (pieces separator bytes)

-- Numbers

-- digits whose first isn't `0`
abbrev pub is_count : List ℕ → Bool
is_count [] = false
is_count (b ∷ bytes) = nat_le 49 b && nat_le b 57 && list_all is_digit bytes

-- `0`, or a count
abbrev pub is_natural : List ℕ → Bool
is_natural word = bytes_eq word (codes "0") || is_count word

-- `0`, or a count, perhaps after a `-`
abbrev pub is_number : List ℕ → Bool
is_number word = is_natural word || (starts_with_minus word && is_count (drop 1 word))

-- the number that the word writes, where it has no sign
abbrev pub natural_in : List ℕ → ℕ
natural_in word = digits_value 10 word

-- the number that the word writes, perhaps with a sign
abbrev pub number_in : List ℕ → ℤ
number_in word = signed_digits_value 10 word

-- the word writes a number of these
abbrev pub is_within : ℕ → ℕ → List ℕ → Bool
is_within low high word =
    not (starts_with_minus word) && nat_le low (natural_in word) && nat_le (natural_in word) high

-- the word writes a number below the bound
abbrev pub is_below : ℕ → List ℕ → Bool
is_below bound word = not (starts_with_minus word) && nat_lt (natural_in word) bound

-- the word writes a number that an operand or a slot may be
abbrev pub is_operand : List ℕ → Bool
is_operand word = is_between (neg_ℤ (pos 32767)) (pos 32767) (number_in word)

-- the words write the ends of a range
abbrev pub are_ends : List ℕ → List ℕ → Bool
are_ends low high =
    is_operand low && is_operand high && int_le (number_in low) (number_in high)

-- Sets of pieces: `-`, or numbers joined by `,`

-- the words of the numbers in a set
abbrev pub set_numbers : List ℕ → List (List ℕ)
set_numbers word = if bytes_eq word (codes "-") then [] else pieces 44 word

-- `-`, or numbers joined by `,`
abbrev pub is_set : List ℕ → Bool
is_set word = list_all is_number (set_numbers word)

-- numbers that rise, each at least this and below the bound
abbrev pub are_members : ℕ → ℕ → List (List ℕ) → Bool
are_members least bound [] = true
are_members least bound (word ∷ words) =
    is_below bound word && nat_le least (natural_in word)
    && are_members (suc (natural_in word)) bound words

-- the set of these pieces: bit p for piece p
abbrev pub set_of : List (List ℕ) → ℕ
set_of [] = 0
set_of (word ∷ words) = 2 ^ natural_in word + set_of words

-- the set that the word writes
abbrev pub set_in : List ℕ → ℕ
set_in word = set_of (set_numbers word)

-- Forms: a number, and terms of a sign, a count, `v` and a slot

-- `+` or `-`
abbrev pub is_sign : ℕ → Bool
is_sign b = (b == 43) || (b == 45)

-- one more byte in front: a sign, which begins a part, or another byte
abbrev pub signed : Bool → ℕ → List (List ℕ) → List (List ℕ)
signed true b more = [] ∷ in_first b more
signed false b more = in_first b more

-- parts; each part but the first begins with a sign
abbrev pub signed_parts : List ℕ → List (List ℕ)
signed_parts [] = [] ∷ []
signed_parts (b ∷ bytes) = signed (is_sign b) b (signed_parts bytes)

-- the constant, whose own sign begins no part, and the terms
abbrev pub form_parts : List ℕ → List (List ℕ)
form_parts [] = [] ∷ []
form_parts (b ∷ bytes) = in_first b (signed_parts bytes)

-- the word of the constant
abbrev pub constant_word : List ℕ → List ℕ
constant_word word = slice_index_or (form_parts word) 0 []

-- the words of the terms
abbrev pub term_words : List ℕ → List (List ℕ)
term_words word = drop 1 (form_parts word)

-- the coefficient in a term, with its sign
abbrev pub coefficient_word : List ℕ → List ℕ
coefficient_word term = slice_index_or (pieces 118 term) 0 []

-- the slot in a term
abbrev pub slot_word : List ℕ → List ℕ
slot_word term = slice_index_or (pieces 118 term) 1 []

-- a sign and a count, `v`, and a slot
abbrev pub is_term : List ℕ → Bool
is_term term =
    (length (pieces 118 term) == 2) && is_count (drop 1 (coefficient_word term))
    && is_natural (slot_word term)

-- a number, and terms
abbrev pub is_form : List ℕ → Bool
is_form word = is_number (constant_word word) && list_all is_term (term_words word)

-- terms of live slots that rise, each at least this, with coefficients of 16 bits
abbrev pub are_terms : List Bool → ℕ → List (List ℕ) → Bool
are_terms live least [] = true
are_terms live least (term ∷ terms) =
    nat_le least (natural_in (slot_word term))
    && slice_index_or live (natural_in (slot_word term)) false
    && is_between (neg_ℤ (pos 32768)) (pos 32767) (number_in (coefficient_word term))
    && are_terms live (suc (natural_in (slot_word term))) terms

-- a form over live slots, with a constant of 32 bits
abbrev pub is_form_over : List Bool → List ℕ → Bool
is_form_over live word =
    is_between (neg_ℤ (pos 2147483648)) (pos 2147483647) (number_in (constant_word word))
    && are_terms live 0 (term_words word)

-- the coefficient that the terms give a slot
abbrev pub coefficient_of : ℕ → List (List ℕ) → ℤ
coefficient_of slot [] = pos 0
coefficient_of slot (term ∷ terms) = if natural_in (slot_word term) == slot
    then number_in (coefficient_word term) else coefficient_of slot terms

-- the eight slots
abbrev pub slot_numbers : List ℕ
slot_numbers = 0 ∷ 1 ∷ 2 ∷ 3 ∷ 4 ∷ 5 ∷ 6 ∷ 7 ∷ []

-- the form that the word writes
abbrev pub form_in : List ℕ → Form
form_in word = record {
  constant = number_in (constant_word word);
  coefs = map (λ slot. coefficient_of slot (term_words word)) slot_numbers;
}
