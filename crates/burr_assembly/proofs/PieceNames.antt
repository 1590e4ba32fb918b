-- The tests of words tell what the words are, and the names in a text come line by line.
use Rattle.std.proofs.Common.{◌≡◌, ◌≢◌, ℕ, suc, ◌-◌, ◌<◌, ◌≤◌, Bool, nat_le, true, false, ◌&&◌, ◌||◌, cond, List, [], ◌∷◌, ◌++◌, length, get_or, drop, codes, slice_index, map, ◌==◌, ◌⊎◌, inl, inr, All, ne_eqb, arith, refl, sym, ap, subst, ◌∙◌}
use Rattle.std.specs.Bool.{Decides}
use Rattle.std.specs.List.{AllZip, filter, join_with_byte, list_all, slice_split}
use Rattle.std.specs.Str.{bytes_eq}
use Rattle.std.proofs.lemmas.Bool.{le-leb}
use Rattle.std.proofs.lemmas.Bool.Decides.{Decides-and, Decides-by_and, Decides-eqb, Decides-like, Decides-or, nat_tests}
use Rattle.std.proofs.lemmas.List.Splits.{slice_split_at, slice_split_none, length-slice_split, join_with_byte-slice_split}
use Rattle.std.proofs.lemmas.Slice.Eq.{bytes_eq-Decides}
use Rattle.burr_text.specs.Words.{IsWord, IsCutAt}
use Rattle.burr_text.specs.Names.{is_digit}
use Rattle.burr_text.specs.Numbers.{IsCount, IsNumber}
use Rattle.burr_text.specs.Lines.{IsUnended}
use Rattle.burr_text.proofs.Common.Cuts.{Lacks, lacks, lacks_blank, same_head, same_tail}
use Rattle.std.proofs.lemmas.List.Elements.{All-nil, All-cons}
use Rattle.burr_text.proofs.Common.Unended.{EachLacks}
use Rattle.burr_assembly.specs.Rules.Lines.{PieceWords, PieceLine, IsPieceWords, IsLine}
use Rattle.burr_assembly.specs.Rules.PieceNames.{piece_tests, but_last, lines_of, line_words, is_word, is_count, is_number, each_passes, is_piece_line, name_in, names_in}
use Rattle.burr_assembly.proofs.Numbers.{number_lacks}

-- The words of a line

-- a printable byte that is no blank
ink_told : (b : ℕ) → Decides (nat_le 33 b && nat_le b 126) ((33 ≤ b) × (b ≤ 126))
ink_told b = (λ t. (grind (arith, nat_tests), grind (arith, nat_tests)), λ p. grind (arith, nat_tests))

-- the same of a digit
digit_told : (b : ℕ) → Decides (is_digit b) ((48 ≤ b) × (b ≤ 57))
digit_told b = (λ t. (grind (arith, nat_tests), grind (arith, nat_tests)), λ p. grind (arith, nat_tests))

-- at least one
some_told : (bytes : List ℕ) → Decides (nat_le 1 (length bytes)) (bytes ≢ [])
some_told [] = (λ t. cc, λ some. absurd (some refl))
some_told (b ∷ bytes) = (λ t e. cc, λ some. le-leb 1 (suc (length bytes)) (omega arith))

word_told : (word : List ℕ) → Decides (is_word word) (IsWord word)
word_told word =
    Decides-and (nat_le 1 (length word)) (list_all (λ b. nat_le 33 b && nat_le b 126) word) (some_told word)
    (Decides-by_and (λ b. nat_le 33 b && nat_le b 126) (λ b. (33 ≤ b) × (b ≤ 126)) (list_all (λ b. nat_le 33 b && nat_le b 126)) ink_told refl (λ _ _. refl) word)

-- at least 49
high_told : (b : ℕ) → Decides (nat_le 49 b) (49 ≤ b)
high_told b = (λ t. grind (arith, nat_tests), λ p. grind (arith, nat_tests))

count_told : (word : List ℕ) → Decides (is_count word) (IsCount word)
count_told word =
    Decides-like (is_count word) (λ t. record { first = t.0; digits = t.1 }) (λ h. (h.first, h.digits))
    (Decides-and (nat_le 49 (slice_index word 0)) (list_all is_digit word) (high_told (slice_index word 0))
    (Decides-by_and is_digit (λ b. (48 ≤ b) × (b ≤ 57)) (list_all is_digit) digit_told refl (λ _ _. refl) word))

-- a count after a minus
signed_told : (word : List ℕ) → Decides ((slice_index word 0 == 45) && is_count (drop 1 word)) ((rest : List ℕ) × (word ≡ 45 ∷ rest) × IsCount rest)
signed_told [] = (λ t. cc, λ h. absurd (omega (arith, ap length h.1)))
signed_told (b ∷ rest) =
    Decides-like ((b == 45) && is_count rest) (λ t. (rest, ap (λ (c : ℕ). c ∷ rest) t.0, t.1)) (λ h. (same_head b 45 rest h.0 h.1, subst IsCount (sym (same_tail b 45 rest h.0 h.1)) h.2))
    (Decides-and (b == 45) (is_count rest) (Decides-eqb b 45) (count_told rest))

number_told : (word : List ℕ) → Decides (is_number word) (IsNumber word)
number_told word =
    let signed : Bool = (slice_index word 0 == 45) && is_count (drop 1 word) in
    Decides-like (is_number word) regroup group
    (Decides-or (bytes_eq word (codes "0") || is_count word) signed
    (Decides-or (bytes_eq word (codes "0")) (is_count word) (bytes_eq-Decides word (codes "0")) (count_told word)) (signed_told word))
  where
    regroup : ((word ≡ codes "0") ⊎ IsCount word) ⊎ ((rest : List ℕ) × (word ≡ 45 ∷ rest) × IsCount rest) → IsNumber word
    regroup (inl (inl e)) = inl e
    regroup (inl (inr h)) = inr (inl h)
    regroup (inr h) = inr (inr h)

    group : IsNumber word → ((word ≡ codes "0") ⊎ IsCount word) ⊎ ((rest : List ℕ) × (word ≡ 45 ∷ rest) × IsCount rest)
    group (inl e) = inl (inl e)
    group (inr (inl h)) = inl (inr h)
    group (inr (inr h)) = inr h

-- each word passes its test
abbrev Pass : List (List ℕ → Bool) → List (List ℕ) → Type 0
Pass tests words = AllZip (λ test word. test word ≡ true) tests words

pass_told : (tests : List (List ℕ → Bool)) (words : List (List ℕ)) → Decides (each_passes tests words) (Pass tests words)
pass_told [] [] = (λ t. tt, λ p. refl)
pass_told [] (word ∷ words) = (λ t. cc, λ p. absurd p)
pass_told (test ∷ tests) [] = (λ t. cc, λ p. absurd p)
pass_told (test ∷ tests) (word ∷ words) = Decides-and (test word) (each_passes tests words) (λ t. t, λ t. t) (pass_told tests words)

-- the words of a piece's line, with the first
abbrev all_words : PieceWords → List (List ℕ)
all_words w = codes "piece" ∷ w.name ∷ w.shape ∷ w.orientation ∷ w.x ∷ w.y ∷ w.z ∷ []

-- words that pass are those of a piece's line
passed : (words : List (List ℕ)) → Pass piece_tests words → (w : PieceWords) × IsPieceWords w × (words ≡ all_words w)
passed (key ∷ name ∷ shape ∷ orientation ∷ x ∷ y ∷ z ∷ []) (is_key, (is_name, (is_shape, (is_orientation, (is_x, (is_y, (is_z, end))))))) = (
  record { name = name; shape = shape; orientation = orientation; x = x; y = y; z = z },
  record { name = (word_told name).0 is_name; shape = (word_told shape).0 is_shape; orientation = (word_told orientation).0 is_orientation; x = (number_told x).0 is_x; y = (number_told y).0 is_y; z = (number_told z).0 is_z },
  ap (λ (k : List ℕ). k ∷ name ∷ shape ∷ orientation ∷ x ∷ y ∷ z ∷ []) (sym ((bytes_eq-Decides (codes "piece") key).0 is_key)),
)
passed [] p = absurd p
passed (_ ∷ []) p = absurd p.1
passed (_ ∷ _ ∷ []) p = absurd p.1.1
passed (_ ∷ _ ∷ _ ∷ []) p = absurd p.1.1.1
passed (_ ∷ _ ∷ _ ∷ _ ∷ []) p = absurd p.1.1.1.1
passed (_ ∷ _ ∷ _ ∷ _ ∷ _ ∷ []) p = absurd p.1.1.1.1.1
passed (_ ∷ _ ∷ _ ∷ _ ∷ _ ∷ _ ∷ []) p = absurd p.1.1.1.1.1.1
passed (_ ∷ _ ∷ _ ∷ _ ∷ _ ∷ _ ∷ _ ∷ _ ∷ _) p = absurd p.1.1.1.1.1.1.1

-- and they pass
passes : (w : PieceWords) → IsPieceWords w → Pass piece_tests (all_words w)
passes w h = (refl, ((word_told w.name).1 h.name, ((word_told w.shape).1 h.shape, ((word_told w.orientation).1 h.orientation, ((number_told w.x).1 h.x, ((number_told w.y).1 h.y, ((number_told w.z).1 h.z, tt)))))))

-- a list that lacks a byte has none of it
none_of : (c : ℕ) (bytes : List ℕ) → Lacks c bytes → All (λ b. (b == c) ≡ false) bytes
none_of c [] h = All-nil (λ b. (b == c) ≡ false)
none_of c (b ∷ bytes) h = All-cons (λ b. (b == c) ≡ false) b bytes (ne_eqb b c h.0) (none_of c bytes h.1)

-- words with a blank between each two are split into these words
split_joined : (word : List ℕ) (words : List (List ℕ)) → EachLacks 32 (word ∷ words) → line_words (join_with_byte 32 (word ∷ words)) ≡ word ∷ words
split_joined word [] h = slice_split_none (λ b. b == 32) word (none_of 32 word h.0)
split_joined word (next ∷ words) h =
    slice_split_at (λ b. b == 32) word 32 (join_with_byte 32 (next ∷ words)) (none_of 32 word h.0) refl
    ∙ ap (λ (parts : List (List ℕ)). word ∷ parts) (split_joined next words h.1)

-- a word holds no blank
lacks_word : (word : List ℕ) → IsWord word → Lacks 32 word
lacks_word word is = lacks_blank word is.1

-- a line of a piece's form has these words
words_of_line : (line : List ℕ) (w : PieceWords) → IsLine line (PieceLine w) → line_words line ≡ all_words w
words_of_line line w (is, e) =
    let key = (word_told (codes "piece")).0 refl in
    ap line_words e
    ∙ split_joined (codes "piece") (w.name ∷ w.shape ∷ w.orientation ∷ w.x ∷ w.y ∷ w.z ∷ [])
    (lacks_word (codes "piece") key, (lacks_word w.name is.name, (lacks_word w.shape is.shape, (lacks_word w.orientation is.orientation, (number_lacks w.x is.x, (number_lacks w.y is.y, (number_lacks w.z is.z, tt)))))))

-- a line passes where it is of a piece's form, and its second word is then the name
pub piece_line_told : (line : List ℕ) → Decides (is_piece_line line) ((w : PieceWords) × IsLine line (PieceLine w))
piece_line_told line =
    Decides-like (is_piece_line line) to from (pass_told piece_tests (line_words line))
  where
    to : Pass piece_tests (line_words line) → (w : PieceWords) × IsLine line (PieceLine w)
    to p = let found = passed (line_words line) p in (found.0, (found.1, sym (join_with_byte-slice_split 32 line) ∙ ap (join_with_byte 32) found.2))

    from : (w : PieceWords) × IsLine line (PieceLine w) → Pass piece_tests (line_words line)
    from found = subst (Pass piece_tests) (sym (words_of_line line found.0 found.1)) (passes found.0 found.1.0)

pub name_in_line : (line : List ℕ) (w : PieceWords) → IsLine line (PieceLine w) → name_in line ≡ w.name
name_in_line line w is = ap (λ (words : List (List ℕ)). get_or words 1 []) (words_of_line line w is)

-- The lines of a text

-- the last part is left out
but_last-cons : (part : List ℕ) (parts : List (List ℕ)) → 0 < length parts → but_last (part ∷ parts) ≡ part ∷ but_last parts
but_last-cons part [] some = absurd (omega arith)
but_last-cons part (next ∷ parts) some = refl

-- the names in the lines of a text: that in the first, if it is of a piece's form, and those in the others
names_in-line : (line more : List ℕ) → IsUnended line → names_in (line ++ 10 ∷ more) ≡ cond (is_piece_line line) (name_in line ∷ names_in more) (names_in more)
names_in-line line more unended =
    let parts = slice_split (λ b. b == 10) more in
    let some : 0 < length parts = omega (arith, length-slice_split (λ b. b == 10) more) in
    let first : lines_of (line ++ 10 ∷ more) ≡ line ∷ lines_of more =
    ap but_last (slice_split_at (λ b. b == 10) line 10 more (none_of 10 line (lacks 10 line unended)) refl) ∙ but_last-cons line parts some in
    ap (λ (lines : List (List ℕ)). map name_in (filter is_piece_line lines)) first ∙ named (is_piece_line line) (lines_of more)
  where
    named : (t : Bool) (lines : List (List ℕ))
        → map name_in (cond t (line ∷ filter is_piece_line lines) (filter is_piece_line lines)) ≡ cond t (name_in line ∷ map name_in (filter is_piece_line lines)) (map name_in (filter is_piece_line lines))
    named true lines = refl
    named false lines = refl

-- the first line is of a piece's form
pub names_in-piece : (text line more : List ℕ) (w : PieceWords) → IsCutAt 10 text line more → IsLine line (PieceLine w) → names_in text ≡ w.name ∷ names_in more
names_in-piece text line more w cut is =
    ap names_in cut.parts ∙ names_in-line line more cut.first ∙ ap (λ (t : Bool). cond t (name_in line ∷ names_in more) (names_in more)) ((piece_line_told line).1 (w, is))
    ∙ ap (λ (name : List ℕ). name ∷ names_in more) (name_in_line line w is)

-- it is not
pub names_in-other : (text line more : List ℕ) → IsCutAt 10 text line more → ((w : PieceWords) → ¬ IsLine line (PieceLine w)) → names_in text ≡ names_in more
names_in-other text line more cut other =
    ap names_in cut.parts ∙ names_in-line line more cut.first
    ∙ ap (λ (t : Bool). cond t (name_in line ∷ names_in more) (names_in more)) (fails (is_piece_line line) (λ t. let found = (piece_line_told line).0 t in other found.0 found.1))
  where
    fails : (t : Bool) → (t ≡ true → ⊥) → t ≡ false
    fails true none = absurd (none refl)
    fails false none = refl

-- no line is left
pub names_in-none : (text : List ℕ) → IsUnended text → names_in text ≡ []
names_in-none text unended =
    ap (λ (parts : List (List ℕ)). map name_in (filter is_piece_line (but_last parts))) (slice_split_none (λ b. b == 10) text (none_of 10 text (lacks 10 text unended)))

-- The name that is looked for

-- it is in the next line
pub found_here : (names rest : List (List ℕ)) (name : List ℕ) (left : ℕ) (wanted : List ℕ) → get_or names left [] ≡ wanted → names ≡ name ∷ rest → left ≡ 0 → name ≡ wanted
found_here names rest name left wanted held next none = rw (next, none) at held

-- it is after a name that is not looked for
pub found_after : (names rest : List (List ℕ)) (name : List ℕ) (left : ℕ) (wanted : List ℕ) → get_or names left [] ≡ wanted → names ≡ name ∷ rest → left ≢ 0 → get_or rest (left - 1) [] ≡ wanted
found_after names rest name left wanted held next some =
    let place : left ≡ suc (left - 1) = omega arith in
    sym (ap (λ (k : ℕ). get_or names k []) place ∙ ap (λ (all : List (List ℕ)). get_or all (suc (left - 1)) []) next) ∙ held
