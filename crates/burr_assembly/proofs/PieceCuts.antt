-- The words that a piece's line is cut into.
use Rattle.std.proofs.Common.{◌≡◌, ◌↔◌, ℕ, ◌<◌, List, [], ◌∷◌, ◌++◌, length, codes, drop, get_or, Contains, Bool, true, false, IsTrue, MatchOption, refl, sym, ap, subst, ◌∙◌, arith}
use Rattle.std.specs.Bool.{then_some}
use Rattle.burr_assembly.specs.declared.text.line.PieceLine.{PieceLine}
use Rattle.burr_assembly.specs.Views.LineViews.{words_of}
use Rattle.burr_assembly.specs.Rules.Lines.{PieceWords, IsPieceWords, IsLine, PieceLine as PieceForm, piece_words_text}
use Rattle.burr_text.specs.Words.{IsCutAt}
use Rattle.burr_text.proofs.Common.Cuts.{Lacks, cut, lacks, lacks_blank, contains_cut}
use Rattle.burr_assembly.proofs.Numbers.{number_lacks}

-- the bytes were cut at blanks: the words before them, in turn, and what is left after the last
abbrev pub AreCut : List (List ℕ) → List ℕ → List ℕ → Type 0
AreCut [] bytes rest = rest ≡ bytes
AreCut (word ∷ words) bytes rest = (after : List ℕ) × IsCutAt 32 bytes word after × AreCut words after rest

-- no word but the last, which may be any, holds a blank
abbrev HaveNoBlank : List (List ℕ) → Type 0
HaveNoBlank [] = Unit {0}
HaveNoBlank (word ∷ words) = Lacks 32 word × HaveNoBlank words

-- the words in a row, a blank after each, and then the last
abbrev in_row : List (List ℕ) → List ℕ → List ℕ
in_row [] last = last
in_row (word ∷ words) last = word ++ 32 ∷ in_row words last

-- where fewer cuts were made than there are words before the last, a blank is left
blank_is_left : (found words : List (List ℕ)) (bytes rest last : List ℕ) → AreCut found bytes rest → HaveNoBlank words → bytes ≡ in_row words last → length found < length words → Contains rest 32
blank_is_left found [] bytes rest last cuts lack e few = absurd (omega arith)
blank_is_left [] (word ∷ words) bytes rest last cuts lack e few = subst (λ (b : List ℕ). Contains b 32) (sym (cuts ∙ e)) (contains_cut 32 word (in_row words last))
blank_is_left (front ∷ found) (word ∷ words) bytes rest last cuts lack e few =
    let same = cut 32 front word cuts.0 (in_row words last) (lacks 32 front cuts.1.first) lack.0 (sym cuts.1.parts ∙ e) in
    blank_is_left found words cuts.0 rest last cuts.2 lack.1 same.1 (omega arith)

-- where as many cuts were made, the words were found
words_are_found : (found words : List (List ℕ)) (bytes rest last : List ℕ) → AreCut found bytes rest → HaveNoBlank words → bytes ≡ in_row words last → length found ≡ length words → (found ≡ words) × (rest ≡ last)
words_are_found [] [] bytes rest last cuts lack e many = (refl, cuts ∙ e)
words_are_found [] (word ∷ words) bytes rest last cuts lack e many = absurd (omega arith)
words_are_found (front ∷ found) [] bytes rest last cuts lack e many = absurd (omega arith)
words_are_found (front ∷ found) (word ∷ words) bytes rest last cuts lack e many =
    let same = cut 32 front word cuts.0 (in_row words last) (lacks 32 front cuts.1.first) lack.0 (sym cuts.1.parts ∙ e) in
    let after = words_are_found found words cuts.0 rest last cuts.2 lack.1 same.1 (omega arith) in
    (λ i. same.0 i ∷ after.0 i, after.1)

-- the words of a piece's line before the last
abbrev pub first_words : PieceWords → List (List ℕ)
first_words w = w.name ∷ w.shape ∷ w.orientation ∷ w.x ∷ w.y ∷ []

-- none of them holds a blank
no_blanks : (w : PieceWords) → IsPieceWords w → HaveNoBlank (first_words w)
no_blanks w p = (lacks_blank w.name p.name.1, (lacks_blank w.shape p.shape.1, (lacks_blank w.orientation p.orientation.1, (number_lacks w.x p.x, (number_lacks w.y p.y, tt)))))

-- the word of a list at a place
abbrev word_at : ℕ → List (List ℕ) → List ℕ
word_at k words = get_or words k []

-- where no blank is left after fewer than five words, the bytes are not those of a piece's line
pub too_few_words : (found : List (List ℕ)) (line bytes rest : List ℕ) → bytes ≡ drop 6 line → AreCut found bytes rest → length found < 5 → ¬ Contains rest 32 → (w : PieceWords) → ¬ IsLine line (PieceForm w)
too_few_words found line bytes rest is cuts few none w (p, e) = none (blank_is_left found (first_words w) bytes rest w.z cuts (no_blanks w p) (is ∙ ap (drop 6) e) (omega arith))

-- words that were cut off are those of each piece's line with these bytes
same_words : (v : PieceWords) (bytes : List ℕ) → AreCut (first_words v) bytes v.z → (w : PieceWords) → IsPieceWords w → bytes ≡ piece_words_text w → v ≡ w
same_words v bytes cuts w p e =
    let same = words_are_found (first_words v) (first_words w) bytes v.z w.z cuts (no_blanks w p) e refl in
    let at : (k : ℕ) → word_at k (first_words v) ≡ word_at k (first_words w) = λ k. ap (word_at k) same.0 in
    λ i. record { name = at 0 i; shape = at 1 i; orientation = at 2 i; x = at 3 i; y = at 4 i; z = same.1 i }

-- the bytes are what was cut off in a row
bytes_in_row : (found : List (List ℕ)) (bytes rest : List ℕ) → AreCut found bytes rest → bytes ≡ in_row found rest
bytes_in_row [] bytes rest cuts = sym cuts
bytes_in_row (front ∷ found) bytes rest cuts = cuts.1.parts ∙ ap (λ (after : List ℕ). front ++ 32 ∷ after) (bytes_in_row found cuts.0 rest cuts.2)

-- a line of the words that were cut off is given just where they are right
pub right_line : (line bytes : List ℕ) (words : PieceLine) (is_right : Bool) → line ≡ codes "piece " ++ bytes → AreCut (first_words (words_of words)) bytes words.z.now → IsTrue is_right ↔ IsPieceWords (words_of words)
    → MatchOption (then_some is_right words) ((w : PieceWords) → ¬ IsLine line (PieceForm w)) (λ words. IsLine line (PieceForm (words_of words)))
right_line line bytes words true is cuts h = (h.0 refl, is ∙ ap (λ (b : List ℕ). codes "piece " ++ b) (bytes_in_row (first_words (words_of words)) bytes words.z.now cuts))
right_line line bytes words false is cuts h = λ w right. let no : false ≡ true = h.1 (subst IsPieceWords (sym (same_words (words_of words) bytes cuts w right.0 (ap (drop 6) (sym is ∙ right.1)))) right.0) in cc
