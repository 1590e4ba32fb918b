-- Lines that are written are read again.
use Rattle.std.proofs.Common.{◌≡◌, ℕ, ◌<◌, List, [], ◌∷◌, ◌++◌, map, Bool, false, IsTrue, refl, ap, ◌∙◌, arith, leb-true, nat_le, Option, Some, if◌then◌else◌}
use Rattle.std.specs.List.{list_all, join_with_byte, flat_map}
use Rattle.std.proofs.lemmas.Bool.{and_parts}
use Rattle.burr_plantext.specs.Rules.Written.{pieces}
use Rattle.burr_plantext.specs.Rules.Lines.{Line, line_of}
use Rattle.burr_plantext.specs.Rules.Texts.{Reads, is_skipped, first_word, read_if, ended_line, lines_read}
use Rattle.burr_text.proofs.Common.Cuts.{Lacks}
use Rattle.burr_plantext.specs.Rules.Writing.{line_words, text_of}
use Rattle.burr_plantext.proofs.Common.Pieces.{AllLack, joined_pieces, one_piece, lacks_joined}
use Rattle.burr_plantext.proofs.ReadLines.{ended, ended_read}

-- Dark bytes: neither a blank nor the end of a line

abbrev pub is_visible : List ℕ → Bool
is_visible word = list_all (λ b. nat_le 33 b) word

visible_lacks : (c : ℕ) (word : List ℕ) → c < 33 → IsTrue (is_visible word) → Lacks c word
visible_lacks c [] each h = tt
visible_lacks c (b ∷ word) each h =
    let parts = and_parts (nat_le 33 b) (is_visible word) h in
    (λ e. let low = leb-true 33 b parts.0 in omega (arith, e, low), visible_lacks c word each parts.1)

all_visible_lack : (c : ℕ) (words : List (List ℕ)) → c < 33 → IsTrue (list_all is_visible words) → AllLack c words
all_visible_lack c [] each h = tt
all_visible_lack c (w ∷ words) each h = let parts = and_parts (is_visible w) (list_all is_visible words) h in (visible_lacks c w each parts.0, all_visible_lack c words each parts.1)

-- Lines

-- the line is read again
pub record IsFormed (l : Line) : Type 0 where
  pub reads : line_of (line_words l) ≡ Some l
  pub visible : IsTrue (list_all is_visible (line_words l))
  pub not_skipped : is_skipped (join_with_byte 32 (line_words l)) ≡ false

abbrev pub AllFormed : List Line → Type 0
AllFormed [] = Unit {0}
AllFormed (l ∷ lines) = IsFormed l × AllFormed lines

pub formed_both : (xs ys : List Line) → AllFormed xs → AllFormed ys → AllFormed (xs ++ ys)
formed_both [] ys p q = q
formed_both (x ∷ xs) ys p q = (p.0, formed_both xs ys p.1 q)

words_back_by : (l : Line) (ws : List (List ℕ)) → line_of ws ≡ Some l → IsTrue (list_all is_visible ws) → pieces 32 (join_with_byte 32 ws) ≡ ws
words_back_by l [] e visible = cc
words_back_by l (w ∷ ws) e visible = joined_pieces 32 w ws (all_visible_lack 32 (w ∷ ws) (omega arith) visible)

formed_line : (l : Line) → IsFormed l → ended_line (join_with_byte 32 (line_words l)) ≡ Reads l
formed_line l h =
    ap (λ (o : Option Line). read_if (first_word (join_with_byte 32 (line_words l))) o)
    (ap line_of (words_back_by l (line_words l) h.reads h.visible) ∙ h.reads)

-- The text of lines is read as these lines.
pub text_read : (lines : List Line) → AllFormed lines → lines_read (text_of lines) ≡ map Reads lines
text_read [] h = refl
text_read (l ∷ lines) h =
    let line = join_with_byte 32 (line_words l) in
    let rest = lines_read (text_of lines) in
    let lacks = lacks_joined 10 32 (line_words l) (λ e. omega (arith, e)) (all_visible_lack 10 (line_words l) (omega arith) h.0.visible) in
    ended_read line (text_of lines)
    ∙ ap (λ (ps : List (List ℕ)). flat_map ended ps ++ rest) (one_piece 10 line lacks)
    ∙ ap (λ (t : Bool). ((if t then [] else ended_line line ∷ []) ++ []) ++ rest) h.0.not_skipped
    ∙ (λ i. formed_line l h.0 i ∷ text_read lines h.1 i)
