-- The labels of a `pick`, counted and tested one by one.
use Rattle.std.proofs.Common.{◌≡◌, ℕ, ◌+◌, ◌≤◌, List, length, Bool, true, false, Contains, refl, sym, ap, ◌∙◌, arith}
use Rattle.std.specs.Prelude.{◌&&◌, nat_le}
use Rattle.std.specs.Bool.{then_some}
use Rattle.std.specs.List.{list_all}
use Rattle.std.proofs.lemmas.Bool.{and_left, and_right, lt-leb}
use Rattle.burr_text.specs.Words.{IsCutAt}
use Rattle.burr_container.specs.Rules.Fitting.{is_name_text}
use Rattle.burr_plantext.specs.Rules.Texts.{words_of}
use Rattle.burr_plantext.proofs.Common.Cuts.{some_pieces, pieces_cut, pieces_uncut, all_cut}
use Rattle.burr_asm.specs.Views.Offers.{are_few_names, AreCounted}

-- how many words there are

pub count_cut : (bytes front rest : List ℕ) → IsCutAt 32 bytes front rest → length (words_of bytes) ≡ length (words_of rest) + 1
count_cut bytes front rest h = let e = ap (λ (ps : List (List ℕ)). length ps) (pieces_cut 32 bytes front rest h) in omega arith

pub count_uncut : (bytes : List ℕ) → ¬ Contains bytes 32 → length (words_of bytes) ≡ 1
count_uncut bytes h = ap (λ (ps : List (List ℕ)). length ps) (pieces_uncut 32 bytes h)

pub some_words : (bytes : List ℕ) → 1 ≤ length (words_of bytes)
some_words bytes = let some = some_pieces 32 bytes in let e = ap (λ (ps : List (List ℕ)). length ps) some.2 in omega arith

-- words that are not at most 8 names

pub too_many : (words : List (List ℕ)) → 9 ≤ length words → are_few_names words ≡ false
too_many words h = and_left (nat_le (length words) 8) (list_all is_name_text words) (lt-leb (length words) 8 (omega arith))

pub not_names : (words : List (List ℕ)) → list_all is_name_text words ≡ false → are_few_names words ≡ false
not_names words e = and_right (nat_le (length words) 8) (list_all is_name_text words) e

-- where the first of the words that are left is no name
pub no_name_next : (bytes rest front more : List ℕ) (t : Bool) → list_all is_name_text (words_of bytes) ≡ list_all is_name_text (words_of rest)
    → IsCutAt 32 rest front more → t ≡ is_name_text front → t ≡ false → are_few_names (words_of bytes) ≡ false
no_name_next bytes rest front more t same h e is =
    not_names (words_of bytes)
    (same ∙ all_cut is_name_text 32 rest front more h ∙ ap (λ (s : Bool). s && list_all is_name_text (words_of more)) (sym e ∙ is))

pub name_next : (rest front more : List ℕ) (t : Bool) → IsCutAt 32 rest front more → t ≡ is_name_text front → t ≡ true
    → list_all is_name_text (words_of rest) ≡ list_all is_name_text (words_of more)
name_next rest front more t h e is = all_cut is_name_text 32 rest front more h ∙ ap (λ (s : Bool). s && list_all is_name_text (words_of more)) (sym e ∙ is)

-- the last word
pub name_last : (words : List (List ℕ)) (t : Bool) (count : ℕ) → t ≡ list_all is_name_text words → length words ≡ count → count ≤ 8 → AreCounted words (then_some t count)
name_last words true count e counted few = (sym e, counted, few)
name_last words false count e counted few = not_names words (sym e)
