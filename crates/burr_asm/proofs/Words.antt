-- Words that the code cuts off are the words of the line.
use Rattle.std.proofs.Common.{◌≡◌, ℕ, List, [], ◌∷◌, Bool, true, false, Contains, refl, sym, ap, ◌∙◌, ◌<◌, length, arith, length-append}
use Rattle.std.specs.Prelude.{Option, Some, None, MatchOption, if◌then◌else◌, slice_index_or}
use Rattle.std.specs.Bool.{then_some}
use Rattle.std.specs.Borrow.{Bor}
use Rattle.burr_text.specs.Words.{IsCutAt}
use Rattle.burr_plantext.specs.Rules.Texts.{first_word, words_of}
use Rattle.burr_plantext.proofs.Common.Cuts.{some_pieces, pieces_cut, pieces_uncut}
use Rattle.burr_asm.specs.Views.Words.{cut_word}

-- what stands after a cut is shorter than the whole
pub cut_shorter : {separator : ℕ} (bytes front rest : List ℕ) → IsCutAt separator bytes front rest → length rest < length bytes
cut_shorter {separator} bytes front rest h =
    omega (arith, ap length h.parts, length-append front (separator ∷ rest))

pub first_cut : (bytes front rest : List ℕ) → IsCutAt 32 bytes front rest → front ≡ first_word bytes
first_cut bytes front rest h = ap (λ (ps : List (List ℕ)). slice_index_or ps 0 []) (sym (pieces_cut 32 bytes front rest h))

pub first_uncut : (bytes : List ℕ) → ¬ Contains bytes 32 → bytes ≡ first_word bytes
first_uncut bytes h = ap (λ (ps : List (List ℕ)). slice_index_or ps 0 []) (sym (pieces_uncut 32 bytes h))

-- what a test of the first word gives
abbrev pub tested : Bool → List ℕ → List ℕ → Option (List ℕ × List (List ℕ))
tested t front rest = if t then Some (front, words_of rest) else None

pub word_cut : (is_so : List ℕ → Bool) (bytes front rest : List ℕ) → IsCutAt 32 bytes front rest → cut_word is_so (words_of bytes) ≡ tested (is_so front) front rest
word_cut is_so bytes front rest h =
    let some = some_pieces 32 rest in
    ap (cut_word is_so) (pieces_cut 32 bytes front rest h ∙ ap (λ (ps : List (List ℕ)). front ∷ ps) some.2)
    ∙ ap (λ (ps : List (List ℕ)). if is_so front then Some (front, ps) else None) (sym some.2)

pub word_passed : (is_so : List ℕ → Bool) (bytes front rest : List ℕ) → IsCutAt 32 bytes front rest → is_so front ≡ true → cut_word is_so (words_of bytes) ≡ Some (front, words_of rest)
word_passed is_so bytes front rest h k = word_cut is_so bytes front rest h ∙ ap (λ (t : Bool). tested t front rest) k

pub word_failed : (is_so : List ℕ → Bool) (bytes front rest : List ℕ) → IsCutAt 32 bytes front rest → is_so front ≡ false → cut_word is_so (words_of bytes) ≡ None
word_failed is_so bytes front rest h k = word_cut is_so bytes front rest h ∙ ap (λ (t : Bool). tested t front rest) k

pub word_alone : (is_so : List ℕ → Bool) (bytes : List ℕ) → ¬ Contains bytes 32 → cut_word is_so (words_of bytes) ≡ None
word_alone is_so bytes h = ap (cut_word is_so) (pieces_uncut 32 bytes h)

-- the word that is so, by a test of it
pub word_found : (is_so : List ℕ → Bool) (t : Bool) (word : Bor (List ℕ)) → t ≡ is_so word.now
    → MatchOption (then_some t word) (is_so word.now ≡ false) (λ w. (is_so word.now ≡ true) × (w.now ≡ word.now))
word_found is_so true word e = (sym e, refl)
word_found is_so false word e = sym e

-- and with the same word in another place
pub front_is : {front word : List ℕ} (rest : List (List ℕ)) → word ≡ front → ◌≡◌ {A = Option (List ℕ × List (List ℕ))} (Some (front, rest)) (Some (word, rest))
front_is rest e = ap (λ (w : List ℕ). Some (w, rest)) (sym e)
