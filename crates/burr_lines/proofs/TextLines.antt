-- The lines of a text, one by one.
use Rattle.std.proofs.Common.{◌≡◌, ◌≢◌, ◌≤◌, ◌<◌, ◌==◌, ◌-◌, ◌+◌, ◌++◌, ◌∷◌, ℕ, zero, suc, List, [], Bool, true, false, Option, Some, None, Contains, if◌then◌else◌, length, get_or, map, slice_get, inl, inr, refl, sym, ap, ◌∙◌, append_assoc, append-nil, arith}
use Rattle.std.specs.Prelude.{ℤ, pos, negsuc, nat_abs, Result, Ok, Err, unwrap_or, FitsSigned}
use Rattle.std.specs.List.{enumerate_from}
use Rattle.std.specs.Fmt.{signed_decimal}
use Rattle.std.specs.Int.{w32, FitsUnsignedBits}
use Rattle.std.specs.Result.{OkIff, result_unwrap_or}
use Rattle.std.proofs.lemmas.Fmt.{signed_decimal_injective}
use Rattle.std.proofs.lemmas.Bool.Decides.{nat_tests}
use Rattle.std.proofs.lemmas.List.{length-append, map-append}
use lib.Signed.{mag}
use Rattle.burr_text.proofs.Common.Cuts.{Lacks, lacks}
use Rattle.burr_text.specs.Numbers.{IsInteger}
use Rattle.burr_text.specs.Words.{IsCutAt}
use Rattle.burr_lines.specs.declared.lines.Line.{Line}
use Rattle.burr_lines.specs.TextLines.{onto_first, text_lines, told, words_of, TellsNumber}

goes_on : (byte : ℕ) (text : List ℕ) → byte ≢ 10 → text_lines (byte ∷ text) ≡ onto_first byte (text_lines text)
goes_on byte text other = ap (λ (ends : Bool). if ends then [] ∷ text_lines text else onto_first byte (text_lines text)) apart
  where
    apart : (byte == 10) ≡ false
    apart = grind (arith, nat_tests)

cut_lines : (line more : List ℕ) → Lacks 10 line → text_lines (line ++ 10 ∷ more) ≡ line ∷ text_lines more
cut_lines [] more lacks = refl
cut_lines (byte ∷ line) more (other, lacks) = goes_on byte (line ++ 10 ∷ more) other ∙ ap (onto_first byte) (cut_lines line more lacks)

alone : (byte : ℕ) (line : List ℕ) → Lacks 10 (byte ∷ line) → text_lines (byte ∷ line) ≡ (byte ∷ line) ∷ []
alone byte [] (other, lacks) = goes_on byte [] other
alone byte (next ∷ line) (other, lacks) = goes_on byte (next ∷ line) other ∙ ap (onto_first byte) (alone next line lacks)

-- the first line, and those after it
pub first_line : (text line more : List ℕ) → IsCutAt 10 text line more → text_lines text ≡ line ∷ text_lines more
first_line text line more cut = ap text_lines cut.parts ∙ cut_lines line more (lacks 10 line cut.first)

-- what has no line feed is one line, if it is anything
pub last_line : (line : List ℕ) → ¬ Contains line 10 → (length line == 0) ≡ false → text_lines line ≡ line ∷ []
last_line [] one some = absurd (grind (arith, nat_tests))
last_line (byte ∷ line) one some = alone byte line (lacks 10 (byte ∷ line) one)

-- no second line follows where there is no line feed
pub no_more_lines : (line : List ℕ) (place : ℕ) → ¬ Contains line 10 → 1 ≤ place → slice_get (text_lines line) place ≡ None
no_more_lines [] place one later = refl
no_more_lines (byte ∷ line) place one later =
    ap (λ (lines : List (List ℕ)). slice_get lines place) (alone byte line (lacks 10 (byte ∷ line) one)) ∙ beyond place later
  where
    beyond : (place : ℕ) → 1 ≤ place → slice_get ((byte ∷ line) ∷ []) place ≡ None
    beyond zero later = absurd (omega arith)
    beyond (suc place) later = refl

-- a line more is passed over
pub passed : (text line more : List ℕ) (n number : ℕ) (wanted : Option (List ℕ)) → IsCutAt 10 text line more → n < number
    → slice_get (text_lines text) (number - n) ≡ wanted → slice_get (text_lines more) (number - (n + 1)) ≡ wanted
passed text line more n number wanted cut within is =
    let next : suc (number - (n + 1)) ≡ number - n = omega arith in
    ap (λ (place : ℕ). slice_get (line ∷ text_lines more) place) next
    ∙ (ap (λ (lines : List (List ℕ)). slice_get lines (number - n)) (sym (first_line text line more cut)) ∙ is)

-- the line that is wanted is the first of these
pub is_first : (text line : List ℕ) (more : List (List ℕ)) (n number : ℕ) (wanted : Option (List ℕ)) → text_lines text ≡ line ∷ more → number ≤ n
    → slice_get (text_lines text) (number - n) ≡ wanted → Some line ≡ wanted
is_first text line more n number wanted lines all is =
    let none : 0 ≡ number - n = omega arith in
    ap (λ (place : ℕ). slice_get (line ∷ more) place) none ∙ (ap (λ (ls : List (List ℕ)). slice_get ls (number - n)) (sym lines) ∙ is)

word_goes_on : (byte : ℕ) (line : List ℕ) → byte ≢ 32 → words_of (byte ∷ line) ≡ onto_first byte (words_of line)
word_goes_on byte line other = ap (λ (ends : Bool). if ends then [] ∷ words_of line else onto_first byte (words_of line)) apart
  where
    apart : (byte == 32) ≡ false
    apart = grind (arith, nat_tests)

cut_words : (word more : List ℕ) → Lacks 32 word → words_of (word ++ 32 ∷ more) ≡ word ∷ words_of more
cut_words [] more lacks = refl
cut_words (byte ∷ word) more (other, lacks) = word_goes_on byte (word ++ 32 ∷ more) other ∙ ap (onto_first byte) (cut_words word more lacks)

word_alone : (word : List ℕ) → Lacks 32 word → words_of word ≡ word ∷ []
word_alone [] lacks = refl
word_alone (byte ∷ word) (other, lacks) = word_goes_on byte word other ∙ ap (onto_first byte) (word_alone word lacks)

first_word : (line word more : List ℕ) → IsCutAt 32 line word more → words_of line ≡ word ∷ words_of more
first_word line word more cut = ap words_of cut.parts ∙ cut_words word more (lacks 32 word cut.first)

-- a word more is passed over
pub word_passed : (line word more : List ℕ) (n place : ℕ) (wanted : List ℕ) → IsCutAt 32 line word more → n < place
    → get_or (words_of line) (place - n) [] ≡ wanted → get_or (words_of more) (place - (n + 1)) [] ≡ wanted
word_passed line word more n place wanted cut within is =
    let next : suc (place - (n + 1)) ≡ place - n = omega arith in
    ap (λ (at : ℕ). get_or (word ∷ words_of more) at []) next
    ∙ (ap (λ (words : List (List ℕ)). get_or words (place - n) []) (sym (first_word line word more cut)) ∙ is)

-- no second word follows where there is no blank
pub no_more_words : (word : List ℕ) (n place : ℕ) (wanted : List ℕ) → ¬ Contains word 32 → n < place → get_or (words_of word) (place - n) [] ≡ wanted → [] ≡ wanted
no_more_words word n place wanted one within is =
    let next : suc (place - (n + 1)) ≡ place - n = omega arith in
    ap (λ (at : ℕ). get_or (word ∷ []) at []) next ∙ (ap (λ (words : List (List ℕ)). get_or words (place - n) []) (sym (word_alone word (lacks 32 word one))) ∙ is)

word_is : (line word : List ℕ) (more : List (List ℕ)) (n place : ℕ) (wanted : List ℕ) → words_of line ≡ word ∷ more → place ≤ n
    → get_or (words_of line) (place - n) [] ≡ wanted → word ≡ wanted
word_is line word more n place wanted words all is =
    let none : 0 ≡ place - n = omega arith in
    ap (λ (at : ℕ). get_or (word ∷ more) at []) none ∙ (ap (λ (ws : List (List ℕ)). get_or ws (place - n) []) (sym words) ∙ is)

-- the word that is wanted is the first of these
pub word_is_first : (line word more : List ℕ) (n place : ℕ) (wanted : List ℕ) → IsCutAt 32 line word more → place ≤ n
    → get_or (words_of line) (place - n) [] ≡ wanted → word ≡ wanted
word_is_first line word more n place wanted cut = word_is line word (words_of more) n place wanted (first_word line word more cut)

-- or the only one
pub word_is_alone : (word : List ℕ) (n place : ℕ) (wanted : List ℕ) → ¬ Contains word 32 → place ≤ n → get_or (words_of word) (place - n) [] ≡ wanted → word ≡ wanted
word_is_alone word n place wanted one = word_is word word [] n place wanted (word_alone word (lacks 32 word one))

-- a line more is told
pub told_more : (before after : List Line) (line : Line) (text more : List ℕ) (all : List (ℕ × List ℕ)) → IsCutAt 10 text line.bytes.now more
    → after ≡ before ++ line ∷ [] → line.number ≡ length before + 1
    → map told before ++ enumerate_from (length before + 1) (text_lines text) ≡ all
    → map told after ++ enumerate_from (length after + 1) (text_lines more) ≡ all
told_more before after line text more all cut is number so_far =
    let n = length before + 1 in
    let rest = enumerate_from (n + 1) (text_lines more) in
    let longer : length (before ++ line ∷ []) + 1 ≡ n + 1 = omega (arith, length-append before (line ∷ [])) in
    ap (λ (lines : List Line). map told lines ++ enumerate_from (length lines + 1) (text_lines more)) is
    ∙ (ap (λ (k : ℕ). map told (before ++ line ∷ []) ++ enumerate_from k (text_lines more)) longer
    ∙ (ap (λ (lines : List (ℕ × List ℕ)). lines ++ rest) (map-append told before (line ∷ []))
    ∙ (append_assoc (map told before) (told line ∷ []) rest
    ∙ (ap (λ (k : ℕ). map told before ++ (k, line.bytes.now) ∷ rest) number
    ∙ (ap (λ (lines : List (List ℕ)). map told before ++ enumerate_from n lines) (sym (first_line text line.bytes.now more cut)) ∙ so_far)))))

-- the last line is told
pub told_last : (before : List Line) (line : Line) (all : List (ℕ × List ℕ)) → ¬ Contains line.bytes.now 10 → (length line.bytes.now == 0) ≡ false
    → line.number ≡ length before + 1 → map told before ++ enumerate_from (length before + 1) (text_lines line.bytes.now) ≡ all → map told (before ++ line ∷ []) ≡ all
told_last before line all one some number so_far =
    map-append told before (line ∷ [])
    ∙ (ap (λ (k : ℕ). map told before ++ (k, line.bytes.now) ∷ []) number
    ∙ (ap (λ (lines : List (List ℕ)). map told before ++ enumerate_from (length before + 1) lines) (sym (last_line line.bytes.now one some)) ∙ so_far))

-- nothing is left to tell
pub told_all : (before : List Line) (rest : List ℕ) (all : List (ℕ × List ℕ)) → (length rest == 0) ≡ true
    → map told before ++ enumerate_from (length before + 1) (text_lines rest) ≡ all → map told before ≡ all
told_all before [] all none so_far = sym (append-nil (map told before)) ∙ so_far
told_all before (byte ∷ rest) all none so_far = absurd (grind (arith, nat_tests))

-- What a word tells, by what comes of it as a number of 32 bits and as one of 8.
pub tells : {E : Type 0} (word : List ℕ) (found : Option ℤ) (z : ℤ) (tried : Result ℕ E) → IsInteger word found → z ≡ unwrap_or found (pos 0) → mag z < 2147483648
    → OkIff tried (FitsUnsignedBits 8 z) (nat_abs z) → TellsNumber word (result_unwrap_or tried 0)
tells word None z (Ok number) none is small (fits, same) = inr (λ other within. none (pos other) (omega (arith, within)), same ∙ ap nat_abs is)
tells word None z (Err e) none is small fits = inr (λ other within. none (pos other) (omega (arith, within)), refl)
tells word (Some n) (pos k) (Ok number) told is small (fits, same) = inl (told ∙ ap signed_decimal (sym is ∙ ap pos (sym same)), omega (arith, fits, same))
tells word (Some n) (pos k) (Err e) told is small unfit = inr (λ other within same. unfit (apart other within same), refl)
  where
    apart : (other : ℕ) → other ≤ 255 → word ≡ signed_decimal (pos other) → k < 256
    apart other within same =
        let one : k ≡ other = ap nat_abs (signed_decimal_injective (pos k) (pos other) (omega (arith, small)) (omega (arith, within)) (ap signed_decimal is ∙ (sym told ∙ same))) in
        omega (arith, one, within)
tells word (Some n) (negsuc k) (Ok number) told is small (fits, same) = absurd fits
tells word (Some n) (negsuc k) (Err e) told is small unfit = inr (λ other within same. apart (signed_decimal_injective (negsuc k) (pos other) (omega (arith, small)) (omega (arith, within)) (ap signed_decimal is ∙ (sym told ∙ same))), refl)
  where
    apart : {other : ℕ} → negsuc k ≡ pos other → ⊥
    apart e = cc

-- a number of 32 bits fits them
pub fits : (z : ℤ) → mag z < 2147483648 → FitsSigned w32 z
fits (pos n) small = omega (arith, small)
fits (negsuc n) small = omega (arith, small)
