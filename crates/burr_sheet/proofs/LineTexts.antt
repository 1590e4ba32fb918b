-- The texts of lines: their words, and which line they are of.
use Rattle.std.proofs.Common.{◌≡◌, ◌≢◌, ℕ, zero, suc, ◌+◌, ◌<◌, ◌≤◌, List, [], ◌∷◌, ◌++◌, length, get_or, if◌then◌else◌, Bool, true, false, not, Contains, Option, Some, None, MatchOption, codes, decimal, pos, FitsSigned, w32, refl, sym, ap, subst, ◌∙◌, append_assoc, lit<, arith}
use Rattle.std.specs.Borrow.{Bor}
use Rattle.std.specs.Str.{bytes_eq}
use Rattle.std.proofs.lemmas.Slice.Eq.{bytes_eq-Decides}
use Rattle.std.proofs.lemmas.Int.{ints, fits_signed_from_abs}
use Rattle.std.proofs.lemmas.Fmt.{decimal_injective}
use Rattle.burr_code.specs.declared.limits.TheConstants.{MOST_BUDGET}
use Rattle.burr_voxels.specs.declared.direction.Direction.{Direction}
use Rattle.burr_voxels.specs.declared.direction.Direction.TheVariants.{PlusX, MinusX, PlusY, MinusY, PlusZ, MinusZ}
use Rattle.burr_voxels.specs.Grid.{name_of}
use Rattle.burr_text.specs.Words.{IsCutAt}
use Rattle.burr_text.proofs.Common.Cuts.{Lacks, cut, lacks, contains_cut}
use Rattle.burr_text.proofs.Common.Unended.{AreDigits, decimal_is_digits, lacks_append, lacks_join, lacks_decimal}
use Rattle.burr_text.specs.Names.{IsName}
use Rattle.burr_sheet.specs.Rules.SheetText.{MoveLine, names_from, move_line, motion_count}
use Rattle.burr_sheet.specs.declared.motion_lines.LineWords.{LineWords}
use Rattle.burr_sheet.specs.Views.MotionLines.{ArePlain, AreWordsOf, IsLineOf, ending_text, group_text, words_text}
use Rattle.burr_sheet.proofs.LineWords.{move_line-parts}
use Rattle.burr_sheet.proofs.GroupNames.{AreNames, each_lacks, each_from, one_group, lacks_not}

-- Cuts

-- after a cut of this part, what is left is what stands after it
pub cut_same : (c : ℕ) (text front rest word more : List ℕ) → IsCutAt c text front rest → (¬ Contains word c) → text ≡ word ++ c ∷ more → (front ≡ word) × (rest ≡ more)
cut_same c text front rest word more is plain e = cut c front word rest more (lacks c front is.first) (lacks c word plain) (sym is.parts ∙ e)

-- a text that lacks the byte can't be cut at it
pub no_cut : (c : ℕ) (text word more : List ℕ) → (¬ Contains text c) → text ≢ word ++ c ∷ more
no_cut c text word more none e = none (subst (λ (bytes : List ℕ). Contains bytes c) (sym e) (contains_cut c word more))

-- a list that lacks a byte does not contain it
pub plain_of : (c : ℕ) (bytes : List ℕ) → Lacks c bytes → ¬ Contains bytes c
plain_of c [] h has = absurd (let inside = has.1 in omega arith)
plain_of c (b ∷ bytes) h has = by (plain_of c bytes h.1) has.0 has.1 has.2
  where
    by : (¬ Contains bytes c) → (k : ℕ) → k < length (b ∷ bytes) → get_or (b ∷ bytes) k c ≡ c → ⊥
    by none zero inside e = h.0 e
    by none (suc k) inside e = none (k, omega arith, e)

-- The words of a line

-- digits are no blank
digits_lack : (c : ℕ) → c < 48 → (bytes : List ℕ) → AreDigits bytes → Lacks c bytes
digits_lack c small [] h = tt
digits_lack c small (b ∷ bytes) h = (λ e. let low = h.0.0 in omega arith, digits_lack c small bytes h.1)

pub decimal_lacks_blank : (n : ℕ) → Lacks 32 (decimal n)
decimal_lacks_blank n = digits_lack 32 (lit< tt) (decimal n) (decimal_is_digits n)

group_lacks_blank : (names : List (List ℕ)) (group : ℕ) → AreNames names → Lacks 32 (group_text names group)
group_lacks_blank names group are = lacks_join 32 44 (names_from 0 group names) (λ e. absurd (omega arith)) (each_lacks 32 refl (names_from 0 group names) (each_from IsName 0 group names are.each))

direction_lacks_blank : (d : Direction) → Lacks 32 (name_of d)
direction_lacks_blank PlusX = (λ e. omega arith, (λ e. omega arith, tt))
direction_lacks_blank MinusX = (λ e. omega arith, (λ e. omega arith, tt))
direction_lacks_blank PlusY = (λ e. omega arith, (λ e. omega arith, tt))
direction_lacks_blank MinusY = (λ e. omega arith, (λ e. omega arith, tt))
direction_lacks_blank PlusZ = (λ e. omega arith, (λ e. omega arith, tt))
direction_lacks_blank MinusZ = (λ e. omega arith, (λ e. omega arith, tt))

ending_lacks_end : (units : ℕ) (out : Bool) → Lacks 10 (ending_text units out)
ending_lacks_end units true = lacks_append 10 (decimal units) (32 ∷ codes "out") (lacks_decimal units) (λ e. omega arith, (λ e. omega arith, (λ e. omega arith, (λ e. omega arith, tt))))
ending_lacks_end units false = lacks_decimal units

-- the words of a line are plain
pub words_are_plain : (names : List (List ℕ)) (l : MoveLine) → AreNames names → ArePlain (decimal l.tray) (group_text names l.group) (name_of l.direction) (ending_text l.units l.out)
words_are_plain names l are = record {
  tray = plain_of 32 _ (decimal_lacks_blank l.tray);
  names = plain_of 32 _ (group_lacks_blank names l.group are);
  direction = plain_of 32 _ (direction_lacks_blank l.direction);
  ending = plain_of 10 _ (ending_lacks_end l.units l.out);
}

regroup : (n tray names direction ending after : List ℕ)
    → (n ++ (codes " t" ++ (tray ++ ((32 ∷ (names ++ 32 ∷ [])) ++ ((direction ++ 32 ∷ ending) ++ 10 ∷ []))))) ++ after
    ≡ n ++ (codes " t" ++ (tray ++ 32 ∷ (names ++ 32 ∷ (direction ++ 32 ∷ (ending ++ 10 ∷ after)))))
regroup n tray names direction ending after = simp append_assoc

-- a line and what follows it, by its words
pub line-words : (names : List (List ℕ)) (n : ℕ) (l : MoveLine) (after : List ℕ)
    → move_line names n l ++ after ≡ words_text n (decimal l.tray) (group_text names l.group) (name_of l.direction) (ending_text l.units l.out) after
line-words names n l after =
    ap (λ (bytes : List ℕ). bytes ++ after) (move_line-parts names n l)
    ∙ regroup (decimal n) (decimal l.tray) (group_text names l.group) (name_of l.direction) (ending_text l.units l.out) after

-- One line

-- lists with one front go on alike
same_rest : (a b c : List ℕ) → a ++ b ≡ a ++ c → b ≡ c
same_rest [] b c e = e
same_rest (x ∷ a) b c e = same_rest a b c (let same : a ++ b ≡ a ++ c = cc in same)

-- lines with one text are of the same words
record SameWords (tray names direction ending after other_tray other_names other_direction other_ending other_after : List ℕ) : Type 0 where
  of_tray : tray ≡ other_tray
  of_names : names ≡ other_names
  of_direction : direction ≡ other_direction
  of_ending : ending ≡ other_ending
  of_after : after ≡ other_after

same_words : (n : ℕ) (t p d e a t' p' d' e' a' : List ℕ) → ArePlain t p d e → ArePlain t' p' d' e' → words_text n t p d e a ≡ words_text n t' p' d' e' a' → SameWords t p d e a t' p' d' e' a'
same_words n t p d e a t' p' d' e' a' one other same =
    let in_tray = cut 32 t t' _ _ (lacks 32 t one.tray) (lacks 32 t' other.tray) (same_rest (codes " t") _ _ (same_rest (decimal n) _ _ same)) in
    let in_names = cut 32 p p' _ _ (lacks 32 p one.names) (lacks 32 p' other.names) in_tray.1 in
    let in_direction = cut 32 d d' _ _ (lacks 32 d one.direction) (lacks 32 d' other.direction) in_names.1 in
    let in_ending = cut 10 e e' a a' (lacks 10 e one.ending) (lacks 10 e' other.ending) in_direction.1 in
    record { of_tray = in_tray.0; of_names = in_names.0; of_direction = in_direction.0; of_ending = in_ending.0; of_after = in_ending.1 }

same_direction : (d e : Direction) → name_of d ≡ name_of e → d ≡ e
same_direction d e h = grind arith

-- endings that are written alike are one
same_ending : (u v : ℕ) (out also : Bool) → u ≤ MOST_BUDGET → v ≤ MOST_BUDGET → ending_text u out ≡ ending_text v also → (u ≡ v) × (out ≡ also)
same_ending u v true true small few e = (decimal_injective u v (omega arith) (omega arith) (cut 32 (decimal u) (decimal v) _ _ (decimal_lacks_blank u) (decimal_lacks_blank v) e).0, refl)
same_ending u v false false small few e = (decimal_injective u v (omega arith) (omega arith) e, refl)
same_ending u v true false small few e = absurd (lacks_not 32 (decimal u) (codes "out") (subst (Lacks 32) (sym e) (decimal_lacks_blank v)))
same_ending u v false true small few e = absurd (lacks_not 32 (decimal v) (codes "out") (subst (Lacks 32) e (decimal_lacks_blank u)))

-- a text begins with one line at most
pub one_line : (names : List (List ℕ)) (n : ℕ) (k l : MoveLine) (more after : List ℕ) → AreNames names → IsLineOf (length names) k → IsLineOf (length names) l → move_line names n k ++ more ≡ move_line names n l ++ after
    → (k ≡ l) × (more ≡ after)
one_line names n k l more after are one other e =
    let same = same_words n _ _ _ _ more _ _ _ _ after (words_are_plain names k are) (words_are_plain names l are) (sym (line-words names n k more) ∙ e ∙ line-words names n l after) in
    let tray = let a = one.tray in let b = other.tray in decimal_injective k.tray l.tray (omega arith) (omega arith) same.of_tray in
    let group = one_group names k.group l.group are one.some other.some one.group other.group same.of_names in
    let direction = same_direction k.direction l.direction same.of_direction in
    let ending = same_ending k.units l.units k.out l.out one.units other.units same.of_ending in
    (λ i. record { group = group i; tray = tray i; direction = direction i; units = ending.0 i; out = ending.1 i }, same.of_after)

-- Numbers

-- a count of at most a million fits 32 bits
pub count_fits : (n most : ℕ) → n ≤ most → most ≤ 1000000 → FitsSigned w32 (pos n)
count_fits n most small few = fits_signed_from_abs w32 (pos n) (omega (arith, ints))

-- What follows two fronts

module _ (text first second : List ℕ) where
  pub after_both : (rest : List ℕ) (found : Option (Bor (List ℕ))) → text ≡ first ++ rest → MatchOption found ((more : List ℕ) → rest ≢ second ++ more) (λ more. rest ≡ second ++ more.now)
      → MatchOption found ((more : List ℕ) → text ≢ first ++ (second ++ more)) (λ more. text ≡ first ++ (second ++ more.now))
  after_both rest None is none = λ more e. none more (same_rest first rest (second ++ more) (sym is ∙ e))
  after_both rest (Some more) is some = is ∙ ap (λ (bytes : List ℕ). first ++ bytes) some

-- What follows a line's number, where the text is a line's
pub number_same : (n : ℕ) (text rest tray names direction ending after : List ℕ) → text ≡ decimal n ++ (codes " t" ++ rest) → text ≡ words_text n tray names direction ending after
    → rest ≡ tray ++ 32 ∷ (names ++ 32 ∷ (direction ++ 32 ∷ (ending ++ 10 ∷ after)))
number_same n text rest tray names direction ending after is e = same_rest (codes " t") _ _ (same_rest (decimal n) _ _ (sym is ∙ e))

-- Endings that are none

-- no blank, and no number
pub no_number : (word : List ℕ) → (¬ Contains word 32) → ((n : ℕ) → n ≤ MOST_BUDGET → ¬ (word ≡ decimal n)) → (units : ℕ) (out : Bool) → units ≤ MOST_BUDGET → ¬ (word ≡ ending_text units out)
no_number word plain none units true small e = no_cut 32 word (decimal units) (codes "out") plain e
no_number word plain none units false small e = none units small e

-- a blank, and no number before it, or another word after it
pub no_units : (word front after : List ℕ) → IsCutAt 32 word front after → ((n : ℕ) → n ≤ MOST_BUDGET → after ≡ codes "out" → ¬ (front ≡ decimal n)) → (units : ℕ) (out : Bool) → units ≤ MOST_BUDGET
    → ¬ (word ≡ ending_text units out)
no_units word front after is none units true small e =
    let parts = cut_same 32 word front after (decimal units) (codes "out") is (plain_of 32 _ (decimal_lacks_blank units)) e in
    none units small parts.1 parts.0
no_units word front after is none units false small e = lacks_not 32 front after (subst (Lacks 32) (sym e ∙ is.parts) (decimal_lacks_blank units))

-- lists that a test tells apart are two
pub told_apart : (a b : List ℕ) (differ : Bool) → differ ≡ not (bytes_eq a b) → differ ≡ true → a ≢ b
told_apart a b differ is apart e = never (sym apart ∙ is ∙ ap not ((bytes_eq-Decides a b).1 e))
  where
    never : true ≢ false
    never e = cc

-- The line of words

-- an ending of no steps and no aside is that of no line with a motion
pub no_moves : (word : List ℕ) (units : ℕ) (out : Bool) (l : MoveLine) → word ≡ ending_text units out → units ≤ MOST_BUDGET → units ≡ 0 → out ≡ false → word ≡ ending_text l.units l.out → l.units ≤ MOST_BUDGET → ¬ (0 < motion_count l)
no_moves word units out l is small none none_out e few some =
    let same = same_ending units l.units out l.out small few (sym is ∙ e) in
    still l.units l.out (sym same.0 ∙ none) (sym same.1 ∙ none_out) some
  where
    never : ¬ (true ≡ false)
    never e = cc

    still : (u : ℕ) (o : Bool) → u ≡ 0 → o ≡ false → ¬ (0 < u + (if o then 1 else 0))
    still u true z e some = never e
    still u false z e some = omega arith

-- words that a text was cut into are those of a line that it begins with
pub words_of_line : (names : List (List ℕ)) (n : ℕ) (text : List ℕ) (w : LineWords) (after : List ℕ) (l : MoveLine) (more : List ℕ) → AreNames names → ArePlain w.tray.now w.names.now w.direction.now w.ending.now
    → text ≡ words_text n w.tray.now w.names.now w.direction.now w.ending.now after → text ≡ move_line names n l ++ more → AreWordsOf names w l
words_of_line names n text w after l more are plain is e =
    let same = same_words n _ _ _ _ after _ _ _ _ more plain (words_are_plain names l are) (sym is ∙ e ∙ line-words names n l more) in
    record { tray = same.of_tray; names = same.of_names; direction = same.of_direction; ending = same.of_ending }

-- a text that is cut into the words of a line begins with it
pub line_of_words : (names : List (List ℕ)) (n : ℕ) (text : List ℕ) (w : LineWords) (after : List ℕ) (l : MoveLine) → AreWordsOf names w l → text ≡ words_text n w.tray.now w.names.now w.direction.now w.ending.now after
    → text ≡ move_line names n l ++ after
line_of_words names n text w after l of is = is ∙ (λ i. words_text n (of.tray i) (of.names i) (of.direction i) (of.ending i) after) ∙ sym (line-words names n l after)
