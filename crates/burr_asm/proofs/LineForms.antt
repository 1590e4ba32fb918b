-- Operands of a line, as the code reads them one by one, are those of the line's rule.
use Rattle.std.proofs.Common.{◌≡◌, ◌≢◌, ℕ, List, [], ◌∷◌, ◌++◌, Bool, true, false, IsTrue, Contains, ◌≤◌, drop, refl, sym, ap, subst, ◌∙◌, arith, append-nil}
use Rattle.std.specs.Prelude.{Option, Some, None, codes, ◌+◌, ◌*◌, ◌&&◌, slice_index_or, if◌then◌else◌}
use Rattle.std.specs.List.{list_all}
use Rattle.std.specs.Str.{bytes_eq}
use Rattle.std.proofs.lemmas.Bool.{and_parts, false≢true}
use Rattle.std.proofs.lemmas.Option.{none-some}
use Rattle.std.proofs.lemmas.Slice.Eq.{bytes_eq-Decides}
use Rattle.burr_text.specs.Words.{IsCutAt}
use Rattle.burr_text.proofs.Common.Cuts.{Lacks}
use Rattle.burr_container.specs.Rules.Fitting.{is_name_text}
use Rattle.burr_voxels.specs.Grid.{name_of}
use Rattle.burr_voxels.specs.declared.direction.Direction.{Direction}
use Rattle.burr_voxels.specs.declared.direction.Direction.TheVariants.{PlusX, MinusX, PlusY, MinusY, PlusZ, MinusZ}
use Rattle.burr_plantext.specs.Rules.Operands.{given, alone, one, two, three, along, directed, direction_of}
use Rattle.burr_plantext.specs.Rules.Statements.{Statement, Byte, hex_value, is_hex_digit, raw_byte, bytes_line}
use Rattle.burr_plantext.specs.Rules.Lines.{Line, GripWords, ResultLine, SlotLine, grip_line, result_line, slot_line, head_line, procedure_line, PlaceWords, Apart, On, at_line, piece_line}
use Rattle.burr_plantext.specs.Rules.Texts.{words_of}
use Rattle.burr_plantext.specs.Rules.Written.{in_first, is_number, is_set, is_sign, is_term, is_form, signed, signed_parts, constant_word, term_words}
use Rattle.burr_plantext.proofs.Common.Blanks.{one_word, number_lacks}
use Rattle.burr_plantext.proofs.Common.Cuts.{pieces_cut, pieces_uncut, some_pieces}
use Rattle.burr_plantext.proofs.Common.Pieces.{digits_lack, lacks_both}
use Rattle.burr_asm.specs.Views.LineWords.{range_between, slot_between}
use Rattle.burr_asm.specs.Views.Places.{place_line, three_words}
use Rattle.burr_asm.specs.Views.Words.{cut_word}
use Rattle.burr_asm.proofs.FormWords.{count_digits, natural_digits, term_cut_up}
use Rattle.burr_asm.proofs.Keywords.{by_keys, nothing_said, unlike}

-- Directions

direction_back : (d : Direction) → direction_of (name_of d) ≡ Some d
direction_back PlusX = refl
direction_back _ = refl

pub direction_named : (d : Direction) (word : List ℕ) → name_of d ≡ word → direction_of word ≡ Some d
direction_named d word e = subst (λ (w : List ℕ). direction_of w ≡ Some d) e (direction_back d)

abbrev directions : List (List ℕ × (List (List ℕ) → Option Direction))
directions =
    (codes "+x", alone PlusX) ∷ (codes "-x", alone MinusX) ∷ (codes "+y", alone PlusY)
    ∷ (codes "-y", alone MinusY) ∷ (codes "+z", alone PlusZ) ∷ (codes "-z", alone MinusZ) ∷ []

abbrev names : List (List ℕ)
names = codes "+x" ∷ codes "-x" ∷ codes "+y" ∷ codes "-y" ∷ codes "+z" ∷ codes "-z" ∷ []

pub direction_unnamed : (word : List ℕ) → ((d : Direction) → name_of d ≢ word) → direction_of word ≡ None
direction_unnamed word h =
    nothing_said word names directions []
    (λ e. h PlusX (sym e), (λ e. h MinusX (sym e), (λ e. h PlusY (sym e), (λ e. h MinusY (sym e), (λ e. h PlusZ (sym e), (λ e. h MinusZ (sym e), tt)))))) refl

abbrev is_some : Option Direction → Bool
is_some None = false
is_some (Some d) = true

abbrev is_direction : List ℕ → Bool
is_direction word = is_some (direction_of word)

low_bytes_lack : (a b : ℕ) → 33 ≤ a → 33 ≤ b → Lacks 32 (a ∷ b ∷ [])
low_bytes_lack a b h k = (λ e. omega arith, (λ e. omega arith, tt))

direction_lacks : (word : List ℕ) → IsTrue (is_direction word) → Lacks 32 word
direction_lacks word =
    by_keys (λ w. IsTrue (is_direction w) → Lacks 32 w) names word (
      lack 43 120 (omega arith) (omega arith),
      (
        lack 45 120 (omega arith) (omega arith),
        (
          lack 43 121 (omega arith) (omega arith),
          (lack 45 121 (omega arith) (omega arith), (lack 43 122 (omega arith) (omega arith), (lack 45 122 (omega arith) (omega arith), tt))),
        ),
      ),
    )
    (λ none is. absurd (false≢true (sym (ap is_some (nothing_said word names directions [] none refl)) ∙ is)))
  where
    lack : (a b : ℕ) → 33 ≤ a → 33 ≤ b → IsTrue (is_direction (a ∷ b ∷ [])) → Lacks 32 (a ∷ b ∷ [])
    lack a b h k is = low_bytes_lack a b h k

not_both : {X : Type 0} (x : X) → ◌≡◌ {A = Option X} (Some x) None → ⊥
not_both x e = cc

module _ {A : Type 0} where
  no_direction : (line : Direction → A) (words : List (List ℕ)) → one is_direction (λ w. w) words ≡ None → directed (λ d. alone (line d)) words ≡ None
  no_direction line [] e = refl
  no_direction line (word ∷ []) e = grind (arith, e)
  no_direction line (word ∷ next ∷ words) e = grind arith

  -- a direction that is all of the bytes
  pub step_failed : (line : Direction → A) (bytes : List ℕ) → ((d : Direction) → name_of d ≢ bytes) → directed (λ d. alone (line d)) (words_of bytes) ≡ None
  step_failed line bytes h =
      no_direction line (words_of bytes)
      (one_word is_direction direction_lacks (λ w. w) bytes ∙ ap (λ (found : Option Direction). given (is_some found) bytes) (direction_unnamed bytes h))

  pub step_passed : (line : Direction → A) (bytes : List ℕ) (d : Direction) → name_of d ≡ bytes → directed (λ d. alone (line d)) (words_of bytes) ≡ Some (line d)
  step_passed line bytes d e = subst (λ (w : List ℕ). directed (λ d. alone (line d)) (words_of w) ≡ Some (line d)) e (named d)
    where
      named : (d : Direction) → directed (λ d. alone (line d)) (words_of (name_of d)) ≡ Some (line d)
      named PlusX = refl
      named MinusX = refl
      named PlusY = refl
      named MinusY = refl
      named PlusZ = refl
      named MinusZ = refl

  -- a direction that is cut off
  pub directed_uncut : (line : Direction → List (List ℕ) → Option A) (bytes : List ℕ) → ¬ Contains bytes 32 → ((d : Direction) → line d [] ≡ None) → directed line (words_of bytes) ≡ None
  directed_uncut line bytes h alone = ap (directed line) (pieces_uncut 32 bytes h) ∙ by (direction_of bytes)
    where
      by : (found : Option Direction) → along found line [] ≡ None
      by None = refl
      by (Some d) = alone d

  pub directed_failed : (line : Direction → List (List ℕ) → Option A) (bytes front rest : List ℕ) → IsCutAt 32 bytes front rest → ((d : Direction) → name_of d ≢ front) → directed line (words_of bytes) ≡ None
  directed_failed line bytes front rest h none =
      ap (directed line) (pieces_cut 32 bytes front rest h) ∙ ap (λ (found : Option Direction). along found line (words_of rest)) (direction_unnamed front none)

  pub directed_passed : (line : Direction → List (List ℕ) → Option A) (bytes front rest : List ℕ) (d : Direction) → IsCutAt 32 bytes front rest → name_of d ≡ front → directed line (words_of bytes) ≡ line d (words_of rest)
  directed_passed line bytes front rest d h is =
      ap (directed line) (pieces_cut 32 bytes front rest h) ∙ ap (λ (found : Option Direction). along found line (words_of rest)) (direction_named d front is)

-- Raw bytes

no_blank : (b : ℕ) → is_hex_digit b ≡ true → b ≢ 32
no_blank b h e = false≢true (subst (λ (x : ℕ). is_hex_digit x ≡ true) e h)

abbrev is_byte : Option Statement → Bool
is_byte None = false
is_byte (Some s) = true

byte_lacks : (word : List ℕ) → IsTrue (is_byte (raw_byte word)) → Lacks 32 word
byte_lacks [] h = tt
byte_lacks (a ∷ []) h = absurd (false≢true h)
byte_lacks (a ∷ b ∷ []) h = by (is_hex_digit a) (is_hex_digit b) refl refl h
  where
    by : (s t : Bool) → is_hex_digit a ≡ s → is_hex_digit b ≡ t → IsTrue (is_byte (given (s && t) (Byte (16 * hex_value a + hex_value b)))) → Lacks 32 (a ∷ b ∷ [])
    by true true e f h = (no_blank a e, (no_blank b f, tt))
    by true false e f h = absurd (false≢true h)
    by false t e f h = absurd (false≢true h)
byte_lacks (a ∷ b ∷ c ∷ word) h = absurd (false≢true h)

pub byte_failed : (bytes : List ℕ) → raw_byte bytes ≡ None → bytes_line (words_of bytes) ≡ None
byte_failed bytes e =
    no_byte (words_of bytes)
    (one_word (λ w. is_byte (raw_byte w)) byte_lacks (λ w. w) bytes ∙ ap (λ (found : Option Statement). given (is_byte found) bytes) e)
  where
    no_byte : (words : List (List ℕ)) → one (λ w. is_byte (raw_byte w)) (λ w. w) words ≡ None → bytes_line words ≡ None
    no_byte [] e = refl
    no_byte (word ∷ []) e = grind (arith, e)
    no_byte (word ∷ next ∷ words) e = refl

-- Forms

-- a term, whose first byte is a sign
term_lacks : (b : ℕ) (p : List ℕ) → is_sign b ≡ true → IsTrue (is_term (b ∷ p)) → Lacks 32 (b ∷ p)
term_lacks b p sign h =
    let (digits, slot, term) = term_cut_up b p [] sign tt h in
    let whole : b ∷ p ≡ b ∷ (digits ++ (118 ∷ slot)) = ap (λ (w : List ℕ). b ∷ w) (sym (append-nil p)) ∙ term.parts ∙ ap (λ (w : List ℕ). b ∷ (digits ++ (118 ∷ w))) (append-nil slot) in
    subst (Lacks 32) (sym whole)
    (λ e. false≢true (sym (ap is_sign e) ∙ sign), lacks_both 32 digits (118 ∷ slot) (digits_lack 32 digits refl (count_digits digits term.count)) (λ e. omega arith, digits_lack 32 slot refl (natural_digits slot term.natural)))

parts_lack : (w : List ℕ) → Lacks 32 (slice_index_or (signed_parts w) 0 []) → IsTrue (list_all is_term (drop 1 (signed_parts w))) → Lacks 32 w
parts_lack [] h k = tt
parts_lack (b ∷ w) h k = by (is_sign b) refl (signed_parts w) h k (parts_lack w)
  where
    by : (t : Bool) → is_sign b ≡ t → (ps : List (List ℕ)) → Lacks 32 (slice_index_or (signed t b ps) 0 []) → IsTrue (list_all is_term (drop 1 (signed t b ps)))
        → (Lacks 32 (slice_index_or ps 0 []) → IsTrue (list_all is_term (drop 1 ps)) → Lacks 32 w) → Lacks 32 (b ∷ w)
    by true e [] h k more =
        let first = term_lacks b [] e (and_parts (is_term (b ∷ [])) true k).0 in (first.0, more tt refl)
    by true e (p ∷ ps) h k more =
        let parts = and_parts (is_term (b ∷ p)) (list_all is_term ps) k in
        let first = term_lacks b p e parts.0 in
        (first.0, more first.1 parts.1)
    by false e [] h k more = (h.0, more tt refl)
    by false e (p ∷ ps) h k more = (h.0, more h.1 k)

-- A form has no blank.
pub form_lacks : (w : List ℕ) → IsTrue (is_form w) → Lacks 32 w
form_lacks [] h = tt
form_lacks (b ∷ w) h =
    let parts = and_parts (is_number (constant_word (b ∷ w))) (list_all is_term (term_words (b ∷ w))) h in
    by (signed_parts w) (number_lacks (constant_word (b ∷ w)) parts.0) parts.1 (parts_lack w)
  where
    by : (ps : List (List ℕ)) → Lacks 32 (slice_index_or (in_first b ps) 0 []) → IsTrue (list_all is_term (drop 1 (in_first b ps)))
        → (Lacks 32 (slice_index_or ps 0 []) → IsTrue (list_all is_term (drop 1 ps)) → Lacks 32 w) → Lacks 32 (b ∷ w)
    by [] h k more = (h.0, more tt refl)
    by (p ∷ ps) h k more = (h.0, more h.1 k)

-- Lines

-- what is made of what was found
abbrev pub mapped : {A B : Type 0} → (A → B) → Option A → Option B
mapped f None = None
mapped f (Some x) = Some (f x)

module _ {A B : Type 0} (f : A → B) where
  given_mapped : (t : Bool) (line : A) → given t (f line) ≡ mapped f (given t line)
  given_mapped true line = refl
  given_mapped false line = refl

  one_mapped : (is_so : List ℕ → Bool) (line : List ℕ → A) (words : List (List ℕ)) → one is_so (λ w. f (line w)) words ≡ mapped f (one is_so line words)
  one_mapped is_so line [] = refl
  one_mapped is_so line (word ∷ []) = given_mapped (is_so word) (line word)
  one_mapped is_so line (word ∷ next ∷ words) = refl

  pub two_mapped : (is_so is_also : List ℕ → Bool) (line : List ℕ → List ℕ → A) (words : List (List ℕ)) → two is_so is_also (λ v w. f (line v w)) words ≡ mapped f (two is_so is_also line words)
  two_mapped is_so is_also line [] = refl
  two_mapped is_so is_also line (word ∷ words) = one_mapped is_also (line word) (if is_so word then words else [])

  pub three_mapped : (is_so is_also is_last : List ℕ → Bool) (line : List ℕ → List ℕ → List ℕ → A) (words : List (List ℕ))
      → three is_so is_also is_last (λ u v w. f (line u v w)) words ≡ mapped f (three is_so is_also is_last line words)
  three_mapped is_so is_also is_last line [] = refl
  three_mapped is_so is_also is_last line (word ∷ words) = two_mapped is_also is_last (line word) (if is_so word then words else [])

-- what was cut off, and that the test holds of it
cut_is : (t : Bool) (word first : List ℕ) (more rest : List (List ℕ)) → ◌≡◌ {A = Option (List ℕ × List (List ℕ))} (if t then Some (word, more) else None) (Some (first, rest)) → (t ≡ true) × (word ≡ first) × (more ≡ rest)
cut_is true word first more rest e = (refl, grind (arith, e), grind (arith, e))
cut_is false word first more rest e = grind (arith, e)

-- the number or numbers after a procedure's name
abbrev pub numbers_line : List ℕ → List (List ℕ) → Option Line
numbers_line name (parameters ∷ []) = given (is_number parameters) (head_line name parameters None)
numbers_line name (parameters ∷ results ∷ []) = given (is_number parameters && is_number results) (head_line name parameters (Some results))
numbers_line name words = None

-- no name with a word after it
pub procedure_none : (words : List (List ℕ)) → cut_word is_name_text words ≡ None → procedure_line words ≡ None
procedure_none (name ∷ parameters ∷ []) e = grind (arith, e)
procedure_none (name ∷ parameters ∷ results ∷ []) e = grind (arith, e)
procedure_none _ e = refl

pub procedure_named : (words : List (List ℕ)) (name : List ℕ) (rest : List (List ℕ)) → cut_word is_name_text words ≡ Some (name, rest) → procedure_line words ≡ numbers_line name rest
procedure_named (word ∷ next ∷ []) name rest e =
    let (is, first, others) = cut_is (is_name_text word) word name (next ∷ []) rest e in
    ap (λ (t : Bool). given (t && is_number next) (head_line word next None)) is ∙ (λ i. numbers_line (first i) (others i))
procedure_named (word ∷ next ∷ other ∷ []) name rest e =
    let (is, first, others) = cut_is (is_name_text word) word name (next ∷ other ∷ []) rest e in
    ap (λ (t : Bool). given (t && is_number next && is_number other) (head_line word next (Some other))) is ∙ (λ i. numbers_line (first i) (others i))
procedure_named (word ∷ next ∷ other ∷ third ∷ more) name rest e = ap (numbers_line name) (cut_is (is_name_text word) word name (next ∷ other ∷ third ∷ more) rest e).2
procedure_named (word ∷ []) name rest e = absurd (none-some (name, rest) e)
procedure_named [] name rest e = absurd (none-some (name, rest) e)

pub numbers_both : (name : List ℕ) (words : List (List ℕ)) (parameters : List ℕ) (rest : List (List ℕ)) → cut_word is_number words ≡ Some (parameters, rest)
    → numbers_line name words ≡ one is_number (λ results. head_line name parameters (Some results)) rest
numbers_both name (word ∷ next ∷ []) parameters rest e =
    let (is, first, others) = cut_is (is_number word) word parameters (next ∷ []) rest e in
    ap (λ (t : Bool). given (t && is_number next) (head_line name word (Some next))) is ∙ (λ i. one is_number (λ results. head_line name (first i) (Some results)) (others i))
numbers_both name _ parameters rest e = grind (arith, e)

pub numbers_one : (name : List ℕ) (words : List (List ℕ)) → cut_word is_number words ≡ None → numbers_line name words ≡ one is_number (λ parameters. head_line name parameters None) words
numbers_one name (word ∷ next ∷ []) e = grind (arith, e)
numbers_one name _ e = refl

-- Places

-- the place in a tray with these forms
abbrev pub on : List ℕ → List ℕ × List ℕ × List ℕ → PlaceWords
on tray forms = On tray forms.0 forms.1 forms.2

abbrev pub three_forms : List (List ℕ) → Option (List ℕ × List ℕ × List ℕ)
three_forms words = three is_form is_form is_form three_words words

three_is : {A : Type 0} (is_so is_also is_last : List ℕ → Bool) (line : List ℕ → List ℕ → List ℕ → A) (x y z : List ℕ) → three is_so is_also is_last line (x ∷ y ∷ z ∷ []) ≡ given (is_so x && is_also y && is_last z) (line x y z)
three_is is_so is_also is_last line x y z = grind arith

-- two words are too few
three_of_two : {A : Type 0} (is_so is_also is_last : List ℕ → Bool) (line : List ℕ → List ℕ → List ℕ → A) (x y : List ℕ) → three is_so is_also is_last line (x ∷ y ∷ []) ≡ None
three_of_two is_so is_also is_last line x y = grind arith

-- and four too many
three_of_four : {A : Type 0} (is_so is_also is_last : List ℕ → Bool) (line : List ℕ → List ℕ → List ℕ → A) (x y z next : List ℕ) (more : List (List ℕ))
    → three is_so is_also is_last line (x ∷ y ∷ z ∷ next ∷ more) ≡ None
three_of_four is_so is_also is_last line x y z next more = grind arith

pub place_cut : (words : List (List ℕ)) (tray : List ℕ) (rest : List (List ℕ)) → cut_word is_number words ≡ Some (tray, rest) → place_line words ≡ mapped (on tray) (three_forms rest)
place_cut (word ∷ next ∷ []) tray rest e = grind (arith, e)
place_cut (word ∷ next ∷ y ∷ []) tray rest e =
    ap (mapped (on tray)) (sym (three_of_two is_form is_form is_form three_words next y))
    ∙ ap (λ (ws : List (List ℕ)). mapped (on tray) (three_forms ws)) (cut_is (is_number word) word tray (next ∷ y ∷ []) rest e).2
place_cut (word ∷ next ∷ y ∷ z ∷ []) tray rest e =
    let (is, first, others) = cut_is (is_number word) word tray (next ∷ y ∷ z ∷ []) rest e in
    ap (λ (t : Bool). given (t && is_form next && is_form y && is_form z) (On word next y z)) is ∙ forms word next y z ∙ (λ i. mapped (on (first i)) (three_forms (others i)))
  where
    forms : (word x y z : List ℕ) → given (is_form x && is_form y && is_form z) (On word x y z) ≡ mapped (on word) (three_forms (x ∷ y ∷ z ∷ []))
    forms word x y z = given_mapped (on word) (is_form x && is_form y && is_form z) (x, y, z) ∙ ap (mapped (on word)) (sym (three_is is_form is_form is_form three_words x y z))
place_cut (word ∷ next ∷ y ∷ z ∷ other ∷ more) tray rest e =
    ap (mapped (on tray)) (sym (three_of_four is_form is_form is_form three_words next y z other more))
    ∙ ap (λ (ws : List (List ℕ)). mapped (on tray) (three_forms ws)) (cut_is (is_number word) word tray (next ∷ y ∷ z ∷ other ∷ more) rest e).2
place_cut (word ∷ []) tray rest e = absurd (none-some (tray, rest) e)
place_cut [] tray rest e = absurd (none-some (tray, rest) e)

-- neither `apart` nor a number with others after it
pub place_none : (bytes : List ℕ) → bytes ≢ codes "apart" → cut_word is_number (words_of bytes) ≡ None → place_line (words_of bytes) ≡ None
place_none bytes differs e =
    by (words_of bytes)
    (one_word is_apart apart_lacks (λ w. w) bytes ∙ ap (λ (t : Bool). given t bytes) (unlike bytes (codes "apart") differs)) e
  where
    is_apart : List ℕ → Bool
    is_apart word = bytes_eq word (codes "apart")

    apart_lacks : (word : List ℕ) → IsTrue (is_apart word) → Lacks 32 word
    apart_lacks word h =
        subst (Lacks 32) (sym ((bytes_eq-Decides word (codes "apart")).0 h))
        (λ e. omega (arith, e), (λ e. omega (arith, e), (λ e. omega (arith, e), (λ e. omega (arith, e), (λ e. omega (arith, e), tt)))))

    by : (words : List (List ℕ)) → one is_apart (λ w. w) words ≡ None → cut_word is_number words ≡ None → place_line words ≡ None
    by (word ∷ []) none e = grind (arith, none)
    by (tray ∷ x ∷ y ∷ z ∷ []) none e = grind (arith, e)
    by _ none e = refl

-- no number with a word after it
pub piece_none : (words : List (List ℕ)) → cut_word is_number words ≡ None → piece_line words ≡ None
piece_none (piece ∷ word ∷ []) e = grind (arith, e)
piece_none (piece ∷ tray ∷ x ∷ y ∷ z ∷ []) e = grind (arith, e)
piece_none _ e = refl

-- a piece's number, and its place
pub piece_cut : (words : List (List ℕ)) (piece : List ℕ) (rest : List (List ℕ)) → cut_word is_number words ≡ Some (piece, rest) → piece_line words ≡ mapped (at_line piece) (place_line rest)
piece_cut (word ∷ next ∷ []) piece rest e = grind (arith, e)
piece_cut (word ∷ next ∷ x ∷ y ∷ z ∷ []) piece rest e =
    let (is, first, others) = cut_is (is_number word) word piece (next ∷ x ∷ y ∷ z ∷ []) rest e in
    ap (λ (t : Bool). given (t && is_number next && is_form x && is_form y && is_form z) (at_line word (On next x y z))) is
    ∙ given_mapped (at_line word) (is_number next && is_form x && is_form y && is_form z) (On next x y z) ∙ (λ i. mapped (at_line (first i)) (place_line (others i)))
piece_cut _ piece rest e = grind (arith, e)

-- Lines whose words are read by a function of their own

pub grip_mapped : (line : GripWords → Line) (words : List (List ℕ)) → grip_line line words ≡ mapped line (grip_line (λ g. g) words)
grip_mapped line words = two_mapped line is_number is_set (λ tray set. record { tray = tray; set = set }) words

pub result_mapped : (words : List (List ℕ)) → result_line words ≡ mapped ResultLine (two is_number is_number range_between words)
result_mapped words = two_mapped ResultLine is_number is_number range_between words

pub slot_mapped : (words : List (List ℕ)) → slot_line words ≡ mapped SlotLine (three is_number is_number is_number slot_between words)
slot_mapped words = three_mapped SlotLine is_number is_number is_number slot_between words
