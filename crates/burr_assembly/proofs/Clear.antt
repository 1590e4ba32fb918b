-- The bytes of a line hold no end of a line, and names are words.
use Rattle.std.proofs.Common.{◌≡◌, ◌≢◌, ℕ, ◌≤◌, Bool, true, false, not, ◌&&◌, ◌==◌, IsTrue, nat_le, List, [], ◌∷◌, ◌++◌, codes, All, refl, sym, subst, arith, inl, inr}
use Rattle.std.specs.List.{list_all, join_with_byte}
use Rattle.std.proofs.lemmas.List.Elements.{All-nil, All-cons, All-append, All-weaker, All-contains}
use Rattle.std.proofs.lemmas.Bool.Decides.{nat_tests}
use Rattle.burr_voxels.specs.declared.direction.Direction.{Direction}
use Rattle.burr_voxels.specs.declared.direction.Direction.TheVariants.{PlusX, MinusX, PlusY, MinusY, PlusZ, MinusZ}
use Rattle.burr_voxels.specs.Grid.{name_of}
use Rattle.burr_text.specs.Names.{IsName, is_name_byte, is_letter}
use Rattle.burr_assembly.specs.Rules.Text.{IsMark, Turn, turn_name}
use Rattle.burr_assembly.specs.Rules.Lines.{LineForm, AssemblyLine, ShapeLine, LayerLine, RowLine, EndLine, PieceLine, form_text, IsLineForm}
use Rattle.burr_text.specs.Words.{IsWord}
use Rattle.burr_text.specs.Numbers.{IsCount, IsNumber}
use Rattle.burr_text.specs.Lines.{IsUnended}

-- a byte that is no end of a line
abbrev pub IsClear : ℕ → Type 0
IsClear b = b ≢ 10

-- a printable byte that is no blank
abbrev pub IsInk : ℕ → Type 0
IsInk b = (33 ≤ b) × (b ≤ 126)

-- where no byte ends a line, the bytes have no end of a line
unended : (bytes : List ℕ) → All IsClear bytes → IsUnended bytes
unended bytes clear has = All-contains IsClear bytes 10 clear has refl

-- both of two tests that pass together pass
both_true : (a b : Bool) → IsTrue (a && b) → IsTrue a × IsTrue b
both_true true b h = (refl, h)
both_true false b h = cc

-- what passes a test holds of each
pub each_passes : (p : ℕ → Bool) (P : ℕ → Type 0) → ((b : ℕ) → IsTrue (p b) → P b) → (bytes : List ℕ) → IsTrue (list_all p bytes) → All P bytes
each_passes p P tells [] h = All-nil P
each_passes p P tells (b ∷ bytes) h = let both = both_true (p b) (list_all p bytes) h in All-cons P b bytes (tells b both.0) (each_passes p P tells bytes both.1)

-- the test of it
abbrev is_clear : ℕ → Bool
is_clear b = not (b == 10)

-- a byte that passes the test ends no line
clear_byte : (b : ℕ) → IsTrue (is_clear b) → IsClear b
clear_byte b h e = grind (arith, nat_tests)

-- a keyword
clear_word : (bytes : List ℕ) → IsTrue (list_all is_clear bytes) → All IsClear bytes
clear_word = each_passes is_clear IsClear clear_byte

-- a printable byte ends no line
ink_clear : (b : ℕ) → IsInk b → IsClear b
ink_clear b ink e = omega arith

-- words hold no end of a line
clear_ink : (bytes : List ℕ) → All IsInk bytes → All IsClear bytes
clear_ink = All-weaker IsInk IsClear ink_clear

-- a mark ends no line
mark_clear : (b : ℕ) → IsMark b → IsClear b
mark_clear b (inl e) = λ f. omega arith
mark_clear b (inr e) = λ f. omega arith

-- Numbers

-- a digit
abbrev IsDigit : ℕ → Type 0
IsDigit b = (48 ≤ b) × (b ≤ 57)

-- a digit ends no line
digit_clear : (b : ℕ) → IsDigit b → IsClear b
digit_clear b digit e = omega arith

-- a count holds no end of a line
count_clear : (bytes : List ℕ) → IsCount bytes → All IsClear bytes
count_clear bytes count = All-weaker IsDigit IsClear digit_clear bytes count.digits

-- a minus ends no line
minus_clear : IsClear 45
minus_clear e = omega arith

-- a number holds no end of a line
clear_number : (bytes : List ℕ) → IsNumber bytes → All IsClear bytes
clear_number bytes (inl e) = subst (All IsClear) (sym e) (clear_word (codes "0") refl)
clear_number bytes (inr (inl count)) = count_clear bytes count
clear_number bytes (inr (inr (rest, e, count))) = subst (All IsClear) (sym e) (All-cons IsClear 45 rest minus_clear (count_clear rest count))

-- words with blanks between them hold no end of a line
clear_joined : (word : List ℕ) (words : List (List ℕ)) → All IsClear word → All IsClear (join_with_byte 32 words) → All IsClear (join_with_byte 32 (word ∷ words))
clear_joined word [] clear rest = clear
clear_joined word (next ∷ words) clear rest = All-append IsClear word (32 ∷ join_with_byte 32 (next ∷ words)) clear (All-cons IsClear 32 (join_with_byte 32 (next ∷ words)) (λ e. omega arith) rest)

-- no byte of a line of a form ends a line
clear_form : (form : LineForm) → IsLineForm form → All IsClear (form_text form)
clear_form (AssemblyLine name) is = clear_joined (codes "assembly") (name ∷ []) (clear_word (codes "assembly") refl) (clear_ink name is.1)
clear_form (ShapeLine name) is = clear_joined (codes "shape") (name ∷ []) (clear_word (codes "shape") refl) (clear_ink name is.1)
clear_form LayerLine is = clear_word (codes "layer") refl
clear_form (RowLine marks) is = All-weaker IsMark IsClear mark_clear marks is.1
clear_form EndLine is = clear_word (codes "end") refl
clear_form (PieceLine w) is =
    clear_joined (codes "piece") (w.name ∷ w.shape ∷ w.orientation ∷ w.x ∷ w.y ∷ w.z ∷ []) (clear_word (codes "piece") refl)
    (clear_joined w.name (w.shape ∷ w.orientation ∷ w.x ∷ w.y ∷ w.z ∷ []) (clear_ink w.name is.name.1)
    (clear_joined w.shape (w.orientation ∷ w.x ∷ w.y ∷ w.z ∷ []) (clear_ink w.shape is.shape.1)
    (clear_joined w.orientation (w.x ∷ w.y ∷ w.z ∷ []) (clear_ink w.orientation is.orientation.1)
    (clear_joined w.x (w.y ∷ w.z ∷ []) (clear_number w.x is.x)
    (clear_joined w.y (w.z ∷ []) (clear_number w.y is.y) (clear_number w.z is.z))))))

-- a line of a form holds no end of a line
pub unended_form : (form : LineForm) → IsLineForm form → IsUnended (form_text form)
unended_form form is = unended (form_text form) (clear_form form is)

-- Names

-- a byte of a name is printable and no blank
name_ink : (b : ℕ) → IsTrue (is_name_byte b) → IsInk b
name_ink b h = grind (arith, nat_tests)

-- the byte 0 is no letter
letter_zero : ¬ IsTrue (is_letter 0)
letter_zero h = cc

-- no name is empty
no_letter_first : (bytes : List ℕ) → bytes ≡ [] → ¬ IsName bytes
no_letter_first bytes e name = letter_zero (rw e at name.first)

-- a name is a word
pub word_of_name : (bytes : List ℕ) → IsName bytes → IsWord bytes
word_of_name bytes name = (λ e. no_letter_first bytes e name, each_passes is_name_byte IsInk name_ink bytes name.each)

-- the test of a printable byte that is no blank
abbrev is_ink : ℕ → Bool
is_ink b = nat_le 33 b && nat_le b 126

-- a byte that passes it is one
ink_byte : (b : ℕ) → IsTrue (is_ink b) → IsInk b
ink_byte b h = grind (arith, nat_tests)

-- bytes that pass it are such bytes
ink_word : (bytes : List ℕ) → IsTrue (list_all is_ink bytes) → All IsInk bytes
ink_word = each_passes is_ink IsInk ink_byte

-- the name of a direction is of such bytes
axis_ink : (d : Direction) → All IsInk (name_of d)
axis_ink PlusX = ink_word (name_of PlusX) refl
axis_ink MinusX = ink_word (name_of MinusX) refl
axis_ink PlusY = ink_word (name_of PlusY) refl
axis_ink MinusY = ink_word (name_of MinusY) refl
axis_ink PlusZ = ink_word (name_of PlusZ) refl
axis_ink MinusZ = ink_word (name_of MinusZ) refl

-- the name of an orientation is not empty
some_first : (d : Direction) (rest : List ℕ) → name_of d ++ rest ≢ []
some_first PlusX rest e = cc
some_first MinusX rest e = cc
some_first PlusY rest e = cc
some_first MinusY rest e = cc
some_first PlusZ rest e = cc
some_first MinusZ rest e = cc

-- the name of an orientation is a word
pub word_of_turn : (t : Turn) → IsWord (turn_name t)
word_of_turn t = (
  some_first t.x (name_of t.y ++ name_of t.z),
  All-append IsInk (name_of t.x) (name_of t.y ++ name_of t.z) (axis_ink t.x) (All-append IsInk (name_of t.y) (name_of t.z) (axis_ink t.y) (axis_ink t.z)),
)
