-- Lines of code, one after the other.
use Rattle.std.proofs.Common.{◌≡◌, ℕ, suc, ◌+◌, ◌-◌, ◌==◌, ◌<◌, inl, inr, Bool, true, false, Option, List, [], ◌∷◌, ◌++◌, map, take, drop, get_or, length, refl, sym, ap, ◌∙◌, subst, arith, append_assoc, append-nil, length-append, eqb-true, codes, Some, None, if◌then◌else◌, take_all, length-drop}
use Rattle.std.specs.List.{join_with_byte}
use Rattle.std.specs.Fmt.{decimal}
use Rattle.std.proofs.Math.Seq.{drop-append_seam}
use Rattle.std.proofs.lemmas.Bool.{false≢true}
use Rattle.burr_code.specs.Instruction.{Instruction, StandsAt, Begins, spelled, label_bytes}
use Rattle.burr_plantext.specs.Rules.Operands.{by_word}
use Rattle.burr_plantext.specs.Rules.Statements.{Statement, Byte, bares, bare_words, code_of}
use Rattle.burr_plantext.specs.Rules.Lines.{CodeLine}
use Rattle.burr_plantext.specs.Rules.Meaning.{statement_bytes, code_bytes, code_size}
use Rattle.burr_plantext.specs.Rules.Listing.{MayBeListed, IsCodeListed, instruction_listed, has_names}
use Rattle.burr_plantext.specs.Rules.Writing.{line_text, statement_words}
use Rattle.burr_code.specs.Instruction as code
use Rattle.burr_code.proofs.Common.Reading.{one_begins}
use Rattle.burr_plantext.specs.Rules.ListedPlaces.{comment_at, code_text}
use Rattle.burr_plantext.specs.Views.Listings.{IsLineAdded, IsCodeAdded}
use Rattle.burr_plantext.proofs.Common.CodeSizes.{some_bytes}

-- How many bytes a line of code stands for

two_maps : (f : List ℕ → ℕ) (g : ℕ → List ℕ) (labels : List ℕ)
    → length (label_bytes (map f (map g labels))) ≡ length (label_bytes labels)
two_maps f g [] = refl
two_maps f g (label ∷ labels) = ap (λ (n : ℕ). suc (suc n)) (two_maps f g labels)

one_size : (s : Statement) → code_size (s ∷ []) ≡ length (statement_bytes [] [] s)
one_size s = ap (λ (bytes : List ℕ). length bytes) (append-nil (statement_bytes [] [] s))

bytes_size : (i : Instruction)
    → length (statement_bytes [] [] (instruction_listed i)) ≡ length (spelled i)
bytes_size (code.Pick labels) = ap (λ (n : ℕ). suc (suc n)) (two_maps _ _ labels)
bytes_size _ = refl

pub instruction_size : (i : Instruction) → code_size (instruction_listed i ∷ []) ≡ length (spelled i)
instruction_size i = one_size (instruction_listed i) ∙ bytes_size i

pub size_of_more : (s : Statement) (code : List Statement)
    → code_size (s ∷ code) ≡ code_size (s ∷ []) + code_size code
size_of_more s code =
    length-append (statement_bytes [] [] s) (code_bytes [] [] code)
    ∙ ap (λ (n : ℕ). n + code_size code) (sym (one_size s))

pub listed_size : (labels procedures : ℕ) (bytes : List ℕ) (code : List Statement)
    → IsCodeListed labels procedures bytes code → code_size code ≡ length bytes
listed_size labels procedures bytes [] e = ap (λ (all : List ℕ). length all) (sym e)
listed_size labels procedures bytes (s ∷ code) (rest, inl (i, may, e, is), more) =
    size_of_more s code
    ∙ (λ j. code_size (is j ∷ []) + listed_size labels procedures rest code more j)
    ∙ ap (λ (n : ℕ). n + length rest) (instruction_size i)
    ∙ sym (length-append (spelled i) rest) ∙ ap (λ (all : List ℕ). length all) (sym e)
listed_size labels procedures bytes (s ∷ code) (rest, inr (none, b, e, is), more) =
    let one : 1 + length rest ≡ length (b ∷ rest) = omega arith in
    size_of_more s code
    ∙ (λ j. code_size (is j ∷ []) + listed_size labels procedures rest code more j)
    ∙ one ∙ ap (λ (all : List ℕ). length all) (sym e)

-- Instructions without operands

either : (t : Bool) → ◌≡◌ {A = Option Statement} (if t then None else None) None
either true = refl
either false = refl

-- a word alone says what it says of these, or nothing
pub code_alone : (word : List ℕ) → code_of word [] ≡ by_word word (bare_words bares) []
code_alone word = simp either refl

-- The instruction with which code begins

-- none may be listed where the one that is read names what is not there
pub none_first : (labels procedures : ℕ) (bytes : List ℕ) (found : Instruction)
    → StandsAt bytes 0 found → false ≡ has_names labels procedures found
    → (i : Instruction) → MayBeListed labels procedures i → ¬ Begins bytes i
none_first labels procedures bytes found stands fails i may begins =
    let same : i ≡ found =
    one_begins bytes i found may.in_range stands.in_range begins stands.begins in
    false≢true (fails ∙ ap (has_names labels procedures) (sym same) ∙ may.names)

-- The line of an instruction, or of a byte

pub instruction_added : (labels procedures : ℕ) (bytes old words new : List ℕ) (size : ℕ)
    (i : Instruction) → StandsAt bytes 0 i → true ≡ has_names labels procedures i
    → size ≡ length (spelled i)
    → words ≡ old ++ join_with_byte 32 (statement_words (instruction_listed i))
    → new ≡ words ++ 10 ∷ [] → IsLineAdded labels procedures bytes old new size
instruction_added labels procedures bytes old words new size i stands names long worded ended =
    let may : MayBeListed labels procedures i = record { in_range = stands.in_range; names = sym names } in
    let (rest, e) = stands.begins in
    let text : new ≡ old ++ line_text (CodeLine (instruction_listed i)) =
    ended ∙ ap (λ (t : List ℕ). t ++ 10 ∷ []) worded
    ∙ append_assoc old (join_with_byte 32 (statement_words (instruction_listed i))) (10 ∷ []) in
    let after : drop size bytes ≡ rest =
    (λ j. drop (long j) (e j)) ∙ drop-append_seam (spelled i) rest in
    record {
      statement = instruction_listed i;
      listed = inl (i, may, e ∙ ap (λ (t : List ℕ). spelled i ++ t) (sym after), refl);
      text = text;
      whole = long ∙ sym (instruction_size i);
      some = subst (λ (n : ℕ). 0 < n) (sym long) (some_bytes i);
      within = omega (arith, long, ap (λ (all : List ℕ). length all) e, length-append (spelled i) rest);
    }

first_byte : (bytes : List ℕ) → 0 < length bytes → bytes ≡ get_or bytes 0 0 ∷ drop 1 bytes
first_byte [] h = absurd (omega (arith, h))
first_byte (b ∷ bytes) h = refl

pub byte_added : (labels procedures : ℕ) (bytes old new : List ℕ) → 0 < length bytes
    → ((i : Instruction) → MayBeListed labels procedures i → ¬ Begins bytes i)
    → new ≡ old ++ line_text (CodeLine (Byte (get_or bytes 0 0)))
    → IsLineAdded labels procedures bytes old new 1
byte_added labels procedures bytes old new some none text = record {
  statement = Byte (get_or bytes 0 0);
  listed = inr (none, get_or bytes 0 0, first_byte bytes some, refl);
  text = text;
  whole = refl;
  some = omega arith;
  within = some;
}

-- What is written, whatever lines of code are next, is the whole of the code
abbrev pub IsCodeWritten : ℕ → ℕ → Option ℕ → ℕ → List ℕ → List ℕ → ℕ → List ℕ → List ℕ → Type 0
IsCodeWritten labels procedures placed start bytes old at rest text =
    (more : List Statement) → IsCodeListed labels procedures rest more
    → (code : List Statement) × IsCodeListed labels procedures bytes code
    × (text ++ code_text placed at more ≡ old ++ code_text placed start code)

-- a place is written before a line of code, where places are wanted
pub place_marked : (placed : Option ℕ) (procedure at : ℕ) (text numbered counted marked : List ℕ)
    → placed ≡ Some procedure → numbered ≡ text ++ (codes "; proc " ++ decimal procedure)
    → counted ≡ numbered ++ (codes " pc " ++ decimal at) → marked ≡ counted ++ 10 ∷ []
    → marked ≡ text ++ comment_at placed at
place_marked placed procedure at text numbered counted marked is number count end =
    let whole : ((text ++ (codes "; proc " ++ decimal procedure)) ++ (codes " pc " ++ decimal at)) ++ 10 ∷ []
    ≡ text ++ comment_at (Some procedure) at = simp append_assoc in
    end ∙ ap (λ (t : List ℕ). t ++ 10 ∷ []) (count ∙ ap (λ (t : List ℕ). t ++ (codes " pc " ++ decimal at)) number)
    ∙ whole ∙ ap (λ (p : Option ℕ). text ++ comment_at p at) (sym is)

pub place_unmarked : (placed : Option ℕ) (at : ℕ) (text : List ℕ)
    → ((procedure : ℕ) → placed ≡ Some procedure → ⊥) → text ≡ text ++ comment_at placed at
place_unmarked None at text none = sym (append-nil text)
place_unmarked (Some procedure) at text none = absurd (none procedure refl)

pub rest_taken : (n : ℕ) (xs : List ℕ) → take (length xs - n) (drop n xs) ≡ drop n xs
rest_taken n xs = take_all (length xs - n) (drop n xs) (omega (arith, length-drop n xs))

pub line_turn : (labels procedures : ℕ) (placed : Option ℕ) (start : ℕ) (bytes old : List ℕ)
    (at : ℕ) (rest text marked new next : List ℕ) (size total : ℕ)
    → IsCodeWritten labels procedures placed start bytes old at rest text
    × (at + length rest ≡ total)
    → marked ≡ text ++ comment_at placed at
    → IsLineAdded labels procedures rest marked new size → next ≡ drop size rest
    → IsCodeWritten labels procedures placed start bytes old (at + size) next new
    × (at + size + length next ≡ total)
line_turn labels procedures placed start bytes old at rest text marked new next size total
    (written, long) mark line e = (
      λ more listed.
          let s = line.statement in
          let (code, is, so) =
          written (s ∷ more) (
            drop size rest,
            line.listed,
            subst (λ (t : List ℕ). IsCodeListed labels procedures t more) e listed,
          ) in
          let left = code_text placed (at + size) more in
          let same : new ≡ text ++ (comment_at placed at ++ line_text (CodeLine s)) =
          line.text ∙ ap (λ (t : List ℕ). t ++ line_text (CodeLine s)) mark
          ∙ append_assoc text (comment_at placed at) (line_text (CodeLine s)) in (
            code,
            is,
            ap (λ (t : List ℕ). t ++ left) same
                ∙ append_assoc text (comment_at placed at ++ line_text (CodeLine s)) left
                ∙ ap (λ (n : ℕ). text ++ ((comment_at placed at ++ line_text (CodeLine s))
                ++ code_text placed (at + n) more)) line.whole ∙ so,
          ),
      omega (arith, long, line.within, ap (λ (t : List ℕ). length t) e, length-drop size rest),
    )

no_bytes : (bytes : List ℕ) → true ≡ (length bytes == 0) → bytes ≡ []
no_bytes [] e = refl
no_bytes (b ∷ bytes) e = absurd (omega (arith, eqb-true (length (b ∷ bytes)) 0 (sym e)))

pub code_end : (labels procedures : ℕ) (placed : Option ℕ) (start : ℕ) (bytes old : List ℕ)
    (at : ℕ) (rest text : List ℕ)
    → IsCodeWritten labels procedures placed start bytes old at rest text
    → true ≡ (length rest == 0)
    → IsCodeAdded labels procedures placed start bytes old text
code_end labels procedures placed start bytes old at rest text written end =
    let none = no_bytes rest end in
    let (code, is, e) = written [] none in (code, is, sym (append-nil text) ∙ e)
