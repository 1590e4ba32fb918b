-- What a line says that begins with a keyword, and that no other line has operands.
use Rattle.std.proofs.Common.{◌≡◌, ◌≢◌, ℕ, List, [], ◌∷◌, Bool, true, false, IsTrue, refl, sym, ap, subst, ◌∙◌, ◌≤◌, length, take, map, not}
use Rattle.std.specs.Prelude.{codes, Option, Some, None, ◌||◌, if◌then◌else◌}
use Rattle.std.specs.List.{list_all, list_any}
use Rattle.std.specs.Str.{bytes_eq}
use Rattle.std.specs.Borrow.{Bor}
use Rattle.std.proofs.lemmas.Bool.{and_parts, false≢true, false_from_ne_true}
use Rattle.std.proofs.lemmas.List.{take_all}
use Rattle.std.proofs.lemmas.List.Folds.{list_all-map}
use Rattle.std.proofs.lemmas.Slice.Eq.{bytes_eq-Decides}
use Rattle.burr_plantext.specs.Rules.Operands.{by_word}
use Rattle.burr_plantext.specs.Rules.Statements.{code_words, code_of}
use Rattle.burr_plantext.specs.Rules.Lines.{Line, line_words, line_of, code_line, or_else}
use Rattle.burr_plantext.specs.Rules.Texts.{words_of}
use Rattle.burr_plantext.proofs.Common.Cuts.{some_pieces}
use Rattle.burr_plantext.proofs.Common.ParsedNumbers.{or_cases}
use Rattle.burr_asm.specs.Views.Keywords.{word_of, keyword_line}
use Rattle.burr_asm.specs.declared.text.line.Keyword.{Keyword}
use Rattle.burr_asm.specs.declared.text.line.Keyword.TheVariants as key
use Rattle.burr_asm.specs.declared.text.line.CodeKeyword.TheVariants as code
use Rattle.burr_asm.specs.declared.text.line.NumberKeyword.TheVariants as number

alike : (word key : List ℕ) → bytes_eq word key ≡ true → word ≡ key
alike word key e = (bytes_eq-Decides word key).0 e

-- a word that is not another one
pub unlike : (word key : List ℕ) → word ≢ key → bytes_eq word key ≡ false
unlike word key differs = false_from_ne_true (bytes_eq word key) (λ e. differs (alike word key e))

-- Words that are not among others

-- the word is not among these
abbrev pub IsNoneOf : List ℕ → List (List ℕ) → Type 0
IsNoneOf word [] = Unit {0}
IsNoneOf word (key ∷ keys) = (word ≢ key) × IsNoneOf word keys

-- the key is one of these
abbrev pub is_among : List (List ℕ) → List ℕ → Bool
is_among keys key = list_any (bytes_eq key) keys

pub none_of : (word : List ℕ) (keys : List (List ℕ)) → IsNoneOf word keys → (key : List ℕ) → IsTrue (is_among keys key) → word ≢ key
none_of word [] h key within = absurd (false≢true within)
none_of word (k ∷ keys) h key within =
    or_cases (bytes_eq key k) (is_among keys key) (word ≢ key) (λ same is. h.0 (is ∙ alike key k same)) (none_of word keys h.1 key) within

-- P holds of each of these words
abbrev pub Each : (List ℕ → Type 0) → List (List ℕ) → Type 0
Each P [] = Unit {0}
Each P (key ∷ keys) = P key × Each P keys

-- Where P holds of each key, and of the word if it is not among the keys, P holds of the word.
pub by_keys : (P : List ℕ → Type 0) (keys : List (List ℕ)) (word : List ℕ) → Each P keys → (IsNoneOf word keys → P word) → P word
by_keys P [] word each other = other tt
by_keys P (key ∷ keys) word each other = by (bytes_eq word key) refl (by_keys P keys word each.1)
  where
    by : (t : Bool) → bytes_eq word key ≡ t → ((IsNoneOf word keys → P word) → P word) → P word
    by true e later = subst P (sym (alike word key e)) each.0
    by false e later = later (λ h. other (λ is. false≢true (sym e ∙ (bytes_eq-Decides word key).1 is), h))

module _ {A : Type 0} where
  abbrev pub is_none : Option A → Bool
  is_none None = true
  is_none (Some x) = false

  -- each entry of the table whose word is not among these gives None for these operands
  abbrev pub says_nothing : List (List ℕ) → List (List ℕ × (List (List ℕ) → Option A)) → List (List ℕ) → Bool
  says_nothing keys table operands =
      list_all (λ (entry : List ℕ × (List (List ℕ) → Option A)). is_among keys entry.0 || is_none (entry.1 operands)) table

  -- Then the table gives None for a word that is not among these.
  pub nothing_said : (word : List ℕ) (keys : List (List ℕ)) (table : List (List ℕ × (List (List ℕ) → Option A))) (operands : List (List ℕ))
      → IsNoneOf word keys → IsTrue (says_nothing keys table operands) → by_word word table operands ≡ None
  nothing_said word keys [] operands h k = refl
  nothing_said word keys (entry ∷ more) operands h k =
      let parts = and_parts (is_among keys entry.0 || is_none (entry.1 operands)) (says_nothing keys more operands) k in
      by (bytes_eq word entry.0) refl parts.0 (nothing_said word keys more operands h parts.1)
    where
      empty : (x : Option A) → IsTrue (is_none x) → x ≡ None
      empty None h = refl
      empty (Some x) h = absurd (false≢true h)

      by : (t : Bool) → bytes_eq word entry.0 ≡ t → IsTrue (is_among keys entry.0 || is_none (entry.1 operands)) → by_word word more operands ≡ None
          → (if t then entry.1 operands else by_word word more operands) ≡ None
      by true e first rest =
          or_cases (is_among keys entry.0) (is_none (entry.1 operands)) (entry.1 operands ≡ None)
          (λ within. absurd (none_of word keys h entry.0 within (alike word entry.0 e))) (empty (entry.1 operands)) first
      by false e first rest = rest

-- Keywords

-- A line that begins with a keyword.
pub line_of_keyword : (keyword : Keyword) (operands : List (List ℕ)) → line_of (word_of keyword ∷ operands) ≡ keyword_line keyword operands
line_of_keyword keyword operands = by keyword
  where
    whole : (found : Option Line) → or_else found None ≡ found
    whole None = refl
    whole (Some line) = refl

    by : (keyword : Keyword) → line_of (word_of keyword ∷ operands) ≡ keyword_line keyword operands
    by (key.Code (code.Number number.Push)) = refl
    by (key.Code code.Jump) = refl
    by (key.Code _) = refl
    by key.Plan = whole (keyword_line key.Plan operands)
    by keyword = whole (keyword_line keyword operands)

-- all keywords, in the order in which the code asks for them
abbrev pub keywords : List (List ℕ)
keywords =
    codes "at" ∷ codes "slot" ∷ codes "guard" ∷ codes "stack" ∷ codes "cost" ∷ codes "frame" ∷ codes "label" ∷ codes "push" ∷ codes "load"
    ∷ codes "store" ∷ codes "step" ∷ codes "down" ∷ codes "aside" ∷ codes "jump" ∷ codes "grip" ∷ codes "tray" ∷ codes "ask" ∷ codes "call"
    ∷ codes "byte" ∷ codes "pick" ∷ codes "proc" ∷ codes "exit" ∷ codes "result" ∷ codes "plan" ∷ codes "plan2" ∷ []

-- A line that begins with another word has no operands.
pub line_of_no_keyword : (word bytes : List ℕ) → ((keyword : Keyword) → word_of keyword ≢ word) → line_of (word ∷ words_of bytes) ≡ None
line_of_no_keyword word bytes none =
    let some = some_pieces 32 bytes in
    ap (λ (operands : List (List ℕ)). line_of (word ∷ operands)) some.2
    ∙ (λ i. or_else (nothing_said word keywords line_words (some.0 ∷ some.1) is_none refl i) (code_line (nothing_said word keywords code_words (some.0 ∷ some.1) is_none refl i)))
  where
    no : (keyword : Keyword) → word ≢ word_of keyword
    no keyword e = none keyword (sym e)

    is_none : IsNoneOf word keywords
    is_none = (no key.At, (no key.Slot, (no key.Guard, (no key.Stack, (no key.Cost, (no key.Frame, (no key.Label, (no (key.Code (code.Number number.Push)), (no (key.Code (code.Number number.Load)), (no (key.Code (code.Number number.Store)), (no (key.Code code.Step), (no (key.Code code.Down), (no (key.Code code.Aside), (no (key.Code code.Jump), (no (key.Code code.Grip), (no (key.Code (code.Number number.Tray)), (no (key.Code code.Ask), (no (key.Code code.Call), (no (key.Code code.Byte), (no (key.Code code.Pick), (no key.Procedure, (no key.Exit, (no key.Result, (no key.Plan, (no key.Plan2, tt)))))))))))))))))))))))))

-- The table of the code

abbrev Entry : Type 0
Entry = Bor (List ℕ) × Keyword

abbrev text_of : Entry → List ℕ
text_of entry = entry.0.now

-- a word that is that of no entry is no keyword
pub no_keyword : (word : List ℕ) (items : List Entry) (n : ℕ) → map text_of items ≡ keywords → length items ≤ n
    → list_all (λ (entry : Entry). not (bytes_eq word (text_of entry))) (take n items) ≡ true → (keyword : Keyword) → word_of keyword ≢ word
no_keyword word items n same all none keyword e =
    false≢true (sym (among keyword) ∙ subst (λ (w : List ℕ). list_all (λ (text : List ℕ). not (bytes_eq w text)) keywords ≡ true) (sym e) each)
  where
    each : list_all (λ (text : List ℕ). not (bytes_eq word text)) keywords ≡ true
    each =
        ap (list_all (λ (text : List ℕ). not (bytes_eq word text))) (sym same) ∙ list_all-map (λ (text : List ℕ). not (bytes_eq word text)) text_of items
        ∙ ap (list_all (λ (entry : Entry). not (bytes_eq word (text_of entry)))) (sym (take_all n items all)) ∙ none

    among : (keyword : Keyword) → list_all (λ (text : List ℕ). not (bytes_eq (word_of keyword) text)) keywords ≡ false
    among key.Plan = refl
    among (key.Code code.Jump) = refl
    among (key.Code (code.Number number.Push)) = refl
    among _ = refl

-- A line of one word is a line of code.
pub line_alone : (word : List ℕ) → line_of (word ∷ []) ≡ code_line (code_of word [])
line_alone word = ap (λ (found : Option Line). or_else found (code_line (code_of word []))) (nothing_said word [] line_words [] tt refl)
