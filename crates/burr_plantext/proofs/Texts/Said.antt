-- What the form of a line tells of it: the plan's line has a name, `pick` few labels, and a raw byte and an
-- instruction without operands are bytes.
use Rattle.std.proofs.Common.{◌≡◌, ℕ, suc, ◌+◌, ◌*◌, ◌-◌, ◌≤◌, ◌==◌, List, [], ◌∷◌, ◌++◌, length, map, Bool, true, false, IsTrue, refl, subst, arith, codes, lt-ltb, leb-true, sym, ◌∙◌, ◌&&◌, ◌||◌, nat_le, nat_lt, Option, Some, None, if◌then◌else◌, slice_index_or}
use Rattle.std.specs.List.{list_all}
use Rattle.std.specs.Str.{bytes_eq}
use Rattle.std.proofs.lemmas.Bool.{and_from, and_parts}
use Rattle.burr_text.specs.Names.{is_digit}
use Rattle.burr_code.specs.Instruction.{spelled}
use Rattle.burr_container.specs.Rules.Fitting.{is_name_text}
use Rattle.burr_plantext.specs.Rules.Operands.{given, alone, one, two, three, by_word, along, directed, direction_of}
use Rattle.burr_plantext.specs.Rules.Statements.{Bare, Statement, bares, is_hex_digit, hex_value, bytes_line, offer, operand_words, bare_words, code_words, code_of}
use Rattle.burr_plantext.specs.Rules.Texts.{LineRead, Reads, Unread, Broken, is_skipped, read_if, ended_line, unended_line, numbered_from, lines_read}
use Rattle.burr_voxels.specs.declared.direction.Direction.{Direction}
use Rattle.burr_plantext.specs.Rules.Written.{is_form, pieces, is_number, is_set}
use Rattle.burr_plantext.specs.Rules.Statements as said
use Rattle.burr_plantext.specs.Rules.Lines.{Apart, On, line_words, Line, PlanLine, ExitLine, ResultLine, LabelLine, FrameLine, SlotLine, GuardLine, StackLine, CostLine, CodeLine, title_line, head_line, procedure_line, at_line, piece_line, code_line, or_else, line_of}
use Rattle.std.proofs.lemmas.List.Folds.{list_all-map}

-- what the form of a line of code tells
abbrev pub is_said : Statement → Bool
is_said (said.Pick labels) = nat_le (length labels) 8
is_said (said.Byte b) = nat_lt b 256
is_said (said.Alone bare) = list_all (λ b. nat_lt b 256) (spelled bare.instruction)
is_said s = true

-- what the form of a line tells
abbrev pub is_fine : Line → Bool
is_fine (PlanLine t) = is_name_text t.name && ((t.version == 1) || (t.version == 2))
is_fine (CodeLine s) = is_said s
is_fine line = true

module _ {A : Type 0} (P : A → Bool) where
  -- each line that it gives passes
  abbrev Gives : (List (List ℕ) → Option A) → Type 0
  Gives f = (words : List (List ℕ)) (x : A) → f words ≡ Some x → IsTrue (P x)

  abbrev AllGive : List (List ℕ × (List (List ℕ) → Option A)) → Type 0
  AllGive [] = Unit {0}
  AllGive (entry ∷ more) = Gives entry.1 × AllGive more

  given_gives : (t : Bool) (y x : A) → given t y ≡ Some x → (IsTrue t → IsTrue (P y)) → IsTrue (P x)
  given_gives true y x e f = subst (λ (z : A). IsTrue (P z)) (some_same e) (f refl)
    where
      some_same : {a b : A} → ◌≡◌ {A = Option A} (Some a) (Some b) → a ≡ b
      some_same e = cc
  given_gives false y x e f = cc

  by_word_gives : (word : List ℕ) (table : List (List ℕ × (List (List ℕ) → Option A))) → AllGive table → Gives (by_word word table)
  by_word_gives word [] all words x e = cc
  by_word_gives word (entry ∷ more) all words x e = by (bytes_eq word entry.0) e (by_word_gives word more all.1 words x)
    where
      by : (t : Bool) → (if t then entry.1 words else by_word word more words) ≡ Some x → (by_word word more words ≡ Some x → IsTrue (P x)) → IsTrue (P x)
      by true e f = all.0 words x e
      by false e f = f e

  alone_gives : (y : A) → IsTrue (P y) → Gives (alone y)
  alone_gives y h [] x e = given_gives true y x e (λ _. h)
  alone_gives y h (w ∷ words) x e = cc

  one_gives : (p : List ℕ → Bool) (f : List ℕ → A) → ((w : List ℕ) → IsTrue (p w) → IsTrue (P (f w))) → Gives (one p f)
  one_gives p f h [] x e = cc
  one_gives p f h (w ∷ []) x e = given_gives (p w) (f w) x e (h w)
  one_gives p f h (w ∷ v ∷ words) x e = cc

  two_gives : (p q : List ℕ → Bool) (f : List ℕ → List ℕ → A) → ((v w : List ℕ) → IsTrue (p v) → IsTrue (P (f v w))) → Gives (two p q f)
  two_gives p q f h [] x e = cc
  two_gives p q f h (v ∷ words) x e = by (p v) (h v) e
    where
      by : (t : Bool) → ((w : List ℕ) → IsTrue t → IsTrue (P (f v w))) → one q (f v) (if t then words else []) ≡ Some x → IsTrue (P x)
      by true h e = one_gives q (f v) (λ w k. h w refl) words x e
      by false h e = cc

  three_gives : (p q r : List ℕ → Bool) (f : List ℕ → List ℕ → List ℕ → A) → ((u v w : List ℕ) → IsTrue (p u) → IsTrue (P (f u v w))) → Gives (three p q r f)
  three_gives p q r f h [] x e = cc
  three_gives p q r f h (u ∷ words) x e = by (p u) (h u) e
    where
      by : (t : Bool) → ((v w : List ℕ) → IsTrue t → IsTrue (P (f u v w))) → two q r (f u) (if t then words else []) ≡ Some x → IsTrue (P x)
      by true h e = two_gives q r (f u) (λ v w k. h v w refl) words x e
      by false h e = cc

  along_gives : (o : Option Direction) (f : Direction → List (List ℕ) → Option A) → ((d : Direction) → Gives (f d)) → Gives (along o f)
  along_gives None f h words x e = cc
  along_gives (Some d) f h words x e = h d words x e

  directed_gives : (f : Direction → List (List ℕ) → Option A) → ((d : Direction) → Gives (f d)) → Gives (directed f)
  directed_gives f h [] x e = cc
  directed_gives f h (w ∷ words) x e = along_gives (direction_of w) f h words x e

-- Raw bytes and offers

hex_small : (b : ℕ) → IsTrue (is_hex_digit b) → hex_value b ≤ 15
hex_small b h = by (is_digit b) refl h
  where
    by : (t : Bool) → is_digit b ≡ t → IsTrue (t || (nat_le 97 b && nat_le b 102)) → (if t then b - 48 else b - 87) ≤ 15
    by true e k = let high = leb-true b 57 (and_parts (nat_le 48 b) (nat_le b 57) e).1 in omega arith
    by false e k = let high = leb-true b 102 (and_parts (nat_le 97 b) (nat_le b 102) k).1 in omega arith

raw_gives : Gives is_said bytes_line
raw_gives (w ∷ v ∷ words) x e = cc
raw_gives ((h ∷ l ∷ []) ∷ []) x e =
    given_gives is_said (is_hex_digit h && is_hex_digit l) (said.Byte (16 * hex_value h + hex_value l)) x e
    (λ k. let both = and_parts (is_hex_digit h) (is_hex_digit l) k in let high = hex_small h both.0 in let low = hex_small l both.1 in lt-ltb (16 * hex_value h + hex_value l) 256 (omega arith))
raw_gives _ x e = cc

offer_gives : Gives is_said offer
offer_gives labels x e =
    let count = nat_le 2 (length labels) in
    let few = nat_le (length labels) 8 in
    given_gives is_said (count && few && list_all is_name_text labels) (said.Pick labels) x e (λ k. (and_parts count few (and_parts (count && few) (list_all is_name_text labels) k).0).1)

bares_give : (some : List Bare) (more : List (List ℕ × (List (List ℕ) → Option Statement))) → IsTrue (list_all (λ (bare : Bare). is_said (said.Alone bare)) some)
    → AllGive is_said more → AllGive is_said (bare_words some ++ more)
bares_give [] more h k = k
bares_give (bare ∷ some) more h k =
    let parts = and_parts (is_said (said.Alone bare)) (list_all (λ (bare : Bare). is_said (said.Alone bare)) some) h in
    (alone_gives is_said (said.Alone bare) parts.0, bares_give some more parts.1 k)

step_gives : Gives is_said (directed (λ d. alone (said.Step d)))
step_gives = directed_gives is_said (λ d. alone (said.Step d)) (λ d. alone_gives is_said (said.Step d) refl)

aside_gives : Gives is_said (directed (λ d. one is_number (said.Aside d)))
aside_gives = directed_gives is_said (λ d. one is_number (said.Aside d)) (λ d. one_gives is_said is_number (said.Aside d) (λ w h. refl))

-- one operand, and nothing is told of it
plain_gives : (p : List ℕ → Bool) (f : List ℕ → Statement) → ((w : List ℕ) → IsTrue (is_said (f w))) → Gives is_said (one p f)
plain_gives p f h = one_gives is_said p f (λ w k. h w)

code_gives : AllGive is_said code_words
code_gives =
    let number = plain_gives is_number in
    let name = plain_gives is_name_text in
    let ask = two_gives is_said is_number is_number said.Ask (λ v w h. refl) in
    let down = two_gives is_said is_number is_name_text said.Down (λ v w h. refl) in
    bares_give bares operand_words refl
    (number said.Push (λ w. refl), (number said.Load (λ w. refl), (number said.Store (λ w. refl), (plain_gives is_set said.Grip (λ w. refl), (step_gives, (aside_gives, (number said.Tray (λ w. refl), (name said.Jump (λ w. refl), (down, (ask, (offer_gives, (name said.Call (λ w. refl), (raw_gives, tt)))))))))))))

-- Lines

procedure_gives : Gives is_fine procedure_line
procedure_gives (n ∷ p ∷ []) x e = given_gives is_fine (is_name_text n && is_number p) (head_line n p None) x e (λ k. refl)
procedure_gives (n ∷ p ∷ r ∷ []) x e = given_gives is_fine (is_name_text n && is_number p && is_number r) (head_line n p (Some r)) x e (λ k. refl)
procedure_gives _ x e = cc

piece_gives : Gives is_fine piece_line
piece_gives (p ∷ w ∷ []) x e = given_gives is_fine (is_number p && bytes_eq w (codes "apart")) (at_line p Apart) x e (λ k. refl)
piece_gives (p ∷ t ∷ a ∷ b ∷ c ∷ []) x e = given_gives is_fine (is_number p && is_number t && is_form a && is_form b && is_form c) (at_line p (On t a b c)) x e (λ k. refl)
piece_gives _ x e = cc

title_gives : (version : ℕ) → IsTrue ((version == 1) || (version == 2)) → Gives is_fine (title_line version)
title_gives version h =
    three_gives is_fine is_name_text is_number is_number (λ n p b. PlanLine (record { version = version; name = n; pieces = p; budget = b }))
    (λ u v w k. and_from (is_name_text u) ((version == 1) || (version == 2)) k h)

lines_give : AllGive is_fine line_words
lines_give =
    let exit = two_gives is_fine is_number is_set (λ t s. ExitLine (record { tray = t; set = s })) (λ v w h. refl) in
    let result = two_gives is_fine is_number is_number (λ l h. ResultLine (record { low = l; high = h })) (λ v w h. refl) in
    let label = one_gives is_fine is_name_text LabelLine (λ w h. refl) in
    let frame = two_gives is_fine is_number is_set (λ t s. FrameLine (record { tray = t; set = s })) (λ v w h. refl) in
    let slot = three_gives is_fine is_number is_number is_number (λ s l h. SlotLine (record { slot = s; ends = record { low = l; high = h } })) (λ u v w h. refl) in
    let guard = one_gives is_fine is_form GuardLine (λ w h. refl) in
    let stack = one_gives is_fine is_form StackLine (λ w h. refl) in
    let cost = one_gives is_fine is_form CostLine (λ w h. refl) in
    (title_gives 1 refl, (title_gives 2 refl, (procedure_gives, (exit, (result, (label, (frame, (slot, (guard, (stack, (cost, (piece_gives, tt))))))))))))

code_line_gives : (o : Option Statement) (x : Line) → ((s : Statement) → o ≡ Some s → IsTrue (is_said s)) → code_line o ≡ Some x → IsTrue (is_fine x)
code_line_gives None x h e = cc
code_line_gives (Some s) x h e = subst (λ (l : Line). IsTrue (is_fine l)) (same e) (h s refl)
  where
    same : {a b : Line} → ◌≡◌ {A = Option Line} (Some a) (Some b) → a ≡ b
    same e = cc

either_gives : (o other : Option Line) (x : Line) → (o ≡ Some x → IsTrue (is_fine x)) → (other ≡ Some x → IsTrue (is_fine x)) → or_else o other ≡ Some x → IsTrue (is_fine x)
either_gives None other x f g e = g e
either_gives (Some l) other x f g e = f e

pub line_is_fine : (words : List (List ℕ)) (x : Line) → line_of words ≡ Some x → IsTrue (is_fine x)
line_is_fine [] x e = cc
line_is_fine (word ∷ operands) x e =
    either_gives (by_word word line_words operands) (code_line (code_of word operands)) x (by_word_gives is_fine word line_words lines_give operands x)
    (code_line_gives (code_of word operands) x (by_word_gives is_said word code_words code_gives operands)) e

-- Texts

abbrev read_fine : LineRead → Bool
read_fine (Reads l) = is_fine l
read_fine line = true

read_if_fine : (word : List ℕ) (o : Option Line) → ((l : Line) → o ≡ Some l → IsTrue (is_fine l)) → IsTrue (read_fine (read_if word o))
read_if_fine word None h = refl
read_if_fine word (Some l) h = h l refl

unended_fine : (line : List ℕ) → IsTrue (read_fine (unended_line line))
unended_fine line = by (is_skipped line)
  where
    by : (t : Bool) → IsTrue (read_fine (if t then Broken else Unread (slice_index_or (pieces 32 line) 0 [])))
    by true = refl
    by false = refl

abbrev all_fine : List (ℕ × LineRead) → Bool
all_fine lines = list_all read_fine (map (λ (line : ℕ × LineRead). line.1) lines)

numbered_fine : (n : ℕ) (ps : List (List ℕ)) → IsTrue (all_fine (numbered_from n ps))
numbered_fine n [] = refl
numbered_fine n ([] ∷ []) = refl
numbered_fine n ((b ∷ line) ∷ []) = and_from (read_fine (unended_line (b ∷ line))) true (unended_fine (b ∷ line)) refl
numbered_fine n (line ∷ next ∷ more) = by (is_skipped line) (numbered_fine (suc n) (next ∷ more))
  where
    by : (t : Bool) → IsTrue (all_fine (numbered_from (suc n) (next ∷ more))) → IsTrue (all_fine ((if t then [] else (n, ended_line line) ∷ []) ++ numbered_from (suc n) (next ∷ more)))
    by true h = h
    by false h = and_from (read_fine (ended_line line)) (all_fine (numbered_from (suc n) (next ∷ more))) (read_if_fine (slice_index_or (pieces 32 line) 0 []) (line_of (pieces 32 line)) (line_is_fine (pieces 32 line))) h

-- The lines of a text are of their forms.
pub text_fine : (text : List ℕ) (lines : List Line) → lines_read text ≡ map Reads lines → IsTrue (list_all is_fine lines)
text_fine text lines e = sym (list_all-map read_fine Reads lines) ∙ (subst (λ (l : List LineRead). IsTrue (list_all read_fine l)) e (numbered_fine 1 (pieces 10 text)))
