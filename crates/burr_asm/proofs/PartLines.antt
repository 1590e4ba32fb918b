-- Line by line: which parts of a plan the lines of a text are, what has been found, and what is left of the text.
use Rattle.std.proofs.Common.{◌≡◌, ℕ, suc, pred, ◌+◌, ◌≤◌, List, [], ◌∷◌, ◌++◌, length, Option, Some, None, Bool, true, false, Contains, refl, sym, ap, subst, ◌∙◌, arith, append_assoc, append-nil, rules}
use Rattle.std.specs.Prelude.{◌&&◌, nat_le, if◌then◌else◌, IfSome}
use Rattle.std.proofs.lemmas.Bool.{and_parts, leb-true}
use Rattle.burr_text.specs.Words.{IsCutAt}
use Rattle.burr_plantext.specs.Rules.Written.{pieces}
use Rattle.burr_plantext.specs.Rules.Statements.{Statement}
use Rattle.burr_plantext.specs.Rules.Lines.{Line, CodeLine}
use Rattle.burr_plantext.specs.Rules.Meaning.{code_size}
use Rattle.burr_plantext.specs.Rules.Checks.{is_in_range}
use Rattle.burr_plantext.specs.Rules.Texts.{LineRead, Reads, Unread, Broken, numbered_lines, numbered_from, last_line, is_skipped, first_word, ended_line}
use Rattle.burr_plantext.proofs.Common.TextLines.{numbered_cut, numbered_last}
use Rattle.burr_asm.specs.declared.source_maps.PlanPart.{PlanPart}
use Rattle.burr_asm.specs.declared.source_maps.PlanPart.TheVariants.{Code}
use Rattle.burr_asm.specs.declared.source_maps.Cursor.{Cursor}
use Rattle.burr_asm.specs.Views.SourceMaps.{at_start, next_part, part_read, IsWithin}
use Rattle.burr_asm.proofs.ReadLines.{line_ends}

-- a line of code, by whether it is taken
abbrev pub if_taken : Cursor → Statement → Bool → Option (PlanPart × Cursor)
if_taken k w t =
    if t then Some (Code (pred k.procedures) k.pc, record k { pc = k.pc + code_size (w ∷ []) }) else None

module _ (k : Cursor) (n : ℕ) (h : IsWithin k n) where
  code_within : (w : Statement) (t : Bool) → (is_in_range w && nat_le (k.pc + code_size (w ∷ [])) 4096) ≡ t
      → IfSome (if_taken k w t) (λ (given : PlanPart × Cursor). IsWithin given.1 (n + 1))
  code_within w true is =
      let few = leb-true (k.pc + code_size (w ∷ [])) 4096 (and_parts (is_in_range w) _ is).1 in
      search rules
  code_within w false is = tt

  -- a line counts on by one at most
  line_within : (line : Line) → IfSome (next_part k line) (λ (given : PlanPart × Cursor). IsWithin given.1 (n + 1))
  line_within (CodeLine w) = code_within w (is_in_range w && nat_le (k.pc + code_size (w ∷ [])) 4096) refl
  line_within line = search rules

  read_within : (read : LineRead) → IfSome (part_read k read) (λ (given : PlanPart × Cursor). IsWithin given.1 (n + 1))
  read_within (Reads line) = line_within line
  read_within (Unread word) = tt
  read_within Broken = tt

-- a line with this number, and the lines after it, if it is a part
abbrev pub and_on : ℕ → Option (PlanPart × Cursor) → (Cursor → List (PlanPart × ℕ)) → List (PlanPart × ℕ)
and_on n None more = []
and_on n (Some (part, next)) more = (part, n) ∷ more next

-- the parts that lines are, as far as each is one
abbrev pub walk : Cursor → List (ℕ × LineRead) → List (PlanPart × ℕ)
walk k [] = []
walk k (line ∷ lines) = and_on line.0 (part_read k line.1) (λ next. walk next lines)

-- What was found so far, and what the lines that are left are, is what all lines of the text are.
pub record IsFound (text rest : List ℕ) (line : ℕ) (k : Cursor) (found : List (PlanPart × ℕ)) : Type 0 where
  pub left : line + length rest ≤ length text + 1
  pub within : IsWithin k line
  pub whole : found ++ walk k (numbered_from line (pieces 10 rest)) ≡ walk at_start (numbered_lines text)

module _ (text rest : List ℕ) (line : ℕ) (k : Cursor) (found : List (PlanPart × ℕ)) (h : IsFound text rest line k found) where
  -- after the last end of a line there is no part
  pub found_all : ¬ Contains rest 10 → found ≡ walk at_start (numbered_lines text)
  found_all uncut = sym (append-nil found) ∙ ap (λ (more : List (PlanPart × ℕ)). found ++ more) (sym (ap (walk k) (numbered_last line rest uncut) ∙ none rest)) ∙ h.whole
    where
      none : (w : List ℕ) → walk k (last_line line w) ≡ []
      none [] = refl
      none (b ∷ w) = grind arith

  module _ (bytes more : List ℕ) (cut : IsCutAt 10 rest bytes more) where
    abbrev rest_of : List (ℕ × LineRead)
    rest_of = numbered_from (line + 1) (pieces 10 more)

    -- the next line, by whether it is skipped
    by_line : (t : Bool) → is_skipped bytes ≡ t
        → found ++ walk k ((if t then [] else (line, ended_line bytes) ∷ []) ++ rest_of) ≡ walk at_start (numbered_lines text)
    by_line t e =
        let next : suc line ≡ line + 1 = omega arith in
        let lines = numbered_cut line rest bytes more cut ∙ (λ i. (if e i then [] else (line, ended_line bytes) ∷ []) ++ numbered_from (next i) (pieces 10 more)) in
        ap (λ (ls : List (ℕ × LineRead)). found ++ walk k ls) (sym lines) ∙ h.whole

    pub found_skipped : is_skipped bytes ≡ true → IsFound text more (line + 1) k found
    found_skipped e =
        let so_far = h.within in
        record { left = line_ends text rest bytes more line cut h.left; within = search rules; whole = by_line true e }

    -- it is not, and is this part or none
    by_part : (given : Option (PlanPart × Cursor)) → is_skipped bytes ≡ false → part_read k (ended_line bytes) ≡ given
        → found ++ and_on line given (λ next. walk next rest_of) ≡ walk at_start (numbered_lines text)
    by_part given e is = ap (λ (o : Option (PlanPart × Cursor)). found ++ and_on line o (λ next. walk next rest_of)) (sym is) ∙ by_line false e

    pub found_more : (part : PlanPart) (next : Cursor) → is_skipped bytes ≡ false → part_read k (ended_line bytes) ≡ Some (part, next)
        → IsFound text more (line + 1) next (found ++ (part, line) ∷ [])
    found_more part next e is = record {
      left = line_ends text rest bytes more line cut h.left;
      within = subst (λ (o : Option (PlanPart × Cursor)). IfSome o (λ (given : PlanPart × Cursor). IsWithin given.1 (line + 1))) is (read_within k line h.within (ended_line bytes));
      whole = append_assoc found ((part, line) ∷ []) (walk next rest_of) ∙ by_part (Some (part, next)) e is;
    }

    -- a line that is no part, after which nothing is
    pub found_up_to : is_skipped bytes ≡ false → part_read k (ended_line bytes) ≡ None → found ≡ walk at_start (numbered_lines text)
    found_up_to e is = sym (append-nil found) ∙ by_part None e is
