-- Motions that are read line by line, and that a text is the lines of one list of them.
use Rattle.std.proofs.Common.{◌≡◌, ◌≢◌, ℕ, suc, ◌+◌, ◌≤◌, List, [], ◌∷◌, ◌++◌, length, false, All, Option, Some, None, refl, sym, ap, subst, ◌∙◌, append_assoc, append-nil, arith}
use Rattle.std.proofs.lemmas.List.{length-append}
use Rattle.std.proofs.lemmas.List.Elements.{All-nil, All-head, All-tail, All-cons, All-append}
use Rattle.burr_code.specs.declared.limits.TheConstants.{MOST_BUDGET}
use Rattle.burr_assembly.specs.Rules.Homes.{names_of}
use Rattle.burr_state.specs.declared.effect.Motion.{Motion}
use Rattle.burr_sheet.specs.declared.motion_lines.MotionLine.{MotionLine}
use Rattle.burr_state.specs.Rules.Motions.{IsMotionOf}
use Rattle.burr_sheet.specs.Rules.Expanding.{AreLinesOf}
use Rattle.burr_sheet.specs.Rules.SheetText.{MoveLine, longest_lines, move_line, move_lines, motion_lines, motion_count, motions_of}
use Rattle.burr_sheet.specs.Laws.SheetLaws.{OneListOfMotions}
use Rattle.burr_sheet.specs.Views.MotionLines.{BeginsWithLine, IsLineOf, joins, joins_last, line_of}
use Rattle.burr_sheet.proofs.GroupNames.{AreNames, names_of_assembly}
use Rattle.burr_sheet.proofs.Common.LineMotions.{BeginsWith, begins_with, each_of, is_line_of, length-motions_of, longest_lines-first, none_of_none}
use Rattle.burr_sheet.proofs.LineTexts.{one_line}

-- Lists of motions

-- what holds of each of two lists in a row holds of each of the first, and of the second
all_front : (P : Motion → Type 0) (front rest : List Motion) → All P (front ++ rest) → All P front
all_front P [] rest h = All-nil P
all_front P (m ∷ front) rest h = All-cons P m front (All-head P m (front ++ rest) h) (all_front P front rest (All-tail P m (front ++ rest) h))

all_rest : (P : Motion → Type 0) (front rest : List Motion) → All P (front ++ rest) → All P rest
all_rest P [] rest h = h
all_rest P (m ∷ front) rest h = all_rest P front rest (All-tail P m (front ++ rest) h)

-- motions of this many pieces, no more of them than a run makes
record AreMotions (pieces : ℕ) (motions : List Motion) : Type 0 where
  each : All (IsMotionOf pieces) motions
  few : length motions ≤ MOST_BUDGET

motions_after : (pieces : ℕ) (all front rest : List Motion) → AreMotions pieces all → all ≡ front ++ rest → AreMotions pieces rest
motions_after pieces all front rest are parts = record {
  each = all_rest (IsMotionOf pieces) front rest (subst (All (IsMotionOf pieces)) parts are.each);
  few = let few = are.few in omega (arith, ap length parts, length-append front rest);
}

-- the first line of such motions is a line of as many pieces
first_line : (pieces : ℕ) (motions : List Motion) (l : MoveLine) (ls : List MoveLine) → AreMotions pieces motions → BeginsWith l ls motions → IsLineOf pieces l
first_line pieces motions l ls are b =
    is_line_of pieces l b.some (let few = are.few in omega (arith, ap length b.parts, length-append (motions_of l) b.more, length-motions_of l))
    (all_front (IsMotionOf pieces) (motions_of l) b.more (subst (All (IsMotionOf pieces)) b.parts are.each))

-- a line and what follows it are some bytes
some_bytes : (line after : List ℕ) → (line ++ 10 ∷ []) ++ after ≢ []
some_bytes [] after e = cc
some_bytes (b ∷ line) after e = cc

-- One list of motions

one_list : (names : List (List ℕ)) → AreNames names → (n : ℕ) (lines others : List MoveLine) (motions more : List Motion) → longest_lines motions ≡ lines → longest_lines more ≡ others → AreMotions (length names) motions
    → AreMotions (length names) more → move_lines names n lines ≡ move_lines names n others → motions ≡ more
one_list names are n [] [] motions more is same one other e = none_of_none motions is ∙ sym (none_of_none more same)
one_list names are n [] (k ∷ ks) motions more is same one other e = absurd (some_bytes _ _ (sym e))
one_list names are n (l ∷ ls) [] motions more is same one other e = absurd (some_bytes _ _ e)
one_list names are n (l ∷ ls) (k ∷ ks) motions more is same one other e =
    let b = begins_with motions l ls is in
    let c = begins_with more k ks same in
    let line = one_line names n l k _ _ are (first_line _ motions l ls one b) (first_line _ more k ks other c) e in
    let after = one_list names are (suc n) ls ks b.more c.more b.lines c.lines (motions_after _ motions _ b.more one b.parts) (motions_after _ more _ c.more other c.parts) line.1 in
    b.parts ∙ (λ i. motions_of (line.0 i) ++ after i) ∙ sym c.parts

pub one_list_of_motions : OneListOfMotions
one_list_of_motions a text motions others is one other =
    one_list (names_of a) (names_of_assembly a is) 1 _ _ motions others refl refl (record { each = one.each; few = one.few }) (record { each = other.each; few = other.few }) (sym one.lines ∙ other.lines)

-- Line by line

-- the rest of a text is the lines of these motions, which the line before does not join
pub record IsStill (names : List (List ℕ)) (last : Option MotionLine) (number : ℕ) (rest : List ℕ) (more : List Motion) : Type 0 where
  pub apart : joins_last last (longest_lines more) ≡ false
  pub text : rest ≡ move_lines names number (longest_lines more)

-- the motions so far are read: whatever follows them is the lines of the rest
pub record Expands (names : List (List ℕ)) (text : List ℕ) (motions : List Motion) (last : Option MotionLine) (number : ℕ) (rest : List ℕ) : Type 0 where
  pub each : All (IsMotionOf (length names)) motions
  pub few : length motions ≤ MOST_BUDGET
  pub numbered : number ≤ length motions + 1
  pub goes : (more : List Motion) → IsStill names last number rest more → text ≡ motion_lines names (motions ++ more)
  pub comes : (all : List Motion) → AreLinesOf names text all → (more : List Motion) × (all ≡ motions ++ more) × IsStill names last number rest more

joins_first : (last : Option MotionLine) (l : MoveLine) (ls : List MoveLine) → joins_last last (l ∷ ls) ≡ joins_last last (l ∷ [])
joins_first None l ls = refl
joins_first (Some k) l ls = refl

joins_none : (last : Option MotionLine) → joins_last last [] ≡ false
joins_none None = refl
joins_none (Some k) = refl

module _ (names : List (List ℕ)) (text : List ℕ) (motions : List Motion) (last : Option MotionLine) (number : ℕ) (rest : List ℕ) (expands : Expands names text motions last number rest) where
  -- at its end
  pub expands_end : rest ≡ [] → AreLinesOf names text motions
  expands_end none = record {
    lines = expands.goes [] (record { apart = joins_none last; text = none }) ∙ ap (motion_lines names) (append-nil motions);
    each = expands.each;
    few = expands.few;
  }

  -- the line that comes next, if the text is of these motions
  record NextLine (all : List Motion) (l : MoveLine) (ls : List MoveLine) : Type 0 where
    more : List Motion
    parts : all ≡ (motions ++ motions_of l) ++ more
    lines : longest_lines more ≡ ls
    line : IsLineOf (length names) l
    apart : joins l ls ≡ false
    before : joins_last last (l ∷ []) ≡ false
    few : length motions + motion_count l ≤ MOST_BUDGET
    bytes : rest ≡ move_line names number l ++ move_lines names (suc number) ls

  next_line : (all more : List Motion) → AreLinesOf names text all → all ≡ motions ++ more → IsStill names last number rest more → (l : MoveLine) (ls : List MoveLine) → longest_lines more ≡ l ∷ ls → NextLine all l ls
  next_line all more lines parts still l ls is =
      let b = begins_with more l ls is in
      let are = motions_after (length names) all motions more (record { each = lines.each; few = lines.few }) parts in
      record {
        more = b.more;
        parts = parts ∙ ap (λ (ms : List Motion). motions ++ ms) b.parts ∙ sym (append_assoc motions (motions_of l) b.more);
        lines = b.lines;
        line = first_line (length names) more l ls are b;
        apart = b.apart;
        before = sym (joins_first last l ls) ∙ ap (joins_last last) (sym is) ∙ still.apart;
        few = let few = lines.few in omega (arith, ap length parts, length-append motions more, ap length b.parts, length-append (motions_of l) b.more, length-motions_of l);
        bytes = still.text ∙ ap (move_lines names number) is;
      }

  -- where no such line comes, the text is of no motions
  pub expands_none : rest ≢ []
      → ((l : MoveLine) (after : List ℕ) → IsLineOf (length names) l → joins_last last (l ∷ []) ≡ false → length motions + motion_count l ≤ MOST_BUDGET → ¬ (rest ≡ move_line names number l ++ after))
      → (all : List Motion) → ¬ AreLinesOf names text all
  expands_none some none all lines = let from = expands.comes all lines in by from.0 from.1 from.2 (longest_lines from.0) refl
    where
      by : (more : List Motion) → all ≡ motions ++ more → IsStill names last number rest more → (ls : List MoveLine) → longest_lines more ≡ ls → ⊥
      by more parts still [] is = some (still.text ∙ ap (move_lines names number) is)
      by more parts still (l ∷ ls) is = let next = next_line all more lines parts still l ls is in none l _ next.line next.before next.few next.bytes

  -- where one comes, its motions are read
  module _ (line : MotionLine) (after : List ℕ) (begins : BeginsWithLine names number rest (line_of line) after) (apart : joins_last last (line_of line ∷ []) ≡ false) (few : length motions + motion_count (line_of line) ≤ MOST_BUDGET) where
    abbrev l : MoveLine
    l = line_of line

    goes_on : (more : List Motion) → IsStill names (Some line) (suc number) after more → text ≡ motion_lines names ((motions ++ motions_of l) ++ more)
    goes_on more still =
        let first = longest_lines-first l more still.apart begins.line.moves in
        expands.goes (motions_of l ++ more) (record {
          apart = ap (joins_last last) first ∙ joins_first last l (longest_lines more) ∙ apart;
          text = begins.parts ∙ ap (λ (bytes : List ℕ). move_line names number l ++ bytes) still.text ∙ ap (move_lines names number) (sym first);
        })
        ∙ ap (motion_lines names) (sym (append_assoc motions (motions_of l) more))

    comes_on : (all : List Motion) → AreLinesOf names text all → (more : List Motion) × (all ≡ (motions ++ motions_of l) ++ more) × IsStill names (Some line) (suc number) after more
    comes_on all lines = let from = expands.comes all lines in by from.0 from.1 from.2 (longest_lines from.0) refl
      where
        by : (more : List Motion) → all ≡ motions ++ more → IsStill names last number rest more → (ls : List MoveLine) → longest_lines more ≡ ls
            → (next : List Motion) × (all ≡ (motions ++ motions_of l) ++ next) × IsStill names (Some line) (suc number) after next
        by more parts still [] is = absurd (some_bytes _ after (sym begins.parts ∙ still.text ∙ ap (move_lines names number) is))
        by more parts still (k ∷ ks) is =
            let next = next_line all more lines parts still k ks is in
            let same = begins.alone k _ next.line next.bytes in (
              next.more,
              next.parts ∙ ap (λ (j : MoveLine). (motions ++ motions_of j) ++ next.more) same.0,
              record {
                apart = (λ i. joins (sym same.0 i) (next.lines i)) ∙ next.apart;
                text = sym same.1 ∙ ap (move_lines names (suc number)) (sym next.lines);
              },
            )

    pub expands_line : (found : List Motion) (next : ℕ) → found ≡ motions ++ motions_of l → next ≡ suc number → Expands names text found (Some line) next after
    expands_line found next is one_more =
        subst (λ (ms : List Motion). Expands names text ms (Some line) next after) (sym is) (subst (λ (n : ℕ). Expands names text (motions ++ motions_of l) (Some line) n after) (sym one_more) (record {
          each = All-append (IsMotionOf (length names)) motions (motions_of l) expands.each (each_of (length names) l begins.line);
          few = omega (arith, length-append motions (motions_of l), length-motions_of l);
          numbered = let numbered = expands.numbered in let moves = begins.line.moves in omega (arith, length-append motions (motions_of l), length-motions_of l);
          goes = goes_on;
          comes = comes_on;
        }))
