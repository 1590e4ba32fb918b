-- The lines of a plan that is right are its parts, one after the other.
use Rattle.std.proofs.Common.{◌≡◌, ℕ, suc, pred, ◌+◌, List, [], ◌∷◌, ◌++◌, length, map, flat_map, Option, Some, None, IsTrue, true≢false, refl, sym, ap, subst, ◌∙◌, arith}
use Rattle.std.specs.Prelude.{Bool, true, false, is_none, nat_le}
use Rattle.std.proofs.lemmas.Bool.{and_from, and_parts}
use Rattle.burr_code.specs.declared.limits.TheConstants.{MOST_CODE}
use Rattle.burr_plantext.specs.Rules.Written.{natural_in}
use Rattle.burr_plantext.specs.Rules.Statements.{Statement}
use Rattle.burr_plantext.specs.Rules.Lines.{PlanWords, Line, PlanLine, ProcLine, LabelLine, CodeLine}
use Rattle.burr_plantext.specs.Rules.Sources.{Block, ProcedureSource, block_lines, procedure_lines}
use Rattle.burr_plantext.specs.Rules.Meaning.{code_size, block_code}
use Rattle.burr_plantext.specs.Rules.Checks.{FaultKind, P3, P4, unless, is_in_range, statement_check}
use Rattle.burr_plantext.specs.Rules.Right.{each_after, all_right, is_block, is_procedure}
use Rattle.burr_plantext.specs.Rules.Texts.{LineRead, Reads, numbered_lines}
use Rattle.burr_asm.specs.declared.source_maps.PlanPart.{PlanPart}
use Rattle.burr_asm.specs.declared.source_maps.Cursor.{Cursor}
use Rattle.burr_asm.specs.Rules.SourceMaps.{rows, code_parts, blocks_parts, procedure_parts, procedures_parts, IsSourceMap}
use Rattle.burr_asm.specs.Views.SourceMaps.{at_start, row_part, with_row, next_part, part_read}
use Rattle.burr_plantext.proofs.Common.CodeSizes.{size_both}
use Rattle.burr_asm.proofs.StageLabels.{size_more}
use Rattle.burr_asm.proofs.StagePlaces.{AreRows, no_rows, row_and, is_row, frame_rows, exit_rows}
use Rattle.burr_asm.proofs.PartLines.{if_taken, and_on, walk}

-- Each of the lines is one of the parts, in their order.
data Walks : Cursor → List Line → List PlanPart → Cursor → Type 0 where
  ends : {k : Cursor} → Walks k [] [] k
  goes : {k next last : Cursor} {line : Line} {lines : List Line} {part : PlanPart} {parts : List PlanPart}
      → next_part k line ≡ Some (part, next) → Walks next lines parts last → Walks k (line ∷ lines) (part ∷ parts) last

join : {k m last : Cursor} {a b : List Line} {p q : List PlanPart} → Walks k a p m → Walks m b q last → Walks k (a ++ b) (p ++ q) last
join ends w = w
join (goes is more) w = goes is (join more w)

-- they are the parts of lines of a text, each with its number
told : {k last : Cursor} {lines : List Line} {parts : List PlanPart} → Walks k lines parts last
    → (ls : List (ℕ × LineRead)) → map (λ (l : ℕ × LineRead). l.1) ls ≡ map Reads lines
    → (map (λ (f : PlanPart × ℕ). f.0) (walk k ls) ≡ parts) × (map (λ (f : PlanPart × ℕ). f.1) (walk k ls) ≡ map (λ (l : ℕ × LineRead). l.0) ls)
told ends [] e = (refl, refl)
told ends (l ∷ ls) e = absurd (cc)
told (goes is more) [] e = absurd (cc)
told (goes {k} {next} {last} {line} {lines} {part} {parts} is more) (l ∷ ls) e =
    let first : l.1 ≡ Reads line = cc in
    let others : map (λ (l : ℕ × LineRead). l.1) ls ≡ map Reads lines = cc in
    let rest = told more ls others in
    let here = ap (part_read k) first ∙ is in (
      ap (λ (o : Option (PlanPart × Cursor)). map (λ (f : PlanPart × ℕ). f.0) (and_on l.0 o (λ next. walk next ls))) here ∙ ap (λ (ps : List PlanPart). part ∷ ps) rest.0,
      ap (λ (o : Option (PlanPart × Cursor)). map (λ (f : PlanPart × ℕ). f.1) (and_on l.0 o (λ next. walk next ls))) here ∙ ap (λ (ns : List ℕ). l.0 ∷ ns) rest.1,
    )

abbrev cursor : ℕ → ℕ → ℕ → ℕ → Cursor
cursor procedures labels row pc = record { procedures = procedures; labels = labels; rows = row; pc = pc }

-- The lines of a frame

row_is : (line : Line) → is_row line ≡ true → (k : Cursor) → next_part k line ≡ Some (with_row k)
row_is (PlanLine title) is k = absurd (true≢false (sym is))
row_is (ProcLine head) is k = absurd (true≢false (sym is))
row_is (LabelLine name) is k = absurd (true≢false (sym is))
row_is (CodeLine s) is k = absurd (true≢false (sym is))
row_is line is k = refl

rows_walk : {lines : List Line} → AreRows lines → (procedures labels row pc : ℕ)
    → (last : ℕ) × Walks (cursor procedures labels row pc) lines (rows (row_part (pred procedures) labels) row (length lines)) (cursor procedures labels last pc)
rows_walk no_rows procedures labels row pc = (row, ends)
rows_walk (row_and {line} is others) procedures labels row pc =
    let rest = rows_walk others procedures labels (suc row) pc in
    (rest.0, goes (row_is line is (cursor procedures labels row pc)) rest.1)

-- Code and labels

-- where a check finds nothing wrong its test holds, and what follows finds nothing wrong
parts_of_check : (t : Bool) (k : FaultKind) (others : Option FaultKind) → IsTrue (is_none (unless t k others)) → IsTrue t × IsTrue (is_none others)
parts_of_check true k others h = (refl, h)
parts_of_check false k others h = absurd (cc)

code_right : (pieces : ℕ) (before : List Block) (b : Block) → IsTrue (is_block pieces before b) → IsTrue (all_right (statement_check before) b.code)
code_right pieces before b h = (and_parts _ _ (and_parts _ _ h).0).1

-- of the procedure of this number
module _ (procedure : ℕ) where
  code_walk : (blocks : List Block) (before code : List Statement) → IsTrue (each_after (λ b s. is_none (statement_check blocks b s)) before code)
      → (labels row pc end : ℕ) → pc ≡ code_size (block_code blocks) + code_size before → pc + code_size code ≡ end
      → Walks (cursor (suc procedure) labels row pc) (map CodeLine code) (code_parts procedure pc code) (cursor (suc procedure) labels row end)
  code_walk blocks before [] h labels row pc end here e =
      subst (λ (n : ℕ). Walks (cursor (suc procedure) labels row pc) [] [] (cursor (suc procedure) labels row n)) (let same : pc ≡ end = omega arith in same) ends
  code_walk blocks before (s ∷ code) h labels row pc end here e =
      let parts = and_parts (is_none (statement_check blocks before s)) _ h in
      let ranged = parts_of_check (is_in_range s) P3 _ parts.0 in
      let few = parts_of_check (nat_le (code_size (block_code blocks) + code_size (before ++ s ∷ [])) MOST_CODE) P4 None ranged.1 in
      let one = size_both before (s ∷ []) in
      let more = size_both (s ∷ []) code in
      let next : pc + code_size (s ∷ []) ≡ code_size (block_code blocks) + code_size (before ++ s ∷ []) = omega arith in
      goes (ap (if_taken (cursor (suc procedure) labels row pc) s) (and_from _ _ ranged.0 (rw next few.0)))
      (code_walk blocks (before ++ s ∷ []) code parts.1 labels row (pc + code_size (s ∷ [])) end next (omega arith))

  blocks_walk : (pieces : ℕ) (before blocks : List Block) → IsTrue (each_after (is_block pieces) before blocks) → (labels row pc : ℕ) → pc ≡ code_size (block_code before)
      → (last row_after end : ℕ) × Walks (cursor (suc procedure) labels row pc) (flat_map block_lines blocks) (blocks_parts procedure labels pc blocks) (cursor (suc procedure) last row_after end)
  blocks_walk pieces before [] h labels row pc here = (labels, row, pc, ends)
  blocks_walk pieces before (b ∷ blocks) h labels row pc here =
      let parts = and_parts (is_block pieces before b) _ h in
      let sum = size_more before b in
      let frame = rows_walk (frame_rows b.frame) (suc procedure) (suc labels) 0 pc in
      let code = code_walk before [] b.code (code_right pieces before b parts.0) (suc labels) frame.0 pc (pc + code_size b.code) (omega arith) refl in
      let rest = blocks_walk pieces (before ++ b ∷ []) blocks parts.1 (suc labels) frame.0 (pc + code_size b.code) (omega arith) in
      (rest.0, rest.1, rest.2, join {last = cursor (suc procedure) rest.0 rest.1 rest.2} (goes refl (join frame.1 code)) rest.3)

  procedure_walk : (title : PlanWords) (before : List ProcedureSource) (p : ProcedureSource) → IsTrue (is_procedure title before p) → (labels row pc : ℕ)
      → (last row_after end : ℕ) × Walks (cursor procedure labels row pc) (procedure_lines p) (procedure_parts procedure p) (cursor (suc procedure) last row_after end)
  procedure_walk title before p right labels row pc =
      let exit = rows_walk (exit_rows p.exit) (suc procedure) 0 0 0 in
      let rest = blocks_walk (natural_in title.pieces) [] p.blocks (and_parts _ _ right).1 0 exit.0 0 refl in
      (rest.0, rest.1, rest.2, goes {last = cursor (suc procedure) rest.0 rest.1 rest.2} refl (join exit.1 rest.3))

-- Plans

procedures_walk : (title : PlanWords) (before ps : List ProcedureSource) → IsTrue (each_after (is_procedure title) before ps) → (procedure labels row pc : ℕ)
    → (last : Cursor) × Walks (cursor procedure labels row pc) (flat_map procedure_lines ps) (procedures_parts procedure ps) last
procedures_walk title before [] right procedure labels row pc = (cursor procedure labels row pc, ends)
procedures_walk title before (p ∷ ps) right procedure labels row pc =
    let parts = and_parts _ _ right in
    let first = procedure_walk procedure title before p parts.0 labels row pc in
    let rest = procedures_walk title (before ++ p ∷ []) ps parts.1 (suc procedure) first.0 first.1 first.2 in
    (rest.0, join first.3 rest.1)

-- What the lines of a text are is where the parts of its plan stand.
pub is_map : (text : List ℕ) (found : List (PlanPart × ℕ)) → found ≡ walk at_start (numbered_lines text) → IsSourceMap text found
is_map text found e s text_of =
    let so_far = (and_parts _ _ text_of.right).0 in
    let right = (and_parts _ _ so_far).1 in
    let all = procedures_walk s.title [] s.procedures right 0 0 0 0 in
    rw e (told (goes refl all.1) (numbered_lines text) text_of.lines)
