-- The comments of places are skipped: the lines that are read are those of the listing.
use Rattle.std.proofs.Common.{◌≡◌, ℕ, suc, ◌+◌, ◌==◌, Bool, true, false, Some, None, List, [], ◌∷◌, ◌++◌, map, refl, sym, ap, ◌∙◌, arith, codes, append_assoc, append-nil, if◌then◌else◌}
use Rattle.std.specs.List.{flat_map, join_with_byte}
use Rattle.std.specs.Fmt.{decimal}
use Rattle.burr_plantext.specs.Rules.Written.{pieces, parted}
use Rattle.burr_plantext.specs.Rules.Statements.{Statement}
use Rattle.burr_plantext.specs.Rules.Lines.{Line, PlanLine, ProcLine, LabelLine, CodeLine}
use Rattle.burr_plantext.specs.Rules.Sources.{Block, ProcedureSource, PlanSource, frame_lines, some_exit_lines}
use Rattle.burr_plantext.specs.Rules.Meaning.{code_size}
use Rattle.burr_plantext.specs.Rules.Texts.{LineRead, is_skipped, ended_line, last_line, numbered_from, lines_read}
use Rattle.burr_text.proofs.Common.Cuts.{Lacks}
use Rattle.burr_text.proofs.Common.Unended.{lacks_decimal}
use Rattle.burr_plantext.specs.Rules.Writing.{line_words, text_of, line_text}
use Rattle.burr_plantext.proofs.Common.Pieces.{one_piece, lacks_joined}
use Rattle.burr_plantext.specs.Rules.ListedPlaces.{place_comment, code_text, blocks_text, procedures_text, plan_text}
use Rattle.burr_plantext.proofs.Common.Cuts.{some_pieces}

-- Lines without their numbers

abbrev reads : List (ℕ × LineRead) → List LineRead
reads lines = map (λ (line : ℕ × LineRead). line.1) lines

-- what an ended line is read as
abbrev pub ended : List ℕ → List LineRead
ended line = if is_skipped line then [] else ended_line line ∷ []

first_read : (skipped : Bool) (n : ℕ) (line : LineRead) (rest : List (ℕ × LineRead))
    → reads ((if skipped then [] else (n, line) ∷ []) ++ rest)
    ≡ (if skipped then [] else line ∷ []) ++ reads rest
first_read true n line rest = refl
first_read false n line rest = refl

last_read : (n m : ℕ) (line : List ℕ) → reads (last_line n line) ≡ reads (last_line m line)
last_read n m [] = refl
last_read n m (b ∷ line) = refl

any_number : (n m : ℕ) (lines : List (List ℕ))
    → reads (numbered_from n lines) ≡ reads (numbered_from m lines)
any_number n m [] = refl
any_number n m (line ∷ []) = last_read n m line
any_number n m (line ∷ next ∷ more) =
    first_read (is_skipped line) n (ended_line line) (numbered_from (suc n) (next ∷ more))
    ∙ ap (λ (rest : List LineRead). ended line ++ rest) (any_number (suc n) (suc m) (next ∷ more))
    ∙ sym (first_read (is_skipped line) m (ended_line line) (numbered_from (suc m) (next ∷ more)))

more_read : (line next : List ℕ) (more : List (List ℕ))
    → reads (numbered_from 1 (line ∷ next ∷ more))
    ≡ ended line ++ reads (numbered_from 1 (next ∷ more))
more_read line next more =
    first_read (is_skipped line) 1 (ended_line line) (numbered_from 2 (next ∷ more))
    ∙ ap (λ (rest : List LineRead). ended line ++ rest) (any_number 2 1 (next ∷ more))

front_read : (front : List (List ℕ)) (line : List ℕ) (more : List (List ℕ))
    → reads (numbered_from 1 (front ++ (line ∷ more)))
    ≡ flat_map ended front ++ reads (numbered_from 1 (line ∷ more))
front_read [] line more = refl
front_read (first ∷ []) line more =
    more_read first line more
    ∙ ap (λ (t : List LineRead). t ++ reads (numbered_from 1 (line ∷ more)))
    (sym (append-nil (ended first)))
front_read (first ∷ next ∷ front) line more =
    more_read first next (front ++ (line ∷ more))
    ∙ ap (λ (t : List LineRead). ended first ++ t) (front_read (next ∷ front) line more)
    ∙ sym (append_assoc (ended first) (flat_map ended (next ∷ front))
    (reads (numbered_from 1 (line ∷ more))))

-- Texts with an end of a line within

parted_front : (t : Bool) (b : ℕ) (first : List ℕ) (more next : List (List ℕ))
    → parted t b ((first ∷ more) ++ next) ≡ parted t b (first ∷ more) ++ next
parted_front true b first more next = refl
parted_front false b first more next = refl

two_pieces : (front rest : List ℕ)
    → pieces 10 (front ++ (10 ∷ rest)) ≡ pieces 10 front ++ pieces 10 rest
two_pieces [] rest = refl
two_pieces (b ∷ front) rest =
    let (first, more, e) = some_pieces 10 front in
    ap (λ (ps : List (List ℕ)). parted (b == 10) b ps)
    (two_pieces front rest ∙ ap (λ (ps : List (List ℕ)). ps ++ pieces 10 rest) e)
    ∙ parted_front (b == 10) b first more (pieces 10 rest)
    ∙ ap (λ (ps : List (List ℕ)). parted (b == 10) b ps ++ pieces 10 rest) (sym e)

line_read : (line rest : List ℕ)
    → lines_read (line ++ (10 ∷ rest)) ≡ flat_map ended (pieces 10 line) ++ lines_read rest
line_read line rest =
    let (first, more, e) = some_pieces 10 rest in
    ap (λ (ps : List (List ℕ)). reads (numbered_from 1 ps))
    (two_pieces line rest ∙ ap (λ (ps : List (List ℕ)). pieces 10 line ++ ps) e)
    ∙ front_read (pieces 10 line) first more
    ∙ ap (λ (ps : List (List ℕ)). flat_map ended (pieces 10 line) ++ reads (numbered_from 1 ps))
    (sym e)

-- The same lines are read from both texts.
abbrev SameLines : List ℕ → List ℕ → Type 0
SameLines a b = lines_read a ≡ lines_read b

pub ended_read : (line rest : List ℕ)
    → lines_read ((line ++ 10 ∷ []) ++ rest)
    ≡ flat_map ended (pieces 10 line) ++ lines_read rest
ended_read line rest = ap lines_read (append_assoc line (10 ∷ []) rest) ∙ line_read line rest

same_line : (line : Line) (a b : List ℕ) → SameLines a b
    → SameLines (line_text line ++ a) (line_text line ++ b)
same_line line a b same =
    let words = join_with_byte 32 (line_words line) in
    ended_read words a
    ∙ ap (λ (t : List LineRead). flat_map ended (pieces 10 words) ++ t) same
    ∙ sym (ended_read words b)

same_lines : (lines : List Line) (a b : List ℕ) → SameLines a b
    → SameLines (text_of lines ++ a) (text_of lines ++ b)
same_lines [] a b same = same
same_lines (line ∷ lines) a b same =
    ap lines_read (append_assoc (line_text line) (text_of lines) a)
    ∙ same_line line (text_of lines ++ a) (text_of lines ++ b) (same_lines lines a b same)
    ∙ ap lines_read (sym (append_assoc (line_text line) (text_of lines) b))

comment_skipped : (n pc : ℕ) (rest : List ℕ) → SameLines (place_comment n pc ++ rest) rest
comment_skipped n pc rest =
    let words = codes ";" ∷ codes "proc" ∷ decimal n ∷ codes "pc" ∷ decimal pc ∷ [] in
    let word : Lacks 10 (codes "proc") =
    ((λ e. omega (arith, e)), ((λ e. omega (arith, e)), ((λ e. omega (arith, e)), ((λ e. omega (arith, e)), tt)))) in
    let pc_word : Lacks 10 (codes "pc") = ((λ e. omega (arith, e)), ((λ e. omega (arith, e)), tt)) in
    let mark : Lacks 10 (codes ";") = ((λ e. omega (arith, e)), tt) in
    let lacks : Lacks 10 (join_with_byte 32 words) =
    lacks_joined 10 32 words (λ e. omega (arith, e))
    (mark, (word, (lacks_decimal n, (pc_word, (lacks_decimal pc, tt))))) in
    ended_read (join_with_byte 32 words) rest
    ∙ ap (λ (ps : List (List ℕ)). flat_map ended ps ++ lines_read rest)
    (one_piece 10 (join_with_byte 32 words) lacks)

code_same : (n pc : ℕ) (code : List Statement) (a b : List ℕ) → SameLines a b
    → SameLines (code_text (Some n) pc code ++ a) (code_text None pc code ++ b)
code_same n pc [] a b same = same
code_same n pc (s ∷ code) a b same =
    let line = line_text (CodeLine s) in
    let after = pc + code_size (s ∷ []) in
    let placed = code_text (Some n) after code ++ a in
    let plain = code_text None after code ++ b in
    ap lines_read
    (append_assoc (place_comment n pc ++ line) (code_text (Some n) after code) a
    ∙ append_assoc (place_comment n pc) line placed)
    ∙ comment_skipped n pc (line ++ placed)
    ∙ same_line (CodeLine s) placed plain (code_same n after code a b same)
    ∙ ap lines_read (sym (append_assoc line (code_text None after code) b))

blocks_same : (n pc : ℕ) (blocks : List Block) (a b : List ℕ) → SameLines a b
    → SameLines (blocks_text (Some n) pc blocks ++ a) (blocks_text None pc blocks ++ b)
blocks_same n pc [] a b same = same
blocks_same n pc (block ∷ blocks) a b same =
    let lines = LabelLine block.label ∷ frame_lines block.frame in
    let after = pc + code_size block.code in
    let placed = blocks_text (Some n) after blocks ++ a in
    let plain = blocks_text None after blocks ++ b in
    ap lines_read
    (append_assoc (text_of lines ++ code_text (Some n) pc block.code)
    (blocks_text (Some n) after blocks) a
    ∙ append_assoc (text_of lines) (code_text (Some n) pc block.code) placed)
    ∙ same_lines lines (code_text (Some n) pc block.code ++ placed)
    (code_text None pc block.code ++ plain)
    (code_same n pc block.code placed plain (blocks_same n after blocks a b same))
    ∙ ap lines_read
    (sym (append_assoc (text_of lines ++ code_text None pc block.code)
    (blocks_text None after blocks) b
    ∙ append_assoc (text_of lines) (code_text None pc block.code) plain))

procedures_same : (n : ℕ) (procedures : List ProcedureSource)
    → SameLines (procedures_text true n procedures) (procedures_text false n procedures)
procedures_same n [] = refl
procedures_same n (p ∷ procedures) =
    let lines = ProcLine p.head ∷ some_exit_lines p.exit in
    let placed = procedures_text true (suc n) procedures in
    let plain = procedures_text false (suc n) procedures in
    ap lines_read (append_assoc (text_of lines) (blocks_text (Some n) 0 p.blocks) placed)
    ∙ same_lines lines (blocks_text (Some n) 0 p.blocks ++ placed)
    (blocks_text None 0 p.blocks ++ plain)
    (blocks_same n 0 p.blocks placed plain (procedures_same (suc n) procedures))
    ∙ ap lines_read (sym (append_assoc (text_of lines) (blocks_text None 0 p.blocks) plain))

pub plan_same : (s : PlanSource) → lines_read (plan_text true s) ≡ lines_read (plan_text false s)
plan_same s =
    same_line (PlanLine s.title) (procedures_text true 0 s.procedures)
    (procedures_text false 0 s.procedures) (procedures_same 0 s.procedures)
