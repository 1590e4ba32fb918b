-- Where the lines of a procedure stand, and which of them are lines of code.
use Rattle.std.proofs.Common.{◌≡◌, ℕ, suc, ◌+◌, Bool, true, false, true≢false, List, [], ◌∷◌, ◌++◌, length, map, Option, Some, None, refl, sym, ap, ◌∙◌, arith, append-nil, append_assoc, length-append}
use Rattle.std.specs.List.{flat_map}
use Rattle.std.proofs.lemmas.List.{map-append, length-map}
use Rattle.std.proofs.lemmas.Grind.{flat_map-append}
use Rattle.burr_plantext.specs.Rules.Statements.{Statement}
use Rattle.burr_plantext.specs.Rules.Lines.{Line, ProcedureWords, PlanLine, ProcLine, ResultLine, LabelLine, SlotLine, GuardLine, StackLine, CostLine, AtLine, CodeLine}
use Rattle.burr_plantext.specs.Rules.Sources.{ExitSource, Conditions, FrameSource, Block, exit_lines, some_exit_lines, condition_lines, frame_lines, block_lines}
use Rattle.burr_asm.specs.Views.Beginnings.{code_lines, lines_of}

-- Lines of code among lines

-- the lines of code of two stretches; the second begins at the place `next`
pub code_lines-append : (number : ℕ → ℕ) (place next : ℕ) (xs ys : List Line)
    → next ≡ place + length xs
    → code_lines number place (xs ++ ys) ≡ code_lines number place xs ++ code_lines number next ys
code_lines-append number place next [] ys e =
    let same : place ≡ next = omega (arith, e) in
    ap (λ (p : ℕ). code_lines number p ys) same
code_lines-append number place next (CodeLine s ∷ xs) ys e =
    ap (λ (lines : List (ℕ × Statement)). (number place, s) ∷ lines)
    (code_lines-append number (suc place) next xs ys (omega (arith, e)))
code_lines-append number place next (line ∷ xs) ys e =
    code_lines-append number (suc place) next xs ys (omega (arith, e))

-- a line of an exit frame, or of a label's frame
abbrev pub is_row : Line → Bool
is_row (PlanLine title) = false
is_row (ProcLine head) = false
is_row (LabelLine name) = false
is_row (CodeLine s) = false
is_row line = true

pub data AreRows : List Line → Type 0 where
  no_rows : AreRows []
  row_and : {line : Line} {lines : List Line} → is_row line ≡ true → AreRows lines → AreRows (line ∷ lines)

both_rows : {a b : List Line} → AreRows a → AreRows b → AreRows (a ++ b)
both_rows no_rows h = h
both_rows (row_and is others) h = row_and is (both_rows others h)

each : {A : Type 0} (f : A → Line) → ((x : A) → is_row (f x) ≡ true) → (xs : List A) → AreRows (map f xs)
each f is [] = no_rows
each f is (x ∷ xs) = row_and (is x) (each f is xs)

pub frame_rows : (f : FrameSource) → AreRows (frame_lines f)
frame_rows f =
    both_rows
    (row_and refl (both_rows (each SlotLine (λ x. refl) f.conditions.slots) (both_rows (each GuardLine (λ x. refl) f.conditions.guards) (each StackLine (λ x. refl) f.conditions.stack))))
    (row_and refl (each AtLine (λ x. refl) f.pieces))

pub exit_rows : (exit : Option ExitSource) → AreRows (some_exit_lines exit)
exit_rows None = no_rows
exit_rows (Some e) =
    row_and refl
    (both_rows (each ResultLine (λ x. refl) e.results) (both_rows (each GuardLine (λ x. refl) e.guards) (each AtLine (λ x. refl) e.pieces)))

row_lacks : (number : ℕ → ℕ) (place : ℕ) (line : Line) (lines : List Line) → is_row line ≡ true
    → code_lines number place (line ∷ lines) ≡ code_lines number (suc place) lines
row_lacks number place (CodeLine s) lines is = absurd (true≢false (sym is))
row_lacks number place line lines is = refl

-- none of them is a line of code
pub rows_lack : {lines : List Line} → AreRows lines → (number : ℕ → ℕ) (place : ℕ)
    → code_lines number place lines ≡ []
rows_lack no_rows number place = refl
rows_lack (row_and {line} {lines} is others) number place =
    row_lacks number place line lines is ∙ rows_lack others number (suc place)

-- a procedure before its first label has no code
pub begun_lacks : (h : ProcedureWords) (exit : Option ExitSource) (number : ℕ → ℕ) (place : ℕ)
    → code_lines number place (lines_of h exit []) ≡ []
begun_lacks h exit number place = rows_lack (both_rows (exit_rows exit) no_rows) number (suc place)

-- Blocks

-- the block of a label whose frame has been read, but no code yet
abbrev pub bare_block : List ℕ → FrameSource → Block
bare_block label f = record { label = label; frame = f; code = [] }

-- the block with one line of code more
abbrev pub with_code : Block → Statement → Block
with_code b s = record b { code = b.code ++ s ∷ [] }

bare_lacks : (label : List ℕ) (f : FrameSource) (number : ℕ → ℕ) (place : ℕ)
    → code_lines number place (block_lines (bare_block label f)) ≡ []
bare_lacks label f number place = rows_lack (both_rows (frame_rows f) no_rows) number (suc place)

-- the lines of a procedure with one block more
pub lines_more : (h : ProcedureWords) (exit : Option ExitSource) (blocks : List Block) (b : Block)
    → lines_of h exit (blocks ++ b ∷ []) ≡ lines_of h exit blocks ++ block_lines b
lines_more h exit blocks b =
    let front = some_exit_lines exit in
    let more : flat_map block_lines (blocks ++ b ∷ []) ≡ flat_map block_lines blocks ++ block_lines b =
    flat_map-append block_lines blocks (b ∷ [])
    ∙ ap (λ (t : List Line). flat_map block_lines blocks ++ t) (append-nil (block_lines b)) in
    ap (λ (t : List Line). ProcLine h ∷ t)
    (ap (λ (t : List Line). front ++ t) more
    ∙ sym (append_assoc front (flat_map block_lines blocks) (block_lines b)))

pub length_more : (h : ProcedureWords) (exit : Option ExitSource) (blocks : List Block) (b : Block)
    → length (lines_of h exit (blocks ++ b ∷ []))
    ≡ length (lines_of h exit blocks) + length (block_lines b)
length_more h exit blocks b =
    ap (λ (t : List Line). length t) (lines_more h exit blocks b)
    ∙ length-append (lines_of h exit blocks) (block_lines b)

block_longer : (b : Block) (s : Statement)
    → block_lines (with_code b s) ≡ block_lines b ++ CodeLine s ∷ []
block_longer b s =
    ap (λ (t : List Line). LabelLine b.label ∷ t)
    (ap (λ (t : List Line). frame_lines b.frame ++ t) (map-append CodeLine b.code (s ∷ []))
    ∙ sym (append_assoc (frame_lines b.frame) (map CodeLine b.code) (CodeLine s ∷ [])))

-- the lines of a procedure with one line of code more after its last block
pub lines_longer : (h : ProcedureWords) (exit : Option ExitSource) (blocks : List Block) (b : Block)
    (s : Statement)
    → lines_of h exit (blocks ++ with_code b s ∷ [])
    ≡ lines_of h exit (blocks ++ b ∷ []) ++ CodeLine s ∷ []
lines_longer h exit blocks b s =
    let front = lines_of h exit blocks in
    lines_more h exit blocks (with_code b s)
    ∙ ap (λ (t : List Line). front ++ t) (block_longer b s)
    ∙ sym (append_assoc front (block_lines b) (CodeLine s ∷ []))
    ∙ ap (λ (t : List Line). t ++ CodeLine s ∷ []) (sym (lines_more h exit blocks b))

pub length_longer : (h : ProcedureWords) (exit : Option ExitSource) (blocks : List Block) (b : Block)
    (s : Statement)
    → length (lines_of h exit (blocks ++ with_code b s ∷ []))
    ≡ suc (length (lines_of h exit (blocks ++ b ∷ [])))
length_longer h exit blocks b s =
    omega (arith, ap (λ (t : List Line). length t) (lines_longer h exit blocks b s), length-append (lines_of h exit (blocks ++ b ∷ [])) (CodeLine s ∷ []))

pub block_length : (b : Block) (s : Statement)
    → length (block_lines (with_code b s)) ≡ suc (length (block_lines b))
block_length b s =
    omega (arith, ap (λ (t : List Line). length t) (block_longer b s), length-append (block_lines b) (CodeLine s ∷ []))

pub bare_length : (label : List ℕ) (f : FrameSource)
    → length (block_lines (bare_block label f)) ≡ suc (length (frame_lines f))
bare_length label f =
    omega (arith, length-append (frame_lines f) [])

-- Lengths of parts

pub conditions_length : (c : Conditions)
    → length (condition_lines c) ≡ suc (length c.slots + (length c.guards + length c.stack))
conditions_length c =
    let first = length-append (map SlotLine c.slots) (map GuardLine c.guards ++ map StackLine c.stack) in
    omega (arith, first, length-append (map GuardLine c.guards) (map StackLine c.stack), length-map c.slots SlotLine, length-map c.guards GuardLine, length-map c.stack StackLine)

pub frame_length : (f : FrameSource)
    → length (frame_lines f) ≡ length (condition_lines f.conditions) + suc (length f.pieces)
frame_length f =
    omega (arith, length-append (condition_lines f.conditions) (CostLine f.cost ∷ map AtLine f.pieces), length-map f.pieces AtLine)

pub exit_length : (e : ExitSource)
    → length (exit_lines e) ≡ suc (length e.results + (length e.guards + length e.pieces))
exit_length e =
    let first = length-append (map ResultLine e.results) (map GuardLine e.guards ++ map AtLine e.pieces) in
    omega (arith, first, length-append (map GuardLine e.guards) (map AtLine e.pieces), length-map e.results ResultLine, length-map e.guards GuardLine, length-map e.pieces AtLine)

pub one_longer : {A : Type 0} (xs : List A) (x : A) → length (xs ++ x ∷ []) ≡ suc (length xs)
one_longer xs x = let sum = length-append xs (x ∷ []) in omega (arith, sum)

pub begun_length : (h : ProcedureWords) (exit : Option ExitSource)
    → length (lines_of h exit []) ≡ suc (length (some_exit_lines exit))
begun_length h exit = let sum = length-append (some_exit_lines exit) [] in omega (arith, sum)

-- What the code has of lines of code

-- one line of code more after the last block's code
pub code_longer : (number : ℕ → ℕ) (start place : ℕ) (h : ProcedureWords) (exit : Option ExitSource)
    (blocks : List Block) (b : Block) (n : ℕ) (w : Statement)
    → place ≡ start + length (lines_of h exit (blocks ++ b ∷ [])) → n ≡ number place
    → code_lines number start (lines_of h exit (blocks ++ b ∷ [])) ++ (n, w) ∷ []
    ≡ code_lines number start (lines_of h exit (blocks ++ with_code b w ∷ []))
code_longer number start place h exit blocks b n w next line =
    let front = lines_of h exit (blocks ++ b ∷ []) in
    ap (λ (k : ℕ). code_lines number start front ++ (k, w) ∷ []) line
    ∙ sym (code_lines-append number start place front (CodeLine w ∷ []) next)
    ∙ ap (λ (t : List Line). code_lines number start t) (sym (lines_longer h exit blocks b w))

-- a block without code yet adds no lines of code
pub code_bare : (number : ℕ → ℕ) (start : ℕ) (h : ProcedureWords) (exit : Option ExitSource)
    (blocks : List Block) (label : List ℕ) (f : FrameSource)
    → code_lines number start (lines_of h exit (blocks ++ bare_block label f ∷ []))
    ≡ code_lines number start (lines_of h exit blocks)
code_bare number start h exit blocks label f =
    let front = lines_of h exit blocks in
    let next = start + length front in
    ap (λ (t : List Line). code_lines number start t) (lines_more h exit blocks (bare_block label f))
    ∙ code_lines-append number start next front (block_lines (bare_block label f)) refl
    ∙ ap (λ (t : List (ℕ × Statement)). code_lines number start front ++ t)
    (bare_lacks label f number next)
    ∙ append-nil (code_lines number start front)
