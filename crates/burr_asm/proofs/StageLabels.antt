-- Labels and sizes of code: what the code tests is what the rules test.
use Rattle.std.proofs.Common.{◌≡◌, ℕ, ◌+◌, ◌<◌, ◌==◌, Bool, true, false, not, IsTrue, List, [], ◌∷◌, ◌++◌, length, None, refl, sym, ap, ◌∙◌, arith, append-nil, length-append}
use Rattle.std.specs.Prelude.{◌&&◌, nat_lt}
use Rattle.std.specs.List.{flat_map, list_all}
use Rattle.std.proofs.lemmas.Bool.{eq-eqb, ne_eqb, false≢true}
use Rattle.std.proofs.lemmas.Option.{none-some}
use Rattle.std.proofs.lemmas.List.{map-append, length-map}
use Rattle.std.proofs.lemmas.List.Folds.{list_all-append}
use Rattle.std.proofs.lemmas.Grind.{flat_map-append}
use Rattle.burr_code.specs.declared.limits.TheConstants.{MOST_LABELS}
use Rattle.burr_container.specs.Rules.Plans.{Frame}
use Rattle.burr_plantext.specs.Rules.Statements.{Statement}
use Rattle.burr_plantext.specs.Rules.Sources.{Block, FrameSource}
use Rattle.burr_plantext.specs.Rules.Meaning.{statement_bytes, code_size, block_code, frame_in, labels_in, label_names}
use Rattle.burr_plantext.specs.Rules.Checks.{P2, P4, unless, is_empty, is_known, has_code, label_check}
use Rattle.burr_plantext.proofs.Common.CodeSizes.{size_both, some_size}
use Rattle.burr_asm.specs.Views.Routines.{RoutineParts, ends_at, ends_with_label, label_refusal}
use Rattle.burr_asm.proofs.StagePlaces.{bare_block, with_code}

-- Sizes of code

-- the code of blocks with one block more
pub size_more : (blocks : List Block) (b : Block)
    → code_size (block_code (blocks ++ b ∷ [])) ≡ code_size (block_code blocks) + code_size b.code
size_more blocks b =
    ap code_size (flat_map-append (λ (b : Block). b.code) blocks (b ∷ []))
    ∙ size_both (block_code blocks) (b.code ++ [])
    ∙ ap (λ (code : List Statement). code_size (block_code blocks) + code_size code) (append-nil b.code)

-- the size with one statement more
pub size_with : (blocks : List Block) (b : Block) (w : Statement) (size : ℕ)
    → size ≡ code_size (block_code (blocks ++ b ∷ []))
    → size + code_size (w ∷ []) ≡ code_size (block_code blocks) + code_size (b.code ++ w ∷ [])
size_with blocks b w size e =
    omega (arith, e, size_more blocks b, size_both b.code (w ∷ []))

pub size_longer : (blocks : List Block) (b : Block) (w : Statement) (size : ℕ)
    → size ≡ code_size (block_code (blocks ++ b ∷ []))
    → size + code_size (w ∷ []) ≡ code_size (block_code (blocks ++ with_code b w ∷ []))
size_longer blocks b w size e =
    size_with blocks b w size e ∙ sym (size_more blocks (with_code b w))

-- a block without code yet adds nothing to the size
pub size_bare : (blocks : List Block) (label : List ℕ) (f : FrameSource)
    → code_size (block_code blocks) ≡ code_size (block_code (blocks ++ bare_block label f ∷ []))
size_bare blocks label f =
    omega (arith, size_more blocks (bare_block label f))

some_code : (s : Statement) (code : List Statement) → 0 < code_size (s ∷ code)
some_code s code =
    omega (arith, length-append (statement_bytes [] [] s) (flat_map (statement_bytes [] []) code), some_size s)

-- code of no bytes is no code
no_bytes : (n m : ℕ) (code : List Statement) → m ≡ n + code_size code
    → not (n == m) ≡ not (is_empty code)
no_bytes n m [] e = ap not (eq-eqb n m (omega (arith, e)))
no_bytes n m (s ∷ code) e =
    let some = some_code s code in
    ap not (ne_eqb n m (λ same. omega (arith, e, some, same)))

-- Labels

labels_from : (position : ℕ) (blocks : List Block) (b : Block)
    → labels_in position (blocks ++ b ∷ [])
    ≡ labels_in position blocks ++ (position + code_size (block_code blocks), frame_in b.frame) ∷ []
labels_from position [] b =
    let same : position ≡ position + code_size (block_code []) = omega arith in
    ap (λ (p : ℕ). (p, frame_in b.frame) ∷ []) same
labels_from position (first ∷ blocks) b =
    let next = position + code_size first.code in
    let sum = size_both first.code (block_code blocks) in
    let same : next + code_size (block_code blocks) ≡ position + code_size (block_code (first ∷ blocks)) =
    omega (arith, sum) in
    ap (λ (labels : List (ℕ × Frame)). (position, frame_in first.frame) ∷ labels)
    (labels_from next blocks b
    ∙ ap (λ (p : ℕ). labels_in next blocks ++ (p, frame_in b.frame) ∷ []) same)

-- the label of the last block stands at the end of the code before it
pub labels_more : (blocks : List Block) (b : Block)
    → labels_in 0 (blocks ++ b ∷ [])
    ≡ labels_in 0 blocks ++ (code_size (block_code blocks), frame_in b.frame) ∷ []
labels_more blocks b =
    let same : 0 + code_size (block_code blocks) ≡ code_size (block_code blocks) = omega arith in
    labels_from 0 blocks b
    ∙ ap (λ (p : ℕ). labels_in 0 blocks ++ (p, frame_in b.frame) ∷ []) same

-- code after the last label changes no label
pub labels_longer : (blocks : List Block) (b : Block) (s : Statement)
    → labels_in 0 (blocks ++ b ∷ []) ≡ labels_in 0 (blocks ++ with_code b s ∷ [])
labels_longer blocks b s = labels_more blocks b ∙ sym (labels_more blocks (with_code b s))

pub names_more : (blocks : List Block) (b : Block)
    → label_names (blocks ++ b ∷ []) ≡ label_names blocks ++ b.label ∷ []
names_more blocks b = map-append (λ (b : Block). b.label) blocks (b ∷ [])

pub names_longer : (blocks : List Block) (b : Block) (s : Statement)
    → label_names (blocks ++ b ∷ []) ≡ label_names (blocks ++ with_code b s ∷ [])
names_longer blocks b s = names_more blocks b ∙ sym (names_more blocks (with_code b s))

-- One label more

ends_last : (size : ℕ) (labels : List (ℕ × Frame)) (l : ℕ × Frame)
    → ends_at size (labels ++ l ∷ []) ≡ (l.0 == size)
ends_last size [] l = refl
ends_last size (first ∷ []) l = refl
ends_last size (first ∷ next ∷ labels) l = ends_last size (next ∷ labels) l

-- all blocks have code if the last one has, where those before it have
pub all_have_code : (blocks : List Block) (b : Block) → IsTrue (list_all has_code blocks)
    → has_code b ≡ list_all has_code (blocks ++ b ∷ [])
all_have_code blocks b full = grind (arith, list_all-append has_code blocks (b ∷ []), full)

-- the last label stands at the end of the code where its block has no code
pub last_has_code : (r : RoutineParts) (blocks : List Block) (b : Block)
    → r.labels ≡ labels_in 0 (blocks ++ b ∷ [])
    → r.code.size ≡ code_size (block_code (blocks ++ b ∷ []))
    → not (ends_with_label r) ≡ has_code b
last_has_code r blocks b labels size =
    let l : ℕ × Frame = (code_size (block_code blocks), frame_in b.frame) in
    ap (λ (ls : List (ℕ × Frame)). not (ends_at r.code.size ls)) (labels ∙ labels_more blocks b)
    ∙ ap not (ends_last r.code.size (labels_in 0 blocks) l)
    ∙ no_bytes (code_size (block_code blocks)) r.code.size b.code (size ∙ size_more blocks b)

-- what the code refuses of a label is what the rules refuse
refusal_is : (r : RoutineParts) (before : List Block) (name : List ℕ)
    → r.names ≡ label_names before → not (ends_with_label r) ≡ list_all has_code before
    → label_refusal r name ≡ label_check before name
refusal_is r before name names full =
    let many : length r.names ≡ length before =
    ap (λ (ns : List (List ℕ)). length ns) names ∙ length-map before (λ (b : Block). b.label) in
    λ j. unless (not (is_known (names j) name)) P2
    (unless (nat_lt (many j) MOST_LABELS && full j) P4 None)

-- the same of the first label
pub first_refusal : (r : RoutineParts) (name : List ℕ) → r.names ≡ [] → r.labels ≡ []
    → label_refusal r name ≡ label_check [] name
first_refusal r name names labels =
    refusal_is r [] name names (ap (λ (ls : List (ℕ × Frame)). not (ends_at r.code.size ls)) labels)

-- and of a later one
pub later_refusal : (r : RoutineParts) (blocks : List Block) (b : Block) (name : List ℕ)
    → r.names ≡ label_names (blocks ++ b ∷ []) → r.labels ≡ labels_in 0 (blocks ++ b ∷ [])
    → r.code.size ≡ code_size (block_code (blocks ++ b ∷ [])) → IsTrue (list_all has_code blocks)
    → label_refusal r name ≡ label_check (blocks ++ b ∷ []) name
later_refusal r blocks b name names labels size full =
    refusal_is r (blocks ++ b ∷ []) name names
    (last_has_code r blocks b labels size ∙ all_have_code blocks b full)

-- what passes the check of a label stands after blocks that have code
pub passed_label : (before : List Block) (name : List ℕ) → label_check before name ≡ None
    → IsTrue (list_all has_code before)
passed_label before name passed = grind (arith, passed)
