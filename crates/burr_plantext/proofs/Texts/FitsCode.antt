-- What is right as it is written fits the format: code and blocks.
use Rattle.std.proofs.Common.{◌≡◌, ℕ, suc, ◌+◌, ◌/◌, ◌%◌, ◌^◌, ◌<◌, ◌≤◌, List, [], ◌∷◌, ◌++◌, length, map, Bool, true, false, not, IsTrue, ℤ, refl, sym, ap, subst, ◌∙◌, arith, lt-ltb, ltb-true, le-leb, leb-true, length-append, append_assoc, append-nil, ◌&&◌, is_none, nat_le, nat_lt, None, if◌then◌else◌}
use Rattle.std.specs.List.{list_all}
use Rattle.std.specs.Str.{bytes_eq}
use Rattle.std.proofs.lemmas.Bool.{and_from, and_parts}
use Rattle.burr_code.specs.Instruction.{signed_word, label_bytes, spelled}
use Rattle.burr_code.specs.declared.limits.TheConstants.{MOST_CODE, MOST_LABELS}
use Rattle.burr_container.specs.Rules.Plans.{Frame}
use Rattle.burr_plantext.specs.Rules.Written.{natural_in, number_in, set_in}
use Rattle.burr_plantext.specs.Rules.Statements.{Statement}
use Rattle.burr_plantext.specs.Rules.Sources.{Block}
use Rattle.burr_plantext.specs.Rules.Meaning.{number_of, statement_bytes, code_bytes, code_size, block_code, frame_in, labels_in, label_names}
use Rattle.burr_plantext.specs.Rules.Checks.{P2, P3, P4, unless, is_empty, is_known, is_in_range, statement_check, label_check, has_code}
use Rattle.burr_container.specs.Rules.Fitting.{rise_from}
use Rattle.std.proofs.lemmas.List.{length-map}
use Rattle.std.specs.Int.{w16, cast_unsigned}
use Rattle.std.proofs.lemmas.Grind.{flat_map-append}
use Rattle.burr_voxels.specs.declared.direction.Direction.{Direction}
use Rattle.burr_voxels.specs.declared.direction.Direction.TheVariants.{PlusX}
use Rattle.burr_voxels.specs.Grid as grid
use Rattle.burr_code.specs.Instruction as code
use Rattle.burr_plantext.specs.Rules.Statements as said
use Rattle.burr_plantext.specs.Rules.Right.{is_frame, each_after, all_right, is_block}
use Rattle.burr_container.specs.Rules.Fitting as fitting
use Rattle.burr_plantext.proofs.Common.CodeSizes.{label_sizes, size_both, some_size}
use Rattle.burr_plantext.proofs.Texts.Said.{is_said}
use Rattle.burr_plantext.proofs.Texts.Fits.{each_all, few_all, below, frame_fits}
use Rattle.burr_plantext.proofs.Texts.Tests.{and_four, unless_none, all_both}

-- Sizes

module _ (labels procedures : List (List ℕ)) where
  size_same : (s : Statement) → length (statement_bytes labels procedures s) ≡ length (statement_bytes [] [] s)
  size_same (said.Pick names) = ap (λ (n : ℕ). suc (suc n)) (label_sizes (number_of labels) (number_of []) names)
  size_same _ = refl

  pub code_length : (code : List Statement) → length (code_bytes labels procedures code) ≡ code_size code
  code_length [] = refl
  code_length (s ∷ code) =
      length-append (statement_bytes labels procedures s) (code_bytes labels procedures code)
      ∙ (λ i. size_same s i + code_length code i) ∙ sym (length-append (statement_bytes [] [] s) (code_bytes [] [] code))

some_code : (code : List Statement) → IsTrue (not (is_empty code)) → 0 < code_size code
some_code [] h = grind arith
some_code (s ∷ code) h = omega (arith, some_size s, length-append (statement_bytes [] [] s) (code_bytes [] [] code))

-- Bytes

abbrev pub are_bytes : List ℕ → Bool
are_bytes bytes = list_all (λ b. nat_lt b 256) bytes

one_byte : (b : ℕ) → b < 256 → IsTrue (nat_lt b 256 && true)
one_byte b h = and_from (nat_lt b 256) true (lt-ltb b 256 h) refl

low_byte : (n : ℕ) → IsTrue (nat_lt (n % 256) 256)
low_byte n = lt-ltb (n % 256) 256 (omega arith)

word_bytes : (n : ℤ) → IsTrue (are_bytes (signed_word n))
word_bytes n = and_from _ _ (low_byte (cast_unsigned w16 n / 256 ^ 1)) (and_from _ true (low_byte (cast_unsigned w16 n)) refl)

-- after their first byte
jump_bytes : (n : ℕ) → IsTrue (are_bytes (spelled (code.Jump n)))
jump_bytes n = and_from _ _ (low_byte (n / 256 ^ 1)) (and_from _ true (low_byte n) refl)

grip_bytes : (n : ℕ) → IsTrue (are_bytes (spelled (code.Grip n)))
grip_bytes n = and_from _ _ (low_byte (n / 256 ^ 3)) (and_from _ _ (low_byte (n / 256 ^ 2)) (and_from _ _ (low_byte (n / 256 ^ 1)) (and_from _ true (low_byte n) refl)))

labels_bytes : (f : List ℕ → ℕ) (names : List (List ℕ)) → IsTrue (are_bytes (label_bytes (map f names)))
labels_bytes f [] = refl
labels_bytes f (n ∷ names) = and_from _ _ (low_byte (f n / 256 ^ 1)) (and_from _ (are_bytes (label_bytes (map f names))) (low_byte (f n)) (labels_bytes f names))

number_few : (names : List (List ℕ)) (name : List ℕ) → number_of names name ≤ length names
number_few [] name = omega arith
number_few (first ∷ names) name = by (bytes_eq first name) (number_few names name)
  where
    by : (t : Bool) → number_of names name ≤ length names → (if t then 0 else suc (number_of names name)) ≤ suc (length names)
    by true h = omega arith
    by false h = omega arith

direction_byte : (d : Direction) → grid.number_of d < 256
direction_byte PlusX = omega arith
direction_byte _ = omega arith

module _ (labels procedures : List (List ℕ)) (few : length procedures ≤ 16) where
  statement_fits : (s : Statement) → IsTrue (is_in_range s) → IsTrue (is_said s) → IsTrue (are_bytes (statement_bytes labels procedures s))
  statement_fits (said.Alone bare) h k = k
  statement_fits (said.Push n) h k = word_bytes (number_in n)
  statement_fits (said.Load v) h k = one_byte (natural_in v) (let b = below 8 v h in omega arith)
  statement_fits (said.Store v) h k = one_byte (natural_in v) (let b = below 8 v h in omega arith)
  statement_fits (said.Grip set) h k = grip_bytes (set_in set)
  statement_fits (said.Step d) h k = one_byte (grid.number_of d) (direction_byte d)
  statement_fits (said.Aside d t) h k = and_from (nat_lt (grid.number_of d) 256) _ (lt-ltb (grid.number_of d) 256 (direction_byte d)) (one_byte (natural_in t) (let b = below 32 t h in omega arith))
  statement_fits (said.Tray t) h k = one_byte (natural_in t) (let b = below 32 t h in omega arith)
  statement_fits (said.Jump l) h k = jump_bytes (number_of labels l)
  statement_fits (said.Down v l) h k = and_from (nat_lt (natural_in v) 256) _ (lt-ltb (natural_in v) 256 (let b = below 8 v h in omega arith)) (jump_bytes (number_of labels l))
  statement_fits (said.Ask a b) h k = all_both (λ b. nat_lt b 256) (signed_word (number_in a)) (signed_word (number_in b)) (word_bytes (number_in a)) (word_bytes (number_in b))
  statement_fits (said.Pick names) h k =
      let size = length-map names (number_of labels) in
      and_from (nat_lt (length (map (number_of labels) names)) 256) _ (lt-ltb (length (map (number_of labels) names)) 256 (let b = leb-true (length names) 8 k in omega (arith, size, b))) (labels_bytes (number_of labels) names)
  statement_fits (said.Call q) h k = one_byte (number_of procedures q) (let n = number_few procedures q in omega arith)
  statement_fits (said.Byte b) h k = one_byte b (ltb-true b 256 k)

  pub code_fits : (code : List Statement) → IsTrue (list_all is_in_range code) → IsTrue (list_all is_said code) → IsTrue (are_bytes (code_bytes labels procedures code))
  code_fits [] h k = refl
  code_fits (s ∷ code) h k =
      let a = and_parts (is_in_range s) (list_all is_in_range code) h in
      let b = and_parts (is_said s) (list_all is_said code) k in
      all_both (λ b. nat_lt b 256) (statement_bytes labels procedures s) (code_bytes labels procedures code) (statement_fits s a.0 b.0) (code_fits code a.1 b.1)

-- Blocks

-- what is right of a block
parts_of : (pieces : ℕ) (before : List Block) (b : Block) → IsTrue (is_block pieces before b) → IsTrue (is_none (label_check before b.label)) × IsTrue (is_frame pieces b.frame) × IsTrue (all_right (statement_check before) b.code) × IsTrue (has_code b)
parts_of pieces before b h = and_four h

-- the limit holds up to the last line of code
limit_last : (blocks : List Block) (before code : List Statement) → IsTrue (not (is_empty code)) → IsTrue (each_after (λ b s. is_none (statement_check blocks b s)) before code)
    → code_size (block_code blocks) + code_size (before ++ code) ≤ 4096
limit_last blocks before [] some h = grind arith
limit_last blocks before (s ∷ []) some h =
    let few = nat_le (code_size (block_code blocks) + code_size (before ++ s ∷ [])) MOST_CODE in
    let check = (and_parts (is_none (statement_check blocks before s)) true h).0 in
    leb-true (code_size (block_code blocks) + code_size (before ++ s ∷ [])) 4096 (unless_none few P4 None (unless_none (is_in_range s) P3 (unless few P4 None) check).1).0
limit_last blocks before (s ∷ next ∷ code) some h =
    let more = limit_last blocks (before ++ s ∷ []) (next ∷ code) refl (and_parts (is_none (statement_check blocks before s)) (each_after (λ b s. is_none (statement_check blocks b s)) (before ++ s ∷ []) (next ∷ code)) h).1 in
    subst (λ (all : List Statement). code_size (block_code blocks) + code_size all ≤ 4096) (append_assoc before (s ∷ []) (next ∷ code)) more

block_code_last : (blocks : List Block) (b : Block) → code_size (block_code (blocks ++ b ∷ [])) ≡ code_size (block_code blocks) + code_size b.code
block_code_last blocks b =
    ap code_size (flat_map-append (λ (b : Block). b.code) blocks (b ∷ []) ∙ ap (λ (s : List Statement). block_code blocks ++ s) (append-nil b.code)) ∙ size_both (block_code blocks) b.code

-- and up to the last block
pub limit_blocks : (pieces : ℕ) (before blocks : List Block) → IsTrue (not (is_empty blocks)) → IsTrue (each_after (is_block pieces) before blocks) → code_size (block_code (before ++ blocks)) ≤ 4096
limit_blocks pieces before [] some h = grind arith
limit_blocks pieces before (b ∷ []) some h =
    let tests = parts_of pieces before b (and_parts (is_block pieces before b) true h).0 in
    let few = limit_last before [] b.code tests.3 tests.2 in
    omega (arith, few, block_code_last before b)
limit_blocks pieces before (b ∷ next ∷ blocks) some h =
    let more = limit_blocks pieces (before ++ b ∷ []) (next ∷ blocks) refl (and_parts (is_block pieces before b) (each_after (is_block pieces) (before ++ b ∷ []) (next ∷ blocks)) h).1 in
    subst (λ (all : List Block). code_size (block_code all) ≤ 4096) (append_assoc before (b ∷ []) (next ∷ blocks)) more

total_more : (b : Block) (blocks : List Block) → code_size (block_code (b ∷ blocks)) ≡ code_size b.code + code_size (block_code blocks)
total_more b blocks = size_both b.code (block_code blocks)

-- labels rise up to the end of the code
pub labels_rise : (pieces least start end : ℕ) (before blocks : List Block) → IsTrue (each_after (is_block pieces) before blocks) → least ≤ start → start + code_size (block_code blocks) ≤ end
    → IsTrue (rise_from least end (labels_in start blocks))
labels_rise pieces least start end before [] h low fits = refl
labels_rise pieces least start end before (b ∷ blocks) h low fits =
    let parts = and_parts (is_block pieces before b) (each_after (is_block pieces) (before ++ b ∷ []) blocks) h in
    let some = some_code b.code (parts_of pieces before b parts.0).3 in
    let sum = total_more b blocks in
    and_from (nat_le least start && nat_lt start end) (rise_from (suc start) end (labels_in (start + code_size b.code) blocks))
    (and_from (nat_le least start) (nat_lt start end) (le-leb least start low) (lt-ltb start end (omega (arith, some, sum, fits))))
    (labels_rise pieces (suc start) (start + code_size b.code) end (before ++ b ∷ []) blocks parts.1 (omega (arith, some)) (omega (arith, sum, fits)))

pub frames_fit : (pieces start : ℕ) (before blocks : List Block) → IsTrue (each_after (is_block pieces) before blocks) → IsTrue (list_all (λ (l : ℕ × Frame). fitting.is_frame pieces l.1) (labels_in start blocks))
frames_fit pieces start before [] h = refl
frames_fit pieces start before (b ∷ blocks) h =
    let parts = and_parts (is_block pieces before b) (each_after (is_block pieces) (before ++ b ∷ []) blocks) h in
    and_from (fitting.is_frame pieces (frame_in b.frame)) (list_all (λ (l : ℕ × Frame). fitting.is_frame pieces l.1) (labels_in (start + code_size b.code) blocks))
    (frame_fits pieces b.frame (parts_of pieces before b parts.0).1) (frames_fit pieces (start + code_size b.code) (before ++ b ∷ []) blocks parts.1)

pub few_labels : (pieces : ℕ) (blocks : List Block) → IsTrue (each_after (is_block pieces) [] blocks) → length blocks ≤ 256
few_labels pieces blocks h =
    let all = few_all (is_block pieces) 256 room [] blocks h (omega arith) in
    omega (arith, all)
  where
    room : (before : List Block) (b : Block) → IsTrue (is_block pieces before b) → length before < 256
    room before b k =
        let new = not (is_known (label_names before) b.label) in
        let count = nat_lt (length before) MOST_LABELS in
        let coded = list_all has_code before in
        ltb-true (length before) 256 (and_parts count coded (unless_none (count && coded) P4 None (unless_none new P2 (unless (count && coded) P4 None) (parts_of pieces before b k).0).1).0).0

pub length_labels : (start : ℕ) (blocks : List Block) → length (labels_in start blocks) ≡ length blocks
length_labels start [] = refl
length_labels start (b ∷ blocks) = ap suc (length_labels (start + code_size b.code) blocks)

-- all lines of code are in their ranges
pub ranges_of : (pieces : ℕ) (before blocks : List Block) → IsTrue (each_after (is_block pieces) before blocks) → IsTrue (list_all is_in_range (block_code blocks))
ranges_of pieces before [] h = refl
ranges_of pieces before (b ∷ blocks) h =
    let parts = and_parts (is_block pieces before b) (each_after (is_block pieces) (before ++ b ∷ []) blocks) h in
    all_both is_in_range b.code (block_code blocks)
    (each_all (λ c s. is_none (statement_check before c s)) is_in_range
    (λ c s k. (unless_none (is_in_range s) P3 (unless (nat_le (code_size (block_code before) + code_size (c ++ s ∷ [])) MOST_CODE) P4 None) k).0) [] b.code (parts_of pieces before b parts.0).2)
    (ranges_of pieces (before ++ b ∷ []) blocks parts.1)
