-- Blocks as they are listed are right, and are read back.
use Rattle.std.proofs.Common.{◌≡◌, ℕ, suc, ◌+◌, ◌-◌, ◌<◌, ◌≤◌, List, [], ◌∷◌, ◌++◌, length, take, drop, Bool, true, false, not, IsTrue, refl, sym, ap, subst, ◌∙◌, arith, lt-ltb, ltb-true, leb-true, append-nil, length-append, length-drop, ◌&&◌, is_none, nat_le, nat_lt, None, take-append-drop, drop-drop, length-take-le}
use Rattle.std.specs.List.{list_all}
use Rattle.std.proofs.lemmas.Bool.{and_from, and_parts}
use Rattle.burr_code.specs.declared.limits.TheConstants.{MOST_LABELS}
use Rattle.burr_container.specs.Rules.Plans.{Frame}
use Rattle.burr_plantext.specs.Rules.Statements.{Statement}
use Rattle.burr_plantext.specs.Rules.Sources.{Block}
use Rattle.burr_plantext.specs.Rules.Meaning.{code_bytes, statement_bytes, code_size, block_code, frame_in, labels_in, label_names}
use Rattle.burr_plantext.specs.Rules.Checks.{P2, P4, unless, is_empty, is_known, names_unknown, label_check, has_code}
use Rattle.burr_container.specs.Rules.Fitting.{rise_from}
use Rattle.burr_plantext.specs.Rules.Listing.{label_name, frame_listed, code_after, AreBlocksListed}
use Rattle.std.proofs.lemmas.List.{drop_all, map-append}
use Rattle.std.proofs.lemmas.Grind.{flat_map-append}
use Rattle.burr_plantext.specs.Rules.Right.{is_frame, each_after, is_block}
use Rattle.burr_container.specs.Rules.Fitting as fitting
use Rattle.burr_plantext.proofs.Texts.Frames.{frame_right, frame_back}
use Rattle.burr_plantext.proofs.Texts.Names.{names_from, names_last, unknown_after}
use Rattle.burr_plantext.proofs.Common.CodeSizes.{size_both}
use Rattle.burr_plantext.proofs.Texts.CodeListed.{IsCodeOf, code_listed, statements_right, names, callees}
use Rattle.burr_plantext.proofs.Texts.Tests.{and_three, passes, all_both}

some_code : (code : List Statement) → 0 < code_size code → IsTrue (not (is_empty code))
some_code [] h = absurd (omega arith)
some_code (s ∷ code) h = refl

-- what is after a label, and what is after the next one
module _ (code : List ℕ) (start next : ℕ) (low : start ≤ next) (high : next ≤ length code) where
  rest_after : take (next - start) (drop start code) ++ drop next code ≡ drop start code
  rest_after =
      let e : drop (next - start) (drop start code) ≡ drop next code = drop-drop (next - start) start code ∙ ap (λ (n : ℕ). drop n code) (omega (arith, low)) in
      ap (λ (s : List ℕ). take (next - start) (drop start code) ++ s) (sym e) ∙ take-append-drop (next - start) (drop start code)

  after_size : length (take (next - start) (drop start code)) ≡ next - start
  after_size = length-take-le (next - start) (drop start code) (omega (arith, length-drop start code, low, high))

-- the next label of those that rise
abbrev end_of : List ℕ → List (ℕ × Frame) → ℕ
end_of code [] = length code
end_of code (next ∷ more) = next.0

-- how code goes on from one label to the next
record Stretch (code : List ℕ) (start : ℕ) (labels : List (ℕ × Frame)) : Type 0 where
  whole : code_after code start labels ++ drop (end_of code labels) code ≡ drop start code
  size : start + length (code_after code start labels) ≡ end_of code labels
  some : start < end_of code labels
  inside : end_of code labels ≤ length code

stretch : (code : List ℕ) (start : ℕ) (labels : List (ℕ × Frame)) → start < length code → IsTrue (rise_from (suc start) (length code) labels) → Stretch code start labels
stretch code start [] below rise = record {
  whole = ap (λ (s : List ℕ). drop start code ++ s) (drop_all (length code) code (omega arith)) ∙ append-nil (drop start code);
  size = omega (arith, below, length-drop start code);
  some = below;
  inside = omega arith;
}
stretch code start (next ∷ labels) below rise =
    let parts = and_three rise in
    let low = leb-true (suc start) next.0 parts.0 in
    let high = ltb-true next.0 (length code) parts.1 in
    record {
      whole = rest_after code start next.0 (omega arith) (omega arith);
      size = omega (arith, low, after_size code start next.0 (omega arith) (omega arith));
      some = omega arith;
      inside = omega arith;
    }

module _ (all procedures pieces : ℕ) (few_labels : all ≤ 256) (few_procedures : procedures ≤ 16) (few_pieces : pieces ≤ 32) (code : List ℕ) (short : length code ≤ 4096) where
  abbrev known : Statement → Bool
  known s = not (names_unknown (names all procedures few_labels few_procedures) (callees all procedures few_labels few_procedures) s)

  abbrev bytes_of : List Statement → List ℕ
  bytes_of s = code_bytes (names all procedures few_labels few_procedures) (callees all procedures few_labels few_procedures) s

  -- the blocks before label n, which stands at a position
  pub record Before (n start : ℕ) (before : List Block) : Type 0 where
    pub called : label_names before ≡ names_from 76 0 n
    pub count : length before ≡ n
    pub coded : IsTrue (list_all has_code before)
    pub size : code_size (block_code before) ≡ start

  -- blocks of labels from the n-th on, after others
  pub record AreOf (n start : ℕ) (labels : List (ℕ × Frame)) (before blocks : List Block) : Type 0 where
    pub labelled : labels_in start blocks ≡ labels
    pub spells : bytes_of (block_code blocks) ≡ drop start code
    pub right : IsTrue (each_after (is_block pieces) before blocks)
    pub called : label_names blocks ≡ names_from 76 n (length labels)
    pub knows : IsTrue (list_all known (block_code blocks))

  block_right : (n start : ℕ) (f : Frame) (labels : List (ℕ × Frame)) (before : List Block) (b : Block) → Before n start before → n < 256
      → IsTrue (fitting.is_frame pieces f) → Stretch code start labels → b.label ≡ label_name n → b.frame ≡ frame_listed f
      → IsCodeOf all procedures few_labels few_procedures (code_after code start labels) b.code → IsTrue (is_block pieces before b)
  block_right n start f labels before b h room fits way label frame c =
      let size = c.size in
      let unknown : is_known (label_names before) b.label ≡ false = (λ i. is_known (h.called i) (label i)) ∙ unknown_after 76 n 0 n (omega arith) (omega arith) in
      let count : IsTrue (nat_lt (length before) MOST_LABELS) = lt-ltb (length before) 256 (omega (arith, h.count)) in
      let named : IsTrue (is_none (label_check before b.label)) =
      passes (not (is_known (label_names before) b.label)) P2 (unless (nat_lt (length before) MOST_LABELS && list_all has_code before) P4 None) (ap not unknown)
      (passes (nat_lt (length before) MOST_LABELS && list_all has_code before) P4 None (and_from (nat_lt (length before) MOST_LABELS) (list_all has_code before) count h.coded) refl) in
      let framed : IsTrue (is_frame pieces b.frame) = subst (λ (f : _). IsTrue (is_frame pieces f)) (sym frame) (frame_right pieces few_pieces f fits) in
      and_from _ (has_code b) (and_from _ _ (and_from _ _ named framed)
      (statements_right before b.code [] c.in_range (omega (arith, h.size, size, way.size, way.inside, short))))
      (some_code b.code (omega (arith, size, way.size, way.some)))

  before_more : (n start : ℕ) (labels : List (ℕ × Frame)) (before : List Block) (b : Block) → Before n start before → Stretch code start labels → b.label ≡ label_name n
      → IsCodeOf all procedures few_labels few_procedures (code_after code start labels) b.code → Before (suc n) (end_of code labels) (before ++ b ∷ [])
  before_more n start labels before b h way label c = record {
    called = map-append (λ (b : Block). b.label) before (b ∷ []) ∙ (λ i. h.called i ++ label i ∷ []) ∙ ap (λ (m : ℕ). names_from 76 0 n ++ label_name m ∷ []) (omega arith) ∙ names_last 76 n 0;
    count = length-append before (b ∷ []) ∙ omega (arith, h.count);
    coded = all_both has_code before (b ∷ []) h.coded (and_from (has_code b) true (some_code b.code (omega (arith, c.size, way.size, way.some))) refl);
    size =
        ap code_size (flat_map-append (λ (b : Block). b.code) before (b ∷ []) ∙ ap (λ (s : List Statement). block_code before ++ s) (append-nil b.code))
        ∙ size_both (block_code before) b.code ∙ omega (arith, h.size, c.size, way.size);
  }

  bytes_both : (a b : List Statement) → bytes_of (a ++ b) ≡ bytes_of a ++ bytes_of b
  bytes_both a b = flat_map-append (statement_bytes (names all procedures few_labels few_procedures) (callees all procedures few_labels few_procedures)) a b

  pub blocks_of : (n start : ℕ) (f : Frame) (labels : List (ℕ × Frame)) (before blocks : List Block) → Before n start before → n + suc (length labels) ≤ 256
      → start < length code → IsTrue (rise_from (suc start) (length code) labels) → IsTrue (list_all (λ (l : ℕ × Frame). fitting.is_frame pieces l.1) ((start, f) ∷ labels))
      → AreBlocksListed all procedures code n ((start, f) ∷ labels) blocks → AreOf n start ((start, f) ∷ labels) before blocks
  blocks_of n start f labels before [] h room below rise fits listed = absurd listed
  blocks_of n start f [] before (b ∷ []) h room below rise fits listed =
      let way = stretch code start [] below rise in
      let c = code_listed all procedures few_labels few_procedures b.code (code_after code start []) listed.2 in
      let frame = and_parts (fitting.is_frame pieces f) true fits in
      record {
        labelled = λ i. (start, ((ap frame_in listed.1) ∙ frame_back pieces few_pieces f frame.0) i) ∷ [];
        spells = ap bytes_of (append-nil b.code) ∙ c.spells;
        right = and_from (is_block pieces before b) true (block_right n start f [] before b h (omega arith) frame.0 way listed.0 listed.1 c) refl;
        called = ap (λ (s : List ℕ). s ∷ []) listed.0;
        knows = subst (λ (s : List Statement). IsTrue (list_all known s)) (sym (append-nil b.code)) c.known;
      }
  blocks_of n start f [] before (b ∷ b2 ∷ blocks) h room below rise fits listed = absurd listed.3
  blocks_of n start f (next ∷ labels) before (b ∷ blocks) h room below rise fits listed =
      let way = stretch code start (next ∷ labels) below rise in
      let c = code_listed all procedures few_labels few_procedures b.code (code_after code start (next ∷ labels)) listed.2 in
      let frame = and_parts (fitting.is_frame pieces f) (list_all (λ (l : ℕ × Frame). fitting.is_frame pieces l.1) (next ∷ labels)) fits in
      let rises = and_parts (nat_le (suc start) next.0 && nat_lt next.0 (length code)) (rise_from (suc next.0) (length code) labels) rise in
      let high = ltb-true next.0 (length code) (and_parts (nat_le (suc start) next.0) (nat_lt next.0 (length code)) rises.0).1 in
      let more = blocks_of (suc n) next.0 next.1 labels (before ++ b ∷ []) blocks (before_more n start (next ∷ labels) before b h way listed.0 c) (omega arith) high rises.1 frame.1 listed.3 in
      let position : start + code_size b.code ≡ next.0 = omega (arith, c.size, way.size) in
      record {
        labelled = λ i. (start, ((ap frame_in listed.1) ∙ frame_back pieces few_pieces f frame.0) i) ∷ (ap (λ (p : ℕ). labels_in p blocks) position ∙ more.labelled) i;
        spells = bytes_both b.code (block_code blocks) ∙ (λ i. c.spells i ++ more.spells i) ∙ way.whole;
        right = and_from (is_block pieces before b) (each_after (is_block pieces) (before ++ b ∷ []) blocks) (block_right n start f (next ∷ labels) before b h (omega arith) frame.0 way listed.0 listed.1 c) more.right;
        called = λ i. listed.0 i ∷ more.called i;
        knows = all_both known b.code (block_code blocks) c.known more.knows;
      }

  pub nothing_before : Before 0 0 []
  nothing_before = record { called = refl; count = refl; coded = refl; size = refl }
