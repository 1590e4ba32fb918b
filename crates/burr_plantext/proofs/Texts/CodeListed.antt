-- Code as it is listed is right, and is read back.
use Rattle.std.proofs.Common.{◌≡◌, ◌≢◌, ℕ, suc, ◌+◌, ◌≤◌, ◌⊎◌, inl, inr, List, [], ◌∷◌, ◌++◌, length, map, false, not, IsTrue, ℤ, pos, negsuc, neg_ℤ, ◌≤ℤ◌, refl, sym, ap, subst, ◌∙◌, arith, ltb-true, le-leb, append_assoc, length-append, ◌&&◌, is_none, nat_le, nat_lt, int_le, None}
use Rattle.std.specs.List.{list_all}
use Rattle.std.proofs.lemmas.Bool.{and_from, and_parts}
use Rattle.burr_code.specs.Instruction.{Instruction, IsInRange, IsInNumberRange, spelled, label_bytes}
use Rattle.burr_code.specs.declared.limits.TheConstants.{MOST_CODE}
use Rattle.burr_plantext.specs.Rules.Written.{set_numbers, set_of, are_members}
use Rattle.burr_plantext.specs.Rules.Statements.{Statement, Byte}
use Rattle.burr_plantext.specs.Rules.Sources.{Block}
use Rattle.burr_plantext.specs.Rules.Meaning.{number_of, statement_bytes, code_bytes, code_size, block_code}
use Rattle.burr_plantext.specs.Rules.Checks.{P3, P4, unless, is_empty, is_in_range, is_known, names_unknown, statement_check}
use Rattle.burr_plantext.specs.Rules.Right.{each_after}
use Rattle.burr_plantext.specs.Rules.Listing.{procedure_name, label_name, set_word, instruction_listed, has_names, IsListedAs, IsListedRaw, IsCodeListed}
use Rattle.std.proofs.lemmas.Int.{ints}
use Rattle.burr_code.specs.Instruction as code
use Rattle.burr_container.specs.Rules.Fitting as fitting
use Rattle.burr_plantext.proofs.Common.CodeSizes.{label_sizes, size_both}
use Rattle.burr_plantext.proofs.Common.Numbers.{natural_back}
use Rattle.burr_plantext.proofs.Texts.Sets.{below_decimal, set_back, set_rises}
use Rattle.burr_plantext.proofs.Texts.Frames.{end_back, end_right, ends_right}
use Rattle.burr_plantext.proofs.Texts.Names.{names_from, number_back, known_back}
use Rattle.burr_plantext.proofs.Texts.Tests.{passes, all_back, all_mapped}

test_of_le : (a b : ℤ) → a ≤ℤ b → IsTrue (int_le a b)
test_of_le (pos a) (pos b) le = le-leb a b (omega (arith, ints, le))
test_of_le (pos a) (negsuc b) le = absurd (omega (arith, ints, le))
test_of_le (negsuc a) (pos b) le = refl
test_of_le (negsuc a) (negsuc b) le = le-leb b a (omega (arith, ints, le))

pub end_test : (n : ℤ) → IsInNumberRange n → IsTrue (fitting.is_number n)
end_test n h = and_from (int_le (neg_ℤ (pos 32767)) n) (int_le n (pos 32767)) (test_of_le (neg_ℤ (pos 32767)) n h.0) (test_of_le n (pos 32767) h.1)

some_numbers : (ws : List (List ℕ)) → set_of ws ≢ 0 → IsTrue (not (is_empty ws))
some_numbers [] h = absurd (h refl)
some_numbers (w ∷ ws) h = refl

module _ (labels procedures : ℕ) (few_labels : labels ≤ 256) (few_procedures : procedures ≤ 16) where
  abbrev pub names : List (List ℕ)
  names = names_from 76 0 labels

  abbrev pub callees : List (List ℕ)
  callees = names_from 112 0 procedures

  label_back : (n : ℕ) → IsTrue (nat_lt n labels) → number_of names (label_name n) ≡ n
  label_back n h = let e = number_back 76 labels 0 n (omega arith) (omega arith) (let k = ltb-true n labels h in omega arith) in omega (arith, e)

  callee_back : (n : ℕ) → IsTrue (nat_lt n procedures) → number_of callees (procedure_name n) ≡ n
  callee_back n h = let e = number_back 112 procedures 0 n (omega arith) (omega arith) (let k = ltb-true n procedures h in omega arith) in omega (arith, e)

  label_known : (n : ℕ) → IsTrue (nat_lt n labels) → IsTrue (is_known names (label_name n))
  label_known n h = known_back 76 labels 0 n (omega arith) (let k = ltb-true n labels h in omega arith)

  labels_back : (ns : List ℕ) → IsTrue (list_all (λ n. nat_lt n labels) ns) → map (number_of names) (map label_name ns) ≡ ns
  labels_back = all_back (λ n. nat_lt n labels) label_name (number_of names) label_back

  labels_known : (ns : List ℕ) → IsTrue (list_all (λ n. nat_lt n labels) ns) → IsTrue (list_all (is_known names) (map label_name ns))
  labels_known = all_mapped (λ n. nat_lt n labels) (is_known names) label_name label_known

  -- what holds of the line of an instruction
  pub record IsLineOf (s : Statement) (bytes : List ℕ) : Type 0 where
    pub spells : statement_bytes names callees s ≡ bytes
    pub size : length (statement_bytes [] [] s) ≡ length bytes
    pub in_range : IsTrue (is_in_range s)
    pub known : names_unknown names callees s ≡ false

  line_of_instruction : (i : Instruction) → IsInRange i → IsTrue (has_names labels procedures i) → IsLineOf (instruction_listed i) (spelled i)
  line_of_instruction (code.Push n) h k = record { spells = ap (λ (n : ℤ). spelled (code.Push n)) (end_back n (end_test n h)); size = refl; in_range = end_right n (end_test n h); known = refl }
  line_of_instruction (code.Load slot) h k = record { spells = ap (λ (n : ℕ). spelled (code.Load n)) (natural_back slot (omega arith)); size = refl; in_range = below_decimal 8 slot h (omega arith); known = refl }
  line_of_instruction (code.Store slot) h k = record { spells = ap (λ (n : ℕ). spelled (code.Store n)) (natural_back slot (omega arith)); size = refl; in_range = below_decimal 8 slot h (omega arith); known = refl }
  line_of_instruction (code.Grip set) h k = record {
    spells = ap (λ (n : ℕ). spelled (code.Grip n)) (set_back set h.1);
    size = refl;
    in_range = and_from (not (is_empty (set_numbers (set_word set)))) (are_members 0 32 (set_numbers (set_word set)))
        (some_numbers (set_numbers (set_word set)) (λ e. h.0 (sym (set_back set h.1) ∙ e))) (set_rises set 32 h.1);
    known = refl;
  }
  line_of_instruction (code.Aside direction tray) h k = record { spells = ap (λ (n : ℕ). spelled (code.Aside direction n)) (natural_back tray (omega arith)); size = refl; in_range = below_decimal 32 tray h (omega arith); known = refl }
  line_of_instruction (code.Tray tray) h k = record { spells = ap (λ (n : ℕ). spelled (code.Tray n)) (natural_back tray (omega arith)); size = refl; in_range = below_decimal 32 tray h (omega arith); known = refl }
  line_of_instruction (code.Jump label) h k = record { spells = ap (λ (n : ℕ). spelled (code.Jump n)) (label_back label k); size = refl; in_range = refl; known = ap not (label_known label k) }
  line_of_instruction (code.Down slot label) h k = record {
    spells = λ i. spelled (code.Down (natural_back slot (omega (arith, h.0)) i) (label_back label k i));
    size = refl;
    in_range = below_decimal 8 slot h.0 (omega (arith, h.0));
    known = ap not (label_known label k);
  }
  line_of_instruction (code.Ask low high) h k = record {
    spells = λ i. spelled (code.Ask (end_back low (end_test low h.0) i) (end_back high (end_test high h.1) i));
    size = refl;
    in_range = ends_right (low, high) (and_from (fitting.is_number low && fitting.is_number high) (int_le low high) (and_from (fitting.is_number low) (fitting.is_number high) (end_test low h.0) (end_test high h.1)) (test_of_le low high h.2));
    known = refl;
  }
  line_of_instruction (code.Pick offered) h k =
      let back = labels_back offered k in
      record {
        spells = ap (λ (ns : List ℕ). spelled (code.Pick ns)) back;
        size = ap (λ (n : ℕ). suc (suc n)) (label_sizes (number_of []) (number_of names) (map label_name offered) ∙ ap (λ (ns : List ℕ). length (label_bytes ns)) back);
        in_range = refl;
        known = ap not (labels_known offered k);
      }
  line_of_instruction (code.Call callee) h k = record {
    spells = ap (λ (n : ℕ). spelled (code.Call n)) (callee_back callee k);
    size = refl;
    in_range = refl;
    known = ap not (known_back 112 procedures 0 callee (omega arith) (let l = ltb-true callee procedures k in omega arith));
  }
  line_of_instruction _ h k = record { spells = refl; size = refl; in_range = refl; known = refl }

  -- the first line of listed code, and its bytes
  first_line : (bytes : List ℕ) (s : Statement) (rest : List ℕ) → IsListedAs labels procedures bytes s rest ⊎ IsListedRaw labels procedures bytes s rest
      → (front : List ℕ) × IsLineOf s front × (bytes ≡ front ++ rest)
  first_line bytes s rest (inl (i, may, e, same)) = (spelled i, subst (λ (s : Statement). IsLineOf s (spelled i)) (sym same) (line_of_instruction i may.in_range may.names), e)
  first_line bytes s rest (inr (none, b, e, same)) =
      let raw : IsLineOf (Byte b) (b ∷ []) = record { spells = refl; size = refl; in_range = refl; known = refl } in
      (b ∷ [], subst (λ (s : Statement). IsLineOf s (b ∷ [])) (sym same) raw, e)

  -- what holds of listed code
  pub record IsCodeOf (bytes : List ℕ) (code : List Statement) : Type 0 where
    pub spells : code_bytes names callees code ≡ bytes
    pub size : code_size code ≡ length bytes
    pub in_range : IsTrue (list_all is_in_range code)
    pub known : IsTrue (list_all (λ s. not (names_unknown names callees s)) code)

  pub code_listed : (code : List Statement) (bytes : List ℕ) → IsCodeListed labels procedures bytes code → IsCodeOf bytes code
  code_listed [] bytes h = record { spells = sym h; size = sym (ap (λ (s : List ℕ). length s) h); in_range = refl; known = refl }
  code_listed (s ∷ code) bytes (rest, first, more) =
      let one = first_line bytes s rest first in
      let others = code_listed code rest more in
      record {
        spells = (λ i. one.1.spells i ++ others.spells i) ∙ sym one.2;
        size = length-append (statement_bytes [] [] s) (code_bytes [] [] code) ∙ (λ i. one.1.size i + others.size i) ∙ sym (length-append one.0 rest) ∙ ap (λ (s : List ℕ). length s) (sym one.2);
        in_range = and_from (is_in_range s) (list_all is_in_range code) one.1.in_range others.in_range;
        known = and_from (not (names_unknown names callees s)) (list_all (λ s. not (names_unknown names callees s)) code) (ap not one.1.known) others.known;
      }

-- Sizes

-- code within the limit is right line by line
pub statements_right : (blocks : List Block) (code before : List Statement) → IsTrue (list_all is_in_range code)
    → code_size (block_code blocks) + code_size (before ++ code) ≤ 4096
    → IsTrue (each_after (λ b s. is_none (statement_check blocks b s)) before code)
statements_right blocks [] before ranges few = refl
statements_right blocks (s ∷ code) before ranges few =
    let parts = and_parts (is_in_range s) (list_all is_in_range code) ranges in
    let whole : (before ++ s ∷ []) ++ code ≡ before ++ (s ∷ code) = append_assoc before (s ∷ []) code in
    let sum : code_size (before ++ (s ∷ code)) ≡ code_size (before ++ s ∷ []) + code_size code = ap code_size (sym whole) ∙ size_both (before ++ s ∷ []) code in
    let base = code_size (block_code blocks) in
    and_from (is_none (statement_check blocks before s)) (each_after (λ b s. is_none (statement_check blocks b s)) (before ++ s ∷ []) code)
    (passes (is_in_range s) P3 (unless (nat_le (base + code_size (before ++ s ∷ [])) MOST_CODE) P4 None) parts.0
    (passes (nat_le (base + code_size (before ++ s ∷ [])) MOST_CODE) P4 None (le-leb (base + code_size (before ++ s ∷ [])) 4096 (omega (arith, few, sum))) refl))
    (statements_right blocks code (before ++ s ∷ []) parts.1 (subst (λ (all : List Statement). base + code_size all ≤ 4096) (sym whole) few))
