-- A plan as it is listed is right, and is read back.
use Rattle.std.proofs.Common.{◌≡◌, ℕ, suc, ◌+◌, ◌^◌, ◌<◌, ◌≤◌, ◌==◌, ◌⊎◌, inl, inr, List, [], ◌∷◌, ◌++◌, length, map, flat_map, Bool, true, false, not, IsTrue, refl, sym, ap, subst, ◌∙◌, arith, lt-ltb, ltb-true, le-leb, leb-true, eqb-true, length-append, ◌&&◌, ◌||◌, is_none, nat_le, nat_lt, Option, Some, None, if◌then◌else◌}
use Rattle.std.specs.List.{list_all}
use Rattle.std.specs.Fmt.{decimal}
use Rattle.std.proofs.lemmas.Bool.{and_from, and_parts}
use Rattle.burr_code.specs.declared.limits.TheConstants.{MOST_PROCEDURES, MOST_PARAMETERS, MOST_CODE, MOST_BUDGET}
use Rattle.burr_container.specs.Rules.Plans.{Frame, PlanProcedure, Plan}
use Rattle.burr_plantext.specs.Rules.Written.{natural_in, is_within}
use Rattle.burr_plantext.specs.Rules.Statements.{Statement}
use Rattle.burr_plantext.specs.Rules.Lines.{PlanWords, ProcedureWords, Line, ResultLine, SlotLine, GuardLine, StackLine, CostLine, AtLine, CodeLine}
use Rattle.burr_plantext.specs.Rules.Sources.{ExitSource, FrameSource, Block, ProcedureSource, PlanSource, some_exit_lines, condition_lines, frame_lines, block_lines, procedure_lines}
use Rattle.burr_plantext.specs.Rules.Meaning.{result_count, code_bytes, block_code, some_exit_in, labels_in, label_names, procedure_names, procedure_in, plan_of}
use Rattle.burr_plantext.specs.Rules.Checks.{P2, P3, P4, unless, is_empty, is_known, names_unknown, title_check, is_of_version, is_result_count, head_check}
use Rattle.burr_container.specs.Rules.Fitting.{are_labels, rise_from, are_procedures, is_fitting, are_parameters, are_results}
use Rattle.burr_plantext.specs.Rules.Listing.{procedure_name, exit_listed, head_of, title_of, AreBlocksListed, IsProcedureListed, AreProceduresListed, IsListed}
use Rattle.std.proofs.lemmas.List.{map-append}
use Rattle.burr_plantext.specs.Rules.Right.{is_procedure, each_after, has_exit, is_block, is_right_so_far, has_unknown_name, unknown_in, unknown_names, one_later, first_true, is_right}
use Rattle.burr_container.specs.Rules.Fitting as fitting
use Rattle.burr_plantext.proofs.Common.Numbers.{natural_back}
use Rattle.burr_plantext.proofs.Texts.Exits.{counts, results_back, parameters_back, some_exit_right, some_exit_back}
use Rattle.burr_plantext.proofs.Texts.Names.{names_from, names_last, unknown_after}
use Rattle.burr_plantext.proofs.Texts.CodeListed.{names}
use Rattle.burr_plantext.proofs.Texts.Blocks.{blocks_of, nothing_before}
use Rattle.burr_plantext.proofs.Texts.Tests.{and_five, and_four, and_three, passes, all_parts, more_not_empty, either_version, all_both}
use Rattle.std.proofs.lemmas.List.Folds.{list_all-map}
use Rattle.burr_plantext.proofs.Texts.Frames.{within_decimal}

-- No unknown names

abbrev pub NoneTrue : List Bool → Type 0
NoneTrue bs = IsTrue (list_all not bs)

first_none : (bs : List Bool) → NoneTrue bs → first_true bs ≡ None
first_none [] h = refl
first_none (true ∷ bs) h = grind arith
first_none (false ∷ bs) h = ap one_later (first_none bs h)

module _ (labels procedures : List (List ℕ)) where
  abbrev marks : List Line → List Bool
  marks lines = map (has_unknown_name labels procedures) lines

  marks_both : (xs ys : List Line) → NoneTrue (marks xs) → NoneTrue (marks ys) → NoneTrue (marks (xs ++ ys))
  marks_both xs ys p q = ap (λ (bs : List Bool). list_all not bs) (map-append (has_unknown_name labels procedures) xs ys) ∙ all_both not (marks xs) (marks ys) p q

  -- lines that name nothing
  marks_map : {A : Type 0} (line : A → Line) → ((x : A) → has_unknown_name labels procedures (line x) ≡ false) → (xs : List A) → NoneTrue (marks (map line xs))
  marks_map line h [] = refl
  marks_map line h (x ∷ xs) = and_from (not (has_unknown_name labels procedures (line x))) (list_all not (marks (map line xs))) (ap not (h x)) (marks_map line h xs)

  exit_marks : (exit : Option ExitSource) → NoneTrue (marks (some_exit_lines exit))
  exit_marks None = refl
  exit_marks (Some e) =
      marks_both (map ResultLine e.results) (map GuardLine e.guards ++ map AtLine e.pieces) (marks_map ResultLine (λ x. refl) e.results)
      (marks_both (map GuardLine e.guards) (map AtLine e.pieces) (marks_map GuardLine (λ x. refl) e.guards) (marks_map AtLine (λ x. refl) e.pieces))

  frame_marks : (f : FrameSource) → NoneTrue (marks (frame_lines f))
  frame_marks f =
      let c = f.conditions in
      marks_both (condition_lines c) (CostLine f.cost ∷ map AtLine f.pieces)
      (marks_both (map SlotLine c.slots) (map GuardLine c.guards ++ map StackLine c.stack) (marks_map SlotLine (λ x. refl) c.slots)
      (marks_both (map GuardLine c.guards) (map StackLine c.stack) (marks_map GuardLine (λ x. refl) c.guards) (marks_map StackLine (λ x. refl) c.stack)))
      (marks_map AtLine (λ x. refl) f.pieces)

  abbrev knows : Statement → Bool
  knows s = not (names_unknown labels procedures s)

  block_marks : (blocks : List Block) → IsTrue (list_all knows (block_code blocks)) → NoneTrue (marks (flat_map block_lines blocks))
  block_marks [] h = refl
  block_marks (b ∷ blocks) h =
      let parts = all_parts knows b.code (block_code blocks) h in
      let code : NoneTrue (marks (map CodeLine b.code)) = list_all-map not (has_unknown_name labels procedures) (map CodeLine b.code) ∙ list_all-map (λ l. not (has_unknown_name labels procedures l)) CodeLine b.code ∙ parts.0 in
      marks_both (block_lines b) (flat_map block_lines blocks) (marks_both (frame_lines b.frame) (map CodeLine b.code) (frame_marks b.frame) code) (block_marks blocks parts.1)

  procedure_marks : (p : ProcedureSource) → IsTrue (list_all knows (block_code p.blocks)) → NoneTrue (marks (procedure_lines p))
  procedure_marks p h = marks_both (some_exit_lines p.exit) (flat_map block_lines p.blocks) (exit_marks p.exit) (block_marks p.blocks h)

-- Heads

of_version : (version : ℕ) (r : List ℕ) → (version ≡ 1) ⊎ (version ≡ 2) → IsTrue (is_of_version version (if version == 2 then Some r else None))
of_version version r (inl one) = subst (λ (v : ℕ). IsTrue (is_of_version v (if v == 2 then Some r else None))) (sym one) refl
of_version version r (inr two) = subst (λ (v : ℕ). IsTrue (is_of_version v (if v == 2 then Some r else None))) (sym two) refl

result_test : (version most r : ℕ) → (version ≡ 1) ⊎ (version ≡ 2) → IsTrue (nat_le r most) → r < 2 ^ 64 → IsTrue (is_result_count most (if version == 2 then Some (decimal r) else None))
result_test version most r (inl one) h small = subst (λ (v : ℕ). IsTrue (is_result_count most (if v == 2 then Some (decimal r) else None))) (sym one) refl
result_test version most r (inr two) h small =
    subst (λ (v : ℕ). IsTrue (is_result_count most (if v == 2 then Some (decimal r) else None))) (sym two) (within_decimal 0 most r (omega arith) (leb-true r most h) small)

-- results of version 1 are none, so the bound of version 2 serves both
most_results : (main two : Bool) (r : ℕ) → IsTrue (nat_le r (if main then 0 else (if two then 2 else 0))) → IsTrue (nat_le r (if main then 0 else 2))
most_results true two r h = h
most_results false true r h = h
most_results false false r h = le-leb r 2 (let low = leb-true r 0 h in omega arith)

head_right : (version n : ℕ) (p : PlanProcedure) (before : List ProcedureSource) → (version ≡ 1) ⊎ (version ≡ 2) → IsTrue ((are_parameters (is_empty before) p.parameters && are_results version (is_empty before) p.results))
    → procedure_names before ≡ names_from 112 0 n → length before ≡ n → n < 16 → IsTrue (is_none (head_check before (head_of version n p)))
head_right version n p before versions count names size few =
    let main = is_empty before in
    let h = head_of version n p in
    let c = counts version main p count in
    let parts = and_parts (nat_le p.parameters (if main then 0 else MOST_PARAMETERS)) (nat_le p.results (if main then 0 else (if version == 2 then 2 else 0))) count in
    let unknown : is_known (procedure_names before) (procedure_name n) ≡ false = (λ i. is_known (names i) (procedure_name n)) ∙ unknown_after 112 n 0 n (omega arith) (omega arith) in
    let parameters = within_decimal 0 (if main then 0 else MOST_PARAMETERS) p.parameters (omega arith) (leb-true p.parameters (if main then 0 else MOST_PARAMETERS) parts.0) (let k = c.parameters in omega arith) in
    let results = result_test version (if main then 0 else 2) p.results versions (most_results main (version == 2) p.results parts.1) (let k = c.results in omega arith) in
    let range = is_within 0 (if main then 0 else MOST_PARAMETERS) h.parameters && is_result_count (if main then 0 else 2) h.results in
    passes (not (is_known (procedure_names before) h.name)) P2 (unless range P3 (unless (nat_lt (length before) MOST_PROCEDURES) P4 None)) (ap not unknown)
    (passes range P3 (unless (nat_lt (length before) MOST_PROCEDURES) P4 None)
    (and_from (is_within 0 (if main then 0 else MOST_PARAMETERS) h.parameters) (is_result_count (if main then 0 else 2) h.results) parameters results)
    (passes (nat_lt (length before) MOST_PROCEDURES) P4 None (lt-ltb (length before) 16 (omega (arith, size, few))) refl))

-- Labels

record HasLabels (pieces end : ℕ) (labels : List (ℕ × Frame)) : Type 0 where
  first : ℕ × Frame
  more : List (ℕ × Frame)
  are : labels ≡ (0, first.1) ∷ more
  below : 0 < end
  rise : IsTrue (rise_from 1 end more)
  few : suc (length more) ≤ 256
  frames : IsTrue (list_all (λ (l : ℕ × Frame). fitting.is_frame pieces l.1) ((0, first.1) ∷ more))

has_labels : (pieces end : ℕ) (labels : List (ℕ × Frame)) → IsTrue (are_labels pieces end labels) → HasLabels pieces end labels
has_labels pieces end [] h = grind arith
has_labels pieces end (first ∷ more) h =
    let tests = and_four h in
    let zero_first : first.0 ≡ 0 = eqb-true first.0 0 tests.0 in
    let r = and_parts (nat_le 0 first.0 && nat_lt first.0 end) (rise_from (suc first.0) end more) tests.1 in
    let below = ltb-true first.0 end (and_parts (nat_le 0 first.0) (nat_lt first.0 end) r.0).1 in
    record {
      first = first;
      more = more;
      are = λ i. (zero_first i, first.1) ∷ more;
      below = omega arith;
      rise = subst (λ (n : ℕ). IsTrue (rise_from (suc n) end more)) zero_first r.1;
      few = leb-true (suc (length more)) 256 tests.2;
      frames = tests.3;
    }

full_blocks : (all procedures n : ℕ) (code : List ℕ) (label : ℕ × Frame) (labels : List (ℕ × Frame)) (blocks : List Block) → AreBlocksListed all procedures code n (label ∷ labels) blocks → IsTrue (not (is_empty blocks))
full_blocks all procedures n code label labels [] h = absurd h
full_blocks all procedures n code label labels (b ∷ blocks) h = refl

-- Procedures

module _ (title : PlanWords) (all : ℕ) (few : all ≤ 16) (versions : (title.version ≡ 1) ⊎ (title.version ≡ 2)) (pieces : ℕ) (few_pieces : pieces ≤ 32) (same_pieces : natural_in title.pieces ≡ pieces) where
  abbrev calls : List (List ℕ)
  calls = names_from 112 0 all

  record IsProcedureOf (n : ℕ) (p : PlanProcedure) (before : List ProcedureSource) (s : ProcedureSource) : Type 0 where
    right : IsTrue (is_procedure title before s)
    back : procedure_in calls s ≡ p
    called : s.head.name ≡ procedure_name n
    knows : NoneTrue (unknown_in calls s)

  procedure_of : (n : ℕ) (p : PlanProcedure) (before : List ProcedureSource) (s : ProcedureSource) → procedure_names before ≡ names_from 112 0 n → length before ≡ n → n < 16
      → IsTrue (fitting.is_procedure title.version pieces (is_empty before) p) → IsProcedureListed title.version all n p s → IsProcedureOf n p before s
  procedure_of n p before s names_before size room fits listed =
      let version = title.version in
      let main = is_empty before in
      let tests = and_four fits in
      let short = leb-true (length p.code) 4096 (and_parts (nat_le (length p.code) MOST_CODE) (list_all (λ b. nat_lt b 256) p.code) tests.3).0 in
      let c = counts version main p tests.0 in
      let labels = has_labels pieces (length p.code) p.labels tests.2 in
      let count : length p.labels ≡ suc (length labels.more) = ap (λ (ls : List (ℕ × Frame)). length ls) labels.are in
      let few_labels : length p.labels ≤ 256 = (let k = labels.few in omega (arith, count, k)) in
      let listed_blocks : AreBlocksListed (length p.labels) all p.code 0 ((0, labels.first.1) ∷ labels.more) s.blocks = subst (λ (ls : List (ℕ × Frame)). AreBlocksListed (length p.labels) all p.code 0 ls s.blocks) labels.are listed.blocks in
      let b = blocks_of (length p.labels) all pieces few_labels few few_pieces p.code short 0 0 labels.first.1 labels.more [] s.blocks
      (nothing_before (length p.labels) all pieces few_labels few few_pieces p.code short) (let k = labels.few in omega (arith, k)) labels.below labels.rise labels.frames listed_blocks in
      let called : label_names s.blocks ≡ names_from 76 0 (length p.labels) = b.called ∙ ap (names_from 76 0) (sym count) in
      let exit : IsTrue (has_exit version pieces main (head_of version n p) (exit_listed p.exit)) = some_exit_right version n p versions c pieces main p.exit few_pieces tests.1 in
      let exit_is : IsTrue (has_exit version (natural_in title.pieces) main s.head s.exit) =
      subst (λ (k : ℕ). IsTrue (has_exit version k main s.head s.exit)) (sym same_pieces)
      (subst (λ (h : ProcedureWords). IsTrue (has_exit version pieces main h s.exit)) (sym listed.head)
      (subst (λ (e : Option ExitSource). IsTrue (has_exit version pieces main (head_of version n p) e)) (sym listed.exit) exit)) in
      let head : IsTrue (is_of_version version s.head.results && is_none (head_check before s.head)) =
      subst (λ (h : ProcedureWords). IsTrue (is_of_version version h.results && is_none (head_check before h))) (sym listed.head)
      (and_from (is_of_version version (head_of version n p).results) (is_none (head_check before (head_of version n p)))
      (of_version version (decimal p.results) versions) (head_right version n p before versions tests.0 names_before size room)) in
      let blocks : IsTrue (each_after (is_block (natural_in title.pieces)) [] s.blocks) = subst (λ (k : ℕ). IsTrue (each_after (is_block k) [] s.blocks)) (sym same_pieces) b.right in
      let parameters : natural_in s.head.parameters ≡ p.parameters = ap (λ (h : ProcedureWords). natural_in h.parameters) listed.head ∙ parameters_back version n p versions c in
      let results : result_count s.head.results ≡ p.results = ap (λ (h : ProcedureWords). result_count h.results) listed.head ∙ results_back version n p versions c in
      let exits : some_exit_in s.exit ≡ p.exit = ap some_exit_in listed.exit ∙ some_exit_back version n p versions c pieces main p.exit few_pieces tests.1 in
      let positions : labels_in 0 s.blocks ≡ p.labels = b.labelled ∙ sym labels.are in
      let bytes : code_bytes (label_names s.blocks) calls (block_code s.blocks) ≡ p.code = ap (λ (ns : List (List ℕ)). code_bytes ns calls (block_code s.blocks)) called ∙ b.spells in
      record {
        right = and_from _ _ (and_from _ _ (and_from _ _ head exit_is) (full_blocks (length p.labels) all 0 p.code (0, labels.first.1) labels.more s.blocks listed_blocks)) blocks;
        back = λ i. record { parameters = parameters i; results = results i; exit = exits i; labels = positions i; code = bytes i };
        called = ap (λ (h : ProcedureWords). h.name) listed.head;
        knows = subst (λ (ns : List (List ℕ)). NoneTrue (map (has_unknown_name ns calls) (procedure_lines s))) (sym called) (procedure_marks (names_from 76 0 (length p.labels)) calls s b.knows);
      }

  record AreProceduresOf (n : ℕ) (ps : List PlanProcedure) (before sources : List ProcedureSource) : Type 0 where
    right : IsTrue (each_after (is_procedure title) before sources)
    back : map (procedure_in calls) sources ≡ ps
    called : procedure_names sources ≡ names_from 112 n (length ps)
    knows : NoneTrue (flat_map (unknown_in calls) sources)

  names_now : (n : ℕ) (before : List ProcedureSource) (s : ProcedureSource) → procedure_names before ≡ names_from 112 0 n → s.head.name ≡ procedure_name n
      → procedure_names (before ++ s ∷ []) ≡ names_from 112 0 (suc n)
  names_now n before s e called = map-append (λ (p : ProcedureSource). p.head.name) before (s ∷ []) ∙ (λ i. e i ++ called i ∷ []) ∙ ap (λ (m : ℕ). names_from 112 0 n ++ procedure_name m ∷ []) (omega arith) ∙ names_last 112 n 0

  procedures_of : (n : ℕ) (ps : List PlanProcedure) (before sources : List ProcedureSource) → procedure_names before ≡ names_from 112 0 n → length before ≡ n → n + length ps ≤ 16
      → is_empty before ≡ false → IsTrue (list_all (fitting.is_procedure title.version pieces false) ps) → AreProceduresListed title.version all n ps sources → AreProceduresOf n ps before sources
  procedures_of n [] before [] called size room later fits listed = record { right = refl; back = refl; called = refl; knows = refl }
  procedures_of n (p ∷ ps) before (s ∷ sources) called size room later fits listed =
      let parts = and_parts (fitting.is_procedure title.version pieces false p) (list_all (fitting.is_procedure title.version pieces false) ps) fits in
      let one = procedure_of n p before s called size (omega arith) (subst (λ (main : Bool). IsTrue (fitting.is_procedure title.version pieces main p)) (sym later) parts.0) listed.0 in
      let more = procedures_of (suc n) ps (before ++ s ∷ []) sources (names_now n before s called one.called) (omega (arith, length-append before (s ∷ []), size)) (omega arith) (more_not_empty before s) parts.1 listed.1 in
      record {
        right = and_from (is_procedure title before s) (each_after (is_procedure title) (before ++ s ∷ []) sources) one.right more.right;
        back = λ i. one.back i ∷ more.back i;
        called = λ i. one.called i ∷ more.called i;
        knows = all_both not (unknown_in calls s) (flat_map (unknown_in calls) sources) one.knows more.knows;
      }
  procedures_of n _ before _ called size room later fits listed = absurd listed

  all_procedures : (ps : List PlanProcedure) (sources : List ProcedureSource) → IsTrue (are_procedures title.version pieces ps) → AreProceduresListed title.version all 0 ps sources
      → AreProceduresOf 0 ps [] sources × IsTrue (not (is_empty sources))
  all_procedures [] sources fits listed = grind arith
  all_procedures (p ∷ ps) [] fits listed = absurd listed
  all_procedures (p ∷ ps) (s ∷ sources) fits listed =
      let tests = and_three fits in
      let count = leb-true (length (p ∷ ps)) 16 tests.2 in
      let one = procedure_of 0 p [] s refl refl (omega arith) tests.0 listed.0 in
      let more = procedures_of 1 ps (s ∷ []) sources (ap (λ (name : List ℕ). name ∷ []) one.called) refl (omega arith) refl tests.1 listed.1 in (
        record {
          right = and_from (is_procedure title [] s) (each_after (is_procedure title) (s ∷ []) sources) one.right more.right;
          back = λ i. one.back i ∷ more.back i;
          called = λ i. one.called i ∷ more.called i;
          knows = all_both not (unknown_in calls s) (flat_map (unknown_in calls) sources) one.knows more.knows;
        },
        refl,
      )

-- Plans

pub record IsReadBack (plan : Plan) (s : PlanSource) : Type 0 where
  pub right : IsTrue (is_right s)
  pub back : plan_of s ≡ plan

with_title : (s : PlanSource) (t : PlanWords) → s.title ≡ t → record s { title = t } ≡ s
with_title s t e = λ i. record s { title = sym e i }

read_back : (plan : Plan) (sources : List ProcedureSource) → IsTrue (is_fitting plan) → AreProceduresListed plan.version (length plan.procedures) 0 plan.procedures sources
    → IsReadBack plan (record { title = title_of plan; procedures = sources })
read_back plan sources fits listed =
    let version = (plan.version == 1) || (plan.version == 2) in
    let tests = and_five fits in
    let budget = and_parts (nat_le 1 plan.budget) (nat_le plan.budget MOST_BUDGET) tests.1 in
    let budget_low = leb-true 1 plan.budget budget.0 in
    let budget_high = leb-true plan.budget 1000000 budget.1 in
    let count = and_parts (nat_le 2 plan.pieces) (nat_le plan.pieces 32) tests.2 in
    let low = leb-true 2 plan.pieces count.0 in
    let high = leb-true plan.pieces 32 count.1 in
    let title = title_of plan in
    let s : PlanSource = record { title = title; procedures = sources } in
    let all = length plan.procedures in
    let few = few_of plan.procedures tests.4 in
    let pieces = natural_back plan.pieces (omega arith) in
    let h = all_procedures title all few (either_version plan.version tests.0) plan.pieces high pieces plan.procedures sources tests.4 listed in
    let titled : IsTrue (is_none (title_check title)) =
    passes (is_within 2 32 title.pieces && is_within 1 MOST_BUDGET title.budget) P3 None
    (and_from (is_within 2 32 title.pieces) (is_within 1 MOST_BUDGET title.budget) (within_decimal 2 32 plan.pieces low high (omega arith)) (within_decimal 1 1000000 plan.budget budget_low budget_high (omega arith))) refl in
    let so_far : IsTrue (is_right_so_far s) = and_from _ _ (and_from (is_none (title_check title)) (not (is_empty sources)) titled h.1) h.0.right in
    let called : procedure_names sources ≡ names_from 112 0 all = h.0.called in
    let knows : NoneTrue (unknown_names s) = subst (λ (ns : List (List ℕ)). NoneTrue (false ∷ flat_map (unknown_in ns) sources)) (sym called) h.0.knows in
    let back : map (procedure_in (procedure_names sources)) sources ≡ plan.procedures = ap (λ (ns : List (List ℕ)). map (procedure_in ns) sources) called ∙ h.0.back in
    let steps = natural_back plan.budget (omega arith) in
    record {
      right = and_from (is_right_so_far s) (is_none (first_true (unknown_names s))) so_far (ap is_none (first_none (unknown_names s) knows));
      back = λ i. record { version = plan.version; name = plan.name; pieces = pieces i; budget = steps i; procedures = back i };
    }
  where
    few_of : (ps : List PlanProcedure) → IsTrue (are_procedures plan.version plan.pieces ps) → length ps ≤ 16
    few_of [] h = omega arith
    few_of (p ∷ ps) h = leb-true (length (p ∷ ps)) 16 (and_parts (fitting.is_procedure plan.version plan.pieces true p && list_all (fitting.is_procedure plan.version plan.pieces false) ps) (nat_le (length (p ∷ ps)) MOST_PROCEDURES) h).1

-- A plan that fits, as it is listed, is right, and stands for itself.
pub listed_back : (plan : Plan) (s : PlanSource) → IsTrue (is_fitting plan) → IsListed plan s → IsReadBack plan s
listed_back plan s fits listed =
    subst (λ (s : PlanSource). IsReadBack plan s) (with_title s (title_of plan) listed.title) (read_back plan s.procedures fits listed.procedures)
