-- What is right as it is written fits the format: procedures and plans.
use Rattle.std.proofs.Common.{◌≡◌, ℕ, suc, ◌<◌, ◌≤◌, ◌==◌, List, [], ◌∷◌, ◌++◌, length, map, flat_map, Bool, true, false, not, IsTrue, refl, sym, subst, arith, ltb-true, le-leb, ◌∙◌, ◌&&◌, is_none, nat_le, nat_lt, Option, Some, None, if◌then◌else◌}
use Rattle.std.specs.List.{list_all}
use Rattle.std.proofs.lemmas.Bool.{and_from, and_parts}
use Rattle.burr_code.specs.declared.limits.TheConstants.{MOST_PROCEDURES, MOST_PARAMETERS, MOST_LABELS, MOST_CODE, MOST_BUDGET}
use Rattle.burr_container.specs.Rules.Plans.{Frame, Plan}
use Rattle.burr_plantext.specs.Rules.Written.{natural_in, is_within}
use Rattle.burr_plantext.specs.Rules.Lines.{PlanWords, ProcedureWords, CodeLine}
use Rattle.burr_plantext.specs.Rules.Sources.{Block, ProcedureSource, PlanSource, some_exit_lines, frame_lines, block_lines, procedure_lines, source_lines}
use Rattle.burr_plantext.specs.Rules.Meaning.{code_bytes, block_code, labels_in, label_names, procedure_names, procedure_in, plan_of, result_count, code_size}
use Rattle.burr_plantext.specs.Rules.Checks.{P2, P3, P4, unless, is_empty, is_known, is_of_version, is_result_count, head_check}
use Rattle.burr_plantext.specs.Rules.Texts.{StandsFor}
use Rattle.burr_container.specs.Rules.Fitting.{are_labels, rise_from, are_procedures, is_fitting, are_parameters, are_results}
use Rattle.std.proofs.lemmas.List.{length-map}
use Rattle.burr_plantext.specs.Rules.Right.{is_procedure, each_after, has_exit, is_block, is_right_so_far, unknown_names, first_true, is_right}
use Rattle.burr_container.specs.Rules.Fitting as fitting
use Rattle.burr_plantext.proofs.Texts.Fits.{few_all, within, FitCounts, some_exit_fits}
use Rattle.burr_plantext.proofs.Texts.FitsCode.{are_bytes, code_length, code_fits, limit_blocks, labels_rise, frames_fit, few_labels, length_labels, ranges_of}
use Rattle.burr_plantext.proofs.Texts.Said.{is_said, is_fine, text_fine}
use Rattle.burr_plantext.proofs.Texts.Tests.{and_five, and_three, unless_none, all_both, all_parts, more_not_empty}
use Rattle.std.proofs.lemmas.List.Folds.{list_all-map}
use Rattle.burr_plantext.proofs.Texts.Exits.{most_by, results_most as most_results}

-- Heads

within_most : (main : Bool) (a : ℕ) (w : List ℕ) → IsTrue (is_within 0 (if main then 0 else a) w) → IsTrue (nat_le (natural_in w) (if main then 0 else a))
within_most main a w h = le-leb (natural_in w) (if main then 0 else a) (within 0 (if main then 0 else a) w h).1

results_most : (version : ℕ) (main : Bool) (r : Option (List ℕ)) → IsTrue (is_of_version version r) → IsTrue (is_result_count (if main then 0 else 2) r)
    → IsTrue (nat_le (result_count r) (if main then 0 else (if version == 2 then 2 else 0)))
results_most version true None v h = refl
results_most version false None v h = le-leb 0 (if version == 2 then 2 else 0) (omega arith)
results_most version true (Some w) v h = le-leb (natural_in w) 0 (within 0 0 w h).1
results_most version false (Some w) v h =
    subst (λ (t : Bool). IsTrue (nat_le (natural_in w) (if t then 2 else 0))) (sym v) (le-leb (natural_in w) 2 (within 0 2 w h).1)

counts_fit : (version : ℕ) (before : List ProcedureSource) (h : ProcedureWords) → IsTrue (is_of_version version h.results) → IsTrue (is_none (head_check before h))
    → IsTrue ((are_parameters (is_empty before) (natural_in h.parameters) && are_results version (is_empty before) (result_count h.results))) × FitCounts h
counts_fit version before h v right =
    let main = is_empty before in
    let new = not (is_known (procedure_names before) h.name) in
    let range = is_within 0 (if main then 0 else MOST_PARAMETERS) h.parameters && is_result_count (if main then 0 else 2) h.results in
    let room = nat_lt (length before) MOST_PROCEDURES in
    let parts = and_parts (is_within 0 (if main then 0 else MOST_PARAMETERS) h.parameters) (is_result_count (if main then 0 else 2) h.results)
    (unless_none range P3 (unless room P4 None) (unless_none new P2 (unless range P3 (unless room P4 None)) right).1).0 in
    let parameters = within_most main MOST_PARAMETERS h.parameters parts.0 in
    let results = results_most version main h.results v parts.1 in (
      and_from (nat_le (natural_in h.parameters) (if main then 0 else MOST_PARAMETERS)) (nat_le (result_count h.results) (if main then 0 else (if version == 2 then 2 else 0))) parameters results,
      record { parameters = most_by main (natural_in h.parameters) 4 parameters; results = (most_results main (version == 2) (result_count h.results) results).0 },
    )

room_of : (before : List ProcedureSource) (h : ProcedureWords) → IsTrue (is_none (head_check before h)) → length before < 16
room_of before h right =
    let main = is_empty before in
    let new = not (is_known (procedure_names before) h.name) in
    let range = is_within 0 (if main then 0 else MOST_PARAMETERS) h.parameters && is_result_count (if main then 0 else 2) h.results in
    let room = nat_lt (length before) MOST_PROCEDURES in
    ltb-true (length before) 16 (unless_none room P4 None (unless_none range P3 (unless room P4 None) (unless_none new P2 (unless range P3 (unless room P4 None)) right).1).1).0

-- What the lines of a procedure tell of its code

blocks_said : (blocks : List Block) → IsTrue (list_all is_fine (flat_map block_lines blocks)) → IsTrue (list_all is_said (block_code blocks))
blocks_said [] h = refl
blocks_said (b ∷ blocks) h =
    let parts = all_parts is_fine (block_lines b) (flat_map block_lines blocks) h in
    let inner = all_parts is_fine (frame_lines b.frame) (map CodeLine b.code) (and_parts true (list_all is_fine (frame_lines b.frame ++ map CodeLine b.code)) parts.0).1 in
    all_both is_said b.code (block_code blocks) (sym (list_all-map is_fine CodeLine b.code) ∙ inner.1) (blocks_said blocks parts.1)

procedure_said : (p : ProcedureSource) → IsTrue (list_all is_fine (procedure_lines p)) → IsTrue (list_all is_said (block_code p.blocks))
procedure_said p h = blocks_said p.blocks (all_parts is_fine (some_exit_lines p.exit) (flat_map block_lines p.blocks) (and_parts true (list_all is_fine (some_exit_lines p.exit ++ flat_map block_lines p.blocks)) h).1).1

-- Procedures

labels_fit : (pieces end : ℕ) (blocks : List Block) → IsTrue (not (is_empty blocks)) → IsTrue (each_after (is_block pieces) [] blocks) → code_size (block_code blocks) ≤ end → IsTrue (are_labels pieces end (labels_in 0 blocks))
labels_fit pieces end [] full h low = grind arith
labels_fit pieces end (b ∷ blocks) full h low =
    let labels = labels_in 0 (b ∷ blocks) in
    let rise = labels_rise pieces 0 0 end [] (b ∷ blocks) h (omega arith) (omega (arith, low)) in
    let count = few_labels pieces (b ∷ blocks) h in
    and_from (true && rise_from 0 end labels && nat_le (length labels) MOST_LABELS) (list_all (λ (l : ℕ × Frame). fitting.is_frame pieces l.1) labels)
    (and_from (true && rise_from 0 end labels) (nat_le (length labels) MOST_LABELS) rise (le-leb (length labels) 256 (omega (arith, count, length_labels 0 (b ∷ blocks)))))
    (frames_fit pieces 0 [] (b ∷ blocks) h)

module _ (title : PlanWords) (some : 0 < natural_in title.pieces) (names : List (List ℕ)) (few : length names ≤ 16) where
  procedure_fits : (before : List ProcedureSource) (p : ProcedureSource) → IsTrue (is_procedure title before p) → IsTrue (list_all is_fine (procedure_lines p))
      → IsTrue (fitting.is_procedure title.version (natural_in title.pieces) (is_empty before) (procedure_in names p))
  procedure_fits before p right fine =
      let n = natural_in title.pieces in
      let main = is_empty before in
      let all = and_five right in
      let counts = counts_fit title.version before p.head all.0 all.1 in
      let limit = limit_blocks n [] p.blocks all.3 all.4 in
      let code = code_bytes (label_names p.blocks) names (block_code p.blocks) in
      let size : length code ≡ code_size (block_code p.blocks) = code_length (label_names p.blocks) names (block_code p.blocks) in
      and_from _ _ (and_from _ _ (and_from _ _ counts.0 (some_exit_fits title.version n main p.head p.exit counts.1 some all.2))
      (labels_fit n (length code) p.blocks all.3 all.4 (omega (arith, size))))
      (and_from (nat_le (length code) MOST_CODE) (are_bytes code) (le-leb (length code) 4096 (omega (arith, size, limit)))
      (code_fits (label_names p.blocks) names few (block_code p.blocks) (ranges_of n [] p.blocks all.4) (procedure_said p fine)))

  others_fit : (before ps : List ProcedureSource) → is_empty before ≡ false → IsTrue (each_after (is_procedure title) before ps) → IsTrue (list_all is_fine (flat_map procedure_lines ps))
      → IsTrue (list_all (fitting.is_procedure title.version (natural_in title.pieces) false) (map (procedure_in names) ps))
  others_fit before [] later right fine = refl
  others_fit before (p ∷ ps) later right fine =
      let parts = and_parts (is_procedure title before p) (each_after (is_procedure title) (before ++ p ∷ []) ps) right in
      let lines = all_parts is_fine (procedure_lines p) (flat_map procedure_lines ps) fine in
      and_from _ _ (subst (λ (main : Bool). IsTrue (fitting.is_procedure title.version (natural_in title.pieces) main (procedure_in names p))) later (procedure_fits before p parts.0 lines.0))
      (others_fit (before ++ p ∷ []) ps (more_not_empty before p) parts.1 lines.1)

few_procedures : (title : PlanWords) (ps : List ProcedureSource) → IsTrue (each_after (is_procedure title) [] ps) → length ps ≤ 16
few_procedures title ps right =
    let all = few_all (is_procedure title) 16 room [] ps right (omega arith) in
    omega (arith, all)
  where
    room : (before : List ProcedureSource) (p : ProcedureSource) → IsTrue (is_procedure title before p) → length before < 16
    room before p k =
        let version = is_of_version title.version p.head.results in
        let head = is_none (head_check before p.head) in
        let exit = has_exit title.version (natural_in title.pieces) (is_empty before) p.head p.exit in
        let full = not (is_empty p.blocks) in
        let all = and_parts (version && head && exit && full) (each_after (is_block (natural_in title.pieces)) [] p.blocks) k in
        let three = and_parts (version && head) exit (and_parts (version && head && exit) full all.0).0 in
        room_of before p.head (and_parts version head three.0).1

all_fit : (title : PlanWords) (ps : List ProcedureSource) (names : List (List ℕ)) → 0 < natural_in title.pieces → length names ≤ 16 → length ps ≤ 16 → IsTrue (not (is_empty ps)) → IsTrue (each_after (is_procedure title) [] ps)
    → IsTrue (list_all is_fine (flat_map procedure_lines ps)) → IsTrue (are_procedures title.version (natural_in title.pieces) (map (procedure_in names) ps))
all_fit title [] names some few low full right fine = grind arith
all_fit title (p ∷ ps) names some few low full right fine =
    let parts = and_parts (is_procedure title [] p) (each_after (is_procedure title) (p ∷ []) ps) right in
    let lines = all_parts is_fine (procedure_lines p) (flat_map procedure_lines ps) fine in
    and_from _ (nat_le (suc (length (map (procedure_in names) ps))) MOST_PROCEDURES)
    (and_from _ _ (procedure_fits title some names few [] p parts.0 lines.0) (others_fit title some names few (p ∷ []) ps refl parts.1 lines.1))
    (le-leb (suc (length (map (procedure_in names) ps))) 16 (omega (arith, low, length-map ps (procedure_in names))))

-- Plans

source_fits : (s : PlanSource) → IsTrue (is_right s) → IsTrue (list_all is_fine (source_lines s)) → IsTrue (is_fitting (plan_of s))
source_fits s right fine =
    let so_far = (and_parts (is_right_so_far s) (is_none (first_true (unknown_names s))) right).0 in
    let all = and_three so_far in
    let numbers = and_parts (is_within 2 32 s.title.pieces) (is_within 1 MOST_BUDGET s.title.budget) (unless_none (is_within 2 32 s.title.pieces && is_within 1 MOST_BUDGET s.title.budget) P3 None all.0).0 in
    let pieces = within 2 32 s.title.pieces numbers.0 in
    let budget = within 1 1000000 s.title.budget numbers.1 in
    let lines = and_three fine in
    let low = few_procedures s.title s.procedures all.2 in
    let names = procedure_names s.procedures in
    let few : length names ≤ 16 = omega (arith, low, length-map s.procedures (λ (p : ProcedureSource). p.head.name)) in
    and_from _ _ (and_from _ _ (and_from _ _ (and_from _ _ lines.1
    (and_from (nat_le 1 (natural_in s.title.budget)) (nat_le (natural_in s.title.budget) MOST_BUDGET) (le-leb 1 (natural_in s.title.budget) budget.0) (le-leb (natural_in s.title.budget) 1000000 budget.1)))
    (and_from (nat_le 2 (natural_in s.title.pieces)) (nat_le (natural_in s.title.pieces) 32) (le-leb 2 (natural_in s.title.pieces) pieces.0) (le-leb (natural_in s.title.pieces) 32 pieces.1)))
    lines.0)
    (all_fit s.title s.procedures names (let p = pieces.0 in omega arith) few low all.1 all.2 lines.2)

-- The plan that a text stands for is within the format.
pub plan_fits : (text : List ℕ) (plan : Plan) → StandsFor text plan → IsTrue (is_fitting plan)
plan_fits text plan (s, h, e) =
    subst (λ (p : Plan). IsTrue (is_fitting p)) (sym e) (source_fits s h.right (text_fine text (source_lines s) h.lines))
