-- The lines of a right source are read as this source.
use Rattle.std.proofs.Common.{◌≡◌, ◌≢◌, ℕ, List, [], ◌∷◌, ◌++◌, length, map, flat_map, Bool, true, false, not, IsTrue, refl, sym, ap, ◌∙◌, append_assoc, append-nil, eqb-true, leb-true, arith, Option, Some, None, is_none, Result, Ok, ◌&&◌}
use Rattle.std.proofs.lemmas.Bool.{and_parts}
use Rattle.burr_code.specs.declared.limits.TheConstants.{MOST_BUDGET}
use Rattle.burr_plantext.specs.Rules.Written.{natural_in, is_within}
use Rattle.burr_plantext.specs.Rules.Statements.{Statement}
use Rattle.burr_plantext.specs.Rules.Lines.{PlanWords, ProcedureWords, RangeWords, PieceWords, Line, PlanLine, ProcLine, ExitLine, ResultLine, LabelLine, FrameLine, SlotLine, GuardLine, StackLine, CostLine, AtLine, CodeLine}
use Rattle.burr_plantext.specs.Rules.Sources.{ExitSource, Conditions, FrameSource, Block, ProcedureSource, PlanSource, exit_lines, some_exit_lines, condition_lines, frame_lines, block_lines, procedure_lines, source_lines}
use Rattle.burr_plantext.specs.Rules.Texts.{LineRead, Reads}
use Rattle.burr_plantext.specs.Rules.Checks.{P1, is_empty, title_check, is_of_version, head_check, grip_check, piece_check, slot_check, live_in, guard_check, stack_check, cost_check, result_check, exit_guard_check, exit_piece_check, statement_check, has_code, label_check, P3}
use Rattle.burr_plantext.specs.Rules.Faults.{OpenProcedure, Stage, AwaitsExit, InExit, AwaitsLabel, AwaitsFrame, InFrame, InPieces, InCode, Beginning, Blank, Titled, Within, LineResult, piece_count, PlacedFault, and_next, with_known_names, judgement, judged, needing, ended_with, at_label, with_line, with_lines}
use Rattle.burr_plantext.specs.Rules.Right.{is_frame, is_exit, is_procedure, unknown_names, first_true, is_right, each_after, all_right, conditions, are_conditions, exit_source, has_exit, is_block, is_right_so_far}
use Rattle.burr_plantext.proofs.Texts.Goes.{Goes, goes_nowhere, goes_on, goes_both, goes_each, goes_counted, none_of, step_of}
use Rattle.burr_plantext.proofs.Texts.Tests.{and_five, and_four, and_three, unless_none, more_not_empty}

-- Frames

module _ (u : OpenProcedure) (exit : Option ExitSource) (blocks : List Block) (label : List ℕ) where
  abbrev in_frame : Conditions → Beginning
  in_frame c = Within u (InFrame exit blocks label c)

  goes_conditions : (c : Conditions) → IsTrue (are_conditions (piece_count u) c)
      → Goes (Within u (AwaitsFrame exit blocks label)) (condition_lines c) (in_frame c)
  goes_conditions c right =
      let all = and_four right in
      goes_on (Within u (AwaitsFrame exit blocks label)) (in_frame (conditions c.grip [] [] [])) (in_frame c) (FrameLine c.grip)
      (map SlotLine c.slots ++ (map GuardLine c.guards ++ map StackLine c.stack))
      (step_of (Within u (AwaitsFrame exit blocks label)) (in_frame (conditions c.grip [] [] [])) (FrameLine c.grip) (grip_check (piece_count u) c.grip) (λ p. refl) all.0)
      (goes_both (in_frame (conditions c.grip [] [] [])) (in_frame (conditions c.grip c.slots [] [])) (in_frame c) (map SlotLine c.slots) (map GuardLine c.guards ++ map StackLine c.stack)
      (goes_each SlotLine (λ before. in_frame (conditions c.grip before [] [])) (λ before s. slot_check (conditions c.grip before [] []) s) (λ before x p. refl) [] c.slots all.1)
      (goes_both (in_frame (conditions c.grip c.slots [] [])) (in_frame (conditions c.grip c.slots c.guards [])) (in_frame c) (map GuardLine c.guards) (map StackLine c.stack)
      (goes_each GuardLine (λ before. in_frame (conditions c.grip c.slots before [])) (λ before g. guard_check (conditions c.grip c.slots before []) g) (λ before x p. refl) [] c.guards all.2)
      (goes_each StackLine (λ before. in_frame (conditions c.grip c.slots c.guards before)) (λ before s. stack_check (conditions c.grip c.slots c.guards before) s) (λ before x p. refl) [] c.stack all.3)))

  abbrev in_pieces : Conditions → List ℕ → List PieceWords → Beginning
  in_pieces c cost pieces = Within u (InPieces exit blocks label (record { conditions = c; cost = cost; pieces = pieces }))

  abbrev open_procedure : FrameSource → List Statement → Block
  open_procedure f code = record { label = label; frame = f; code = code }

  goes_frame : (f : FrameSource) → piece_count u ≢ 0 → IsTrue (is_frame (piece_count u) f)
      → Goes (Within u (AwaitsFrame exit blocks label)) (frame_lines f) (Within u (InCode exit blocks (open_procedure f [])))
  goes_frame f some right =
      let n = piece_count u in
      let c = f.conditions in
      let cost = is_none (cost_check c f.cost) in
      let pieces = all_right (piece_check (live_in c)) f.pieces in
      let all = and_four right in
      goes_both (Within u (AwaitsFrame exit blocks label)) (in_frame c) (Within u (InCode exit blocks (open_procedure f []))) (condition_lines c) (CostLine f.cost ∷ map AtLine f.pieces)
      (goes_conditions c all.0)
      (goes_on (in_frame c) (in_pieces c f.cost []) (Within u (InCode exit blocks (open_procedure f []))) (CostLine f.cost) (map AtLine f.pieces)
      (step_of (in_frame c) (in_pieces c f.cost []) (CostLine f.cost) (cost_check c f.cost) (λ p. refl) all.1)
      (goes_counted n AtLine (in_pieces c f.cost)
      (λ pieces. Within u (InCode exit blocks (open_procedure (record { conditions = c; cost = f.cost; pieces = pieces }) [])))
      (piece_check (live_in c)) (λ before x p. refl) [] f.pieces all.2 (eqb-true (length f.pieces) n all.3) (λ e. some (sym e))))

-- Blocks

module _ (u : OpenProcedure) (exit : Option ExitSource) (some : piece_count u ≢ 0) where
  abbrev code_of : List Block → Block → List Statement → Beginning
  code_of blocks b code = Within u (InCode exit blocks (record { label = b.label; frame = b.frame; code = code }))

  -- a block, where its label may stand
  goes_block : (blocks : List Block) (start : Beginning) (b : Block) → IsTrue (is_block (piece_count u) blocks b)
      → ((p : ℕ) → with_line p start (Reads (LabelLine b.label)) ≡ judged p (label_check blocks b.label) (Within u (AwaitsFrame exit blocks b.label)))
      → Goes start (block_lines b) (Within u (InCode exit blocks b))
  goes_block blocks start b right step =
      let all = and_four right in
      let due = Within u (AwaitsFrame exit blocks b.label) in
      goes_on start due (Within u (InCode exit blocks b)) (LabelLine b.label) (frame_lines b.frame ++ map CodeLine b.code)
      (step_of start due (LabelLine b.label) (label_check blocks b.label) step all.0)
      (goes_both due (code_of blocks b []) (Within u (InCode exit blocks b)) (frame_lines b.frame) (map CodeLine b.code)
      (goes_frame u exit blocks b.label b.frame some all.1)
      (goes_each CodeLine (code_of blocks b) (statement_check blocks) (λ before x p. refl) [] b.code all.2))

  -- where blocks end: in the code of the last
  pub record EndOf (all : List Block) (start : Beginning) (lines : List Line) : Type 0 where
    pub blocks : List Block
    pub last : Block
    pub parts : blocks ++ last ∷ [] ≡ all
    pub code : IsTrue (has_code last)
    pub goes : Goes start lines (Within u (InCode exit blocks last))

  -- with lines in front
  ended_after : (start next : Beginning) (front lines : List Line) (all whole : List Block) → all ≡ whole → Goes start front next → EndOf all next lines → EndOf whole start (front ++ lines)
  ended_after start next front lines all whole e first h =
      record { blocks = h.blocks; last = h.last; parts = h.parts ∙ e; code = h.code; goes = goes_both start next (Within u (InCode exit h.blocks h.last)) front lines first h.goes }

  has_code_of : (blocks : List Block) (b : Block) → IsTrue (is_block (piece_count u) blocks b) → IsTrue (has_code b)
  has_code_of blocks b right =
      (and_parts (is_none (label_check blocks b.label) && is_frame (piece_count u) b.frame && all_right (statement_check blocks) b.code) (has_code b) right).1

  -- blocks after a block
  goes_blocks : (blocks : List Block) (b : Block) (more : List Block) → IsTrue (has_code b)
      → IsTrue (each_after (is_block (piece_count u)) (blocks ++ b ∷ []) more)
      → EndOf (blocks ++ (b ∷ more)) (Within u (InCode exit blocks b)) (flat_map block_lines more)
  goes_blocks blocks b [] code right = record { blocks = blocks; last = b; parts = refl; code = code; goes = goes_nowhere (Within u (InCode exit blocks b)) }
  goes_blocks blocks b (c ∷ more) code right =
      let parts = and_parts (is_block (piece_count u) (blocks ++ b ∷ []) c) (each_after (is_block (piece_count u)) ((blocks ++ b ∷ []) ++ c ∷ []) more) right in
      ended_after (Within u (InCode exit blocks b)) (Within u (InCode exit (blocks ++ b ∷ []) c)) (block_lines c) (flat_map block_lines more) ((blocks ++ b ∷ []) ++ (c ∷ more)) (blocks ++ (b ∷ (c ∷ more)))
      (append_assoc blocks (b ∷ []) (c ∷ more)) (goes_block (blocks ++ b ∷ []) (Within u (InCode exit blocks b)) c parts.0 (λ p. refl))
      (goes_blocks (blocks ++ b ∷ []) c more (has_code_of (blocks ++ b ∷ []) c parts.0) parts.1)

  -- all blocks of a procedure
  goes_all_blocks : (blocks : List Block) → IsTrue (not (is_empty blocks)) → IsTrue (each_after (is_block (piece_count u)) [] blocks)
      → EndOf blocks (Within u (AwaitsLabel exit)) (flat_map block_lines blocks)
  goes_all_blocks [] full right = grind arith
  goes_all_blocks (b ∷ more) full right =
      let parts = and_parts (is_block (piece_count u) [] b) (each_after (is_block (piece_count u)) (b ∷ []) more) right in
      ended_after (Within u (AwaitsLabel exit)) (Within u (InCode exit [] b)) (block_lines b) (flat_map block_lines more) (b ∷ more) (b ∷ more) refl
      (goes_block [] (Within u (AwaitsLabel exit)) b parts.0 (λ p. refl)) (goes_blocks [] b more (has_code_of [] b parts.0) parts.1)

-- Exit frames

goes_exit : (u : OpenProcedure) (e : ExitSource) → piece_count u ≢ 0 → IsTrue (is_exit u.title.version (piece_count u) u.head e)
    → Goes (Within u AwaitsExit) (exit_lines e) (Within u (AwaitsLabel (Some e)))
goes_exit u e some right =
    let n = piece_count u in
    let h = u.head in
    let at = λ (results : List RangeWords) (guards : List (List ℕ)) (pieces : List PieceWords). Within u (InExit (exit_source e.grip results guards pieces)) in
    let last = Within u (AwaitsLabel (Some e)) in
    let all = and_five right in
    goes_on (Within u AwaitsExit) (at [] [] []) last (ExitLine e.grip) (map ResultLine e.results ++ (map GuardLine e.guards ++ map AtLine e.pieces))
    (step_of (Within u AwaitsExit) (at [] [] []) (ExitLine e.grip) (grip_check n e.grip) (λ p. refl) all.0)
    (goes_both (at [] [] []) (at e.results [] []) last (map ResultLine e.results) (map GuardLine e.guards ++ map AtLine e.pieces)
    (goes_each ResultLine (λ before. at before [] []) (λ before r. result_check h (exit_source e.grip before [] []) r) (λ before x p. refl) [] e.results all.1)
    (goes_both (at e.results [] []) (at e.results e.guards []) last (map GuardLine e.guards) (map AtLine e.pieces)
    (goes_each GuardLine (λ before. at e.results before []) (λ before g. exit_guard_check u.title.version h (exit_source e.grip e.results before []) g) (λ before x p. refl) [] e.guards all.2)
    (goes_counted n AtLine (λ before. at e.results e.guards before) (λ before. Within u (AwaitsLabel (Some (exit_source e.grip e.results e.guards before))))
    (λ before p. exit_piece_check h (exit_source e.grip e.results e.guards before) p) (λ before x p. refl) [] e.pieces all.3 (eqb-true (length e.pieces) n all.4) (λ e. some (sym e)))))

-- Procedures

-- where procedures end: in the code of the last
record Ended (title : PlanWords) (all : List ProcedureSource) (start : Beginning) (lines : List Line) : Type 0 where
  ended : List ProcedureSource
  head : ProcedureWords
  exit : Option ExitSource
  blocks : List Block
  last : Block
  parts : ended ++ record { head = head; exit = exit; blocks = blocks ++ last ∷ [] } ∷ [] ≡ all
  code : IsTrue (has_code last)
  goes : Goes start lines (Within (record { title = title; ended = ended; head = head }) (InCode exit blocks last))

module _ (title : PlanWords) (some : natural_in title.pieces ≢ 0) where
  abbrev under : List ProcedureSource → ProcedureWords → OpenProcedure
  under before head = record { title = title; ended = before; head = head }

  -- the stage after a procedure's line
  abbrev first_stage : Bool → Stage
  first_stage true = AwaitsLabel None
  first_stage false = AwaitsExit

  goes_some_exit : (main : Bool) (u : OpenProcedure) (exit : Option ExitSource) → piece_count u ≢ 0 → IsTrue (has_exit u.title.version (piece_count u) main u.head exit)
      → Goes (Within u (first_stage main)) (some_exit_lines exit) (Within u (AwaitsLabel exit))
  goes_some_exit true u None n right = goes_nowhere (Within u (AwaitsLabel None))
  goes_some_exit true u (Some e) n right = grind arith
  goes_some_exit false u None n right = grind arith
  goes_some_exit false u (Some e) n right = goes_exit u e n right

  -- a procedure, where its line may stand
  goes_procedure : (before : List ProcedureSource) (start : Beginning) (p : ProcedureSource) → IsTrue (is_procedure title before p)
      → (IsTrue (is_of_version title.version p.head.results) → (q : ℕ) → with_line q start (Reads (ProcLine p.head)) ≡ judged q (head_check before p.head) (Within (under before p.head) (first_stage (is_empty before))))
      → Ended title (before ++ p ∷ []) start (procedure_lines p)
  goes_procedure before start p right step =
      let u = under before p.head in
      let n = natural_in title.pieces in
      let main = is_empty before in
      let head = is_none (head_check before p.head) in
      let exit = has_exit title.version n main p.head p.exit in
      let all = and_five right in
      let opened = Within u (first_stage main) in
      let labels = Within u (AwaitsLabel p.exit) in
      let h = goes_all_blocks u p.exit some p.blocks all.3 all.4 in
      let last = Within u (InCode p.exit h.blocks h.last) in
      record {
        ended = before;
        head = p.head;
        exit = p.exit;
        blocks = h.blocks;
        last = h.last;
        parts = ap (λ (blocks : List Block). before ++ record { head = p.head; exit = p.exit; blocks = blocks } ∷ []) h.parts;
        code = h.code;
        goes = goes_on start opened last (ProcLine p.head) (some_exit_lines p.exit ++ flat_map block_lines p.blocks)
            (step_of start opened (ProcLine p.head) (head_check before p.head) (step all.0) all.1)
            (goes_both opened labels last (some_exit_lines p.exit) (flat_map block_lines p.blocks) (goes_some_exit main u p.exit some all.2) h.goes);
      }

  -- where a next procedure's line stands
  next_step : (before done : List ProcedureSource) (head : ProcedureWords) (exit : Option ExitSource) (blocks : List Block) (last : Block) (next : ProcedureWords)
      → ended_with (under before head) exit blocks last ≡ done → IsTrue (has_code last) → IsTrue (is_of_version title.version next.results)
      → (q : ℕ) → with_line q (Within (under before head) (InCode exit blocks last)) (Reads (ProcLine next))
      ≡ judged q (head_check done next) (Within (under done next) (first_stage (is_empty done)))
  next_step before done head exit blocks last next e code version q =
      let u = under before head in
      let ended = ended_with u exit blocks last in
      let reached : LineResult = judged q (head_check ended next) (Within (under ended next) AwaitsExit) in
      let empty : is_empty done ≡ false = ap (λ (s : List ProcedureSource). is_empty s) (sym e) ∙ more_not_empty before (record { head = head; exit = exit; blocks = blocks ++ last ∷ [] }) in
      ap (λ (t : Bool). needing t (P1, q) (needing (has_code last) (at_label q last) reached)) version
      ∙ ap (λ (t : Bool). needing t (at_label q last) reached) code
      ∙ ap (λ (s : List ProcedureSource). judged q (head_check s next) (Within (under s next) AwaitsExit)) e
      ∙ ap (λ (t : Bool). judged q (head_check done next) (Within (under done next) (first_stage t))) (sym empty)

  -- what goes on where others have ended
  ended_on : (done : List ProcedureSource) (start : Beginning) (front lines : List Line) (all whole : List ProcedureSource) → all ≡ whole → (h : Ended title done start front)
      → Ended title all (Within (under h.ended h.head) (InCode h.exit h.blocks h.last)) lines → Ended title whole start (front ++ lines)
  ended_on done start front lines all whole e h k = record {
    ended = k.ended;
    head = k.head;
    exit = k.exit;
    blocks = k.blocks;
    last = k.last;
    parts = k.parts ∙ e;
    code = k.code;
    goes = goes_both start (Within (under h.ended h.head) (InCode h.exit h.blocks h.last)) (Within (under k.ended k.head) (InCode k.exit k.blocks k.last)) front lines h.goes k.goes;
  }

  -- procedures after a procedure
  goes_procedures : (before done : List ProcedureSource) (head : ProcedureWords) (exit : Option ExitSource) (blocks : List Block) (last : Block) (more : List ProcedureSource)
      → ended_with (under before head) exit blocks last ≡ done → IsTrue (has_code last) → IsTrue (each_after (is_procedure title) done more)
      → Ended title (done ++ more) (Within (under before head) (InCode exit blocks last)) (flat_map procedure_lines more)
  goes_procedures before done head exit blocks last [] e code right = record {
    ended = before;
    head = head;
    exit = exit;
    blocks = blocks;
    last = last;
    parts = e ∙ sym (append-nil done);
    code = code;
    goes = goes_nowhere (Within (under before head) (InCode exit blocks last));
  }
  goes_procedures before done head exit blocks last (p ∷ more) e code right =
      let parts = and_parts (is_procedure title done p) (each_after (is_procedure title) (done ++ p ∷ []) more) right in
      let start = Within (under before head) (InCode exit blocks last) in
      let h = goes_procedure done start p parts.0 (next_step before done head exit blocks last p.head e code) in
      ended_on (done ++ p ∷ []) start (procedure_lines p) (flat_map procedure_lines more) ((done ++ p ∷ []) ++ more) (done ++ (p ∷ more)) (append_assoc done (p ∷ []) more) h
      (goes_procedures h.ended (done ++ p ∷ []) h.head h.exit h.blocks h.last more h.parts h.code parts.1)

  main_step : (head : ProcedureWords) → IsTrue (is_of_version title.version head.results)
      → (q : ℕ) → with_line q (Titled title) (Reads (ProcLine head)) ≡ judged q (head_check [] head) (Within (under [] head) (first_stage true))
  main_step head version q =
      ap (λ (t : Bool). needing t (P1, q) (judged q (head_check [] head) (Within (under [] head) (AwaitsLabel None)))) version

  goes_all_procedures : (all : List ProcedureSource) → IsTrue (not (is_empty all)) → IsTrue (each_after (is_procedure title) [] all)
      → Ended title all (Titled title) (flat_map procedure_lines all)
  goes_all_procedures [] full right = grind arith
  goes_all_procedures (p ∷ more) full right =
      let parts = and_parts (is_procedure title [] p) (each_after (is_procedure title) (p ∷ []) more) right in
      let h = goes_procedure [] (Titled title) p parts.0 (main_step p.head) in
      ended_on (p ∷ []) (Titled title) (procedure_lines p) (flat_map procedure_lines more) (p ∷ more) (p ∷ more) refl h
      (goes_procedures h.ended (p ∷ []) h.head h.exit h.blocks h.last more h.parts h.code parts.1)

-- Sources

-- a number of 2 to 32 is not 0
some_pieces : (word : List ℕ) → IsTrue (is_within 2 32 word) → natural_in word ≢ 0
some_pieces word right e =
    let tests = and_three right in
    let low = leb-true 2 (natural_in word) tests.1 in
    omega (arith, low, e)

pub source_read : (s : PlanSource) → IsTrue (is_right_so_far s) → with_lines 0 Blank (map Reads (source_lines s)) ≡ Ok s
source_read s right =
    let title = is_none (title_check s.title) in
    let all = and_three right in
    let range = and_parts (is_within 2 32 s.title.pieces) (is_within 1 MOST_BUDGET s.title.budget) (unless_none (is_within 2 32 s.title.pieces && is_within 1 MOST_BUDGET s.title.budget) P3 None all.0).0 in
    let h = goes_all_procedures s.title (some_pieces s.title.pieces range.0) s.procedures all.1 all.2 in
    let u : OpenProcedure = record { title = s.title; ended = h.ended; head = h.head } in
    let last = Within u (InCode h.exit h.blocks h.last) in
    let way = goes_on Blank (Titled s.title) last (PlanLine s.title) (flat_map procedure_lines s.procedures)
    (step_of Blank (Titled s.title) (PlanLine s.title) (title_check s.title) (λ p. refl) all.0) h.goes in
    let reached = way 0 [] in
    let source : List ProcedureSource → PlanSource = λ procedures. record { title = s.title; procedures = procedures } in
    ap (λ (lines : List LineRead). with_lines 0 Blank lines) (sym (append-nil (map Reads (source_lines s))))
    ∙ reached.1
    ∙ ap (λ (t : Bool). needing t (at_label reached.0 h.last) (Ok (source (ended_with u h.exit h.blocks h.last)))) h.code
    ∙ ap (λ (procedures : List ProcedureSource). Ok (source procedures)) h.parts

-- A right source is what its lines are judged to be.
pub source_judged : (s : PlanSource) → IsTrue (is_right s) → judgement (map Reads (source_lines s)) ≡ Ok s
source_judged s right =
    let parts = and_parts (is_right_so_far s) (is_none (first_true (unknown_names s))) right in
    ap (λ (r : Result PlanSource PlacedFault). and_next r (λ t. with_known_names t (first_true (unknown_names t)))) (source_read s parts.0)
    ∙ ap (λ (o : Option ℕ). with_known_names s o) (none_of (first_true (unknown_names s)) parts.1)
