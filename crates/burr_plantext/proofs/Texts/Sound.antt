-- A source that lines are judged to be is right, and these are its lines.
use Rattle.std.proofs.Common.{◌≡◌, ℕ, suc, ◌==◌, List, [], ◌∷◌, ◌++◌, length, map, flat_map, Bool, true, false, not, IsTrue, refl, sym, ap, subst, ◌∙◌, append_assoc, append-nil, nat_lt, Option, Some, None, is_none, Result, Ok, Err, ◌&&◌, if◌then◌else◌}
use Rattle.std.specs.List.{list_all}
use Rattle.std.proofs.lemmas.Bool.{and_parts, and_from}
use Rattle.burr_code.specs.declared.limits.TheConstants.{MOST_LABELS}
use Rattle.burr_plantext.specs.Rules.Lines.{PlanWords, ProcedureWords, GripWords, RangeWords, SlotWords, PieceWords, Line, PlanLine, ProcLine, ExitLine, ResultLine, LabelLine, FrameLine, SlotLine, GuardLine, StackLine, CostLine, AtLine, CodeLine}
use Rattle.burr_plantext.specs.Rules.Sources.{ExitSource, Conditions, FrameSource, Block, ProcedureSource, PlanSource, exit_lines, some_exit_lines, condition_lines, frame_lines, block_lines, procedure_lines, source_lines}
use Rattle.burr_plantext.specs.Rules.Meaning.{result_count, label_names}
use Rattle.burr_plantext.specs.Rules.Texts.{LineRead, Reads, Unread}
use Rattle.burr_plantext.specs.Rules.Checks.{FaultKind, P1, P2, P4, is_known, unless, is_empty, title_check, is_of_version, head_check, grip_check, piece_check, slot_check, live_in, guard_check, stack_check, cost_check, result_check, exit_guard_check, exit_piece_check, statement_check, has_code, label_check}
use Rattle.burr_plantext.specs.Rules.Faults.{OpenProcedure, Stage, AwaitsExit, InExit, AwaitsLabel, AwaitsFrame, InFrame, InPieces, InCode, Beginning, Blank, Titled, Within, LineResult, piece_count, begins_exit, in_exit, with_exit, first_label, begins_frame, in_frame, in_pieces, with_frame, in_code, within, titled, main_begins, PlacedFault, and_next, with_known_names, judgement, judged, needing, ended_with, at_label, with_line, with_lines, end_within, at_end}
use Rattle.std.proofs.lemmas.List.{map-append}
use Rattle.burr_plantext.specs.Rules.Right.{is_frame, is_procedure, unknown_names, first_true, is_right, each_after, all_right, conditions, are_conditions, exit_source, has_exit, is_block, is_right_so_far}
use Rattle.burr_plantext.proofs.Texts.Tests.{unless_none, more_not_empty, all_parts}
use Rattle.std.proofs.lemmas.Grind.{flat_map-append}

-- Lists

flat_map_last : {A B : Type 0} (f : A → List B) (xs : List A) (x : A) → flat_map f (xs ++ x ∷ []) ≡ flat_map f xs ++ f x
flat_map_last {B = B} f xs x = flat_map-append f xs (x ∷ []) ∙ ap (λ (s : List B). flat_map f xs ++ s) (append-nil (f x))

-- one more element that is so
after_more : {A : Type 0} (is_so : List A → A → Bool) (before xs : List A) (x : A) → IsTrue (each_after is_so before xs) → IsTrue (is_so (before ++ xs) x)
    → IsTrue (each_after is_so before (xs ++ x ∷ []))
after_more is_so before [] x all here = and_from (is_so before x) true (subst (λ (s : List _). IsTrue (is_so s x)) (append-nil before) here) refl
after_more is_so before (y ∷ ys) x all here =
    let parts = and_parts (is_so before y) (each_after is_so (before ++ y ∷ []) ys) all in
    and_from (is_so before y) (each_after is_so (before ++ y ∷ []) (ys ++ x ∷ [])) parts.0
    (after_more is_so (before ++ y ∷ []) ys x parts.1 (subst (λ (s : List _). IsTrue (is_so s x)) (sym (append_assoc before (y ∷ []) ys)) here))

-- one more element with which nothing is wrong
right_more : {A : Type 0} (check : List A → A → Option FaultKind) (xs : List A) (x : A) → IsTrue (all_right check xs) → IsTrue (is_none (check xs x))
    → IsTrue (all_right check (xs ++ x ∷ []))
right_more check xs x all here = after_more (λ before y. is_none (check before y)) [] xs x all here

-- Answers

judged_ok : (p : ℕ) (check : Option FaultKind) (next c : Beginning) → judged p check next ≡ Ok c → (IsTrue (is_none check)) × (next ≡ c)
judged_ok p None next c e = (refl, cc)
judged_ok p (Some kind) next c e = cc

needing_ok : {A : Type 0} (t : Bool) (f : PlacedFault) (more : Result A PlacedFault) (a : A) → needing t f more ≡ Ok a → (IsTrue t) × (more ≡ Ok a)
needing_ok true f more a e = (refl, e)
needing_ok false f more a e = cc

err_ok : {A : Type 0} {f : PlacedFault} {a : A} → ◌≡◌ {A = Result A PlacedFault} (Err f) (Ok a) → ⊥
err_ok e = cc

not_true : false ≡ true → ⊥
not_true e = cc

-- Lines so far

abbrev pub stage_lines : Stage → List Line
stage_lines AwaitsExit = []
stage_lines (InExit e) = exit_lines e
stage_lines (AwaitsLabel exit) = some_exit_lines exit
stage_lines (AwaitsFrame exit blocks label) = some_exit_lines exit ++ (flat_map block_lines blocks ++ LabelLine label ∷ [])
stage_lines (InFrame exit blocks label c) = some_exit_lines exit ++ (flat_map block_lines blocks ++ (LabelLine label ∷ condition_lines c))
stage_lines (InPieces exit blocks label f) = some_exit_lines exit ++ (flat_map block_lines blocks ++ (LabelLine label ∷ frame_lines f))
stage_lines (InCode exit blocks b) = some_exit_lines exit ++ (flat_map block_lines blocks ++ block_lines b)

abbrev pub so_far : Beginning → List Line
so_far Blank = []
so_far (Titled title) = PlanLine title ∷ []
so_far (Within u stage) = PlanLine u.title ∷ (flat_map procedure_lines u.ended ++ (ProcLine u.head ∷ stage_lines stage))

-- What is right so far

record AreBlocks (u : OpenProcedure) (exit : Option ExitSource) (blocks : List Block) (label : List ℕ) : Type 0 where
  exits : IsTrue (has_exit u.title.version (piece_count u) (is_empty u.ended) u.head exit)
  each : IsTrue (each_after (is_block (piece_count u)) [] blocks)
  name : IsTrue (is_none (label_check blocks label))

record FitsExit (u : OpenProcedure) (e : ExitSource) : Type 0 where
  grips : IsTrue (is_none (grip_check (piece_count u) e.grip))
  results : IsTrue (all_right (λ before r. result_check u.head (exit_source e.grip before [] []) r) e.results)
  guards : IsTrue (all_right (λ before g. exit_guard_check u.title.version u.head (exit_source e.grip e.results before []) g) e.guards)
  pieces : IsTrue (all_right (λ before p. exit_piece_check u.head (exit_source e.grip e.results e.guards before) p) e.pieces)

record FitsPieces (u : OpenProcedure) (f : FrameSource) : Type 0 where
  conditions : IsTrue (are_conditions (piece_count u) f.conditions)
  cost : IsTrue (is_none (cost_check f.conditions f.cost))
  pieces : IsTrue (all_right (piece_check (live_in f.conditions)) f.pieces)

abbrev FitsStage : OpenProcedure → Stage → Type 0
FitsStage u AwaitsExit = is_empty u.ended ≡ false
FitsStage u (InExit e) = (is_empty u.ended ≡ false) × FitsExit u e
FitsStage u (AwaitsLabel exit) = IsTrue (has_exit u.title.version (piece_count u) (is_empty u.ended) u.head exit)
FitsStage u (AwaitsFrame exit blocks label) = AreBlocks u exit blocks label
FitsStage u (InFrame exit blocks label c) = AreBlocks u exit blocks label × IsTrue (are_conditions (piece_count u) c)
FitsStage u (InPieces exit blocks label f) = AreBlocks u exit blocks label × FitsPieces u f
FitsStage u (InCode exit blocks b) = AreBlocks u exit blocks b.label × IsTrue (is_frame (piece_count u) b.frame) × IsTrue (all_right (statement_check blocks) b.code)

record FitsUnder (u : OpenProcedure) : Type 0 where
  title : IsTrue (is_none (title_check u.title))
  version : IsTrue (is_of_version u.title.version u.head.results)
  head : IsTrue (is_none (head_check u.ended u.head))
  ended : IsTrue (each_after (is_procedure u.title) [] u.ended)

abbrev Fits : Beginning → Type 0
Fits Blank = Unit {0}
Fits (Titled title) = IsTrue (is_none (title_check title))
Fits (Within u stage) = FitsUnder u × FitsStage u stage

-- one line more
record Stepped (b : Beginning) (line : LineRead) (c : Beginning) : Type 0 where
  it : Line
  reads : line ≡ Reads it
  lines : so_far c ≡ so_far b ++ it ∷ []
  fits : Fits c

stepped_within : {u : OpenProcedure} {stage next : Stage} {line : Line} → stage_lines next ≡ stage_lines stage ++ line ∷ [] → FitsUnder u → FitsStage u next
    → Stepped (Within u stage) (Reads line) (Within u next)
stepped_within {u = u} {stage = stage} {line = line} e under fits = record {
  it = line;
  reads = refl;
  lines = ap (λ (s : List Line). PlanLine u.title ∷ (flat_map procedure_lines u.ended ++ (ProcLine u.head ∷ s))) e
      ∙ ap (λ (s : List Line). PlanLine u.title ∷ s) (sym (append_assoc (flat_map procedure_lines u.ended) (ProcLine u.head ∷ stage_lines stage) (line ∷ [])));
  fits = (under, fits);
}

stepped_if : {b : Beginning} {line : LineRead} (c d : Beginning) (t : Bool) → (t ≡ true → Stepped b line c) → (t ≡ false → Stepped b line d) → Stepped b line (if t then c else d)
stepped_if c d true f g = f refl
stepped_if c d false f g = g refl

by_check : {b : Beginning} {line : LineRead} {c : Beginning} (p : ℕ) (check : Option FaultKind) (next : Beginning) → judged p check next ≡ Ok c → (IsTrue (is_none check) → Stepped b line next) → Stepped b line c
by_check {b = b} {line = line} {c = c} p check next e f = let h = judged_ok p check next c e in subst (λ (d : Beginning). Stepped b line d) h.1 (f h.0)

-- Exit frames

first_kind : (h : Line) (a b : List Line) (l : Line) → b ≡ a ++ l ∷ [] → h ∷ (b ++ []) ≡ (h ∷ (a ++ [])) ++ l ∷ []
first_kind h a b l e = rw e (simp append-nil)

second_kind : (h : Line) (r a b : List Line) (l : Line) → b ≡ a ++ l ∷ [] → h ∷ (r ++ (b ++ [])) ≡ (h ∷ (r ++ (a ++ []))) ++ l ∷ []
second_kind h r a b l e = rw e (simp (append-nil, append_assoc))

module _ (u : OpenProcedure) (under : FitsUnder u) where
  step_exit_due : (p : ℕ) (line : LineRead) (c : Beginning) → is_empty u.ended ≡ false → begins_exit p u line ≡ Ok c → Stepped (Within u AwaitsExit) line c
  step_exit_due p (Reads (ExitLine g)) c fits e =
      by_check p (grip_check (piece_count u) g) (Within u (InExit (exit_source g [] [] []))) e
      (λ right. stepped_within refl under (fits, record { grips = right; results = refl; guards = refl; pieces = refl }))
  step_exit_due p line c fits e = absurd (err_ok e)

  step_result : (p : ℕ) (g : GripWords) (rs : List RangeWords) (gs : List (List ℕ)) (ps : List PieceWords) (r : RangeWords) (c : Beginning)
      → FitsStage u (InExit (exit_source g rs gs ps)) → in_exit p u (exit_source g rs gs ps) (Reads (ResultLine r)) ≡ Ok c
      → Stepped (Within u (InExit (exit_source g rs gs ps))) (Reads (ResultLine r)) c
  step_result p g rs [] [] r c fits e =
      by_check p (result_check u.head (exit_source g rs [] []) r) (Within u (InExit (exit_source g (rs ++ r ∷ []) [] []))) e
      (λ right. stepped_within (first_kind (ExitLine g) (map ResultLine rs) (map ResultLine (rs ++ r ∷ [])) (ResultLine r) (map-append ResultLine rs (r ∷ []))) under
      (fits.0, record { grips = fits.1.grips; results = right_more (λ before r. result_check u.head (exit_source g before [] []) r) rs r fits.1.results right; guards = refl; pieces = refl }))
  step_result p g rs [] (x ∷ ps) r c fits e = absurd (err_ok e)
  step_result p g rs (x ∷ gs) ps r c fits e = absurd (err_ok e)

  step_exit_guard : (p : ℕ) (g : GripWords) (rs : List RangeWords) (gs : List (List ℕ)) (ps : List PieceWords) (x : List ℕ) (c : Beginning)
      → FitsStage u (InExit (exit_source g rs gs ps)) → in_exit p u (exit_source g rs gs ps) (Reads (GuardLine x)) ≡ Ok c
      → Stepped (Within u (InExit (exit_source g rs gs ps))) (Reads (GuardLine x)) c
  step_exit_guard p g rs gs [] x c fits e =
      by_check p (exit_guard_check u.title.version u.head (exit_source g rs gs []) x) (Within u (InExit (exit_source g rs (gs ++ x ∷ []) []))) e
      (λ right. stepped_within (second_kind (ExitLine g) (map ResultLine rs) (map GuardLine gs) (map GuardLine (gs ++ x ∷ [])) (GuardLine x) (map-append GuardLine gs (x ∷ []))) under
      (fits.0, record { grips = fits.1.grips; results = fits.1.results; guards = right_more (λ before y. exit_guard_check u.title.version u.head (exit_source g rs before []) y) gs x fits.1.guards right; pieces = refl }))
  step_exit_guard p g rs gs (q ∷ ps) x c fits e =
      let two = u.title.version == 2 in
      let full = length rs == result_count u.head.results in
      let h = judged_ok p (exit_guard_check u.title.version u.head (exit_source g rs gs (q ∷ ps)) x) (Within u (InExit (exit_source g rs (gs ++ x ∷ []) (q ∷ ps)))) c e in
      let test = (unless_none (two && is_empty (q ∷ ps) && full) P1 _ h.0).0 in
      absurd (not_true (and_parts two false (and_parts (two && false) full test).0).1)

  step_exit_piece : (p : ℕ) (e : ExitSource) (x : PieceWords) (c : Beginning) → FitsStage u (InExit e) → in_exit p u e (Reads (AtLine x)) ≡ Ok c → Stepped (Within u (InExit e)) (Reads (AtLine x)) c
  step_exit_piece p s x c fits e =
      let next = exit_source s.grip s.results s.guards (s.pieces ++ x ∷ []) in
      by_check p (exit_piece_check u.head s x) (with_exit u next) e (λ right.
      let pieces = right_more (λ before q. exit_piece_check u.head (exit_source s.grip s.results s.guards before) q) s.pieces x fits.1.pieces right in
      stepped_if (Within u (AwaitsLabel (Some next))) (Within u (InExit next)) (length next.pieces == piece_count u)
      (λ full. stepped_within (simp (map-append, append_assoc)) under
      (subst (λ (main : Bool). IsTrue (has_exit u.title.version (piece_count u) main u.head (Some next))) (sym fits.0)
      (and_from _ _ (and_from _ _ (and_from _ _ (and_from _ _ fits.1.grips fits.1.results) fits.1.guards) pieces) full)))
      (λ open_still. stepped_within (simp (map-append, append_assoc)) under
      (fits.0, record { grips = fits.1.grips; results = fits.1.results; guards = fits.1.guards; pieces = pieces })))

  step_in_exit : (p : ℕ) (e : ExitSource) (line : LineRead) (c : Beginning) → FitsStage u (InExit e) → in_exit p u e line ≡ Ok c → Stepped (Within u (InExit e)) line c
  step_in_exit p x (Reads (ResultLine r)) c fits e = step_result p x.grip x.results x.guards x.pieces r c fits e
  step_in_exit p x (Reads (GuardLine g)) c fits e = step_exit_guard p x.grip x.results x.guards x.pieces g c fits e
  step_in_exit p x (Reads (AtLine q)) c fits e = step_exit_piece p x q c fits e
  step_in_exit p x line c fits e = absurd (err_ok e)

-- Frames

module _ (u : OpenProcedure) (under : FitsUnder u) (exit : Option ExitSource) (blocks : List Block) (label : List ℕ) (are : AreBlocks u exit blocks label) where
  step_frame_due : (p : ℕ) (line : LineRead) (c : Beginning) → begins_frame p u exit blocks label line ≡ Ok c → Stepped (Within u (AwaitsFrame exit blocks label)) line c
  step_frame_due p (Reads (FrameLine g)) c e =
      by_check p (grip_check (piece_count u) g) (Within u (InFrame exit blocks label (conditions g [] [] []))) e
      (λ right. stepped_within (simp append_assoc) under (are, and_from _ true (and_from _ true (and_from _ true right refl) refl) refl))
  step_frame_due p (Unread word) c e = absurd (err_ok e)
  step_frame_due p line c e = absurd (err_ok e)

  abbrev frame_at : Conditions → Stage
  frame_at c = InFrame exit blocks label c

  step_slot : (p : ℕ) (g : GripWords) (ss : List SlotWords) (gs ks : List (List ℕ)) (x : SlotWords) (c : Beginning)
      → IsTrue (are_conditions (piece_count u) (conditions g ss gs ks)) → in_frame p u exit blocks label (conditions g ss gs ks) (Reads (SlotLine x)) ≡ Ok c
      → Stepped (Within u (frame_at (conditions g ss gs ks))) (Reads (SlotLine x)) c
  step_slot p g ss [] [] x c fits e =
      let slots = λ (ss : List SlotWords). all_right (λ before s. slot_check (conditions g before [] []) s) ss in
      let two = and_parts (is_none (grip_check (piece_count u) g)) (slots ss) (and_parts _ true (and_parts _ true fits).0).0 in
      by_check p (slot_check (conditions g ss [] []) x) (Within u (frame_at (conditions g (ss ++ x ∷ []) [] []))) e
      (λ right. stepped_within (simp (map-append, append-nil, append_assoc)) under
      (are, and_from _ true (and_from _ true (and_from _ (slots (ss ++ x ∷ [])) two.0 (right_more (λ before s. slot_check (conditions g before [] []) s) ss x two.1 right)) refl) refl))
  step_slot p g ss [] (k ∷ ks) x c fits e = absurd (err_ok e)
  step_slot p g ss (y ∷ gs) ks x c fits e = absurd (err_ok e)

  step_guard : (p : ℕ) (g : GripWords) (ss : List SlotWords) (gs ks : List (List ℕ)) (x : List ℕ) (c : Beginning)
      → IsTrue (are_conditions (piece_count u) (conditions g ss gs ks)) → in_frame p u exit blocks label (conditions g ss gs ks) (Reads (GuardLine x)) ≡ Ok c
      → Stepped (Within u (frame_at (conditions g ss gs ks))) (Reads (GuardLine x)) c
  step_guard p g ss gs [] x c fits e =
      let front = is_none (grip_check (piece_count u) g) && all_right (λ before s. slot_check (conditions g before [] []) s) ss in
      let guards = λ (gs : List (List ℕ)). all_right (λ before y. guard_check (conditions g ss before []) y) gs in
      let two = and_parts front (guards gs) (and_parts (front && guards gs) true fits).0 in
      by_check p (guard_check (conditions g ss gs []) x) (Within u (frame_at (conditions g ss (gs ++ x ∷ []) []))) e
      (λ right. stepped_within (simp (map-append, append-nil, append_assoc)) under
      (are, and_from _ true (and_from front (guards (gs ++ x ∷ [])) two.0 (right_more (λ before y. guard_check (conditions g ss before []) y) gs x two.1 right)) refl))
  step_guard p g ss gs (k ∷ ks) x c fits e = absurd (err_ok e)

  abbrev frame_of : Conditions → List ℕ → List PieceWords → FrameSource
  frame_of c cost pieces = record { conditions = c; cost = cost; pieces = pieces }

  step_in_frame : (p : ℕ) (k : Conditions) (line : LineRead) (c : Beginning) → IsTrue (are_conditions (piece_count u) k) → in_frame p u exit blocks label k line ≡ Ok c → Stepped (Within u (frame_at k)) line c
  step_in_frame p k (Reads (SlotLine x)) c fits e = step_slot p k.grip k.slots k.guards k.stack x c fits e
  step_in_frame p k (Reads (GuardLine x)) c fits e = step_guard p k.grip k.slots k.guards k.stack x c fits e
  step_in_frame p k (Reads (StackLine x)) c fits e =
      let front = is_none (grip_check (piece_count u) k.grip) && all_right (λ before s. slot_check (conditions k.grip before [] []) s) k.slots && all_right (λ before y. guard_check (conditions k.grip k.slots before []) y) k.guards in
      let stack = λ (ks : List (List ℕ)). all_right (λ before y. stack_check (conditions k.grip k.slots k.guards before) y) ks in
      let two = and_parts front (stack k.stack) fits in
      by_check p (stack_check k x) (Within u (frame_at (conditions k.grip k.slots k.guards (k.stack ++ x ∷ [])))) e
      (λ right. stepped_within (simp (map-append, append_assoc)) under
      (are, and_from front (stack (k.stack ++ x ∷ [])) two.0 (right_more (λ before y. stack_check (conditions k.grip k.slots k.guards before) y) k.stack x two.1 right)))
  step_in_frame p k (Reads (CostLine x)) c fits e =
      by_check p (cost_check k x) (Within u (InPieces exit blocks label (frame_of k x []))) e
      (λ right. stepped_within (simp append_assoc) under (are, record { conditions = fits; cost = right; pieces = refl }))
  step_in_frame p k line c fits e = absurd (err_ok e)

  step_in_pieces : (p : ℕ) (f : FrameSource) (line : LineRead) (c : Beginning) → FitsPieces u f → in_pieces p u exit blocks label f line ≡ Ok c → Stepped (Within u (InPieces exit blocks label f)) line c
  step_in_pieces p f (Reads (AtLine x)) c fits e =
      let next = frame_of f.conditions f.cost (f.pieces ++ x ∷ []) in
      let first : Block = record { label = label; frame = next; code = [] } in
      by_check p (piece_check (live_in f.conditions) f.pieces x) (with_frame u exit blocks label next) e (λ right.
      let pieces = right_more (piece_check (live_in f.conditions)) f.pieces x fits.pieces right in
      stepped_if (Within u (InCode exit blocks first)) (Within u (InPieces exit blocks label next)) (length next.pieces == piece_count u)
      (λ full. stepped_within (simp (map-append, append-nil, append_assoc)) under (are, and_from _ _ (and_from _ _ (and_from _ _ fits.conditions fits.cost) pieces) full, refl))
      (λ open_still. stepped_within (simp (map-append, append_assoc)) under (are, record { conditions = fits.conditions; cost = fits.cost; pieces = pieces })))
  step_in_pieces p f line c fits e = absurd (err_ok e)

-- Code, labels and procedures

abbrev procedure_of : OpenProcedure → Option ExitSource → List Block → Block → ProcedureSource
procedure_of u exit blocks b = record { head = u.head; exit = exit; blocks = blocks ++ b ∷ [] }

module _ (u : OpenProcedure) (under : FitsUnder u) where
  step_first_label : (p : ℕ) (exit : Option ExitSource) (line : LineRead) (c : Beginning) → FitsStage u (AwaitsLabel exit) → first_label p u exit line ≡ Ok c → Stepped (Within u (AwaitsLabel exit)) line c
  step_first_label p exit (Reads (LabelLine name)) c fits e =
      by_check p (label_check [] name) (Within u (AwaitsFrame exit [] name)) e (λ right. stepped_within refl under (record { exits = fits; each = refl; name = right }))
  step_first_label p exit line c fits e = absurd (err_ok e)

  module _ (exit : Option ExitSource) (blocks : List Block) (b : Block) (fits : FitsStage u (InCode exit blocks b)) where
    abbrev start : Beginning
    start = Within u (InCode exit blocks b)

    whole_block : IsTrue (has_code b) → IsTrue (is_block (piece_count u) blocks b)
    whole_block code = and_from _ (has_code b) (and_from _ _ (and_from _ _ fits.0.name fits.1) fits.2) code

    each_block : IsTrue (has_code b) → IsTrue (each_after (is_block (piece_count u)) [] (blocks ++ b ∷ []))
    each_block code = after_more (is_block (piece_count u)) [] blocks b fits.0.each (whole_block code)

    block_end : (l : List Line) → some_exit_lines exit ++ (flat_map block_lines (blocks ++ b ∷ []) ++ l) ≡ (some_exit_lines exit ++ (flat_map block_lines blocks ++ block_lines b)) ++ l
    block_end l = rw (flat_map_last block_lines blocks b) (simp append_assoc)

    step_label : (p : ℕ) (name : List ℕ) (c : Beginning) → in_code p u exit blocks b (Reads (LabelLine name)) ≡ Ok c → Stepped start (Reads (LabelLine name)) c
    step_label p name c e =
        let all = blocks ++ b ∷ [] in
        by_check p (label_check all name) (Within u (AwaitsFrame exit all name)) e (λ right.
        let tests = nat_lt (length all) MOST_LABELS && list_all has_code all in
        let second = (unless_none (not (is_known (label_names all) name)) P2 (unless tests P4 None) right).1 in
        let code = (and_parts (has_code b) true (all_parts has_code blocks (b ∷ []) (and_parts (nat_lt (length all) MOST_LABELS) (list_all has_code all) (unless_none tests P4 None second).0).1).1).0 in
        stepped_within (block_end (LabelLine name ∷ [])) under (record { exits = fits.0.exits; each = each_block code; name = right }))

    whole_procedure : IsTrue (has_code b) → IsTrue (is_procedure u.title u.ended (procedure_of u exit blocks b))
    whole_procedure code =
        let full : IsTrue (not (is_empty (blocks ++ b ∷ []))) = ap not (more_not_empty blocks b) in
        and_from _ _ (and_from _ _ (and_from _ _ (and_from _ _ under.version under.head) fits.0.exits) full) (each_block code)

    each_procedure : IsTrue (has_code b) → IsTrue (each_after (is_procedure u.title) [] (ended_with u exit blocks b))
    each_procedure code = after_more (is_procedure u.title) [] u.ended (procedure_of u exit blocks b) under.ended (whole_procedure code)

    ended_lines : flat_map procedure_lines (ended_with u exit blocks b) ≡ flat_map procedure_lines u.ended ++ (ProcLine u.head ∷ stage_lines (InCode exit blocks b))
    ended_lines =
        flat_map_last procedure_lines u.ended (procedure_of u exit blocks b)
        ∙ ap (λ (s : List Line). flat_map procedure_lines u.ended ++ (ProcLine u.head ∷ (some_exit_lines exit ++ s))) (flat_map_last block_lines blocks b)

    step_procedure : (p : ℕ) (head : ProcedureWords) (c : Beginning) → in_code p u exit blocks b (Reads (ProcLine head)) ≡ Ok c → Stepped start (Reads (ProcLine head)) c
    step_procedure p head c e =
        let all = ended_with u exit blocks b in
        let next : OpenProcedure = record { title = u.title; ended = all; head = head } in
        let reached : LineResult = judged p (head_check all head) (Within next AwaitsExit) in
        let first = needing_ok (is_of_version u.title.version head.results) (P1, p) (needing (has_code b) (at_label p b) reached) c e in
        let second = needing_ok (has_code b) (at_label p b) reached c first.1 in
        by_check p (head_check all head) (Within next AwaitsExit) second.1 (λ right. record {
          it = ProcLine head;
          reads = refl;
          lines = ap (λ (s : List Line). PlanLine u.title ∷ (s ++ ProcLine head ∷ [])) ended_lines;
          fits = (record { title = under.title; version = first.0; head = right; ended = each_procedure second.0 }, more_not_empty u.ended (procedure_of u exit blocks b));
        })

    step_in_code : (p : ℕ) (line : LineRead) (c : Beginning) → in_code p u exit blocks b line ≡ Ok c → Stepped start line c
    step_in_code p (Reads (CodeLine x)) c e =
        by_check p (statement_check blocks b.code x) (Within u (InCode exit blocks (record b { code = b.code ++ x ∷ [] }))) e
        (λ right. stepped_within (simp (map-append, append_assoc)) under (fits.0, fits.1, right_more (statement_check blocks) b.code x fits.2 right))
    step_in_code p (Reads (LabelLine name)) c e = step_label p name c e
    step_in_code p (Reads (ProcLine head)) c e = step_procedure p head c e
    step_in_code p line c e = absurd (err_ok e)

  step_within : (p : ℕ) (stage : Stage) (line : LineRead) (c : Beginning) → FitsStage u stage → within p u stage line ≡ Ok c → Stepped (Within u stage) line c
  step_within p AwaitsExit line c fits e = step_exit_due u under p line c fits e
  step_within p (InExit x) line c fits e = step_in_exit u under p x line c fits e
  step_within p (AwaitsLabel exit) line c fits e = step_first_label p exit line c fits e
  step_within p (AwaitsFrame exit blocks label) line c fits e = step_frame_due u under exit blocks label fits p line c e
  step_within p (InFrame exit blocks label k) line c fits e = step_in_frame u under exit blocks label fits.0 p k line c fits.1 e
  step_within p (InPieces exit blocks label f) line c fits e = step_in_pieces u under exit blocks label fits.0 p f line c fits.1 e
  step_within p (InCode exit blocks b) line c fits e = step_in_code exit blocks b fits p line c e

step_main : (p : ℕ) (title : PlanWords) (line : LineRead) (c : Beginning) → Fits (Titled title) → main_begins p title line ≡ Ok c → Stepped (Titled title) line c
step_main p title (Reads (ProcLine head)) c fits e =
    let next : OpenProcedure = record { title = title; ended = []; head = head } in
    let first = needing_ok (is_of_version title.version head.results) (P1, p) (judged p (head_check [] head) (Within next (AwaitsLabel None))) c e in
    by_check p (head_check [] head) (Within next (AwaitsLabel None)) first.1 (λ right. record { it = ProcLine head; reads = refl; lines = refl; fits = (record { title = fits; version = first.0; head = right; ended = refl }, refl) })
step_main p title line c fits e = absurd (err_ok e)

step_blank : (p : ℕ) (line : LineRead) (c : Beginning) → titled p line ≡ Ok c → Stepped Blank line c
step_blank p (Reads (PlanLine title)) c e = by_check p (title_check title) (Titled title) e (λ right. record { it = PlanLine title; reads = refl; lines = refl; fits = right })
step_blank p line c e = absurd (err_ok e)

-- what a line gives is one line more
step : (p : ℕ) (b : Beginning) (line : LineRead) (c : Beginning) → Fits b → with_line p b line ≡ Ok c → Stepped b line c
step p Blank line c fits e = step_blank p line c e
step p (Titled title) line c fits e = step_main p title line c fits e
step p (Within u stage) line c fits e = step_within u fits.0 p stage line c fits.1 e

-- The end

record IsWhole (b : Beginning) (s : PlanSource) : Type 0 where
  lines : source_lines s ≡ so_far b
  right : IsTrue (is_right_so_far s)

end_step : (p : ℕ) (u : OpenProcedure) (stage : Stage) (s : PlanSource) → FitsUnder u → FitsStage u stage → end_within p u stage ≡ Ok s → IsWhole (Within u stage) s
end_step p u (InCode exit blocks b) s under fits e =
    let whole : PlanSource = record { title = u.title; procedures = ended_with u exit blocks b } in
    let h = needing_ok (has_code b) (at_label p b) (Ok whole) s e in
    subst (λ (s : PlanSource). IsWhole (Within u (InCode exit blocks b)) s) (ok_same h.1) (record {
      lines = ap (λ (l : List Line). PlanLine u.title ∷ l) (ended_lines u under exit blocks b fits);
      right = and_from _ _ (and_from _ _ under.title (ap not (more_not_empty u.ended (procedure_of u exit blocks b)))) (each_procedure u under exit blocks b fits h.0);
    })
  where
    ok_same : {x y : PlanSource} → ◌≡◌ {A = Result PlanSource PlacedFault} (Ok x) (Ok y) → x ≡ y
    ok_same e = cc
end_step p u stage s under fits e = absurd (err_ok e)

end_of : (p : ℕ) (b : Beginning) (s : PlanSource) → Fits b → at_end p b ≡ Ok s → IsWhole b s
end_of p Blank s fits e = absurd (err_ok e)
end_of p (Titled title) s fits e = absurd (err_ok e)
end_of p (Within u stage) s fits e = end_step p u stage s fits.0 fits.1 e

-- All lines

record IsRead (b : Beginning) (lines : List LineRead) (s : PlanSource) : Type 0 where
  more : List Line
  reads : lines ≡ map Reads more
  all : source_lines s ≡ so_far b ++ more
  right : IsTrue (is_right_so_far s)

and_next_ok : {A B : Type 0} (r : Result A PlacedFault) (f : A → Result B PlacedFault) (b : B) → and_next r f ≡ Ok b → (a : A) × (r ≡ Ok a) × (f a ≡ Ok b)
and_next_ok (Ok a) f b e = (a, refl, e)
and_next_ok (Err x) f b e = absurd (err_ok e)

lines_read : (p : ℕ) (b : Beginning) (lines : List LineRead) (s : PlanSource) → Fits b → with_lines p b lines ≡ Ok s → IsRead b lines s
lines_read p b [] s fits e =
    let h = end_of p b s fits e in
    record { more = []; reads = refl; all = h.lines ∙ sym (append-nil (so_far b)); right = h.right }
lines_read p b (line ∷ lines) s fits e =
    let n = and_next_ok (with_line p b line) (λ next. with_lines (suc p) next lines) s e in
    let h = step p b line n.0 fits n.1 in
    let k = lines_read (suc p) n.0 lines s h.fits n.2 in
    record {
      more = h.it ∷ k.more;
      reads = λ i. h.reads i ∷ k.reads i;
      all = k.all ∙ ap (λ (l : List Line). l ++ k.more) h.lines ∙ append_assoc (so_far b) (h.it ∷ []) k.more;
      right = k.right;
    }

known_ok : (s t : PlanSource) (o : Option ℕ) → with_known_names s o ≡ Ok t → (IsTrue (is_none o)) × (s ≡ t)
known_ok s t None e = (refl, cc)
known_ok s t (Some place) e = absurd (err_ok e)

-- A source that lines are judged to be is right, and they are its lines.
pub judged_source : (lines : List LineRead) (s : PlanSource) → judgement lines ≡ Ok s → (IsTrue (is_right s)) × (lines ≡ map Reads (source_lines s))
judged_source lines s e =
    let n = and_next_ok (with_lines 0 Blank lines) (λ t. with_known_names t (first_true (unknown_names t))) s e in
    let h = lines_read 0 Blank lines n.0 tt n.1 in
    let k = known_ok n.0 s (first_true (unknown_names n.0)) n.2 in
    subst (λ (s : PlanSource). (IsTrue (is_right s)) × (lines ≡ map Reads (source_lines s))) k.1
    (and_from (is_right_so_far n.0) _ h.right k.0, h.reads ∙ ap (λ (l : List Line). map Reads l) (sym h.all))
