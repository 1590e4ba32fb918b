-- The listing of a plan that fits is read as the source that it lists.
use Rattle.std.proofs.Common.{◌≡◌, ℕ, suc, ◌+◌, ◌-◌, ◌^◌, ◌<◌, ◌≤◌, ◌==◌, inl, inr, List, [], ◌∷◌, ◌++◌, length, map, flat_map, take, drop, Bool, true, false, IsTrue, refl, sym, ap, subst, ◌∙◌, arith, lt-ltb, ltb-true, leb-true, eqb-true, ◌&&◌, nat_le, nat_lt, Option, Some, None, if◌then◌else◌, is_some, take-append-drop}
use Rattle.std.specs.List.{list_all}
use Rattle.std.proofs.lemmas.Bool.{and_parts}
use Rattle.std.proofs.lemmas.List.{length-map}
use Rattle.burr_code.specs.Instruction.{Instruction, spelled}
use Rattle.burr_code.specs.declared.placement.Placement.{Placement}
use Rattle.burr_code.specs.declared.limits.TheConstants.{SLOTS, MOST_OPERANDS, MOST_GUARDS, MOST_LABELS, MOST_CODE, MOST_BUDGET}
use Rattle.burr_forms.specs.Rules.Forms.{Form}
use Rattle.burr_container.specs.Rules.Plans.{FormCell, Range, Frame, ExitFrame, PlanProcedure, Plan, live_slots, exit_symbols}
use Rattle.burr_plantext.specs.Rules.Statements.{Statement}
use Rattle.burr_plantext.specs.Rules.Lines.{ProcedureWords, Line, PlanLine, ProcLine, ResultLine, LabelLine, SlotLine, GuardLine, StackLine, CostLine, AtLine, CodeLine}
use Rattle.burr_plantext.specs.Rules.Sources.{ExitSource, FrameSource, Block, ProcedureSource, PlanSource, some_exit_lines, condition_lines, frame_lines, block_lines, procedure_lines, source_lines}
use Rattle.burr_container.specs.Rules.Fitting.{is_tray, is_set_of, is_place, are_places, are_forms, are_labels, are_procedures, is_fitting, rise_from, are_ranges}
use Rattle.burr_plantext.specs.Rules.Listing.{form_word, ends_of, slots_of, spots_of, frame_listed, exit_listed, has_names, IsCodeListed, code_after, AreBlocksListed, IsProcedureListed, AreProceduresListed, IsListed}
use Rattle.burr_plantext.specs.Rules.Texts.{lines_read, Reads}
use Rattle.burr_plantext.specs.Rules.Writing.{text_of}
use Rattle.burr_code.specs.Instruction as code
use Rattle.burr_plantext.specs.Rules.Written.{is_form}
use Rattle.burr_container.specs.Rules.Fitting as fitting
use Rattle.burr_plantext.proofs.Texts.Exits.{Counts, counts, eight_symbols}
use Rattle.burr_plantext.proofs.Texts.Formed.{IsFormed, AllFormed, formed_both, text_read}
use Rattle.burr_plantext.proofs.Texts.LinesWritten.{IsOfForm, form_of_form, names_few, raw_formed, instruction_formed, ends_formed, slot_formed, frame_formed, exit_formed, guard_formed, stack_formed, cost_formed, label_formed, piece_formed, title_formed, head_formed}
use Rattle.burr_plantext.proofs.Texts.Tests.{and_five, and_four, and_three, all_parts, all_weaker, either_version}
use Rattle.burr_plantext.proofs.Texts.Frames.{fits_of}

-- Parts of frames

forms_formed : (live : List Bool) (line : List ℕ → Line) → length live ≡ 8 → ((w : List ℕ) → IsOfForm is_form w → IsFormed (line w))
    → (forms : List Form) → IsTrue (list_all (fitting.is_form live) forms) → AllFormed (map line (map form_word forms))
forms_formed live line eight each [] h = tt
forms_formed live line eight each (f ∷ forms) h =
    let parts = and_parts (fitting.is_form live f) (list_all (fitting.is_form live) forms) h in
    (each (form_word f) (form_of_form live f eight parts.0), forms_formed live line eight each forms parts.1)

pieces_formed : (live : List Bool) → length live ≡ 8 → (k : ℕ) (all : List (Placement FormCell)) → k + length all < 2 ^ 64 → IsTrue (list_all (is_place live) all) → AllFormed (map AtLine (spots_of k all))
pieces_formed live eight k [] few h = tt
pieces_formed live eight k (place ∷ all) few h =
    let parts = and_parts (is_place live place) (list_all (is_place live) all) h in
    (piece_formed live k place eight (omega arith) parts.0, pieces_formed live eight (suc k) all (omega arith) parts.1)

ranges_formed : (all : List Range) → IsTrue (list_all (λ (r : Range). fitting.is_range (Some r)) all) → AllFormed (map ResultLine (map ends_of all))
ranges_formed [] h = tt
ranges_formed (r ∷ all) h = let parts = and_parts (fitting.is_range (Some r)) (list_all (λ (r : Range). fitting.is_range (Some r)) all) h in (ends_formed r parts.0, ranges_formed all parts.1)

slots_formed : (k : ℕ) (slots : List (Option Range)) → k + length slots ≤ 8 → IsTrue (list_all fitting.is_range slots) → AllFormed (map SlotLine (slots_of k slots))
slots_formed k [] few h = tt
slots_formed k (None ∷ slots) few h = slots_formed (suc k) slots (omega arith) (and_parts true (list_all fitting.is_range slots) h).1
slots_formed k (Some r ∷ slots) few h =
    let parts = and_parts (fitting.is_range (Some r)) (list_all fitting.is_range slots) h in
    (slot_formed k r (omega arith) parts.0, slots_formed (suc k) slots (omega arith) parts.1)

frame_lines_formed : (pieces : ℕ) (f : Frame) → pieces ≤ 32 → IsTrue (fitting.is_frame pieces f) → AllFormed (frame_lines (frame_listed f))
frame_lines_formed pieces f few h =
    let live = live_slots f.slots in
    let fit = fits_of pieces f h in
    let slots = and_parts (length f.slots == SLOTS) (list_all fitting.is_range f.slots) fit.slots in
    let count : length f.slots ≡ 8 = eqb-true (length f.slots) 8 slots.0 in
    let eight : length live ≡ 8 = length-map f.slots is_some ∙ count in
    let places = and_parts (length f.places == pieces) (list_all (is_place live) f.places) fit.places in
    let size : length f.places ≡ pieces = eqb-true (length f.places) pieces places.0 in
    let listed = frame_listed f in
    formed_both (condition_lines listed.conditions) (CostLine listed.cost ∷ map AtLine listed.pieces) (
      frame_formed f.tray f.grip (ltb-true f.tray 32 fit.tray),
      formed_both (map SlotLine (slots_of 0 f.slots)) (map GuardLine (map form_word f.guards) ++ map StackLine (map form_word f.stack)) (slots_formed 0 f.slots (omega arith) slots.1)
          (formed_both (map GuardLine (map form_word f.guards)) (map StackLine (map form_word f.stack))
          (forms_formed live GuardLine eight guard_formed f.guards (and_parts (nat_le (length f.guards) MOST_GUARDS) (list_all (fitting.is_form live) f.guards) fit.guards).1)
          (forms_formed live StackLine eight stack_formed f.stack (and_parts (nat_le (length f.stack) MOST_OPERANDS) (list_all (fitting.is_form live) f.stack) fit.stack).1)),
    )
    (cost_formed (form_word f.cost) (form_of_form live f.cost eight fit.cost), pieces_formed live eight 0 f.places (omega arith) places.1)

exit_lines_formed : (version pieces : ℕ) (main : Bool) (p : PlanProcedure) → pieces ≤ 32 → Counts version p → IsTrue (fitting.is_exit version main pieces p.parameters p.results p.exit) → AllFormed (some_exit_lines (exit_listed p.exit))
exit_lines_formed version pieces main p few c h = by main p.exit h
  where
    eight : length (exit_symbols p.parameters p.results) ≡ 8
    eight = eight_symbols p.parameters p.results (let k = c.parameters in let l = c.results in omega arith)

    by : (main : Bool) (exit : Option ExitFrame) → IsTrue (fitting.is_exit version main pieces p.parameters p.results exit) → AllFormed (some_exit_lines (exit_listed exit))
    by main None h = tt
    by true (Some f) h = grind arith
    by false (Some f) h =
        let live = exit_symbols p.parameters p.results in
        let guards = are_forms (if version == 2 then MOST_GUARDS else 0) live f.guards in
        let rest = are_ranges p.results f.results && guards && are_places pieces live f.places in
        let z = and_parts (is_tray f.tray && is_set_of pieces f.grip) rest h in
        let tests = and_four z.1 in
        let a = and_parts (is_tray f.tray) (is_set_of pieces f.grip) z.0 in
        let places = and_parts (length f.places == pieces) (list_all (is_place live) f.places) tests.3 in
        let count : length f.places ≡ pieces = eqb-true (length f.places) pieces places.0 in (
          exit_formed f.tray f.grip (ltb-true f.tray 32 a.0),
          formed_both (map ResultLine (map ends_of f.results)) (map GuardLine (map form_word f.guards) ++ map AtLine (spots_of 0 f.places)) (ranges_formed f.results tests.1)
              (formed_both (map GuardLine (map form_word f.guards)) (map AtLine (spots_of 0 f.places))
              (forms_formed live GuardLine eight guard_formed f.guards (and_parts (nat_le (length f.guards) (if version == 2 then MOST_GUARDS else 0)) (list_all (fitting.is_form live) f.guards) tests.2).1)
              (pieces_formed live eight 0 f.places (omega arith) places.1)),
        )

-- Code

abbrev AreBytes : List ℕ → Type 0
AreBytes bytes = IsTrue (list_all (λ b. nat_lt b 256) bytes)

bytes_parts : (n : ℕ) (bytes : List ℕ) → AreBytes bytes → AreBytes (take n bytes) × AreBytes (drop n bytes)
bytes_parts n bytes h = all_parts (λ b. nat_lt b 256) (take n bytes) (drop n bytes) (ap (λ (s : List ℕ). list_all (λ b. nat_lt b 256) s) (take-append-drop n bytes) ∙ h)

bytes_of_label : (code : List ℕ) (start : ℕ) (labels : List (ℕ × Frame)) → AreBytes code → AreBytes (code_after code start labels)
bytes_of_label code start [] h = (bytes_parts start code h).1
bytes_of_label code start (next ∷ labels) h = (bytes_parts (next.0 - start) (drop start code) (bytes_parts start code h).1).0

below_few : (n m : ℕ) → m ≤ 256 → IsTrue (nat_lt n m) → IsTrue (nat_lt n 256)
below_few n m few h = let low = ltb-true n m h in lt-ltb n 256 (omega (arith, low, few))

few_names : (labels procedures : ℕ) (i : Instruction) → labels ≤ 256 → IsTrue (has_names labels procedures i) → IsTrue (names_few i)
few_names labels procedures (code.Jump label) few h = below_few label labels few h
few_names labels procedures (code.Down slot label) few h = below_few label labels few h
few_names labels procedures (code.Pick offered) few h = all_weaker (λ n. nat_lt n labels) (λ n. nat_lt n 256) (λ n. below_few n labels few) offered h
few_names labels procedures _ few h = refl

module _ (labels procedures : ℕ) (few : labels ≤ 256) where
  code_formed : (code : List Statement) (bytes : List ℕ) → AreBytes bytes → IsCodeListed labels procedures bytes code → AllFormed (map CodeLine code)
  code_formed [] bytes are h = tt
  code_formed (s ∷ code) bytes are (rest, inl (i, may, e, same), more) = (
    subst (λ (s : Statement). IsFormed (CodeLine s)) (sym same) (instruction_formed i may.in_range (few_names labels procedures i few may.names)),
    code_formed code rest ((all_parts (λ b. nat_lt b 256) (spelled i) rest (subst AreBytes e are)).1) more,
  )
  code_formed (s ∷ code) bytes are (rest, inr (none, b, e, same), more) =
      let parts = and_parts (nat_lt b 256) (list_all (λ b. nat_lt b 256) rest) (subst AreBytes e are) in
      (subst (λ (s : Statement). IsFormed (CodeLine s)) (sym same) (raw_formed b (ltb-true b 256 parts.0)), code_formed code rest parts.1 more)

  blocks_formed : (pieces : ℕ) (code : List ℕ) (n : ℕ) (all : List (ℕ × Frame)) (blocks : List Block) → pieces ≤ 32 → AreBytes code → n + length all ≤ 256
      → IsTrue (list_all (λ (l : ℕ × Frame). fitting.is_frame pieces l.1) all) → AreBlocksListed labels procedures code n all blocks → AllFormed (flat_map block_lines blocks)
  blocks_formed pieces code n [] [] small are room fits listed = tt
  blocks_formed pieces code n (l ∷ all) (b ∷ blocks) small are room fits listed =
      let parts = and_parts (fitting.is_frame pieces l.1) (list_all (λ (l : ℕ × Frame). fitting.is_frame pieces l.1) all) fits in
      let label : IsFormed (LabelLine b.label) = subst (λ (w : List ℕ). IsFormed (LabelLine w)) (sym listed.0) (label_formed n (omega arith)) in
      let frame : AllFormed (frame_lines b.frame) = subst (λ (f : FrameSource). AllFormed (frame_lines f)) (sym listed.1) (frame_lines_formed pieces l.1 small parts.0) in
      formed_both (block_lines b) (flat_map block_lines blocks)
      (label, formed_both (frame_lines b.frame) (map CodeLine b.code) frame (code_formed b.code (code_after code l.0 all) (bytes_of_label code l.0 all are) listed.2))
      (blocks_formed pieces code (suc n) all blocks small are (omega arith) parts.1 listed.3)
  blocks_formed pieces code n _ _ small are room fits listed = absurd listed

-- Procedures

label_count : (pieces end : ℕ) (labels : List (ℕ × Frame)) → IsTrue (are_labels pieces end labels) → (length labels ≤ 256) × IsTrue (list_all (λ (l : ℕ × Frame). fitting.is_frame pieces l.1) labels)
label_count pieces end [] h = (omega arith, refl)
label_count pieces end (first ∷ more) h =
    let frames = list_all (λ (l : ℕ × Frame). fitting.is_frame pieces l.1) (first ∷ more) in
    let c = and_parts ((first.0 == 0) && rise_from 0 end (first ∷ more) && nat_le (length (first ∷ more)) MOST_LABELS) frames h in
    (leb-true (length (first ∷ more)) 256 (and_parts ((first.0 == 0) && rise_from 0 end (first ∷ more)) (nat_le (length (first ∷ more)) MOST_LABELS) c.0).1, c.1)

procedure_formed : (version pieces : ℕ) (main : Bool) (all n : ℕ) (p : PlanProcedure) (s : ProcedureSource) → pieces ≤ 32 → n < 10 ^ 8
    → IsTrue (fitting.is_procedure version pieces main p) → IsProcedureListed version all n p s → AllFormed (procedure_lines s)
procedure_formed version pieces main all n p s few room fits listed =
    let tests = and_four fits in
    let bytes = (and_parts (nat_le (length p.code) MOST_CODE) (list_all (λ b. nat_lt b 256) p.code) tests.3).1 in
    let c = counts version main p tests.0 in
    let labels = label_count pieces (length p.code) p.labels tests.2 in
    let head : IsFormed (ProcLine s.head) = subst (λ (h : ProcedureWords). IsFormed (ProcLine h)) (sym listed.head) (head_formed (version == 2) n p.parameters p.results room (let k = c.parameters in omega arith) (let k = c.results in omega arith)) in
    let exit : AllFormed (some_exit_lines s.exit) = subst (λ (e : Option ExitSource). AllFormed (some_exit_lines e)) (sym listed.exit) (exit_lines_formed version pieces main p few c tests.1) in
    (head, formed_both (some_exit_lines s.exit) (flat_map block_lines s.blocks) exit (blocks_formed (length p.labels) all labels.0 pieces p.code 0 p.labels s.blocks few bytes (let k = labels.0 in omega arith) labels.1 listed.blocks))

procedures_formed : (version pieces all n : ℕ) (ps : List PlanProcedure) (sources : List ProcedureSource) → pieces ≤ 32 → n + length ps < 10 ^ 8
    → IsTrue (list_all (fitting.is_procedure version pieces false) ps) → AreProceduresListed version all n ps sources → AllFormed (flat_map procedure_lines sources)
procedures_formed version pieces all n [] [] few room fits listed = tt
procedures_formed version pieces all n (p ∷ ps) (s ∷ sources) few room fits listed =
    let parts = and_parts (fitting.is_procedure version pieces false p) (list_all (fitting.is_procedure version pieces false) ps) fits in
    formed_both (procedure_lines s) (flat_map procedure_lines sources) (procedure_formed version pieces false all n p s few (omega arith) parts.0 listed.0)
    (procedures_formed version pieces all (suc n) ps sources few (omega arith) parts.1 listed.1)
procedures_formed version pieces all n _ _ few room fits listed = absurd listed

all_procedures_formed : (version pieces all : ℕ) (ps : List PlanProcedure) (sources : List ProcedureSource) → pieces ≤ 32
    → IsTrue (are_procedures version pieces ps) → AreProceduresListed version all 0 ps sources → AllFormed (flat_map procedure_lines sources)
all_procedures_formed version pieces all [] sources few fits listed = grind arith
all_procedures_formed version pieces all (p ∷ ps) [] few fits listed = absurd listed
all_procedures_formed version pieces all (p ∷ ps) (s ∷ sources) few fits listed =
    let tests = and_three fits in
    let count = leb-true (length (p ∷ ps)) 16 tests.2 in
    formed_both (procedure_lines s) (flat_map procedure_lines sources) (procedure_formed version pieces true all 0 p s few (omega arith) tests.0 listed.0)
    (procedures_formed version pieces all 1 ps sources few (omega arith) tests.1 listed.1)

source_formed : (plan : Plan) (s : PlanSource) → IsTrue (is_fitting plan) → IsListed plan s → AllFormed (source_lines s)
source_formed plan s fits listed =
    let tests = and_five fits in
    let budget = leb-true plan.budget 1000000 (and_parts (nat_le 1 plan.budget) (nat_le plan.budget MOST_BUDGET) tests.1).1 in
    let few = leb-true plan.pieces 32 (and_parts (nat_le 2 plan.pieces) (nat_le plan.pieces 32) tests.2).1 in
    let title : IsFormed (PlanLine s.title) = subst (λ (t : _). IsFormed (PlanLine t)) (sym listed.title) (title_formed plan.version plan.name plan.pieces plan.budget (either_version plan.version tests.0) tests.3 (omega arith) (omega arith)) in
    (title, all_procedures_formed plan.version plan.pieces (length plan.procedures) plan.procedures s.procedures few tests.4 listed.procedures)

-- The text of a plan as it is listed is read as its lines.
pub listing_read : (plan : Plan) (s : PlanSource) → IsTrue (is_fitting plan) → IsListed plan s → lines_read (text_of (source_lines s)) ≡ map Reads (source_lines s)
listing_read plan s fits listed = text_read (source_lines s) (source_formed plan s fits listed)
