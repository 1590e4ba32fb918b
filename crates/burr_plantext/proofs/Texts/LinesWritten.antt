-- Lines as they are listed are read again.
use Rattle.std.proofs.Common.{◌≡◌, ℕ, ◌+◌, ◌-◌, ◌*◌, ◌/◌, ◌%◌, ◌^◌, ◌<◌, ◌≤◌, ◌==◌, ◌⊎◌, inl, inr, List, [], ◌∷◌, length, map, Bool, true, false, IsTrue, refl, sym, ap, subst, ◌∙◌, arith, ltb-true, le-leb, ltb-false, codes, ℤ, ◌&&◌, ◌||◌, nat_le, nat_lt, Option, Some, None, if◌then◌else◌, int_le}
use Rattle.std.specs.List.{list_all, join_with_byte}
use Rattle.std.specs.Fmt.{decimal, signed_decimal}
use Rattle.std.proofs.lemmas.Bool.{and_from, or_right, and_right, and_parts}
use Rattle.burr_text.specs.Names.{is_digit}
use Rattle.burr_code.specs.Instruction.{Instruction, IsInRange}
use Rattle.burr_code.specs.declared.placement.Placement.{Placement}
use Rattle.burr_forms.specs.Rules.Forms.{Form}
use Rattle.burr_container.specs.Rules.Plans.{FormCell, Range}
use Rattle.burr_plantext.specs.Rules.Operands.{alone, one, along, direction_of, two, three}
use Rattle.burr_plantext.specs.Rules.Statements.{is_hex_digit, hex_value}
use Rattle.burr_plantext.specs.Rules.Texts.{is_skipped}
use Rattle.burr_container.specs.Rules.Fitting.{is_name_text, is_place}
use Rattle.burr_plantext.specs.Rules.Listing.{procedure_name, label_name, set_word, form_word, ends_of, spot_of, grip_of, instruction_listed}
use Rattle.std.proofs.lemmas.List.{length-map}
use borrow.Author.Tests.{lt-leb}
use Rattle.burr_voxels.specs.declared.direction.Direction.{Direction}
use Rattle.burr_voxels.specs.declared.direction.Direction.TheVariants.{PlusX}
use Rattle.burr_voxels.specs.Grid.{name_of}
use Rattle.burr_code.specs.Instruction as code
use Rattle.burr_code.specs.declared.placement.Placement.TheVariants as places
use Rattle.burr_plantext.specs.Rules.Written.{is_form, is_number, is_set}
use Rattle.burr_plantext.specs.Rules.Statements as said
use Rattle.burr_plantext.specs.Rules.Lines.{Apart, Line, PlanLine, ProcLine, ExitLine, ResultLine, LabelLine, FrameLine, SlotLine, GuardLine, StackLine, CostLine, AtLine, CodeLine, at_line, head_line, code_line, or_else, line_of}
use Rattle.burr_plantext.specs.Rules.Writing.{line_words, hex_digit, hex_word}
use Rattle.burr_container.specs.Rules.Fitting as fitting
use Rattle.burr_plantext.proofs.Common.Numbers.{number_decimal, number_signed}
use Rattle.burr_plantext.proofs.Texts.Sets.{set_word_is}
use Rattle.burr_plantext.proofs.Common.Forms.{form_word_is, spelled_form}
use Rattle.burr_plantext.proofs.Texts.Frames.{end_small}
use Rattle.burr_plantext.proofs.Texts.CodeListed.{end_test}
use Rattle.burr_plantext.proofs.Texts.Formed.{is_visible, IsFormed}
use Rattle.burr_plantext.proofs.Texts.WordsWritten.{visible_decimal, visible_signed, visible_set, visible_form, visible_label, visible_name, label_name_is, procedure_name_is, given_is, one_is, two_are, three_are}
use Rattle.burr_plantext.proofs.Texts.Tests.{and_four, all_mapped}

-- a word that is visible and passes a test
pub record IsOfForm (is_so : List ℕ → Bool) (w : List ℕ) : Type 0 where
  pub visible : IsTrue (is_visible w)
  pub is : IsTrue (is_so w)

pub number_word : (n : ℕ) → n < 2 ^ 64 → IsOfForm is_number (decimal n)
number_word n small = record { visible = visible_decimal n small; is = number_decimal n small }

pub end_word : (z : ℤ) → IsTrue (fitting.is_number z) → IsOfForm is_number (signed_decimal z)
end_word z h = record { visible = visible_signed z (end_small z h); is = number_signed z (end_small z h) }

pub set_of_form : (set : ℕ) → IsOfForm is_set (set_word set)
set_of_form set = record { visible = visible_set set; is = set_word_is set }

pub form_of_form : (live : List Bool) (f : Form) → length live ≡ 8 → IsTrue (fitting.is_form live f) → IsOfForm is_form (form_word f)
form_of_form live f eight h = let k = spelled_form live f eight h in record { visible = visible_form f k; is = form_word_is f k }

pub label_of_form : (n : ℕ) → n < 10 ^ 8 → IsOfForm is_name_text (label_name n)
label_of_form n few = record { visible = visible_label n few; is = label_name_is n few }

small_label : (n : ℕ) → IsTrue (nat_lt n 256) → IsOfForm is_name_text (label_name n)
small_label n few = label_of_form n (let k = ltb-true n 256 few in omega arith)

pub callee_of_form : (n : ℕ) → n < 10 ^ 8 → IsOfForm is_name_text (procedure_name n)
callee_of_form n few = record { visible = visible_decimal n (omega arith); is = procedure_name_is n few }

-- A line of one, two or three such words is read again
module _ {A : Type 0} (line : Option A → Option Line) {l : Line} where
  formed_one : {p : List ℕ → Bool} (f : List ℕ → A) {u : List ℕ} → IsOfForm p u → line_of (line_words l) ≡ line (one p f (u ∷ [])) → line (Some (f u)) ≡ Some l
      → list_all is_visible (line_words l) ≡ list_all is_visible (u ∷ []) → is_skipped (join_with_byte 32 (line_words l)) ≡ false → IsFormed l
  formed_one {p = p} f {u = u} a reads same dark seen = record { reads = reads ∙ ap line (one_is p f u a.is) ∙ same; visible = dark ∙ and_from _ true a.visible refl; not_skipped = seen }

  formed_two : {p q : List ℕ → Bool} (f : List ℕ → List ℕ → A) {u v : List ℕ} → IsOfForm p u → IsOfForm q v → line_of (line_words l) ≡ line (two p q f (u ∷ v ∷ [])) → line (Some (f u v)) ≡ Some l
      → list_all is_visible (line_words l) ≡ list_all is_visible (u ∷ v ∷ []) → is_skipped (join_with_byte 32 (line_words l)) ≡ false → IsFormed l
  formed_two {p = p} {q = q} f {u = u} {v = v} a b reads same dark seen =
      record { reads = reads ∙ ap line (two_are p q f u v a.is b.is) ∙ same; visible = dark ∙ and_from _ _ a.visible (and_from _ true b.visible refl); not_skipped = seen }

  formed_three : {p q r : List ℕ → Bool} (f : List ℕ → List ℕ → List ℕ → A) {u v w : List ℕ} → IsOfForm p u → IsOfForm q v → IsOfForm r w → line_of (line_words l) ≡ line (three p q r f (u ∷ v ∷ w ∷ []))
      → line (Some (f u v w)) ≡ Some l → list_all is_visible (line_words l) ≡ list_all is_visible (u ∷ v ∷ w ∷ []) → is_skipped (join_with_byte 32 (line_words l)) ≡ false → IsFormed l
  formed_three {p = p} {q = q} {r = r} f {u = u} {v = v} {w = w} a b c reads same dark seen =
      record { reads = reads ∙ ap line (three_are p q r f u v w a.is b.is c.is) ∙ same; visible = dark ∙ and_from _ _ a.visible (and_from _ _ b.visible (and_from _ true c.visible refl)); not_skipped = seen }

-- the line itself, where no line of code begins with its word
abbrev alone_said : Option Line → Option Line
alone_said o = or_else o None

not_skipped : (b : ℕ) (w : List ℕ) (words : List (List ℕ)) → (b == 59) ≡ false → is_skipped (join_with_byte 32 ((b ∷ w) ∷ words)) ≡ false
not_skipped b w [] e = e
not_skipped b w (next ∷ words) e = e

-- Code

direction_back : (d : Direction) → direction_of (name_of d) ≡ Some d
direction_back PlusX = refl
direction_back _ = refl

direction_visible : (d : Direction) → IsTrue (is_visible (name_of d))
direction_visible PlusX = refl
direction_visible _ = refl

-- a digit of base 16
record IsHex (n b : ℕ) : Type 0 where
  is : IsTrue (is_hex_digit b)
  value : hex_value b ≡ n
  visible : 33 ≤ b

hex_by : (n : ℕ) (t : Bool) → nat_lt n 10 ≡ t → n < 16 → IsHex n (if t then 48 + n else 87 + n)
hex_by n true e few =
    let low = ltb-true n 10 e in
    let digit : IsTrue (is_digit (48 + n)) = and_from (nat_le 48 (48 + n)) (nat_le (48 + n) 57) (le-leb 48 (48 + n) (omega arith)) (le-leb (48 + n) 57 (omega arith)) in
    record {
      is = ap (λ (t : Bool). t || (nat_le 97 (48 + n) && nat_le (48 + n) 102)) digit;
      value = ap (λ (t : Bool). if t then (48 + n) - 48 else (48 + n) - 87) digit ∙ omega arith;
      visible = omega arith;
    }
hex_by n false e few =
    let high = ltb-false n 10 e in
    let no_digit : is_digit (87 + n) ≡ false = (λ i. nat_le 48 (87 + n) && lt-leb (87 + n) 57 (omega arith) i) ∙ and_right (nat_le 48 (87 + n)) false refl in
    record {
      is = or_right (is_digit (87 + n)) (nat_le 97 (87 + n) && nat_le (87 + n) 102) (and_from (nat_le 97 (87 + n)) (nat_le (87 + n) 102) (le-leb 97 (87 + n) (omega arith)) (le-leb (87 + n) 102 (omega arith)));
      value = ap (λ (t : Bool). if t then (87 + n) - 48 else (87 + n) - 87) no_digit ∙ omega arith;
      visible = omega arith;
    }

hex_is : (n : ℕ) → n < 16 → IsHex n (hex_digit n)
hex_is n few = hex_by n (nat_lt n 10) refl few

pub raw_formed : (b : ℕ) → b < 256 → IsFormed (CodeLine (said.Byte b))
raw_formed b small =
    let high = hex_is (b / 16) (omega arith) in
    let low = hex_is (b % 16) (omega arith) in
    let x = hex_digit (b / 16) in
    let y = hex_digit (b % 16) in
    let value : 16 * hex_value x + hex_value y ≡ b = (λ i. 16 * high.value i + low.value i) ∙ omega arith in
    record {
      reads = ap code_line (given_is (is_hex_digit x && is_hex_digit y) (said.Byte (16 * hex_value x + hex_value y)) (and_from (is_hex_digit x) (is_hex_digit y) high.is low.is)) ∙ ap (λ (n : ℕ). Some (CodeLine (said.Byte n))) value;
      visible = and_from (is_visible (hex_word b)) true (and_from (nat_le 33 x) (nat_le 33 y && true) (le-leb 33 x high.visible) (and_from (nat_le 33 y) true (le-leb 33 y low.visible) refl)) refl;
      not_skipped = refl;
    }

names_are : (ns : List ℕ) → IsTrue (list_all (λ n. nat_lt n 256) ns) → IsTrue (list_all is_name_text (map label_name ns)) × IsTrue (list_all is_visible (map label_name ns))
names_are ns h = (all_mapped (λ n. nat_lt n 256) is_name_text label_name (λ n k. (small_label n k).is) ns h, all_mapped (λ n. nat_lt n 256) is_visible label_name (λ n k. (small_label n k).visible) ns h)

-- all labels and procedures that it names have small numbers
abbrev pub names_few : Instruction → Bool
names_few (code.Jump label) = nat_lt label 256
names_few (code.Down slot label) = nat_lt label 256
names_few (code.Pick labels) = list_all (λ label. nat_lt label 256) labels
names_few i = true

pub instruction_formed : (i : Instruction) → IsInRange i → IsTrue (names_few i) → IsFormed (CodeLine (instruction_listed i))
instruction_formed (code.Push n) h k = formed_one code_line said.Push (end_word n (end_test n h)) refl refl refl refl
instruction_formed (code.Load slot) h k = formed_one code_line said.Load (number_word slot (omega arith)) refl refl refl refl
instruction_formed (code.Store slot) h k = formed_one code_line said.Store (number_word slot (omega arith)) refl refl refl refl
instruction_formed (code.Grip set) h k = formed_one code_line said.Grip (set_of_form set) refl refl refl refl
instruction_formed (code.Step d) h k = record {
  reads = ap (λ (o : Option Direction). code_line (along o (λ d. alone (said.Step d)) [])) (direction_back d);
  visible = and_from (is_visible (name_of d)) true (direction_visible d) refl;
  not_skipped = refl;
}
instruction_formed (code.Aside d tray) h k =
    let w = number_word tray (omega arith) in
    record {
      reads = ap (λ (o : Option Direction). code_line (along o (λ d. one is_number (said.Aside d)) (decimal tray ∷ []))) (direction_back d) ∙ ap code_line (one_is is_number (said.Aside d) (decimal tray) w.is);
      visible = and_from (is_visible (name_of d)) _ (direction_visible d) (and_from (is_visible (decimal tray)) true w.visible refl);
      not_skipped = refl;
    }
instruction_formed (code.Tray tray) h k = formed_one code_line said.Tray (number_word tray (omega arith)) refl refl refl refl
instruction_formed (code.Jump label) h k = formed_one code_line said.Jump (small_label label k) refl refl refl refl
instruction_formed (code.Down slot label) h k = formed_two code_line said.Down (number_word slot (omega (arith, h.0))) (small_label label k) refl refl refl refl
instruction_formed (code.Ask low high) h k = formed_two code_line said.Ask (end_word low (end_test low h.0)) (end_word high (end_test high h.1)) refl refl refl refl
instruction_formed (code.Pick labels) h k =
    let ws = map label_name labels in
    let are = names_are labels k in
    let size = length-map labels label_name in
    record {
      reads = ap code_line (given_is (nat_le 2 (length ws) && nat_le (length ws) 8 && list_all is_name_text ws) (said.Pick ws)
          (and_from (nat_le 2 (length ws) && nat_le (length ws) 8) (list_all is_name_text ws) (and_from (nat_le 2 (length ws)) (nat_le (length ws) 8) (le-leb 2 (length ws) (omega (arith, h.0, size))) (le-leb (length ws) 8 (omega (arith, h.1, size)))) are.0));
      visible = are.1;
      not_skipped = not_skipped 112 (codes "ick") ws refl;
    }
instruction_formed (code.Call callee) h k = formed_one code_line said.Call (callee_of_form callee (omega arith)) refl refl refl refl
instruction_formed _ h k = record { reads = refl; visible = refl; not_skipped = refl }

-- Lines with numbers, sets and forms

pub ends_formed : (r : Range) → IsTrue (fitting.is_range (Some r)) → IsFormed (ResultLine (ends_of r))
ends_formed r h =
    let ends = and_parts (fitting.is_number r.0) (fitting.is_number r.1) (and_parts (fitting.is_number r.0 && fitting.is_number r.1) (int_le r.0 r.1) h).0 in
    formed_two alone_said (λ low high. ResultLine (record { low = low; high = high })) (end_word r.0 ends.0) (end_word r.1 ends.1) refl refl refl refl

pub slot_formed : (k : ℕ) (r : Range) → k < 8 → IsTrue (fitting.is_range (Some r)) → IsFormed (SlotLine (record { slot = decimal k; ends = ends_of r }))
slot_formed k r few h =
    let ends = and_parts (fitting.is_number r.0) (fitting.is_number r.1) (and_parts (fitting.is_number r.0 && fitting.is_number r.1) (int_le r.0 r.1) h).0 in
    formed_three alone_said (λ slot low high. SlotLine (record { slot = slot; ends = record { low = low; high = high } })) (number_word k (omega arith)) (end_word r.0 ends.0) (end_word r.1 ends.1) refl refl refl refl

pub frame_formed : (tray set : ℕ) → tray < 32 → IsFormed (FrameLine (grip_of tray set))
frame_formed tray set few = formed_two alone_said (λ tray set. FrameLine (record { tray = tray; set = set })) (number_word tray (omega arith)) (set_of_form set) refl refl refl refl

pub exit_formed : (tray set : ℕ) → tray < 32 → IsFormed (ExitLine (grip_of tray set))
exit_formed tray set few = formed_two alone_said (λ tray set. ExitLine (record { tray = tray; set = set })) (number_word tray (omega arith)) (set_of_form set) refl refl refl refl

pub guard_formed : (w : List ℕ) → IsOfForm is_form w → IsFormed (GuardLine w)
guard_formed w h = formed_one alone_said GuardLine h refl refl refl refl

pub stack_formed : (w : List ℕ) → IsOfForm is_form w → IsFormed (StackLine w)
stack_formed w h = formed_one alone_said StackLine h refl refl refl refl

pub cost_formed : (w : List ℕ) → IsOfForm is_form w → IsFormed (CostLine w)
cost_formed w h = formed_one alone_said CostLine h refl refl refl refl

pub label_formed : (n : ℕ) → n < 10 ^ 8 → IsFormed (LabelLine (label_name n))
label_formed n few = formed_one alone_said LabelLine (label_of_form n few) refl refl refl refl

pub piece_formed : (live : List Bool) (k : ℕ) (place : Placement FormCell) → length live ≡ 8 → k < 2 ^ 64 → IsTrue (is_place live place) → IsFormed (AtLine (record { piece = decimal k; spot = spot_of place }))
piece_formed live k places.Apart eight few h =
    let v = number_word k few in
    record {
      reads = ap alone_said (given_is (is_number (decimal k) && true) (at_line (decimal k) Apart) (and_from (is_number (decimal k)) true v.is refl));
      visible = and_from (is_visible (decimal k)) true v.visible refl;
      not_skipped = refl;
    }
piece_formed live k (places.On tray at) eight few h =
    let four = and_four h in
    let u = number_word k few in
    let v = number_word tray (let t = ltb-true tray 32 four.0 in omega arith) in
    let x = form_of_form live at.x eight four.1 in
    let y = form_of_form live at.y eight four.2 in
    let z = form_of_form live at.z eight four.3 in
    record {
      reads = ap alone_said
          (given_is (is_number (decimal k) && is_number (decimal tray) && is_form (form_word at.x) && is_form (form_word at.y) && is_form (form_word at.z)) (at_line (decimal k) (spot_of (places.On tray at)))
          (and_from _ _ (and_from _ _ (and_from _ _ (and_from _ _ u.is v.is) x.is) y.is) z.is));
      visible = and_from _ _ u.visible (and_from _ _ v.visible (and_from _ _ x.visible (and_from _ _ y.visible (and_from _ true z.visible refl))));
      not_skipped = refl;
    }

-- The plan's line, and a procedure's

pub title_formed : (version : ℕ) (name : List ℕ) (pieces budget : ℕ) → (version ≡ 1) ⊎ (version ≡ 2) → IsTrue (is_name_text name) → pieces < 2 ^ 64 → budget < 2 ^ 64
    → IsFormed (PlanLine (record { version = version; name = name; pieces = decimal pieces; budget = decimal budget }))
title_formed version name pieces budget versions is small few = by version versions
  where
    title : IsOfForm is_name_text name
    title = record { visible = visible_name name is; is = is }

    by : (v : ℕ) → (v ≡ 1) ⊎ (v ≡ 2) → IsFormed (PlanLine (record { version = v; name = name; pieces = decimal pieces; budget = decimal budget }))
    by v (inl e) = subst (λ (v : ℕ). IsFormed (PlanLine (record { version = v; name = name; pieces = decimal pieces; budget = decimal budget }))) (sym e)
        (formed_three alone_said (λ n p b. PlanLine (record { version = 1; name = n; pieces = p; budget = b })) title (number_word pieces small) (number_word budget few) refl refl refl refl)
    by v (inr e) = subst (λ (v : ℕ). IsFormed (PlanLine (record { version = v; name = name; pieces = decimal pieces; budget = decimal budget }))) (sym e)
        (formed_three alone_said (λ n p b. PlanLine (record { version = 2; name = n; pieces = p; budget = b })) title (number_word pieces small) (number_word budget few) refl refl refl refl)

pub head_formed : (two : Bool) (n parameters results : ℕ) → n < 10 ^ 8 → parameters < 2 ^ 64 → results < 2 ^ 64
    → IsFormed (ProcLine (record { name = procedure_name n; parameters = decimal parameters; results = if two then Some (decimal results) else None }))
head_formed true n parameters results few small also =
    let u = callee_of_form n few in
    let v = number_word parameters small in
    let w = number_word results also in
    record {
      reads = ap alone_said (given_is (is_name_text (procedure_name n) && is_number (decimal parameters) && is_number (decimal results)) (head_line (procedure_name n) (decimal parameters) (Some (decimal results))) (and_from _ _ (and_from _ _ u.is v.is) w.is));
      visible = and_from _ _ u.visible (and_from _ _ v.visible (and_from _ true w.visible refl));
      not_skipped = refl;
    }
head_formed false n parameters results few small also =
    let u = callee_of_form n few in
    let v = number_word parameters small in
    record {
      reads = ap alone_said (given_is (is_name_text (procedure_name n) && is_number (decimal parameters)) (head_line (procedure_name n) (decimal parameters) None) (and_from _ _ u.is v.is));
      visible = and_from _ _ u.visible (and_from _ true v.visible refl);
      not_skipped = refl;
    }
