-- What is wrong with a part of a plan as it is written, given the parts that stand before it.
use Rattle.std.specs.Prelude.{ℕ, ◌+◌, List, [], ◌∷◌, ◌++◌, length, Option, Some, None, Bool, true, false, not, ◌&&◌, ◌||◌, ◌==◌, nat_le, nat_lt, if◌then◌else◌}
use Rattle.std.specs.List.{list_all}
use Rattle.std.specs.Str.{bytes_eq}
use Rattle.burr_code.specs.declared.limits.TheConstants.{TRAYS, SLOTS, MOST_OPERANDS, MOST_CODE, MOST_LABELS, MOST_PROCEDURES, MOST_BUDGET, MOST_PARAMETERS, MOST_GUARDS}
use Rattle.burr_container.specs.Rules.Plans.{live_slots, exit_symbols}
use Rattle.burr_plantext.specs.Rules.Written.{natural_in, is_within, is_below, is_operand, are_ends, set_numbers, are_members, is_form_over}
use Rattle.burr_plantext.specs.Rules.Statements.{Statement, Push, Load, Store, Grip, Aside, Tray, Jump, Down, Ask, Pick, Call}
use Rattle.burr_plantext.specs.Rules.Lines.{PlanWords, ProcedureWords, GripWords, RangeWords, SlotWords, PlaceWords, Apart, On, PieceWords}
use Rattle.burr_plantext.specs.Rules.Sources.{ExitSource, Conditions, Block, ProcedureSource}
use Rattle.burr_plantext.specs.Rules.Meaning.{code_size, slots_in, label_names, procedure_names, result_count, block_code}

-- The refusals of a line: it is of no form, or may not stand there; a name is taken, or nothing has
-- it; a number, a set or a form is out of its range; there are too many, or a label may not stand
-- there; a part of a procedure is missing.
pub data FaultKind : Type 0 where
  P1 : FaultKind
  P2 : FaultKind
  P3 : FaultKind
  P4 : FaultKind
  P5 : FaultKind

-- where the test does not hold, this refusal; else what follows
abbrev pub unless : Bool → FaultKind → Option FaultKind → Option FaultKind
unless true kind more = more
unless false kind more = Some kind

-- the list has no element
abbrev pub is_empty : {A : Type 0} → List A → Bool
is_empty [] = true
is_empty (x ∷ xs) = false

-- one of the names is this one
abbrev pub is_known : List (List ℕ) → List ℕ → Bool
is_known [] name = false
is_known (first ∷ names) name = bytes_eq first name || is_known names name

-- The plan's line, and a procedure's

-- the number of pieces and the budget are in their ranges
abbrev pub title_check : PlanWords → Option FaultKind
title_check t = unless (is_within 2 32 t.pieces && is_within 1 MOST_BUDGET t.budget) P3 None

-- only in version 2 the number of results is given
abbrev pub is_of_version : ℕ → Option (List ℕ) → Bool
is_of_version version None = version == 1
is_of_version version (Some results) = version == 2

-- the number of results is at most this, if it is given
abbrev pub is_result_count : ℕ → Option (List ℕ) → Bool
is_result_count most None = true
is_result_count most (Some results) = is_within 0 most results

-- main, which is first, has neither parameters nor results
abbrev pub head_check : List ProcedureSource → ProcedureWords → Option FaultKind
head_check before h =
    let main = is_empty before in
    unless (not (is_known (procedure_names before) h.name)) P2
    (unless (is_within 0 (if main then 0 else MOST_PARAMETERS) h.parameters
    && is_result_count (if main then 0 else 2) h.results) P3
    (unless (nat_lt (length before) MOST_PROCEDURES) P4 None))

-- Frames

-- a tray, and a set of some of the pieces
abbrev pub grip_check : ℕ → GripWords → Option FaultKind
grip_check pieces g =
    unless (is_below TRAYS g.tray && are_members 0 pieces (set_numbers g.set)) P3 None

-- a tray and forms over live slots are in their ranges
abbrev pub is_spot : List Bool → PlaceWords → Bool
is_spot live Apart = true
is_spot live (On tray x y z) =
    is_below TRAYS tray && is_form_over live x && is_form_over live y && is_form_over live z

-- a piece after others: it has the next number
abbrev pub piece_check : List Bool → List PieceWords → PieceWords → Option FaultKind
piece_check live before p =
    unless (is_within (length before) (length before) p.piece) P1
    (unless (is_spot live p.spot) P3 None)

-- the live slots rise
abbrev pub slot_check : Conditions → SlotWords → Option FaultKind
slot_check c s =
    unless (is_empty c.guards && is_empty c.stack) P1
    (unless (is_below SLOTS s.slot && are_ends s.ends.low s.ends.high
    && list_all (λ (t : SlotWords). nat_lt (natural_in t.slot) (natural_in s.slot)) c.slots) P3
    None)

-- the live slots, as far as they have been given
abbrev pub live_in : Conditions → List Bool
live_in c = live_slots (slots_in c.slots)

-- a guard after others, before all operands
abbrev pub guard_check : Conditions → List ℕ → Option FaultKind
guard_check c form =
    unless (is_empty c.stack) P1
    (unless (is_form_over (live_in c) form) P3
    (unless (nat_lt (length c.guards) MOST_GUARDS) P4 None))

-- an operand after others
abbrev pub stack_check : Conditions → List ℕ → Option FaultKind
stack_check c form =
    unless (is_form_over (live_in c) form) P3
    (unless (nat_lt (length c.stack) MOST_OPERANDS) P4 None)

-- the cost is a form over the live slots
abbrev pub cost_check : Conditions → List ℕ → Option FaultKind
cost_check c form = unless (is_form_over (live_in c) form) P3 None

-- Exit frames

-- the symbols of a procedure's exit frame: its parameters, then its results
abbrev pub exit_live : ProcedureWords → List Bool
exit_live h = exit_symbols (natural_in h.parameters) (result_count h.results)

-- the range of one more result, before all guards and pieces
abbrev pub result_check : ProcedureWords → ExitSource → RangeWords → Option FaultKind
result_check h e ends =
    unless (is_empty e.guards && is_empty e.pieces
    && nat_lt (length e.results) (result_count h.results)) P1
    (unless (are_ends ends.low ends.high) P3 None)

-- a guard after all results, before all pieces; only in version 2
abbrev pub exit_guard_check : ℕ → ProcedureWords → ExitSource → List ℕ → Option FaultKind
exit_guard_check version h e form =
    unless ((version == 2) && is_empty e.pieces && (length e.results == result_count h.results)) P1
    (unless (is_form_over (exit_live h) form) P3
    (unless (nat_lt (length e.guards) MOST_GUARDS) P4 None))

-- a piece after all results
abbrev pub exit_piece_check : ProcedureWords → ExitSource → PieceWords → Option FaultKind
exit_piece_check h e p =
    unless (length e.results == result_count h.results) P1 (piece_check (exit_live h) e.pieces p)

-- Code

-- the numbers and sets of a line of code, if it has any, are in their ranges
abbrev pub is_in_range : Statement → Bool
is_in_range (Push number) = is_operand number
is_in_range (Load slot) = is_below SLOTS slot
is_in_range (Store slot) = is_below SLOTS slot
is_in_range (Grip set) = not (is_empty (set_numbers set)) && are_members 0 32 (set_numbers set)
is_in_range (Aside direction tray) = is_below TRAYS tray
is_in_range (Tray tray) = is_below TRAYS tray
is_in_range (Down slot label) = is_below SLOTS slot
is_in_range (Ask low high) = are_ends low high
is_in_range statement = true

-- a line of code after blocks and other code of its own block
abbrev pub statement_check : List Block → List Statement → Statement → Option FaultKind
statement_check blocks code s =
    unless (is_in_range s) P3
    (unless (nat_le (code_size (block_code blocks) + code_size (code ++ s ∷ [])) MOST_CODE) P4 None)

-- code stands after the label
abbrev pub has_code : Block → Bool
has_code b = not (is_empty b.code)

-- a label after blocks
abbrev pub label_check : List Block → List ℕ → Option FaultKind
label_check before name =
    unless (not (is_known (label_names before) name)) P2
    (unless (nat_lt (length before) MOST_LABELS && list_all has_code before) P4 None)

-- the line names a label or a procedure that is not among these
abbrev pub names_unknown : List (List ℕ) → List (List ℕ) → Statement → Bool
names_unknown labels procedures (Jump label) = not (is_known labels label)
names_unknown labels procedures (Down slot label) = not (is_known labels label)
names_unknown labels procedures (Pick names) = not (list_all (is_known labels) names)
names_unknown labels procedures (Call procedure) = not (is_known procedures procedure)
names_unknown labels procedures statement = false
