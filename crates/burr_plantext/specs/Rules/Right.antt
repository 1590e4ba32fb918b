-- Which plans as they are written are right: nothing is wrong with any part, given those before it.
use Rattle.std.specs.Prelude.{ℕ, suc, List, [], ◌∷◌, ◌++◌, length, map, Option, Some, None, is_none, Bool, true, false, not, ◌&&◌, ◌==◌}
use Rattle.std.specs.List.{flat_map}
use Rattle.burr_plantext.specs.Rules.Written.{natural_in}
use Rattle.burr_plantext.specs.Rules.Lines.{PlanWords, ProcedureWords, GripWords, RangeWords, SlotWords, PieceWords, Line, CodeLine}
use Rattle.burr_plantext.specs.Rules.Sources.{ExitSource, Conditions, FrameSource, Block, ProcedureSource, PlanSource, procedure_lines}
use Rattle.burr_plantext.specs.Rules.Meaning.{label_names, procedure_names}
use Rattle.burr_plantext.specs.Rules.Checks.{FaultKind, is_empty, title_check, is_of_version, head_check, grip_check, piece_check, slot_check, live_in, guard_check, stack_check, cost_check, result_check, exit_guard_check, exit_piece_check, statement_check, has_code, label_check, names_unknown}

-- each element is so, given those before it
abbrev pub each_after : {A : Type 0} → (List A → A → Bool) → List A → List A → Bool
each_after is_so before [] = true
each_after is_so before (x ∷ xs) = is_so before x && each_after is_so (before ++ x ∷ []) xs

-- nothing is wrong with each element, given those before it
abbrev pub all_right : {A : Type 0} → (List A → A → Option FaultKind) → List A → Bool
all_right check xs = each_after (λ before x. is_none (check before x)) [] xs

-- what stands in a frame before its cost
abbrev pub conditions : GripWords → List SlotWords → List (List ℕ) → List (List ℕ) → Conditions
conditions grip slots guards stack =
    record { grip = grip; slots = slots; guards = guards; stack = stack }

-- nothing is wrong before the cost
abbrev pub are_conditions : ℕ → Conditions → Bool
are_conditions pieces c =
    is_none (grip_check pieces c.grip)
    && all_right (λ before s. slot_check (conditions c.grip before [] []) s) c.slots
    && all_right (λ before g. guard_check (conditions c.grip c.slots before []) g) c.guards
    && all_right (λ before s. stack_check (conditions c.grip c.slots c.guards before) s) c.stack

-- nothing is wrong with the frame of a plan for this many pieces
abbrev pub is_frame : ℕ → FrameSource → Bool
is_frame pieces f =
    are_conditions pieces f.conditions
    && is_none (cost_check f.conditions f.cost)
    && all_right (piece_check (live_in f.conditions)) f.pieces
    && (length f.pieces == pieces)

-- an exit frame of these parts
abbrev pub exit_source : GripWords → List RangeWords → List (List ℕ) → List PieceWords → ExitSource
exit_source grip results guards pieces =
    record { grip = grip; results = results; guards = guards; pieces = pieces }

-- nothing is wrong with the exit frame of such a procedure
abbrev pub is_exit : ℕ → ℕ → ProcedureWords → ExitSource → Bool
is_exit version pieces h e =
    is_none (grip_check pieces e.grip)
    && all_right (λ before r. result_check h (exit_source e.grip before [] []) r) e.results
    && all_right (λ before g. exit_guard_check version h (exit_source e.grip e.results before []) g)
    e.guards
    && all_right (λ before p. exit_piece_check h (exit_source e.grip e.results e.guards before) p)
    e.pieces
    && (length e.pieces == pieces)

-- main has no exit frame, each other procedure has one
abbrev pub has_exit : ℕ → ℕ → Bool → ProcedureWords → Option ExitSource → Bool
has_exit version pieces true h exit = is_none exit
has_exit version pieces false h None = false
has_exit version pieces false h (Some e) = is_exit version pieces h e

-- a label with its frame and its code, after others
abbrev pub is_block : ℕ → List Block → Block → Bool
is_block pieces before b =
    is_none (label_check before b.label) && is_frame pieces b.frame
    && all_right (statement_check before) b.code && has_code b

-- a procedure after others
abbrev pub is_procedure : PlanWords → List ProcedureSource → ProcedureSource → Bool
is_procedure t before p =
    is_of_version t.version p.head.results && is_none (head_check before p.head)
    && has_exit t.version (natural_in t.pieces) (is_empty before) p.head p.exit
    && not (is_empty p.blocks) && each_after (is_block (natural_in t.pieces)) [] p.blocks

-- all is right but for names in code that may be unknown
abbrev pub is_right_so_far : PlanSource → Bool
is_right_so_far s =
    is_none (title_check s.title) && not (is_empty s.procedures)
    && each_after (is_procedure s.title) [] s.procedures

-- Unknown names

-- it is a line of code with a name that is not among these
abbrev pub has_unknown_name : List (List ℕ) → List (List ℕ) → Line → Bool
has_unknown_name labels procedures (CodeLine statement) =
    names_unknown labels procedures statement
has_unknown_name labels procedures line = false

-- the same of each line of a procedure
abbrev pub unknown_in : List (List ℕ) → ProcedureSource → List Bool
unknown_in procedures p =
    map (has_unknown_name (label_names p.blocks) procedures) (procedure_lines p)

-- of each line of the source, whether it has an unknown name
abbrev pub unknown_names : PlanSource → List Bool
unknown_names s = false ∷ flat_map (unknown_in (procedure_names s.procedures)) s.procedures

-- one place later
abbrev pub one_later : Option ℕ → Option ℕ
one_later None = None
one_later (Some place) = Some (suc place)

-- the place of the first that is true
abbrev pub first_true : List Bool → Option ℕ
first_true [] = None
first_true (true ∷ more) = Some 0
first_true (false ∷ more) = one_later (first_true more)

-- The plan as it is written is right.
abbrev pub is_right : PlanSource → Bool
is_right s = is_right_so_far s && is_none (first_true (unknown_names s))
