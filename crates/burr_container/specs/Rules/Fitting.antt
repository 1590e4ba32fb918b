-- Which plans are within the format. They are tests, so that there is one proof of each at most.
use Rattle.std.specs.Prelude.{ℕ, suc, ◌^◌, ℤ, pos, neg_ℤ, int_le, List, [], ◌∷◌, length, Option, Some, None, is_none, Bool, true, false, ◌&&◌, ◌||◌, ◌==◌, nat_le, nat_lt, slice_index, if◌then◌else◌}
use Rattle.std.specs.List.{list_all}
use Rattle.burr_text.specs.Names.{is_letter, is_name_byte}
use Rattle.burr_code.specs.declared.placement.Placement.{Placement}
use Rattle.burr_code.specs.declared.placement.Placement.TheVariants.{Apart, On}
use Rattle.burr_code.specs.declared.limits.TheConstants.{TRAYS, SLOTS, MOST_OPERANDS, MOST_CODE, MOST_LABELS, MOST_PROCEDURES, MOST_BUDGET, MOST_PARAMETERS, MOST_GUARDS}
use Rattle.burr_forms.specs.Rules.Forms.{Form}
use Rattle.burr_container.specs.Rules.Plans.{FormCell, Range, Frame, ExitFrame, PlanProcedure, Plan, live_slots, exit_symbols}

-- the number is in this range, both ends in it
abbrev pub is_between : ℤ → ℤ → ℤ → Bool
is_between low high n = int_le low n && int_le n high

-- a coefficient: a number of 16 bits, and 0 where its slot is not live
abbrev pub is_coefficient : Bool → ℤ → Bool
is_coefficient live c =
    if live then is_between (neg_ℤ (pos 32768)) (pos 32767) c else is_between (pos 0) (pos 0) c

-- a coefficient for each slot
abbrev pub are_coefficients : List Bool → List ℤ → Bool
are_coefficients [] [] = true
are_coefficients [] (c ∷ coefs) = false
are_coefficients (l ∷ live) [] = false
are_coefficients (l ∷ live) (c ∷ coefs) = is_coefficient l c && are_coefficients live coefs

-- a constant of 32 bits, and coefficients
abbrev pub is_form : List Bool → Form → Bool
is_form live f =
    is_between (neg_ℤ (pos 2147483648)) (pos 2147483647) f.constant && are_coefficients live f.coefs

-- a number that an end of a range may be
abbrev pub is_number : ℤ → Bool
is_number n = is_between (neg_ℤ (pos 32767)) (pos 32767) n

abbrev pub is_range : Option Range → Bool
is_range None = true
is_range (Some range) = is_number range.0 && is_number range.1 && int_le range.0 range.1

-- `count` ranges within the format
abbrev pub are_ranges : ℕ → List Range → Bool
are_ranges count ranges = (length ranges == count) && list_all (λ r. is_range (Some r)) ranges

abbrev pub are_slots : List (Option Range) → Bool
are_slots slots = (length slots == SLOTS) && list_all is_range slots

abbrev pub is_tray : ℕ → Bool
is_tray tray = nat_lt tray TRAYS

-- a set of pieces, bit p for piece p; all its pieces are below `pieces`
abbrev pub is_set_of : ℕ → ℕ → Bool
is_set_of pieces set = nat_lt set (2 ^ pieces)

abbrev pub is_place : List Bool → Placement FormCell → Bool
is_place live Apart = true
is_place live (On tray at) =
    is_tray tray && is_form live at.x && is_form live at.y && is_form live at.z

-- a place for each piece
abbrev pub are_places : ℕ → List Bool → List (Placement FormCell) → Bool
are_places pieces live places = (length places == pieces) && list_all (is_place live) places

-- at most `most` forms
abbrev pub are_forms : ℕ → List Bool → List Form → Bool
are_forms most live forms = nat_le (length forms) most && list_all (is_form live) forms

-- what follows the slots of a frame
abbrev pub is_frame_rest : ℕ → List Bool → Frame → Bool
is_frame_rest pieces live f =
    are_forms MOST_GUARDS live f.guards && are_forms MOST_OPERANDS live f.stack
    && is_form live f.cost && are_places pieces live f.places

abbrev pub is_frame : ℕ → Frame → Bool
is_frame pieces f =
    is_tray f.tray && is_set_of pieces f.grip && are_slots f.slots
    && is_frame_rest pieces (live_slots f.slots) f

-- an exit frame has guards in version 2 alone
abbrev pub most_exit_guards : ℕ → ℕ
most_exit_guards version = if version == 2 then MOST_GUARDS else 0

-- what follows the grip of an exit frame over these symbols: a range for each result, guards,
-- places
abbrev pub is_exit_rest : ℕ → ℕ → ℕ → List Bool → ExitFrame → Bool
is_exit_rest version pieces results live f =
    are_ranges results f.results && are_forms (most_exit_guards version) live f.guards
    && are_places pieces live f.places

abbrev pub is_exit_frame : ℕ → ℕ → ℕ → ℕ → ExitFrame → Bool
is_exit_frame version pieces parameters results f =
    is_tray f.tray && is_set_of pieces f.grip
    && is_exit_rest version pieces results (exit_symbols parameters results) f

-- main has no exit frame, each other procedure has one
abbrev pub is_exit : ℕ → Bool → ℕ → ℕ → ℕ → Option ExitFrame → Bool
is_exit version true pieces parameters results exit = is_none exit
is_exit version false pieces parameters results None = false
is_exit version false pieces parameters results (Some f) =
    is_exit_frame version pieces parameters results f

-- positions that rise, each at least this and below the end
abbrev pub rise_from : ℕ → ℕ → List (ℕ × Frame) → Bool
rise_from least end [] = true
rise_from least end (label ∷ labels) =
    nat_le least label.0 && nat_lt label.0 end && rise_from (suc label.0) end labels

-- labels at rising positions of the code, the first at its begin
abbrev pub are_labels : ℕ → ℕ → List (ℕ × Frame) → Bool
are_labels pieces end [] = false
are_labels pieces end (first ∷ labels) =
    (first.0 == 0) && rise_from 0 end (first ∷ labels)
    && nat_le (length (first ∷ labels)) MOST_LABELS
    && list_all (λ label. is_frame pieces label.1) (first ∷ labels)

-- parameters: at most four, of main none
abbrev pub are_parameters : Bool → ℕ → Bool
are_parameters main parameters = nat_le parameters (if main then 0 else MOST_PARAMETERS)

-- results: at most two and in version 2 alone, of main none
abbrev pub most_results : ℕ → Bool → ℕ
most_results version main = if main then 0 else (if version == 2 then 2 else 0)

abbrev pub are_results : ℕ → Bool → ℕ → Bool
are_results version main results = nat_le results (most_results version main)

abbrev pub is_code : List ℕ → Bool
is_code code = nat_le (length code) MOST_CODE && list_all (λ b. nat_lt b 256) code

-- a procedure; the first is main
abbrev pub is_procedure : ℕ → ℕ → Bool → PlanProcedure → Bool
is_procedure version pieces main p =
    are_parameters main p.parameters && are_results version main p.results
    && is_exit version main pieces p.parameters p.results p.exit
    && are_labels pieces (length p.code) p.labels && is_code p.code

abbrev pub are_procedures : ℕ → ℕ → List PlanProcedure → Bool
are_procedures version pieces [] = false
are_procedures version pieces (main ∷ others) =
    is_procedure version pieces true main && list_all (is_procedure version pieces false) others
    && nat_le (length (main ∷ others)) MOST_PROCEDURES

abbrev pub is_piece_count : ℕ → Bool
is_piece_count pieces = nat_le 2 pieces && nat_le pieces 32

-- the test of a name: 1 to 32 letters, digits, `_` and `-`, a letter first
abbrev pub is_name_text : List ℕ → Bool
is_name_text name =
    is_letter (slice_index name 0) && list_all is_name_byte name && nat_le (length name) 32

abbrev pub is_budget : ℕ → Bool
is_budget budget = nat_le 1 budget && nat_le budget MOST_BUDGET

-- a version of the format
abbrev pub is_version : ℕ → Bool
is_version version = (version == 1) || (version == 2)

-- The plan is within the format.
abbrev pub is_fitting : Plan → Bool
is_fitting plan =
    is_version plan.version && is_budget plan.budget && is_piece_count plan.pieces
    && is_name_text plan.name && are_procedures plan.version plan.pieces plan.procedures
