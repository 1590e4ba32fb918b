-- The bytes of a plan: this project's own binary format. Numbers are big-endian.
use Rattle.std.specs.Prelude.{ℕ, ◌+◌, ◌*◌, List, [], ◌∷◌, ◌++◌, length, codes, Option, Some, None, Bool, ◌==◌, if◌then◌else◌}
use Rattle.std.specs.List.{flat_map}
use Rattle.std.specs.Int.{w32, cast_unsigned}
use Rattle.byteorder.specs.Endian.{big_bytes}
use Rattle.burr_code.specs.Instruction.{signed_word}
use Rattle.burr_code.specs.declared.placement.Placement.{Placement}
use Rattle.burr_code.specs.declared.placement.Placement.TheVariants.{Apart, On}
use Rattle.burr_forms.specs.Rules.Forms.{Form}
use Rattle.burr_container.specs.Rules.Plans.{FormCell, Range, Frame, ExitFrame, PlanProcedure, Plan, live_slots, exit_symbols, of_live}

-- a form: its constant, and a coefficient for each live slot
abbrev pub form_bytes : List Bool → Form → List ℕ
form_bytes live f =
    big_bytes 4 (cast_unsigned w32 f.constant) ++ flat_map signed_word (of_live live f.coefs)

-- how many bytes a form over these live slots has
abbrev pub form_size : List Bool → ℕ
form_size [] = 4
form_size (l ∷ live) = (if l then 2 else 0) + form_size live

-- which slots are live, as a byte: bit v for slot v
abbrev pub mask_of : List Bool → ℕ
mask_of [] = 0
mask_of (l ∷ live) = (if l then 1 else 0) + 2 * mask_of live

-- the range of a live slot: its ends
abbrev pub range_bytes : Option Range → List ℕ
range_bytes None = []
range_bytes (Some range) = signed_word range.0 ++ signed_word range.1

abbrev pub slots_bytes : List (Option Range) → List ℕ
slots_bytes slots = mask_of (live_slots slots) ∷ flat_map range_bytes slots

-- how many, and each
abbrev pub counted_bytes : {A : Type 0} → (A → List ℕ) → List A → List ℕ
counted_bytes bytes xs = length xs ∷ flat_map bytes xs

-- where a piece lies: 255 for apart, else its tray and the forms of its offset
abbrev pub place_bytes : List Bool → Placement FormCell → List ℕ
place_bytes live Apart = 255 ∷ []
place_bytes live (On tray at) =
    tray ∷ form_bytes live at.x ++ form_bytes live at.y ++ form_bytes live at.z

abbrev pub places_bytes : List Bool → List (Placement FormCell) → List ℕ
places_bytes live places = flat_map (place_bytes live) places

abbrev pub forms_bytes : List Bool → List Form → List ℕ
forms_bytes live forms = counted_bytes (form_bytes live) forms

-- what follows the slots of a frame
abbrev pub frame_rest : List Bool → Frame → List ℕ
frame_rest live f =
    forms_bytes live f.guards ++ forms_bytes live f.stack ++ form_bytes live f.cost
    ++ places_bytes live f.places

abbrev pub frame_bytes : Frame → List ℕ
frame_bytes f =
    f.tray ∷ big_bytes 4 f.grip ++ slots_bytes f.slots ++ frame_rest (live_slots f.slots) f

-- what version 2 alone spells
abbrev pub in_second : ℕ → List ℕ → List ℕ
in_second version bytes = if version == 2 then bytes else []

-- the ranges of results
abbrev pub ranges_bytes : List Range → List ℕ
ranges_bytes ranges = flat_map (λ r. range_bytes (Some r)) ranges

abbrev pub exit_guards_bytes : ℕ → List Bool → List Form → List ℕ
exit_guards_bytes version live guards = in_second version (forms_bytes live guards)

-- what follows the grip of an exit frame over these symbols
abbrev pub exit_rest : ℕ → List Bool → ExitFrame → List ℕ
exit_rest version live f =
    ranges_bytes f.results ++ exit_guards_bytes version live f.guards ++ places_bytes live f.places

abbrev pub exit_frame_bytes : ℕ → ℕ → ℕ → ExitFrame → List ℕ
exit_frame_bytes version parameters results f =
    f.tray ∷ big_bytes 4 f.grip ++ exit_rest version (exit_symbols parameters results) f

abbrev pub exit_bytes : ℕ → ℕ → ℕ → Option ExitFrame → List ℕ
exit_bytes version parameters results None = []
exit_bytes version parameters results (Some f) = exit_frame_bytes version parameters results f

-- how many results, which version 1 does not spell: it has none
abbrev pub result_count_bytes : ℕ → ℕ → List ℕ
result_count_bytes version results = in_second version (results ∷ [])

abbrev pub label_bytes : ℕ × Frame → List ℕ
label_bytes label = big_bytes 2 label.0 ++ frame_bytes label.1

abbrev pub labels_bytes : List (ℕ × Frame) → List ℕ
labels_bytes labels = big_bytes 2 (length labels) ++ flat_map label_bytes labels

abbrev pub code_bytes : List ℕ → List ℕ
code_bytes code = big_bytes 2 (length code) ++ code

abbrev pub procedure_bytes : ℕ → PlanProcedure → List ℕ
procedure_bytes version p =
    p.parameters ∷ result_count_bytes version p.results
    ++ exit_bytes version p.parameters p.results p.exit ++ labels_bytes p.labels
    ++ code_bytes p.code

-- what stands in front of the procedures: the version, the budget, how many pieces, and the name
abbrev pub front_bytes : ℕ → ℕ → ℕ → List ℕ → List ℕ
front_bytes version budget pieces name =
    codes "BPLN" ++ big_bytes 2 version ++ big_bytes 4 budget ++ pieces ∷ length name ∷ name

abbrev pub header_bytes : Plan → List ℕ
header_bytes plan = front_bytes plan.version plan.budget plan.pieces plan.name

-- The bytes of a plan.
abbrev pub plan_bytes : Plan → List ℕ
plan_bytes plan =
    header_bytes plan ++ counted_bytes (procedure_bytes plan.version) plan.procedures
