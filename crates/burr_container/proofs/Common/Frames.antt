-- For crates above: frames are lawful parts, of up to 32 pieces.
use Rattle.std.proofs.Common.{◌≡◌, ℕ, ◌^◌, ◌<◌, ◌≤◌, ◌&&◌, ◌==◌, Bool, IsTrue, Option, List, ◌∷◌, ◌++◌, length, refl, ap, ◌∙◌, arith, eqb-true, ltb-true, pow_mono}
use Rattle.std.specs.List.{list_all}
use Rattle.std.proofs.lemmas.Bool.{and_parts}
use Rattle.byteorder.specs.Endian.{big_bytes}
use Rattle.burr_code.specs.declared.placement.Placement.{Placement}
use Rattle.burr_code.specs.declared.limits.TheConstants.{MOST_OPERANDS, MOST_GUARDS}
use Rattle.burr_forms.specs.Rules.Forms.{Form}
use Rattle.burr_container.specs.declared.fault.ContainerFault.TheVariants.{C4}
use Rattle.burr_container.specs.Rules.Plans.{FormCell, Range, Frame, live_slots}
use Rattle.burr_container.specs.Rules.Spelling.{form_bytes, forms_bytes, slots_bytes, places_bytes}
use Rattle.burr_container.specs.Rules.Fitting.{is_form, are_forms, are_slots, is_tray, is_set_of, is_place, are_places, is_frame_rest}
use Rattle.burr_container.specs.Rules.Faults.{Failing, number, form, forms, slots, place, frame, first, each}
use Rattle.burr_container.proofs.Common.Spelled.{apart_three, apart_four}
use Rattle.burr_container.proofs.Common.FormSpelling.{tray_small}
use Rattle.burr_container.proofs.Common.Lawful.{Front, Lawful, OfPart, OfFirst, Sound, first_lawful, lawful_as}
use Rattle.burr_container.proofs.Common.Lists.{OfEach, each_lawful}
use Rattle.burr_container.proofs.Common.Fields.{number_sound, of_number, of_byte}
use Rattle.burr_container.proofs.Common.Places.{form_sound, forms_sound, place_sound}
use Rattle.burr_container.proofs.Common.Slots.{slots_sound}

-- places of pieces, by forms
abbrev pub FormPlaces : Type 0
FormPlaces = List (Placement FormCell)

-- what follows the guards of a frame, its slots, and its tray and its grip
abbrev pub AfterGuards : Type 0
AfterGuards = List Form × (Form × FormPlaces)

abbrev pub AfterSlots : Type 0
AfterSlots = List Form × AfterGuards

abbrev pub AfterHead : Type 0
AfterHead = List (Option Range) × AfterSlots

-- The parts of a frame from each of them on

abbrev pub OfCost : ℕ → List Bool → Front (Form × FormPlaces)
OfCost pieces live = OfFirst (form live) (λ cost. OfEach pieces (place live))

abbrev pub cost_fails : ℕ → List Bool → Failing
cost_fails pieces live = first (form live) (λ cost. each pieces (place live))

cost_lawful : (pieces : ℕ) (live : List Bool) → Lawful (OfCost pieces live) (cost_fails pieces live)
cost_lawful pieces live =
    first_lawful (form live) (λ cost. OfEach pieces (place live))
    (λ cost. each pieces (place live)) (form_sound live)
    (λ cost fits. each_lawful (place live) pieces (place_sound live))

abbrev pub OfStack : ℕ → List Bool → Front AfterGuards
OfStack pieces live = OfFirst (forms MOST_OPERANDS live) (λ stack. OfCost pieces live)

abbrev pub stack_fails : ℕ → List Bool → Failing
stack_fails pieces live = first (forms MOST_OPERANDS live) (λ stack. cost_fails pieces live)

stack_lawful : (pieces : ℕ) (live : List Bool)
    → Lawful (OfStack pieces live) (stack_fails pieces live)
stack_lawful pieces live =
    first_lawful (forms MOST_OPERANDS live) (λ stack. OfCost pieces live)
    (λ stack. cost_fails pieces live) (forms_sound MOST_OPERANDS live (omega arith))
    (λ stack fits. cost_lawful pieces live)

abbrev pub OfGuards : ℕ → List Bool → Front AfterSlots
OfGuards pieces live = OfFirst (forms MOST_GUARDS live) (λ guards. OfStack pieces live)

abbrev pub guards_fail : ℕ → List Bool → Failing
guards_fail pieces live = first (forms MOST_GUARDS live) (λ guards. stack_fails pieces live)

guards_lawful : (pieces : ℕ) (live : List Bool)
    → Lawful (OfGuards pieces live) (guards_fail pieces live)
guards_lawful pieces live =
    first_lawful (forms MOST_GUARDS live) (λ guards. OfStack pieces live)
    (λ guards. stack_fails pieces live) (forms_sound MOST_GUARDS live (omega arith))
    (λ guards fits. stack_lawful pieces live)

abbrev pub OfSlotsOn : ℕ → Front AfterHead
OfSlotsOn pieces = OfFirst slots (λ s. OfGuards pieces (live_slots s))

abbrev pub slots_fail : ℕ → Failing
slots_fail pieces = first slots (λ s. guards_fail pieces (live_slots s))

slots_lawful : (pieces : ℕ) → Lawful (OfSlotsOn pieces) (slots_fail pieces)
slots_lawful pieces =
    first_lawful slots (λ s. OfGuards pieces (live_slots s))
    (λ s. guards_fail pieces (live_slots s)) slots_sound
    (λ s fits. guards_lawful pieces (live_slots s))

-- a tray and a set of pieces, and what follows
abbrev pub OfHead : {B : Type 0} → ℕ → Front B → Front (ℕ × (ℕ × B))
OfHead pieces More =
    OfFirst (number 1 C4 is_tray) (λ tray. OfFirst (number 4 C4 (is_set_of pieces)) (λ grip. More))

abbrev pub head_fails : ℕ → Failing → Failing
head_fails pieces more =
    first (number 1 C4 is_tray) (λ tray. first (number 4 C4 (is_set_of pieces)) (λ grip. more))

pub head_lawful : {B : Type 0} (pieces : ℕ) (More : Front B) (more : Failing) → Lawful More more
    → Lawful (OfHead pieces More) (head_fails pieces more)
head_lawful pieces More more lawful =
    first_lawful (number 1 C4 is_tray)
    (λ tray. OfFirst (number 4 C4 (is_set_of pieces)) (λ grip. More))
    (λ tray. first (number 4 C4 (is_set_of pieces)) (λ grip. more))
    (number_sound 1 C4 is_tray)
    (λ tray fits. first_lawful (number 4 C4 (is_set_of pieces)) (λ grip. More) (λ grip. more)
    (number_sound 4 C4 (is_set_of pieces)) (λ grip fits. lawful))

set_small : (pieces set : ℕ) → pieces ≤ 32 → IsTrue (is_set_of pieces set) → set < 256 ^ 4
set_small pieces set few test =
    let below = ltb-true set (2 ^ pieces) test in
    let most : 2 ^ pieces ≤ 2 ^ 32 = pow_mono few in
    omega (arith, below, most)

pub of_head : {B : Type 0} (pieces tray grip : ℕ) (More : Front B) (b : B) (bytes rest r : List ℕ)
    → pieces ≤ 32 → IsTrue (is_tray tray) → IsTrue (is_set_of pieces grip)
    → bytes ≡ tray ∷ (big_bytes 4 grip ++ rest) → More b rest r
    → OfHead pieces More (tray, (grip, b)) bytes r
of_head pieces tray grip More b bytes rest r few on set e more =
    let low = tray_small tray on in (
      big_bytes 4 grip ++ rest,
      of_byte C4 is_tray tray bytes (big_bytes 4 grip ++ rest) (omega (arith, low)) on e,
      (
        rest,
        of_number 4 C4 (is_set_of pieces) grip (big_bytes 4 grip ++ rest) rest
            (set_small pieces grip few set) set refl,
        more,
      ),
    )

-- a place for each piece
pub places_made : (pieces : ℕ) (live : List Bool) (places : FormPlaces) (bytes r : List ℕ)
    → IsTrue (are_places pieces live places) → bytes ≡ places_bytes live places ++ r
    → OfEach pieces (place live) places bytes r
places_made pieces live places bytes r fits e =
    let parts = and_parts (length places == pieces) (list_all (is_place live) places) fits in
    (eqb-true (length places) pieces parts.0, parts.1, e)

-- Frames

abbrev pub frame_of : ℕ × (ℕ × AfterHead) → Frame
frame_of v =
    record {
      tray = v.0;
      grip = v.1.0;
      slots = v.1.1.0;
      guards = v.1.1.1.0;
      stack =
          v.1.1.1.1.0;
      cost = v.1.1.1.1.1.0;
      places = v.1.1.1.1.1.1;
    }

pub frame_apart : (tray : ℕ) (grip slots guards stack cost places r : List ℕ)
    → (tray ∷ grip ++ slots ++ (guards ++ stack ++ cost ++ places)) ++ r
    ≡ tray ∷ (grip ++ (slots ++ (guards ++ (stack ++ (cost ++ (places ++ r))))))
frame_apart tray grip slots guards stack cost places r =
    ap (λ (all : List ℕ). tray ∷ all)
    (apart_three grip slots (guards ++ stack ++ cost ++ places) r
    ∙ ap (λ (rest : List ℕ). grip ++ (slots ++ rest)) (apart_four guards stack cost places r))

of_frame : (pieces : ℕ) → pieces ≤ 32 → (f : Frame) (bytes r : List ℕ)
    → OfPart (frame pieces) f bytes r
    → (v : ℕ × (ℕ × AfterHead)) × (frame_of v ≡ f) × OfHead pieces (OfSlotsOn pieces) v bytes r
of_frame pieces few f bytes r here =
    let live = live_slots f.slots in
    let a =
    and_parts (is_tray f.tray && is_set_of pieces f.grip && are_slots f.slots)
    (is_frame_rest pieces live f) here.0 in
    let b = and_parts (is_tray f.tray && is_set_of pieces f.grip) (are_slots f.slots) a.0 in
    let c = and_parts (is_tray f.tray) (is_set_of pieces f.grip) b.0 in
    let d =
    and_parts
    (are_forms MOST_GUARDS live f.guards && are_forms MOST_OPERANDS live f.stack
    && is_form live f.cost) (are_places pieces live f.places) a.1 in
    let g =
    and_parts (are_forms MOST_GUARDS live f.guards && are_forms MOST_OPERANDS live f.stack)
    (is_form live f.cost) d.0 in
    let h =
    and_parts (are_forms MOST_GUARDS live f.guards) (are_forms MOST_OPERANDS live f.stack)
    g.0 in
    let after_cost = places_bytes live f.places ++ r in
    let after_stack = form_bytes live f.cost ++ after_cost in
    let after_guards = forms_bytes live f.stack ++ after_stack in
    let after_slots = forms_bytes live f.guards ++ after_guards in
    let e =
    here.1
    ∙ frame_apart f.tray (big_bytes 4 f.grip) (slots_bytes f.slots)
    (forms_bytes live f.guards) (forms_bytes live f.stack) (form_bytes live f.cost)
    (places_bytes live f.places) r in
    let from_cost : OfCost pieces live (f.cost, f.places) after_stack r =
    (after_cost, (g.1, refl), places_made pieces live f.places after_cost r d.1 refl) in
    let from_stack : OfStack pieces live (f.stack, (f.cost, f.places)) after_guards r =
    (after_stack, (h.1, refl), from_cost) in
    let from_guards : OfGuards pieces live (f.guards, (f.stack, (f.cost, f.places))) after_slots
    r = (after_guards, (h.0, refl), from_stack) in (
      (f.tray, (f.grip, (f.slots, (f.guards, (f.stack, (f.cost, f.places)))))),
      refl,
      of_head pieces f.tray f.grip (OfSlotsOn pieces)
          (f.slots, (f.guards, (f.stack, (f.cost, f.places)))) bytes
          (slots_bytes f.slots ++ after_slots) r few c.0 c.1 e
          (after_slots, (b.1, refl), from_guards),
    )

pub frame_sound : (pieces : ℕ) → pieces ≤ 32 → Sound (frame pieces)
frame_sound pieces few =
    lawful_as frame_of (OfPart (frame pieces)) (OfHead pieces (OfSlotsOn pieces))
    (frame pieces).Fails (head_fails pieces (slots_fail pieces)) (of_frame pieces few)
    (λ at bytes fault fails. fails)
    (head_lawful pieces (OfSlotsOn pieces) (slots_fail pieces) (slots_lawful pieces))
