-- For crates above: bytes have a frame at their front, or fail to.
use Rattle.std.proofs.Common.{◌≡◌, ℕ, ◌&&◌, ◌==◌, Bool, IsTrue, List, ◌∷◌, ◌++◌, length, sym, ap, ◌∙◌, eq-eqb}
use Rattle.std.specs.List.{list_all}
use Rattle.std.proofs.lemmas.Bool.{and_from}
use Rattle.byteorder.specs.Endian.{big_bytes}
use Rattle.burr_code.specs.declared.limits.TheConstants.{MOST_OPERANDS, MOST_GUARDS}
use Rattle.burr_container.specs.declared.fault.ContainerFault.TheVariants.{C4}
use Rattle.burr_container.specs.Rules.Plans.{live_slots}
use Rattle.burr_container.specs.Rules.Spelling.{form_bytes, forms_bytes, slots_bytes, places_bytes}
use Rattle.burr_container.specs.Rules.Fitting.{is_form, are_forms, are_slots, is_tray, is_set_of, is_place, are_places, is_frame_rest}
use Rattle.burr_container.specs.Rules.Faults.{Failing, number, form, forms, slots, place, frame, first, each}
use Rattle.burr_container.proofs.Common.Fields.{byte_back, number_so}
use Rattle.burr_container.proofs.Common.Lawful.{Front, OfPart, OfFirst}
use Rattle.burr_container.proofs.Common.Lists.{OfEach}
use Rattle.burr_container.proofs.Common.Frames.{FormPlaces, AfterHead, OfCost, cost_fails, OfStack, stack_fails, OfGuards, guards_fail, OfSlotsOn, slots_fail, OfHead, head_fails, frame_of, frame_apart}
use Rattle.burr_container.proofs.Common.Judging.Fronts.{AreSmall, Judged, JudgedPart, first_judged, judged_as}
use Rattle.burr_container.proofs.Common.Judging.Fields.{number_judged, digits_1, digits_4}
use Rattle.burr_container.proofs.Common.Judging.Lists.{each_judged}
use Rattle.burr_container.proofs.Common.Judging.Places.{form_judged, forms_judged, place_judged}
use Rattle.burr_container.proofs.Common.Judging.Slots.{slots_judged}

cost_judged : (pieces : ℕ) (live : List Bool) → Judged (OfCost pieces live) (cost_fails pieces live)
cost_judged pieces live =
    first_judged (form live) (λ cost. OfEach pieces (place live))
    (λ cost. each pieces (place live)) (form_judged live)
    (λ cost fits. each_judged (place live) pieces (place_judged live))

stack_judged : (pieces : ℕ) (live : List Bool)
    → Judged (OfStack pieces live) (stack_fails pieces live)
stack_judged pieces live =
    first_judged (forms MOST_OPERANDS live) (λ stack. OfCost pieces live)
    (λ stack. cost_fails pieces live) (forms_judged MOST_OPERANDS live)
    (λ stack fits. cost_judged pieces live)

guards_judged : (pieces : ℕ) (live : List Bool)
    → Judged (OfGuards pieces live) (guards_fail pieces live)
guards_judged pieces live =
    first_judged (forms MOST_GUARDS live) (λ guards. OfStack pieces live)
    (λ guards. stack_fails pieces live) (forms_judged MOST_GUARDS live)
    (λ guards fits. stack_judged pieces live)

ranges_on_judged : (pieces : ℕ) → Judged (OfSlotsOn pieces) (slots_fail pieces)
ranges_on_judged pieces =
    first_judged slots (λ s. OfGuards pieces (live_slots s))
    (λ s. guards_fail pieces (live_slots s)) slots_judged
    (λ s fits. guards_judged pieces (live_slots s))

pub head_judged : {B : Type 0} (pieces : ℕ) (More : Front B) (more : Failing) → Judged More more
    → Judged (OfHead pieces More) (head_fails pieces more)
head_judged pieces More more judged =
    first_judged (number 1 C4 is_tray)
    (λ tray. OfFirst (number 4 C4 (is_set_of pieces)) (λ grip. More))
    (λ tray. first (number 4 C4 (is_set_of pieces)) (λ grip. more))
    (number_judged 1 C4 is_tray digits_1)
    (λ tray fits. first_judged (number 4 C4 (is_set_of pieces)) (λ grip. More) (λ grip. more)
    (number_judged 4 C4 (is_set_of pieces) digits_4) (λ grip fits. judged))

-- what stands at the head, with what follows it
pub head_back : {B : Type 0} (pieces : ℕ) (More : Front B) (v : ℕ × (ℕ × B)) (bytes r : List ℕ)
    → OfHead pieces More v bytes r
    → (rest : List ℕ) × IsTrue (is_tray v.0) × IsTrue (is_set_of pieces v.1.0)
    × (bytes ≡ v.0 ∷ (big_bytes 4 v.1.0 ++ rest)) × More v.1.1 rest r
head_back pieces More v bytes r here =
    let tray = byte_back C4 is_tray v.0 bytes here.0 here.1 in
    let inner = here.2 in (
      inner.0,
      tray.0,
      number_so 4 C4 (is_set_of pieces) v.1.0 here.0 inner.0 inner.1,
      tray.1
          ∙ ap (λ (rest : List ℕ). v.0 ∷ rest) inner.1.1,
      inner.2,
    )

pub places_back : (pieces : ℕ) (live : List Bool) (places : FormPlaces) (bytes r : List ℕ)
    → OfEach pieces (place live) places bytes r → IsTrue (are_places pieces live places)
places_back pieces live places bytes r here =
    and_from (length places == pieces) (list_all (is_place live) places)
    (eq-eqb (length places) pieces here.0) here.1

pub frame_back : (pieces : ℕ) (v : ℕ × (ℕ × AfterHead)) (bytes r : List ℕ) → AreSmall bytes
    → OfHead pieces (OfSlotsOn pieces) v bytes r → OfPart (frame pieces) (frame_of v) bytes r
frame_back pieces v bytes r small here =
    let f = frame_of v in
    let live = live_slots f.slots in
    let head = head_back pieces (OfSlotsOn pieces) v bytes r here in
    let ranges = head.4 in
    let guards = ranges.2 in
    let stack = guards.2 in
    let cost = stack.2 in
    let rest_fits =
    and_from
    (are_forms MOST_GUARDS live f.guards && are_forms MOST_OPERANDS live f.stack
    && is_form live f.cost) (are_places pieces live f.places)
    (and_from (are_forms MOST_GUARDS live f.guards && are_forms MOST_OPERANDS live f.stack)
    (is_form live f.cost)
    (and_from (are_forms MOST_GUARDS live f.guards) (are_forms MOST_OPERANDS live f.stack)
    guards.1.0 stack.1.0) cost.1.0)
    (places_back pieces live f.places cost.0 r cost.2) in
    let fits =
    and_from (is_tray f.tray && is_set_of pieces f.grip && are_slots f.slots)
    (is_frame_rest pieces live f)
    (and_from (is_tray f.tray && is_set_of pieces f.grip) (are_slots f.slots)
    (and_from (is_tray f.tray) (is_set_of pieces f.grip) head.1 head.2) ranges.1.0) rest_fits in
    let from_cost : stack.0 ≡ form_bytes live f.cost ++ (places_bytes live f.places ++ r) =
    cost.1.1 ∙ ap (λ (rest : List ℕ). form_bytes live f.cost ++ rest) cost.2.2 in
    let from_stack : guards.0 ≡ forms_bytes live
    f.stack ++ (form_bytes live f.cost ++ (places_bytes live f.places ++ r)) =
    stack.1.1 ∙ ap (λ (rest : List ℕ). forms_bytes live f.stack ++ rest) from_cost in
    let from_guards : ranges.0 ≡ forms_bytes live
    f.guards ++ (forms_bytes live
    f.stack ++ (form_bytes live f.cost ++ (places_bytes live f.places ++ r))) =
    guards.1.1 ∙ ap (λ (rest : List ℕ). forms_bytes live f.guards ++ rest) from_stack in
    let from_slots : head.0 ≡ slots_bytes
    f.slots ++ (forms_bytes live
    f.guards ++ (forms_bytes live
    f.stack ++ (form_bytes live f.cost ++ (places_bytes live f.places ++ r)))) =
    ranges.1.1 ∙ ap (λ (rest : List ℕ). slots_bytes f.slots ++ rest) from_guards in (
      fits,
      head.3 ∙ ap (λ (rest : List ℕ). f.tray ∷ (big_bytes 4 f.grip ++ rest)) from_slots
          ∙ sym (frame_apart f.tray (big_bytes 4 f.grip) (slots_bytes f.slots)
          (forms_bytes live f.guards) (forms_bytes live f.stack) (form_bytes live f.cost)
          (places_bytes live f.places) r),
    )

pub frame_judged : (pieces : ℕ) → JudgedPart (frame pieces)
frame_judged pieces =
    judged_as frame_of (OfPart (frame pieces)) (OfHead pieces (OfSlotsOn pieces))
    (frame pieces).Fails (head_fails pieces (slots_fail pieces)) (frame_back pieces)
    (λ at bytes fault fails. fails)
    (head_judged pieces (OfSlotsOn pieces) (slots_fail pieces) (ranges_on_judged pieces))
