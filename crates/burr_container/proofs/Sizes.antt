-- How many bytes the parts of a frame take at most.
use Rattle.std.proofs.Common.{◌≡◌, ℕ, ◌+◌, ◌*◌, ◌≤◌, ◌^◌, ◌&&◌, ◌==◌, Bool, true, false, IsTrue, nat_lt, nat_le, Option, Some, None, List, [], ◌∷◌, ◌++◌, length, flat_map, arith, length-append, eqb-true, leb-true}
use Rattle.std.specs.Prelude.{is_some}
use Rattle.std.specs.List.{list_all}
use Rattle.std.proofs.lemmas.Bool.{and_parts}
use Rattle.std.proofs.lemmas.List.{length-map}
use Rattle.byteorder.specs.Endian.{big_bytes}
use Rattle.burr_code.specs.declared.placement.Placement.{Placement}
use Rattle.burr_code.specs.declared.placement.Placement.TheVariants.{Apart, On}
use Rattle.burr_code.specs.declared.limits.TheConstants.{SLOTS, MOST_OPERANDS, MOST_GUARDS}
use Rattle.burr_forms.specs.Rules.Forms.{Form}
use Rattle.burr_container.specs.Rules.Plans.{FormCell, Range, Frame, live_slots}
use Rattle.burr_container.specs.Rules.Spelling.{form_size, form_bytes, forms_bytes, range_bytes, slots_bytes, place_bytes, places_bytes, frame_rest, label_bytes}
use Rattle.burr_container.specs.Rules.Fitting.{is_form, are_forms, is_range, are_slots, is_tray, is_set_of, is_place, are_places, is_frame_rest, is_frame}
use Rattle.burr_container.specs.Rules.Faults.{label}
use Rattle.burr_container.proofs.Common.Places.{form_length}

-- where each value takes at most `most` bytes, a list takes at most that for each of its values
each_takes : {A : Type 0} (bytes : A → List ℕ) (fits : A → Bool) (most : ℕ)
    → ((a : A) → IsTrue (fits a) → length (bytes a) ≤ most) → (xs : List A)
    → IsTrue (list_all fits xs) → length (flat_map bytes xs) ≤ length xs * most
each_takes bytes fits most takes [] all = omega arith
each_takes bytes fits most takes (x ∷ xs) all =
    let parts = and_parts (fits x) (list_all fits xs) all in
    let here = takes x parts.0 in
    let more = each_takes bytes fits most takes xs parts.1 in
    let sum = length-append (bytes x) (flat_map bytes xs) in
    omega (arith, here, more, sum)

-- one list and then another
both_take : (a b : List ℕ) (m n : ℕ) → length a ≤ m → length b ≤ n → length (a ++ b) ≤ m + n
both_take a b m n of_a of_b = let sum = length-append a b in omega (arith, of_a, of_b, sum)

on_takes : (tray : ℕ) (x y z : List ℕ) → length x ≤ 20 → length y ≤ 20 → length z ≤ 20
    → length (tray ∷ x ++ y ++ z) ≤ 61
on_takes tray x y z of_x of_y of_z =
    let all = both_take (x ++ y) z 40 20 (both_take x y 20 20 of_x of_y) of_z in
    omega (arith, all)

-- guards, operands, the cost and places
four_take : (pieces : ℕ) (guards stack cost places : List ℕ) → pieces ≤ 32 → length guards ≤ 81
    → length stack ≤ 161 → length cost ≤ 20 → length places ≤ pieces * 61
    → length (guards ++ stack ++ cost ++ places) ≤ 2214
four_take pieces guards stack cost places few of_guards of_stack of_cost of_places =
    let most : length places ≤ 1952 = omega (arith, few, of_places) in
    both_take (guards ++ stack ++ cost) places 262 1952
    (both_take (guards ++ stack) cost 242 20 (both_take guards stack 81 161 of_guards of_stack)
    of_cost) most

-- a position, a tray, a grip, slots and what follows them
all_take : (position tray grip : ℕ) (slots rest : List ℕ) → length slots ≤ 33 → length rest ≤ 2214
    → length (big_bytes 2 position ++ (tray ∷ big_bytes 4 grip ++ slots ++ rest)) ≤ 2254
all_take position tray grip slots rest of_slots of_rest =
    let all = both_take slots rest 33 2214 of_slots of_rest in
    omega (arith, all)

size_takes : (live : List Bool) → form_size live ≤ 4 + 2 * length live
size_takes [] = omega arith
size_takes (true ∷ live) = let more = size_takes live in omega (arith, more)
size_takes (false ∷ live) = let more = size_takes live in omega (arith, more)

module _ (live : List Bool) (eight : length live ≡ 8) where
  form_takes : (f : Form) → IsTrue (is_form live f) → length (form_bytes live f) ≤ 20
  form_takes f fits =
      let size = form_length live f fits in
      let most = size_takes live in
      omega (arith, size, most, eight)

  forms_take : (most : ℕ) (fs : List Form) → IsTrue (are_forms most live fs)
      → length (forms_bytes live fs) ≤ 1 + most * 20
  forms_take most fs fits =
      let parts = and_parts (nat_le (length fs) most) (list_all (is_form live) fs) fits in
      let few = leb-true (length fs) most parts.0 in
      let all = each_takes (form_bytes live) (is_form live) 20 form_takes fs parts.1 in
      omega (arith, few, all)

  place_takes : (p : Placement FormCell) → IsTrue (is_place live p) → length (place_bytes live p) ≤ 61
  place_takes Apart fits = omega arith
  place_takes (On tray at) fits =
      let z = and_parts (is_tray tray && is_form live at.x && is_form live at.y) (is_form live at.z) fits in
      let y = and_parts (is_tray tray && is_form live at.x) (is_form live at.y) z.0 in
      let x = and_parts (is_tray tray) (is_form live at.x) y.0 in
      let of_x = form_takes at.x x.1 in
      let of_y = form_takes at.y y.1 in
      let of_z = form_takes at.z z.1 in
      on_takes tray (form_bytes live at.x) (form_bytes live at.y) (form_bytes live at.z) of_x of_y of_z

  places_take : (pieces : ℕ) (ps : List (Placement FormCell)) → IsTrue (are_places pieces live ps)
      → length (places_bytes live ps) ≤ pieces * 61
  places_take pieces ps fits =
      let parts = and_parts (length ps == pieces) (list_all (is_place live) ps) fits in
      let count = eqb-true (length ps) pieces parts.0 in
      let all = each_takes (place_bytes live) (is_place live) 61 place_takes ps parts.1 in
      omega (arith, count, all)

  rest_takes : (pieces : ℕ) → pieces ≤ 32 → (f : Frame) → IsTrue (is_frame_rest pieces live f)
      → length (frame_rest live f) ≤ 2214
  rest_takes pieces few f fits =
      let d = and_parts (are_forms MOST_GUARDS live f.guards && are_forms MOST_OPERANDS live f.stack
      && is_form live f.cost) (are_places pieces live f.places) fits in
      let c = and_parts (are_forms MOST_GUARDS live f.guards && are_forms MOST_OPERANDS live f.stack)
      (is_form live f.cost) d.0 in
      let b = and_parts (are_forms MOST_GUARDS live f.guards) (are_forms MOST_OPERANDS live f.stack) c.0 in
      let guards = forms_take MOST_GUARDS f.guards b.0 in
      let stack = forms_take MOST_OPERANDS f.stack b.1 in
      let cost = form_takes f.cost c.1 in
      let places = places_take pieces f.places d.1 in
      four_take pieces (forms_bytes live f.guards) (forms_bytes live f.stack) (form_bytes live f.cost)
      (places_bytes live f.places) few guards stack cost places

range_takes : (r : Option Range) → IsTrue (is_range r) → length (range_bytes r) ≤ 4
range_takes None fits = omega arith
range_takes (Some r) fits = omega arith

slots_take : (slots : List (Option Range)) → IsTrue (are_slots slots) → length (slots_bytes slots) ≤ 33
slots_take slots fits =
    let parts = and_parts (length slots == SLOTS) (list_all is_range slots) fits in
    let count = eqb-true (length slots) SLOTS parts.0 in
    let all = each_takes range_bytes is_range 4 range_takes slots parts.1 in
    omega (arith, count, all)

-- a label takes some two thousand bytes at most
pub label_takes : (is_so : ℕ → Bool) (pieces : ℕ) → pieces ≤ 32 → (l : ℕ × Frame)
    → IsTrue ((label is_so pieces).fits l) → length (label_bytes l) ≤ 2254
label_takes is_so pieces few l fits =
    let f = l.1 in
    let live = live_slots f.slots in
    let d = and_parts (is_so l.0 && nat_lt l.0 (2 ^ 16)) (is_frame pieces f) fits in
    let c = and_parts (is_tray f.tray && is_set_of pieces f.grip && are_slots f.slots)
    (is_frame_rest pieces live f) d.1 in
    let b = and_parts (is_tray f.tray && is_set_of pieces f.grip) (are_slots f.slots) c.0 in
    let parts = and_parts (length f.slots == SLOTS) (list_all is_range f.slots) b.1 in
    let count = eqb-true (length f.slots) SLOTS parts.0 in
    let mapped = length-map f.slots is_some in
    let slots = slots_take f.slots b.1 in
    let rest = rest_takes live (omega (arith, count, mapped)) pieces few f c.1 in
    all_take l.0 f.tray f.grip (slots_bytes f.slots) (frame_rest live f) slots rest
