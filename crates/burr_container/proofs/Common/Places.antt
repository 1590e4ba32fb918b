-- For crates above: forms and places are lawful parts.
use Rattle.std.proofs.Common.{◌≡◌, ℕ, ◌+◌, ◌<◌, ◌||◌, ◌==◌, ℤ, pos, Bool, true, false, IsTrue, nat_le, List, [], ◌∷◌, ◌++◌, length, flat_map, refl, ap, ◌∙◌, arith, append_assoc, append-nil, leb-true, ne_eqb}
use Rattle.std.specs.List.{list_all}
use Rattle.std.proofs.lemmas.Bool.{and_parts, and_from, or_right, false≢true, true≢false}
use Rattle.burr_code.specs.Instruction.{signed_word}
use Rattle.burr_code.specs.declared.placement.Placement.{Placement}
use Rattle.burr_code.specs.declared.placement.Placement.TheVariants.{Apart, On}
use Rattle.burr_forms.specs.Rules.Forms.{Form}
use Rattle.burr_container.specs.declared.fault.ContainerFault.TheVariants.{C4}
use Rattle.burr_container.specs.Rules.Plans.{FormCell, of_live}
use Rattle.burr_container.specs.Rules.Spelling.{form_size, form_bytes}
use Rattle.burr_container.specs.Rules.Fitting.{are_coefficients, is_form, is_tray}
use Rattle.burr_container.specs.Rules.Faults.{number, form, forms, place, passes, by_test, each}
use Rattle.burr_container.proofs.Common.FormSpelling.{one_form, tray_small, on_parts}
use Rattle.burr_container.proofs.Common.Lawful.{Front, Lawful, OfPart, OfFirst, OfNothing, Sound, first_lawful, lawful_as, passes_lawful}
use Rattle.burr_container.proofs.Common.Lists.{OfEach, each_lawful}
use Rattle.burr_container.proofs.Common.Fields.{field_sound, number_sound, of_byte}

coefficients_size : (live : List Bool) (cs : List ℤ) → IsTrue (are_coefficients live cs)
    → 4 + length (flat_map signed_word (of_live live cs)) ≡ form_size live
coefficients_size [] [] fits = refl
coefficients_size [] (c ∷ cs) fits = absurd (false≢true fits)
coefficients_size (l ∷ live) [] fits = absurd (false≢true fits)
coefficients_size (true ∷ live) (c ∷ cs) fits = let more =
    coefficients_size live cs (and_parts _ (are_coefficients live cs) fits).1 in omega (arith, more)
coefficients_size (false ∷ live) (c ∷ cs) fits = let more =
    coefficients_size live cs (and_parts _ (are_coefficients live cs) fits).1 in omega (arith, more)

pub form_length : (live : List Bool) (f : Form) → IsTrue (is_form live f)
    → length (form_bytes live f) ≡ form_size live
form_length live f fits =
    let size =
    coefficients_size live f.coefs (and_parts _ (are_coefficients live f.coefs) fits).1 in
    omega (arith, size)

pub form_sound : (live : List Bool) → Sound (form live)
form_sound live =
    field_sound (form_size live) C4 (λ _. true) (form_bytes live) (is_form live) (one_form live)
    (form_length live) (λ f fits. refl)

-- forms after their count
abbrev pub OfForms : ℕ → List Bool → Front (ℕ × List Form)
OfForms most live =
    OfFirst (number 1 C4 (λ count. nat_le count most)) (λ count. OfEach count (form live))

pub of_forms : (most : ℕ) (live : List Bool) → most < 256 → (fs : List Form) (bytes r : List ℕ)
    → OfPart (forms most live) fs bytes r
    → (both : ℕ × List Form) × (both.1 ≡ fs) × OfForms most live both bytes r
of_forms most live small fs bytes r here =
    let parts = and_parts (nat_le (length fs) most) (list_all (is_form live) fs) here.0 in
    let few = leb-true (length fs) most parts.0 in (
      (length fs, fs),
      refl,
      (
        flat_map (form_bytes live) fs ++ r,
        of_byte C4 (λ count. nat_le count most) (length fs) bytes
            (flat_map (form_bytes live) fs ++ r) (omega (arith, few, small)) parts.0 here.1,
        (refl, parts.1, refl),
      ),
    )

pub forms_sound : (most : ℕ) (live : List Bool) → most < 256 → Sound (forms most live)
forms_sound most live small =
    lawful_as (λ (both : ℕ × List Form). both.1) (OfPart (forms most live)) (OfForms most live)
    (forms most live).Fails (forms most live).Fails
    (of_forms most live small) (λ at bytes fault fails. fails)
    (first_lawful (number 1 C4 (λ count. nat_le count most)) (λ count. OfEach count (form live))
    (λ count. each count (form live)) (number_sound 1 C4 (λ count. nat_le count most))
    (λ count fits. each_lawful (form live) count (form_sound live)))

-- Places

-- what follows the first byte of a place: nothing, or three forms
abbrev pub OfPlaceRest : Bool → List Bool → Front (List Form)
OfPlaceRest true live fs bytes r = ([] ≡ fs) × (bytes ≡ r)
OfPlaceRest false live fs bytes r = OfEach 3 (form live) fs bytes r

place_rest_lawful : (apart : Bool) (live : List Bool)
    → Lawful (OfPlaceRest apart live) (by_test apart passes (each 3 (form live)))
place_rest_lawful true live =
    lawful_as (λ (u : Unit {0}). []) (OfPlaceRest true live) OfNothing passes passes
    (λ fs bytes r here. (tt, here.0, here.1)) (λ at bytes fault fails. fails) passes_lawful
place_rest_lawful false live = each_lawful (form live) 3 (form_sound live)

abbrev pub is_place_head : ℕ → Bool
is_place_head tray = (tray == 255) || is_tray tray

abbrev pub OfPlace : List Bool → Front (ℕ × List Form)
OfPlace live = OfFirst (number 1 C4 is_place_head) (λ tray. OfPlaceRest (tray == 255) live)

abbrev pub cell_of : List Form → FormCell
cell_of (x ∷ y ∷ z ∷ []) = record { x = x; y = y; z = z }
cell_of _ = let none : Form = record { constant = pos 0; coefs = [] } in
    record { x = none; y = none; z = none }

abbrev pub place_by : Bool → ℕ → List Form → Placement FormCell
place_by true tray fs = Apart
place_by false tray fs = On tray (cell_of fs)

abbrev pub place_of : ℕ × List Form → Placement FormCell
place_of both = place_by (both.0 == 255) both.0 both.1

on_made : (apart : Bool) (tray : ℕ) (at : FormCell) → apart ≡ false
    → place_by apart tray (at.x ∷ at.y ∷ at.z ∷ []) ≡ On tray at
on_made true tray at e = absurd (true≢false e)
on_made false tray at e = refl

rest_made : (apart : Bool) (live : List Bool) (fs : List Form) (bytes r : List ℕ) → apart ≡ false
    → OfEach 3 (form live) fs bytes r → OfPlaceRest apart live fs bytes r
rest_made true live fs bytes r e here = absurd (true≢false e)
rest_made false live fs bytes r e here = here

three_pieces : (x y z r : List ℕ) → (x ++ y ++ z) ++ r ≡ (x ++ (y ++ (z ++ []))) ++ r
three_pieces x y z r = simp (append_assoc, append-nil)

pub of_place : (live : List Bool) (place' : Placement FormCell) (bytes r : List ℕ)
    → OfPart (place live) place' bytes r
    → (both : ℕ × List Form) × (place_of both ≡ place') × OfPlace live both bytes r
of_place live Apart bytes r here = (
  (255, []),
  refl,
  (r, of_byte C4 is_place_head 255 bytes r (omega arith) refl here.1, (refl, refl)),
)
of_place live (On tray at) bytes r here =
    let parts = on_parts live tray at here.0 in
    let low = tray_small tray parts.0 in
    let on : (tray == 255) ≡ false = ne_eqb tray 255 (omega (arith, low)) in
    let fs = at.x ∷ at.y ∷ at.z ∷ [] in
    let rest = flat_map (form_bytes live) fs ++ r in
    let so : IsTrue (is_place_head tray) = or_right (tray == 255) (is_tray tray) parts.0 in
    let all : IsTrue (list_all (is_form live) fs) =
    and_from (is_form live at.x) _ parts.1
    (and_from (is_form live at.y) _ parts.2
    (and_from (is_form live at.z) true parts.3 refl)) in (
      (tray, fs),
      on_made (tray == 255) tray at on,
      (
        rest,
        of_byte C4 is_place_head tray bytes rest (omega (arith, low)) so
            (here.1
            ∙ ap (λ (rest : List ℕ). tray ∷ rest)
            (three_pieces (form_bytes live at.x) (form_bytes live at.y)
            (form_bytes live at.z) r)),
        rest_made (tray == 255) live fs rest r on (refl, all, refl),
      ),
    )

pub place_sound : (live : List Bool) → Sound (place live)
place_sound live =
    lawful_as place_of (OfPart (place live)) (OfPlace live) (place live).Fails (place live).Fails
    (of_place live) (λ at bytes fault fails. fails)
    (first_lawful (number 1 C4 is_place_head) (λ tray. OfPlaceRest (tray == 255) live)
    (λ tray. by_test (tray == 255) passes (each 3 (form live)))
    (number_sound 1 C4 is_place_head) (λ tray fits. place_rest_lawful (tray == 255) live))
