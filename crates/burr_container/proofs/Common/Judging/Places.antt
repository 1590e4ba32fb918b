-- For crates above: bytes have forms, or a place, at their front, or fail to.
use Rattle.std.proofs.Common.{◌≡◌, ℕ, ◌+◌, ◌≤◌, ◌&&◌, ◌||◌, ◌==◌, ℤ, pos, Bool, true, false, IsTrue, nat_le, List, [], ◌∷◌, ◌++◌, length, flat_map, take, drop, refl, sym, ap, ◌∙◌, subst, arith, append_assoc, append-nil, eqb-true, take-append-drop, length-take-le, length-drop}
use Rattle.std.specs.List.{list_all}
use Rattle.std.proofs.lemmas.Bool.{and_parts, and_from}
use Rattle.byteorder.specs.Endian.{big_number, twos_complement}
use Rattle.burr_code.specs.Instruction.{signed_word}
use Rattle.burr_forms.specs.Rules.Forms.{Form}
use Rattle.burr_container.specs.declared.fault.ContainerFault.TheVariants.{C4}
use Rattle.burr_container.specs.Rules.Plans.{of_live}
use Rattle.burr_container.specs.Rules.Spelling.{form_size, form_bytes}
use Rattle.burr_container.specs.Rules.Fitting.{are_coefficients, is_form, is_tray}
use Rattle.burr_container.specs.Rules.Faults.{number, form, forms, place, passes, by_test, each}
use Rattle.burr_container.proofs.Common.Spelled.{is_word, is_long, long_bytes}
use Rattle.burr_container.proofs.Common.Fields.{byte_back}
use Rattle.burr_container.proofs.Common.Lawful.{OfPart, OfNothing}
use Rattle.burr_container.proofs.Common.Lists.{OfEach}
use Rattle.burr_container.proofs.Common.Places.{OfForms, OfPlaceRest, is_place_head, OfPlace, place_by, place_of}
use Rattle.burr_container.proofs.Common.Judging.Fronts.{AreSmall, small_parts, Judged, JudgedPart, first_judged, judged_as, passes_judged}
use Rattle.burr_container.proofs.Common.Judging.Fields.{field_judged, number_judged, digits_1, word_read, long_read}
use Rattle.burr_container.proofs.Common.Judging.Lists.{each_judged}

form_size_least : (live : List Bool) → 4 ≤ form_size live
form_size_least [] = omega arith
form_size_least (true ∷ live) = let more = form_size_least live in omega (arith, more)
form_size_least (false ∷ live) = let more = form_size_least live in omega (arith, more)

-- coefficients read from their bytes
coefficients_read : (live : List Bool) (bytes : List ℕ) → 4 + length bytes ≡ form_size live
    → AreSmall bytes
    → (cs : List ℤ) × IsTrue (are_coefficients live cs)
    × (bytes ≡ flat_map signed_word (of_live live cs))
coefficients_read [] [] size small = ([], refl, refl)
coefficients_read [] (b ∷ bytes) size small = absurd (omega (arith, size))
coefficients_read (true ∷ live) [] size small = absurd (omega (arith, size, form_size_least live))
coefficients_read (true ∷ live) (a ∷ []) size small =
    absurd (omega (arith, size, form_size_least live))
coefficients_read (true ∷ live) (a ∷ b ∷ bytes) size small =
    let more = coefficients_read live bytes (omega (arith, size)) small.1.1 in
    let word = word_read (a ∷ b ∷ []) refl (small.0, (small.1.0, tt)) in
    let n = twos_complement 2 (big_number 2 (a ∷ b ∷ [])) in (
      n ∷ more.0,
      and_from (is_word n) (are_coefficients live more.0) word.0 more.1,
      ap (λ (front : List ℕ). front ++ bytes) word.1
          ∙ ap (λ (rest : List ℕ). signed_word n ++ rest) more.2,
    )
coefficients_read (false ∷ live) bytes size small =
    let more = coefficients_read live bytes (omega (arith, size)) small in
    (pos 0 ∷ more.0, more.1, more.2)

pub form_read : (live : List Bool) (bytes : List ℕ) → length bytes ≡ form_size live → AreSmall bytes
    → (f : Form) × IsTrue (is_form live f) × (bytes ≡ form_bytes live f)
form_read live bytes size small =
    let least = form_size_least live in
    let long : 4 ≤ length bytes = omega (arith, size, least) in
    let cut : bytes ≡ take 4 bytes ++ drop 4 bytes = sym (take-append-drop 4 bytes) in
    let parts =
    small_parts (take 4 bytes) (drop 4 bytes)
    (subst (λ (all : List ℕ). AreSmall all) cut small) in
    let constant = long_read (take 4 bytes) (length-take-le 4 bytes long) parts.0 in
    let coefs =
    coefficients_read live (drop 4 bytes) (omega (arith, length-drop 4 bytes, size, long))
    parts.1 in
    let n = twos_complement 4 (big_number 4 (take 4 bytes)) in (
      record { constant = n; coefs = coefs.0 },
      and_from (is_long n) (are_coefficients live coefs.0) constant.0 coefs.1,
      cut ∙ ap (λ (front : List ℕ). front ++ drop 4 bytes) constant.1
          ∙ ap (λ (rest : List ℕ). long_bytes n ++ rest) coefs.2,
    )

pub form_judged : (live : List Bool) → JudgedPart (form live)
form_judged live =
    field_judged (form_size live) C4 (λ _. true) (form_bytes live) (is_form live)
    (λ front size small so. form_read live front size small)

pub forms_back : (most : ℕ) (live : List Bool) (both : ℕ × List Form) (bytes r : List ℕ)
    → AreSmall bytes → OfForms most live both bytes r → OfPart (forms most live) both.1 bytes r
forms_back most live both bytes r small here =
    let head = byte_back C4 (λ count. nat_le count most) both.0 bytes here.0 here.1 in (
      and_from (nat_le (length both.1) most) (list_all (is_form live) both.1)
          (subst (λ n. IsTrue (nat_le n most)) (sym here.2.0) head.0) here.2.1,
      head.1 ∙ ap (λ n. n ∷ here.0) (sym here.2.0)
          ∙ ap (λ (rest : List ℕ). length both.1 ∷ rest) here.2.2,
    )

pub forms_judged : (most : ℕ) (live : List Bool) → JudgedPart (forms most live)
forms_judged most live =
    judged_as (λ (both : ℕ × List Form). both.1) (OfPart (forms most live)) (OfForms most live)
    (forms most live).Fails (forms most live).Fails
    (forms_back most live) (λ at bytes fault fails. fails)
    (first_judged (number 1 C4 (λ count. nat_le count most)) (λ count. OfEach count (form live))
    (λ count. each count (form live)) (number_judged 1 C4 (λ count. nat_le count most) digits_1)
    (λ count fits. each_judged (form live) count (form_judged live)))

-- Places

place_rest_judged : (apart : Bool) (live : List Bool)
    → Judged (OfPlaceRest apart live) (by_test apart passes (each 3 (form live)))
place_rest_judged true live =
    judged_as (λ (u : Unit {0}). []) (OfPlaceRest true live) OfNothing passes passes
    (λ u bytes r small here. (refl, here)) (λ at bytes fault fails. fails) passes_judged
place_rest_judged false live = each_judged (form live) 3 (form_judged live)

three_joined : (x y z r : List ℕ) → (x ++ (y ++ (z ++ []))) ++ r ≡ (x ++ y ++ z) ++ r
three_joined x y z r = simp (append_assoc, append-nil)

-- a place of three forms on a tray
on_back : (live : List Bool) (tray : ℕ) (fs : List Form) (bytes rest r : List ℕ)
    → IsTrue (is_tray tray) → bytes ≡ tray ∷ rest → OfEach 3 (form live) fs rest r
    → OfPart (place live) (place_by false tray fs) bytes r
on_back live tray [] bytes rest r on e here = absurd (omega (arith, here.0))
on_back live tray (x ∷ []) bytes rest r on e here = absurd (omega (arith, here.0))
on_back live tray (x ∷ y ∷ []) bytes rest r on e here = absurd (omega (arith, here.0))
on_back live tray (x ∷ y ∷ z ∷ v ∷ fs) bytes rest r on e here = absurd (omega (arith, here.0))
on_back live tray (x ∷ y ∷ z ∷ []) bytes rest r on e here =
    let a = and_parts (is_form live x) (list_all (is_form live) (y ∷ z ∷ [])) here.1 in
    let b = and_parts (is_form live y) (list_all (is_form live) (z ∷ [])) a.1 in
    let c = and_parts (is_form live z) true b.1 in (
      and_from (is_tray tray && is_form live x && is_form live y) (is_form live z)
          (and_from (is_tray tray && is_form live x) (is_form live y)
          (and_from (is_tray tray) (is_form live x) on a.0) b.0) c.0,
      e ∙ ap (λ (rest : List ℕ). tray ∷ rest)
          (here.2 ∙ three_joined (form_bytes live x) (form_bytes live y) (form_bytes live z) r),
    )

-- by whether the first byte is 255
place_by_back : (apart : Bool) (live : List Bool) (tray : ℕ) (fs : List Form)
    (bytes rest r : List ℕ) → (tray == 255) ≡ apart → IsTrue (is_place_head tray)
    → bytes ≡ tray ∷ rest
    → OfPlaceRest apart live fs rest r → OfPart (place live) (place_by apart tray fs) bytes r
place_by_back true live tray fs bytes rest r is head e here = (
  refl,
  e ∙ ap (λ n. n ∷ rest) (eqb-true tray 255 is)
      ∙ ap (λ (rest : List ℕ). 255 ∷ rest) here.1,
)
place_by_back false live tray fs bytes rest r is head e here =
    let on : IsTrue (is_tray tray) = subst (λ (b : Bool). IsTrue (b || is_tray tray)) is head in
    on_back live tray fs bytes rest r on e here

pub place_back : (live : List Bool) (both : ℕ × List Form) (bytes r : List ℕ) → AreSmall bytes
    → OfPlace live both bytes r → OfPart (place live) (place_of both) bytes r
place_back live both bytes r small here =
    let head = byte_back C4 is_place_head both.0 bytes here.0 here.1 in
    place_by_back (both.0 == 255) live both.0 both.1 bytes here.0 r refl head.0 head.1 here.2

pub place_judged : (live : List Bool) → JudgedPart (place live)
place_judged live =
    judged_as place_of (OfPart (place live)) (OfPlace live) (place live).Fails (place live).Fails
    (place_back live) (λ at bytes fault fails. fails)
    (first_judged (number 1 C4 is_place_head) (λ tray. OfPlaceRest (tray == 255) live)
    (λ tray. by_test (tray == 255) passes (each 3 (form live)))
    (number_judged 1 C4 is_place_head digits_1) (λ tray fits. place_rest_judged (tray == 255) live))
