-- What is decoded from the bytes of forms and places is what they spell.
use Rattle.std.proofs.Common.{◌≡◌, ℕ, zero, suc, ◌+◌, ◌*◌, ◌<◌, ◌≤◌, ◌==◌, ℤ, pos, neg_ℤ, Bool, true, false, IsTrue, List, [], ◌∷◌, ◌++◌, length, flat_map, take, drop, inl, inr, refl, sym, ap, ◌∙◌, subst, arith, append_assoc, take-append-drop, length-take-le, length-drop, ne_eqb}
use Rattle.std.specs.List.{list_all}
use Rattle.std.specs.Int.{w16, w32, cast_signed, cast_unsigned}
use Rattle.std.proofs.Math.Seq.{drop-append_seam}
use Rattle.std.proofs.lemmas.Bool.{and_parts, and_from, false≢true}
use Rattle.byteorder.specs.Endian.{big_number}
use Rattle.byteorder.specs.Numbers.{big_number-reads_back}
use Rattle.burr_text.proofs.Common.Decisions.{Decided, decide_at_most}
use Rattle.burr_code.specs.Instruction.{signed_word}
use Rattle.burr_code.specs.declared.placement.Placement.{Placement}
use Rattle.burr_code.specs.declared.placement.Placement.TheVariants.{Apart, On}
use Rattle.burr_forms.specs.Rules.Forms.{Form}
use Rattle.burr_container.specs.declared.fault.ContainerFault.TheVariants.{C1}
use Rattle.burr_container.specs.Rules.Plans.{FormCell, of_live}
use Rattle.burr_container.specs.Rules.Spelling.{form_size, form_bytes, place_bytes}
use Rattle.burr_container.specs.Rules.Fitting.{are_coefficients, is_form, is_place}
use Rattle.burr_container.specs.Rules.Faults.{form, each}
use Rattle.burr_container.specs.Views.Decoding.{signed_in, coefs_in, form_in, forms_in, place_by, place_in, rest_by, place_rest, places_in}
use Rattle.burr_container.proofs.Common.Spelled.{is_word, is_long, long_bytes, between, word_small, word_back, long_small, long_back}
use Rattle.burr_container.proofs.Common.FormSpelling.{zero_only, tray_small, on_parts}
use Rattle.burr_container.proofs.Common.Places.{form_length}
use Rattle.burr_container.proofs.Common.Lists.{OfEach}
use Rattle.burr_container.proofs.Common.Judging.Fronts.{AreSmall, small_parts}
use Rattle.burr_container.proofs.Common.Judging.Places.{form_read}
use Rattle.burr_container.proofs.Common.Judging.Lists.{one_more_fails}
use Rattle.burr_container.proofs.PlaceWalk.{after}

word_decoded : (n : ℤ) (r : List ℕ) → IsTrue (is_word n) → signed_in (signed_word n ++ r) ≡ n
word_decoded n r fits =
    let range = between (neg_ℤ (pos 32768)) (pos 32767) n fits in
    ap (cast_signed w16)
    (big_number-reads_back 2 (cast_unsigned w16 n) r (word_small n range.0 range.1))
    ∙ word_back n range.0 range.1

constant_decoded : (n : ℤ) (r : List ℕ) → IsTrue (is_long n)
    → cast_signed w32 (big_number 4 (long_bytes n ++ r)) ≡ n
constant_decoded n r fits =
    let range = between (neg_ℤ (pos 2147483648)) (pos 2147483647) n fits in
    ap (cast_signed w32)
    (big_number-reads_back 4 (cast_unsigned w32 n) r (long_small n range.0 range.1))
    ∙ long_back n range.0 range.1

coefs_decoded : (live : List Bool) (cs : List ℤ) (r : List ℕ) → IsTrue (are_coefficients live cs)
    → coefs_in live (flat_map signed_word (of_live live cs) ++ r) ≡ cs
coefs_decoded [] [] r fits = refl
coefs_decoded [] (c ∷ cs) r fits = absurd (false≢true fits)
coefs_decoded (l ∷ live) [] r fits = absurd (false≢true fits)
coefs_decoded (true ∷ live) (c ∷ cs) r fits =
    let both = and_parts _ (are_coefficients live cs) fits in
    let rest = flat_map signed_word (of_live live cs) ++ r in
    let more = coefs_decoded live cs r both.1 in
    let first = word_decoded c rest both.0 in
    λ i. first i ∷ more i
coefs_decoded (false ∷ live) (c ∷ cs) r fits =
    let both = and_parts _ (are_coefficients live cs) fits in
    let more = coefs_decoded live cs r both.1 in
    let none = sym (zero_only c both.0) in
    λ i. none i ∷ more i

pub form_decoded : (live : List Bool) (f : Form) (r : List ℕ) → IsTrue (is_form live f)
    → form_in live (form_bytes live f ++ r) ≡ f
form_decoded live f r fits =
    let both = and_parts _ (are_coefficients live f.coefs) fits in
    let constant =
    constant_decoded f.constant (flat_map signed_word (of_live live f.coefs) ++ r) both.0 in
    let coefs = coefs_decoded live f.coefs r both.1 in
    λ i. record { constant = constant i; coefs = coefs i }

-- what is after a form
pub after_form : (live : List Bool) (f : Form) (r : List ℕ) → IsTrue (is_form live f)
    → drop (form_size live) (form_bytes live f ++ r) ≡ r
after_form live f r fits =
    ap (λ (n : ℕ). drop n (form_bytes live f ++ r)) (sym (form_length live f fits))
    ∙ drop-append_seam (form_bytes live f) r

-- Places

apart_cell : (x y z r : List ℕ) → (x ++ y ++ z) ++ r ≡ x ++ (y ++ (z ++ r))
apart_cell x y z r = simp append_assoc

on_decoded : (apart : Bool) (live : List Bool) (tray : ℕ) (at : FormCell) (r bytes : List ℕ)
    → apart ≡ false → IsTrue (is_form live at.x) → IsTrue (is_form live at.y)
    → IsTrue (is_form live at.z)
    → bytes ≡ form_bytes live at.x ++ (form_bytes live at.y ++ (form_bytes live at.z ++ r))
    → (place_by apart live tray bytes ≡ On tray at) × (drop (rest_by apart live) bytes ≡ r)
on_decoded true live tray at r bytes e x y z is = absurd (cc)
on_decoded false live tray at r bytes e x y z is =
    let size = form_size live in
    let after_y = form_bytes live at.z ++ r in
    let after_x = form_bytes live at.y ++ after_y in
    let to_y : drop size bytes ≡ after_x =
    ap (drop size) is ∙ after_form live at.x after_x x in
    let to_z : drop size (drop size bytes) ≡ after_y =
    ap (drop size) to_y ∙ after_form live at.y after_y y in
    let to_end : drop size (drop size (drop size bytes)) ≡ r =
    ap (drop size) to_z ∙ after_form live at.z r z in
    let first = ap (form_in live) is ∙ form_decoded live at.x after_x x in
    let second = ap (form_in live) to_y ∙ form_decoded live at.y after_y y in
    let third = ap (form_in live) to_z ∙ form_decoded live at.z r z in
    let twice : drop (size + size) bytes ≡ drop size (drop size bytes) = after size size bytes in
    let thrice : drop (size + size + size) bytes ≡ drop size (drop size (drop size bytes)) =
    after (size + size) size bytes ∙ ap (drop size) twice in
    let all : 3 * size ≡ size + size + size = omega arith in (
      λ i. On tray (record { x = first i; y = second i; z = third i }),
      ap (λ (n : ℕ). drop n bytes) all ∙ thrice ∙ to_end,
    )

-- a place is told by its first byte and what is after that
pub place_decoded : (live : List Bool) (p : Placement FormCell) (r : List ℕ)
    → IsTrue (is_place live p)
    → (first : ℕ) × (body : List ℕ) × (place_bytes live p ++ r ≡ first ∷ body)
    × (place_in live first body ≡ p) × (drop (place_rest live first) body ≡ r)
place_decoded live Apart r fits = (255, r, refl, refl, refl)
place_decoded live (On tray at) r fits =
    let parts = on_parts live tray at fits in
    let low = tray_small tray parts.0 in
    let on : (tray == 255) ≡ false = ne_eqb tray 255 (omega (arith, low)) in
    let body =
    (form_bytes live at.x ++ form_bytes live at.y ++ form_bytes live at.z) ++ r in
    let both =
    on_decoded (tray == 255) live tray at r body on parts.1 parts.2 parts.3
    (apart_cell (form_bytes live at.x) (form_bytes live at.y) (form_bytes live at.z) r) in
    (tray, body, refl, both.0, both.1)

pub places_decoded : (live : List Bool) (ps : List (Placement FormCell)) (r : List ℕ)
    → IsTrue (list_all (is_place live) ps)
    → places_in live (length ps) (flat_map (place_bytes live) ps ++ r) ≡ ps
places_decoded live [] r fits = refl
places_decoded live (p ∷ ps) r fits =
    let both = and_parts (is_place live p) (list_all (is_place live) ps) fits in
    let rest = flat_map (place_bytes live) ps ++ r in
    let apart : flat_map (place_bytes live) (p ∷ ps) ++ r ≡ place_bytes live p ++ rest =
    append_assoc (place_bytes live p) (flat_map (place_bytes live) ps) r in
    let here = place_decoded live p rest both.0 in
    let more =
    ap (places_in live (length ps)) here.4 ∙ places_decoded live ps r both.1 in
    ap (places_in live (suc (length ps))) (apart ∙ here.2) ∙ (λ i. here.3 i ∷ more i)

-- Forms in bytes

-- the form at the front of bytes that hold one
pub front_form : (live : List Bool) (bytes : List ℕ) → form_size live ≤ length bytes
    → AreSmall bytes
    → (f : Form) × (rest : List ℕ) × IsTrue (is_form live f) × (bytes ≡ form_bytes live f ++ rest)
    × (length bytes ≡ form_size live + length rest) × AreSmall rest
front_form live bytes long small =
    let size = form_size live in
    let cut : bytes ≡ take size bytes ++ drop size bytes = sym (take-append-drop size bytes) in
    let parts =
    small_parts (take size bytes) (drop size bytes)
    (subst (λ (all : List ℕ). AreSmall all) cut small) in
    let read = form_read live (take size bytes) (length-take-le size bytes long) parts.0 in (
      read.0,
      drop size bytes,
      read.1,
      cut ∙ ap (λ (front : List ℕ). front ++ drop size bytes) read.2,
      omega (arith, long, length-drop size bytes),
      parts.1,
    )

-- bytes that are as long as `count` forms are `count` forms
pub forms_there : (live : List Bool) (count : ℕ) (bytes : List ℕ)
    → length bytes ≡ count * form_size live → AreSmall bytes
    → OfEach count (form live) (forms_in live count bytes) bytes []
forms_there live zero [] size small = (refl, refl, refl)
forms_there live zero (b ∷ bytes) size small = absurd (omega (arith, size))
forms_there live (suc count) bytes size small =
    let all : length bytes ≡ form_size live + count * form_size live = omega (arith, size) in
    let here = front_form live bytes (omega (arith, all)) small in
    let left : length here.1 ≡ count * form_size live = omega (arith, all, here.4) in
    let more = forms_there live count here.1 left here.5 in
    let first : form_in live bytes ≡ here.0 =
    ap (form_in live) here.3 ∙ form_decoded live here.0 here.1 here.2 in
    let next : drop (form_size live) bytes ≡ here.1 =
    ap (drop (form_size live)) here.3 ∙ after_form live here.0 here.1 here.2 in
    let others = ap (forms_in live count) next in
    let made : OfEach (suc count) (form live) (here.0 ∷ forms_in live count here.1) bytes [] = (
      omega (arith, more.0),
      and_from (is_form live here.0) (list_all (is_form live) (forms_in live count here.1)) here.2
          more.1,
      here.3 ∙ ap (λ (rest : List ℕ). form_bytes live here.0 ++ rest) more.2
          ∙ sym (append_assoc (form_bytes live here.0)
          (flat_map (form_bytes live) (forms_in live count here.1)) []),
    ) in
    subst (λ (fs : List Form). OfEach (suc count) (form live) fs bytes [])
    (λ i. sym first i ∷ sym others i) made

short_by : (live : List Bool) (count at : ℕ) (bytes : List ℕ) → AreSmall bytes
    → length bytes < suc count * form_size live
    → ((at : ℕ) (rest : List ℕ) → AreSmall rest → length rest < count * form_size live
    → each count (form live) at rest (C1 (at + length rest)))
    → Decided (form_size live ≤ length bytes)
    → each (suc count) (form live) at bytes (C1 (at + length bytes))
short_by live count at bytes small short others (inr none) =
    one_more_fails (form live) count at bytes (C1 (at + length bytes)) (inl (inl (none, refl)))
short_by live count at bytes small short others (inl long) =
    let here = front_form live bytes long small in
    let size = form_length live here.0 here.2 in
    let left : length here.1 < count * form_size live = omega (arith, short, here.4) in
    let more = others (at + length (form_bytes live here.0)) here.1 here.5 left in
    let same : at + length (form_bytes live here.0) + length here.1 ≡ at + length bytes =
    omega (arith, size, here.4) in
    one_more_fails (form live) count at bytes (C1 (at + length bytes))
    (inr (
      here.0,
      here.1,
      here.2,
      here.3,
      subst
          (λ (n : ℕ). each count (form live) (at + length (form_bytes live here.0)) here.1 (C1 n))
          same more,
    ))

-- where there are too few bytes for `count` forms, these are cut short
pub forms_short : (live : List Bool) (count at : ℕ) (bytes : List ℕ) → AreSmall bytes
    → length bytes < count * form_size live
    → each count (form live) at bytes (C1 (at + length bytes))
forms_short live zero at bytes small short = absurd (omega (arith, short))
forms_short live (suc count) at bytes small short =
    short_by live count at bytes small short (forms_short live count)
    (decide_at_most (form_size live) (length bytes))
