-- For crates above: forms and places are spelled in one way over the same live slots.
use Rattle.std.proofs.Common.{◌≡◌, ℕ, ◌<◌, ◌&&◌, ℤ, pos, Bool, true, false, IsTrue, List, [], ◌∷◌, ◌++◌, flat_map, refl, sym, ◌∙◌, arith, ltb-true}
use Rattle.std.proofs.lemmas.Bool.{and_parts, false≢true}
use Rattle.std.proofs.lemmas.Int.{ints}
use Rattle.burr_text.proofs.Common.Cuts.{same_head, same_tail}
use Rattle.burr_code.specs.Instruction.{signed_word}
use Rattle.burr_code.specs.declared.placement.Placement.TheVariants.{Apart, On}
use Rattle.burr_forms.specs.Rules.Forms.{Form}
use Rattle.burr_container.specs.Rules.Plans.{FormCell, of_live}
use Rattle.burr_container.specs.Rules.Spelling.{form_bytes, place_bytes}
use Rattle.burr_container.specs.Rules.Fitting.{is_between, are_coefficients, is_form, is_tray, is_place}
use Rattle.burr_container.proofs.Common.Spelled.{OneSpelling, apart_three, between, one_word, one_long}

pub zero_only : (n : ℤ) → IsTrue (is_between (pos 0) (pos 0) n) → n ≡ pos 0
zero_only n test = let both = between (pos 0) (pos 0) n test in omega (arith, ints, both.0, both.1)

-- coefficients: those of the live slots are spelled, and the others are 0
one_coefficients : (live : List Bool) (xs ys : List ℤ) (r s : List ℕ)
    → IsTrue (are_coefficients live xs) → IsTrue (are_coefficients live ys)
    → flat_map signed_word (of_live live xs) ++ r ≡ flat_map signed_word (of_live live ys) ++ s
    → (xs ≡ ys) × (r ≡ s)
one_coefficients [] [] [] r s first second e = (refl, e)
one_coefficients [] [] (y ∷ ys) r s first second e = absurd (false≢true second)
one_coefficients [] (x ∷ xs) ys r s first second e = absurd (false≢true first)
one_coefficients (l ∷ live) [] ys r s first second e = absurd (false≢true first)
one_coefficients (l ∷ live) (x ∷ xs) [] r s first second e = absurd (false≢true second)
one_coefficients (true ∷ live) (x ∷ xs) (y ∷ ys) r s first second e =
    let here = and_parts _ (are_coefficients live xs) first in
    let also = and_parts _ (are_coefficients live ys) second in
    let head =
    one_word x y (flat_map signed_word (of_live live xs) ++ r)
    (flat_map signed_word (of_live live ys) ++ s) here.0 also.0 e in
    let tail = one_coefficients live xs ys r s here.1 also.1 head.1 in
    (λ i. head.0 i ∷ tail.0 i, tail.1)
one_coefficients (false ∷ live) (x ∷ xs) (y ∷ ys) r s first second e =
    let here = and_parts _ (are_coefficients live xs) first in
    let also = and_parts _ (are_coefficients live ys) second in
    let head : x ≡ y = zero_only x here.0 ∙ sym (zero_only y also.0) in
    let tail = one_coefficients live xs ys r s here.1 also.1 e in
    (λ i. head i ∷ tail.0 i, tail.1)

pub one_form : (live : List Bool) → OneSpelling (form_bytes live) (is_form live)
one_form live a b r s first second e =
    let here = and_parts _ (are_coefficients live a.coefs) first in
    let also = and_parts _ (are_coefficients live b.coefs) second in
    let constant =
    one_long a.constant b.constant (flat_map signed_word (of_live live a.coefs) ++ r)
    (flat_map signed_word (of_live live b.coefs) ++ s) here.0 also.0 e in
    let coefs = one_coefficients live a.coefs b.coefs r s here.1 also.1 constant.1 in
    (λ i. record { constant = constant.0 i; coefs = coefs.0 i }, coefs.1)

pub tray_small : (tray : ℕ) → IsTrue (is_tray tray) → tray < 32
tray_small tray test = ltb-true tray 32 test

-- what a place on a tray must be
pub on_parts : (live : List Bool) (tray : ℕ) (at : FormCell) → IsTrue (is_place live (On tray at))
    → IsTrue (is_tray tray) × IsTrue (is_form live at.x) × IsTrue (is_form live at.y)
    × IsTrue (is_form live at.z)
on_parts live tray at fits =
    let third =
    and_parts (is_tray tray && is_form live at.x && is_form live at.y) (is_form live at.z)
    fits in
    let second = and_parts (is_tray tray && is_form live at.x) (is_form live at.y) third.0 in
    let first = and_parts (is_tray tray) (is_form live at.x) second.0 in
    (first.0, first.1, second.1, third.1)

pub one_place : (live : List Bool) → OneSpelling (place_bytes live) (is_place live)
one_place live Apart Apart r s first second e = (refl, same_tail _ _ _ _ e)
one_place live Apart (On tray at) r s first second e =
    let here = tray_small tray (on_parts live tray at second).0 in
    let same : 255 ≡ tray = same_head _ _ _ _ e in
    absurd (omega (arith, here, same))
one_place live (On tray at) Apart r s first second e =
    let here = tray_small tray (on_parts live tray at first).0 in
    let same : tray ≡ 255 = same_head _ _ _ _ e in
    absurd (omega (arith, here, same))
one_place live (On tray at) (On other there) r s first second e =
    let a = on_parts live tray at first in
    let b = on_parts live other there second in
    let same : tray ≡ other = same_head _ _ _ _ e in
    let after =
    sym (apart_three (form_bytes live at.x) (form_bytes live at.y) (form_bytes live at.z) r)
    ∙ same_tail _ _ _ _ e
    ∙ apart_three (form_bytes live there.x) (form_bytes live there.y) (form_bytes live there.z) s in
    let x =
    one_form live at.x there.x (form_bytes live at.y ++ (form_bytes live at.z ++ r))
    (form_bytes live there.y ++ (form_bytes live there.z ++ s)) a.1 b.1 after in
    let y =
    one_form live at.y there.y (form_bytes live at.z ++ r) (form_bytes live there.z ++ s) a.2
    b.2 x.1 in
    let z = one_form live at.z there.z r s a.3 b.3 y.1 in
    (λ i. On (same i) (record { x = x.0 i; y = y.0 i; z = z.0 i }), z.1)
