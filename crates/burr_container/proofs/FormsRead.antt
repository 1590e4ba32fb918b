-- Reading forms and places.
use Rattle.std.proofs.Common.{◌≡◌, ℕ, ◌+◌, ◌*◌, ◌==◌, Bool, true, false, List, ◌++◌, length, flat_map, sym, ap, ◌∙◌, subst, arith, append-nil, length-append}
use Rattle.std.specs.Prelude.{nat_le}
use Rattle.std.proofs.lemmas.Bool.{and_parts}
use Rattle.burr_code.specs.declared.placement.Placement.{Placement}
use Rattle.burr_forms.specs.Rules.Forms.{Form}
use Rattle.burr_container.specs.declared.fault.ContainerFault.{ContainerFault}
use Rattle.burr_container.specs.declared.fault.ContainerFault.TheVariants.{C4}
use Rattle.burr_container.specs.declared.reading.cursor.Cursor.{Cursor}
use Rattle.burr_container.specs.Views.Cuts.{AreBytes, IsCut, IsShort}
use Rattle.burr_container.specs.Rules.Plans.{FormCell}
use Rattle.burr_container.specs.Rules.Spelling.{form_size, form_bytes, place_bytes}
use Rattle.burr_container.specs.Rules.Fitting.{is_form}
use Rattle.burr_container.specs.Rules.Faults.{number, form, forms, place, places, passes, by_test, each}
use Rattle.burr_container.specs.Views.Decoding.{form_in, forms_in, places_in}
use Rattle.burr_container.specs.Views.Reading.{IsAt}
use Rattle.burr_container.proofs.Common.Lists.{OfEach}
use Rattle.burr_container.proofs.Common.Places.{OfPlaceRest, is_place_head, place_of}
use Rattle.burr_container.proofs.Common.Judging.Places.{forms_back, place_back}
use Rattle.burr_container.proofs.Common.Judging.Frames.{places_back}
use Rattle.burr_container.proofs.Chains.{IsAfter, small_of, after_part, stands_at, then_fails, then_stands}
use Rattle.burr_container.proofs.Decoded.{forms_there, forms_short, places_decoded}

-- bytes that are as long as `count` forms, taken at the cursor, are `count` forms
pub forms_cut : (live : List Bool) (count : ℕ) (cursor next : Cursor) (bytes : List ℕ)
    → length bytes ≡ count * form_size live → AreBytes bytes
    → IsCut cursor.at cursor.rest.now bytes next.at next.rest.now
    → OfEach count (form live) (forms_in live count bytes) cursor.rest.now next.rest.now
forms_cut live count cursor next bytes size small cut =
    let there = forms_there live count bytes size (small_of bytes small) in (
      there.0,
      there.1,
      cut.parts
          ∙ ap (λ (front : List ℕ). front ++ next.rest.now)
          (there.2 ∙ append-nil (flat_map (form_bytes live) (forms_in live count bytes))),
    )

pub cut_after : (cursor next : Cursor) (bytes : List ℕ)
    → IsCut cursor.at cursor.rest.now bytes next.at next.rest.now → IsAfter cursor next
cut_after cursor next bytes cut =
    let size : length cursor.rest.now ≡ length bytes + length next.rest.now =
    ap (λ (all : List ℕ). length all) cut.parts ∙ length-append bytes next.rest.now in
    omega (arith, size, cut.moved)

-- where too few bytes are left for `count` forms, these are cut short
pub forms_cut_short : (live : List Bool) (count : ℕ) (cursor : Cursor) (fault : ContainerFault)
    → IsShort (count * form_size live) cursor.at cursor.rest.now fault
    → each count (form live) cursor.at cursor.rest.now fault
forms_cut_short live count cursor fault short =
    subst (λ (f : ContainerFault). each count (form live) cursor.at cursor.rest.now f)
    (sym short.named)
    (forms_short live count cursor.at cursor.rest.now
    (small_of cursor.rest.now cursor.bytes) short.fewer)

-- bytes that are as long as a form, taken at the cursor, are a form
pub form_at : (live : List Bool) (cursor next : Cursor) (bytes : List ℕ)
    → length bytes ≡ form_size live → AreBytes bytes
    → IsCut cursor.at cursor.rest.now bytes next.at next.rest.now
    → IsAt (form live) cursor (form_in live bytes) next
form_at live cursor next bytes size small cut =
    let one : length bytes ≡ 1 * form_size live = omega (arith, size) in
    let there = forms_cut live 1 cursor next bytes one small cut in
    stands_at (form live) cursor next (form_in live bytes) (
      (and_parts (is_form live (form_in live bytes)) true there.1).0,
      there.2
          ∙ ap (λ (front : List ℕ). front ++ next.rest.now)
          (append-nil (form_bytes live (form_in live bytes))),
    ) (cut_after cursor next bytes cut)

-- forms after their count
pub forms_at : (most : ℕ) (live : List Bool) (cursor next after : Cursor) (count : ℕ)
    (bytes : List ℕ) → IsAt (number 1 C4 (λ n. nat_le n most)) cursor count next
    → length bytes ≡ count * form_size live → AreBytes bytes
    → IsCut next.at next.rest.now bytes after.at after.rest.now
    → IsAt (forms most live) cursor (forms_in live count bytes) after
forms_at most live cursor next after count bytes head size small cut =
    let counted = number 1 C4 (λ n. nat_le n most) in
    let fs = forms_in live count bytes in
    let there = forms_cut live count next after bytes size small cut in
    stands_at (forms most live) cursor after fs
    (forms_back most live (count, fs) cursor.rest.now after.rest.now
    (small_of cursor.rest.now cursor.bytes)
    (then_stands counted cursor next count (λ count. OfEach count (form live)) fs
    after.rest.now head there))
    (cut_after next after bytes cut ∙ after_part counted cursor next count head)

pub forms_fail : (most : ℕ) (live : List Bool) (cursor next : Cursor) (count : ℕ)
    (fault : ContainerFault) → IsAt (number 1 C4 (λ n. nat_le n most)) cursor count next
    → IsShort (count * form_size live) next.at next.rest.now fault
    → (forms most live).Fails cursor.at cursor.rest.now fault
forms_fail most live cursor next count fault head short =
    then_fails (number 1 C4 (λ n. nat_le n most)) cursor next count
    (λ count. each count (form live)) fault head (forms_cut_short live count next fault short)

-- Places

rest_of_forms : (apart : Bool) (live : List Bool) (fs : List Form) (bytes r : List ℕ)
    → apart ≡ false → OfEach 3 (form live) fs bytes r → OfPlaceRest apart live fs bytes r
rest_of_forms true live fs bytes r e here = absurd (cc)
rest_of_forms false live fs bytes r e here = here

pub place_at : (live : List Bool) (cursor next after : Cursor) (tray : ℕ) (bytes : List ℕ)
    → IsAt (number 1 C4 is_place_head) cursor tray next → (tray == 255) ≡ false
    → length bytes ≡ 3 * form_size live → AreBytes bytes
    → IsCut next.at next.rest.now bytes after.at after.rest.now
    → (p : Placement FormCell) × IsAt (place live) cursor p after
place_at live cursor next after tray bytes head on size small cut =
    let fs = forms_in live 3 bytes in
    let there = forms_cut live 3 next after bytes size small cut in
    let body =
    rest_of_forms (tray == 255) live fs next.rest.now after.rest.now on there in (
      place_of (tray, fs),
      stands_at (place live) cursor after (place_of (tray, fs))
          (place_back live (tray, fs) cursor.rest.now after.rest.now
          (small_of cursor.rest.now cursor.bytes)
          (then_stands (number 1 C4 is_place_head) cursor next tray
          (λ tray. OfPlaceRest (tray == 255) live) fs after.rest.now head body))
          (cut_after next after bytes cut
          ∙ after_part (number 1 C4 is_place_head) cursor next tray head),
    )

fail_of_forms : (apart : Bool) (live : List Bool) (at : ℕ) (bytes : List ℕ)
    (fault : ContainerFault) → apart ≡ false → each 3 (form live) at bytes fault
    → by_test apart passes (each 3 (form live)) at bytes fault
fail_of_forms true live at bytes fault e fails = absurd (cc)
fail_of_forms false live at bytes fault e fails = fails

pub place_fails : (live : List Bool) (cursor next : Cursor) (tray : ℕ) (fault : ContainerFault)
    → IsAt (number 1 C4 is_place_head) cursor tray next → (tray == 255) ≡ false
    → IsShort (3 * form_size live) next.at next.rest.now fault
    → (place live).Fails cursor.at cursor.rest.now fault
place_fails live cursor next tray fault head on short =
    then_fails (number 1 C4 is_place_head) cursor next tray
    (λ tray. by_test (tray == 255) passes (each 3 (form live))) fault head
    (fail_of_forms (tray == 255) live next.at next.rest.now fault on
    (forms_cut_short live 3 next fault short))

-- places that stand one after the other are those that are decoded
pub places_at : (pieces : ℕ) (live : List Bool) (cursor next : Cursor)
    (ps : List (Placement FormCell)) → OfEach pieces (place live) ps cursor.rest.now next.rest.now
    → IsAfter cursor next
    → IsAt (places pieces live) cursor (places_in live pieces cursor.rest.now) next
places_at pieces live cursor next ps here after =
    let decoded : places_in live pieces cursor.rest.now ≡ ps =
    ap (places_in live pieces) here.2
    ∙ ap (λ (n : ℕ). places_in live n (flat_map (place_bytes live) ps ++ next.rest.now))
    (sym here.0)
    ∙ places_decoded live ps next.rest.now here.1 in
    subst (λ (p : List (Placement FormCell)). IsAt (places pieces live) cursor p next)
    (sym decoded)
    (stands_at (places pieces live) cursor next ps
    (places_back pieces live ps cursor.rest.now next.rest.now here, here.2) after)
