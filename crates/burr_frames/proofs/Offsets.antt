-- The forms of offsets, piece by piece.
use Rattle.std.proofs.Common.{◌≡◌, ℕ, ◌+◌, ◌<◌, ◌≤◌, List, [], ◌∷◌, ◌++◌, length, take, Bool, true, false, refl, sym, ap, subst, ◌∙◌, arith, slice_index_or}
use Rattle.std.specs.Prelude.{reverse, filter, if◌then◌else◌}
use Rattle.std.proofs.lemmas.List.{take_more, reverse-reverse, append-nil}
use Rattle.std.proofs.lemmas.List.Elements.{filter_more, All-nil, All-cons}
use Rattle.std.proofs.lemmas.List.Sorted.{All-permutation, IsPermutation-reverse}
use Rattle.burr_code.specs.declared.placement.Placement.{Placement}
use Rattle.burr_code.specs.declared.placement.Placement.TheVariants.{Apart, On}
use Rattle.burr_code.specs.Places.{is_in}
use Rattle.burr_forms.specs.Rules.Forms.{Form, IsSmallForm, AllSmallForms}
use Rattle.burr_container.specs.Rules.Plans.{FormCell}
use Rattle.burr_frames.specs.Rules.SpaceRules.{AllSmallPlaces}
use Rattle.burr_frames.specs.Views.Clearing.{offsets_in}
use Rattle.burr_frames.specs.Views.Comparing.{offset_forms}

pub offsets_push : (places : List (Placement FormCell)) (place : Placement FormCell)
    → offset_forms (places ++ place ∷ []) ≡ offset_forms places ++ offset_forms (place ∷ [])
offsets_push [] place = refl
offsets_push (Apart ∷ places) place = offsets_push places place
offsets_push (On tray c ∷ places) place = ap (λ (forms : List Form). c.x ∷ c.y ∷ c.z ∷ forms) (offsets_push places place)

-- the forms of the offsets up to piece p
pub offsets_more : (places : List (Placement FormCell)) (p : ℕ) (place : Placement FormCell) → p < length places
    → place ≡ slice_index_or places p place
    → offset_forms (take (p + 1) places) ≡ offset_forms (take p places) ++ offset_forms (place ∷ [])
offsets_more places p place l e =
    ap offset_forms (take_more places p place l ∙ ap (λ (x : Placement FormCell). take p places ++ x ∷ []) (sym e))
    ∙ offsets_push (take p places) place

pub three_at_most : (place : Placement FormCell) → length (offset_forms (place ∷ [])) ≤ 3
three_at_most Apart = omega arith
three_at_most (On tray c) = omega arith

-- the forms of offsets are small where those of the places are
pub small_offsets : (places : List (Placement FormCell)) → AllSmallPlaces places → AllSmallForms (offset_forms places)
small_offsets [] small = All-nil IsSmallForm
small_offsets (Apart ∷ places) small = small_offsets places small
small_offsets (On tray c ∷ places) small =
    All-cons IsSmallForm c.x (c.y ∷ c.z ∷ offset_forms places) small.0
    (All-cons IsSmallForm c.y (c.z ∷ offset_forms places) small.1
    (All-cons IsSmallForm c.z (offset_forms places) small.2 (small_offsets places small.3)))

-- forms that are small the other way round are small
pub small_reversed : (forms : List Form) → AllSmallForms (reverse forms) → AllSmallForms forms
small_reversed forms small =
    subst AllSmallForms (reverse-reverse forms)
    (All-permutation IsSmallForm (reverse forms) (reverse (reverse forms)) (IsPermutation-reverse (reverse forms)) small)

-- Those of a tray's pieces, one place more

module _ (tray : ℕ) (places : List (Placement FormCell)) (p : ℕ) (place : Placement FormCell)
    (l : p < length places) (is : place ≡ slice_index_or places p place) where
  abbrev Own : Bool → List (Placement FormCell)
  Own here = filter (is_in tray) (take p places) ++ (if here then place ∷ [] else [])

  one_place_more : (here : Bool) → is_in tray place ≡ here → filter (is_in tray) (take (p + 1) places) ≡ Own here
  one_place_more here e =
      filter_more (is_in tray) places p place l
      ∙ ap (λ (x : Placement FormCell). filter (is_in tray) (take p places) ++ (if is_in tray x then x ∷ [] else [])) (sym is)
      ∙ ap Own e

  pub one_here : is_in tray place ≡ true
      → offsets_in tray (take (p + 1) places) ≡ offsets_in tray (take p places) ++ offset_forms (place ∷ [])
  one_here e = ap offset_forms (one_place_more true e) ∙ offsets_push (filter (is_in tray) (take p places)) place

  pub one_past : is_in tray place ≡ false → offsets_in tray (take (p + 1) places) ≡ offsets_in tray (take p places)
  one_past e = ap offset_forms (one_place_more false e ∙ append-nil (filter (is_in tray) (take p places)))
