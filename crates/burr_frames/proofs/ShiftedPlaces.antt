-- Places one by one: those of a group are shifted, and shifted back.
use Rattle.std.proofs.Common.{◌≡◌, ◌∙◌, ℕ, ℤ, suc, ◌+◌, ◌<◌, List, [], ◌∷◌, ◌++◌, Bool, true, false, length, drop, slice_index_or, refl, sym, ap, subst, arith}
use Rattle.std.specs.Prelude.{pos, ◌+ℤ◌, ◌-ℤ◌, ◌↔◌, if◌then◌else◌}
use Rattle.std.proofs.lemmas.Int.{ints}
use Rattle.std.proofs.lemmas.List.{drop_more}
use Rattle.burr_voxels.specs.declared.cell.Cell.{Cell}
use Rattle.burr_voxels.specs.declared.direction.Direction.{Direction}
use Rattle.burr_voxels.specs.Grid.{along, minus, origin}
use Rattle.burr_code.specs.declared.placement.Placement.{Placement}
use Rattle.burr_code.specs.declared.placement.Placement.TheVariants.{Apart, On}
use Rattle.std.proofs.lemmas.Bool.{cond_both}
use Rattle.burr_code.specs.PieceSets.{IsInSet, is_left_out}
use Rattle.burr_code.proofs.Common.PieceSets.{in_set, not_left_out}
use Rattle.burr_code.specs.Places.{changed, at_position}
use Rattle.burr_forms.specs.Rules.Forms.{Form, raised}
use Rattle.burr_container.specs.Rules.Plans.{FormCell}
use Rattle.burr_frames.specs.Rules.SpaceRules.{AllSmallPlaces, moved, moved_forms}
use Rattle.burr_frames.proofs.SmallPlaces.{small_after, small_append, small_first}

-- One place more

-- what is changed from a place on, the place first
pub changed_first : {Place : Type 0} (f : Place → Place) (group p : ℕ) (places : List Place) (place : Place) → p < length places
    → place ≡ slice_index_or places p place
    → changed f group p (drop p places) ≡ changed f group p (place ∷ []) ++ changed f group (p + 1) (drop (p + 1) places)
changed_first {Place} f group p places place l is =
    let more : p + 1 ≡ suc p = omega arith in
    ap (changed f group p) (drop_more places p place l ∙ ap (λ (x : Place). x ∷ drop (p + 1) places) (sym is))
    ∙ ap (λ (n : ℕ). changed f group p (place ∷ []) ++ changed f group n (drop (p + 1) places)) (sym more)

-- the places from one on are small where it is and those after it are
pub small_rest : (f : Placement FormCell → Placement FormCell) (group p : ℕ) (places : List (Placement FormCell))
    (place : Placement FormCell) → p < length places → place ≡ slice_index_or places p place
    → AllSmallPlaces (changed f group p (place ∷ []))
    → AllSmallPlaces (changed f group p (drop p places)) ↔ AllSmallPlaces (changed f group (p + 1) (drop (p + 1) places))
small_rest f group p places place l is here =
    let first = changed_first f group p places place l is in
    let rest = changed f group (p + 1) (drop (p + 1) places) in (
      λ all. small_after (changed f group p (place ∷ [])) rest (subst AllSmallPlaces first all),
      λ after. subst AllSmallPlaces (sym first) (small_append (changed f group p (place ∷ [])) rest here after),
    )

-- and it is small where all are
pub small_here : (f : Placement FormCell → Placement FormCell) (group p : ℕ) (places : List (Placement FormCell))
    (place : Placement FormCell) → p < length places → place ≡ slice_index_or places p place
    → AllSmallPlaces (changed f group p (drop p places)) → AllSmallPlaces (changed f group p (place ∷ []))
small_here f group p places place l is all =
    small_first _ _ (subst AllSmallPlaces (changed_first f group p places place l is) all)

-- a place is small once those of the group are changed
pub small_changed : (f : Placement FormCell → Placement FormCell) (group p : ℕ) (place : Placement FormCell)
    → (IsInSet group p → AllSmallPlaces (f place ∷ [])) → AllSmallPlaces (place ∷ []) → AllSmallPlaces (changed f group p (place ∷ []))
small_changed f group p place small stays =
    cond_both (is_left_out group p) place (f place) (λ (x : Placement FormCell). AllSmallPlaces (x ∷ [])) (λ out. stays)
    (λ inside. small (in_set group p inside))

-- and one of the group was small once it was changed
pub small_in_group : (f : Placement FormCell → Placement FormCell) (group p : ℕ) (place : Placement FormCell)
    → IsInSet group p → AllSmallPlaces (changed f group p (place ∷ [])) → AllSmallPlaces (f place ∷ [])
small_in_group f group p place inside small =
    subst (λ (out : Bool). AllSmallPlaces ((if out then place else f place) ∷ [])) (not_left_out group p inside) small

-- There and back

undone : (n there back : ℤ) → back ≡ pos 0 -ℤ there → (n +ℤ there) +ℤ back ≡ n
undone n there back opposite = omega (arith, ints, opposite)

raised_back : (f : Form) (there back : ℤ) → back ≡ pos 0 -ℤ there → raised back (raised there f) ≡ f
raised_back f there back opposite = λ i. record { constant = undone f.constant there back opposite i; coefs = f.coefs }

module _ (there back : Direction) (opposite : along back (pos 1) ≡ minus origin (along there (pos 1))) where
  forms_back : (c : FormCell) → moved_forms back (moved_forms there c) ≡ c
  forms_back c = λ i. record {
    x = raised_back c.x (along there (pos 1)).x (along back (pos 1)).x (ap (λ (u : Cell). u.x) opposite) i;
    y = raised_back c.y (along there (pos 1)).y (along back (pos 1)).y (ap (λ (u : Cell). u.y) opposite) i;
    z = raised_back c.z (along there (pos 1)).z (along back (pos 1)).z (ap (λ (u : Cell). u.z) opposite) i;
  }

  place_back : (out : Bool) (place : Placement FormCell)
      → (if out then (if out then place else at_position (moved_forms there) place)
      else at_position (moved_forms back) (if out then place else at_position (moved_forms there) place)) ≡ place
  place_back true place = refl
  place_back false Apart = refl
  place_back false (On tray c) = ap (On tray) (forms_back c)

  places_back : (group p : ℕ) (places : List (Placement FormCell))
      → changed (at_position (moved_forms back)) group p (changed (at_position (moved_forms there)) group p places) ≡ places
  places_back group p [] = refl
  places_back group p (place ∷ places) = λ i. place_back (is_left_out group p) place i ∷ places_back group (suc p) places i

  -- what is shifted there and back is as it was
  pub moved_back : (group : ℕ) (places : List (Placement FormCell)) → moved group back (moved group there places) ≡ places
  moved_back group places = places_back group 0 places
