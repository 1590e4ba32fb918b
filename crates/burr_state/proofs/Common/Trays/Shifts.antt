-- The positions of a group change.
use Rattle.std.proofs.Common.{◌≡◌, ◌⊎◌, ℕ, suc, ◌+◌, List, [], ◌∷◌, Some, refl, sym, ap, ◌∙◌, inl, inr, if◌then◌else◌, ◌==◌, length, pos}
use Rattle.std.specs.Prelude.{slice_get}
use Rattle.std.proofs.lemmas.Bool.{cond_both}
use Rattle.burr_text.proofs.Common.Decisions.{Decided}
use Rattle.burr_code.specs.PieceSets.{IsInSet, is_left_out}
use Rattle.burr_code.specs.declared.placement.Placement.{Placement}
use Rattle.burr_code.specs.declared.placement.Placement.TheVariants.{Apart, On}
use Rattle.burr_code.specs.Places.{LiesAt, LiesIn, at_position, changed, is_in, count_in}
use Rattle.burr_code.proofs.Common.PieceSets.{decide_bit}
use Rattle.burr_voxels.specs.declared.cell.Cell.{Cell}
use Rattle.burr_voxels.specs.declared.direction.Direction.{Direction}
use Rattle.burr_voxels.specs.Grid.{plus, along}
use Rattle.burr_state.specs.Rules.Space.{moved_places}
use Rattle.burr_state.specs.Views.Parts.{is_last, parts}
use Rattle.burr_code.proofs.Common.Conditions.{apart-on, same_tray, same_position}
use Rattle.burr_code.proofs.Common.Counts.{length-changed}
use Rattle.burr_state.proofs.Common.Trays.Counts.{changed_place, is_changed, is_kept, slice_get-changed, changed_back}

-- a position, and what it is afterwards
abbrev pub IsShifted : {Position : Type 0} → (Position → Position) → ℕ → ℕ → Position → Position → Type 0
IsShifted f group p old new = (IsInSet group p × (new ≡ f old)) ⊎ ((¬ IsInSet group p) × (new ≡ old))

-- a piece that lies in a tray afterwards lay there
pub lay_before_shift : {Position : Type 0} (f : Position → Position) (group p tray : ℕ) (new : Position) (places : List (Placement Position))
    → LiesAt (changed (at_position f) group 0 places) p tray new → (old : Position) × LiesAt places p tray old × IsShifted f group p old new
lay_before_shift {Position} f group p tray new places lies =
    let was = changed_back (at_position f) group p places (On tray new) lies in
    by_place was.0 was.1 was.2 (decide_bit group p)
  where
    by_place : (place : Placement Position) → slice_get places p ≡ Some place → changed_place (at_position f) group p place ≡ On tray new → Decided (IsInSet group p)
        → (old : Position) × LiesAt places p tray old × IsShifted f group p old new
    by_place Apart found is (inl bit) = absurd (apart-on tray new (sym (is_changed (at_position f) group p Apart bit) ∙ is))
    by_place Apart found is (inr out) = absurd (apart-on tray new (sym (is_kept (at_position f) group p Apart out) ∙ is))
    by_place (On t old) found is (inl bit) =
        let same = sym (is_changed (at_position f) group p (On t old) bit) ∙ is in
        (old, found ∙ ap (λ u. Some (On u old)) (same_tray t tray (f old) new same), inl (bit, sym (same_position t tray (f old) new same)))
    by_place (On t old) found is (inr out) =
        let same = sym (is_kept (at_position f) group p (On t old) out) ∙ is in
        (old, found ∙ ap (λ u. Some (On u old)) (same_tray t tray old new same), inr (out, sym (same_position t tray old new same)))

-- a piece of the group lies at its new position afterwards, and any other where it lay
pub lies_at_shifted : {Position : Type 0} (f : Position → Position) (group p tray : ℕ) (position : Position) (places : List (Placement Position)) → IsInSet group p → LiesAt places p tray position
    → LiesAt (changed (at_position f) group 0 places) p tray (f position)
lies_at_shifted f group p tray position places bit lies =
    slice_get-changed (at_position f) group p places (On tray position) lies ∙ ap Some (is_changed (at_position f) group p (On tray position) bit)

pub lies_at_kept : {Position : Type 0} (f : Position → Position) (group p tray : ℕ) (position : Position) (places : List (Placement Position)) → (¬ IsInSet group p) → LiesAt places p tray position
    → LiesAt (changed (at_position f) group 0 places) p tray position
lies_at_kept f group p tray position places out lies =
    slice_get-changed (at_position f) group p places (On tray position) lies ∙ ap Some (is_kept (at_position f) group p (On tray position) out)

-- a piece stays in its tray
pub lies_after_shift : {Position : Type 0} (f : Position → Position) (group p tray : ℕ) (places : List (Placement Position)) → LiesIn places p tray → LiesIn (changed (at_position f) group 0 places) p tray
lies_after_shift f group p tray places lies =
    elim (decide_bit group p) [
      | inl bit ↦ (f lies.0, lies_at_shifted f group p tray lies.0 places bit lies.1)
      | inr out ↦ (lies.0, lies_at_kept f group p tray lies.0 places out lies.1)
    ]

is_in-at_position : {Position : Type 0} (f : Position → Position) (t : ℕ) (place : Placement Position) → is_in t (at_position f place) ≡ is_in t place
is_in-at_position f t Apart = refl
is_in-at_position f t (On u position) = refl

-- each tray has as many pieces as before
pub count_in-shift : {Position : Type 0} (f : Position → Position) (t group p : ℕ) (places : List (Placement Position)) → count_in t (changed (at_position f) group p places) ≡ count_in t places
count_in-shift f t group p [] = refl
count_in-shift {Position} f t group p (place ∷ places) =
    let here : is_in t (changed_place (at_position f) group p place) ≡ is_in t place =
    cond_both (is_left_out group p) place (at_position f place) (λ (x : Placement Position). is_in t x ≡ is_in t place) (λ out. refl) (λ bit. is_in-at_position f t place) in
    ap (λ b. (if b then 1 else 0) + count_in t (changed (at_position f) group (suc p) places)) here ∙ ap (λ n. (if is_in t place then 1 else 0) + n) (count_in-shift f t group (suc p) places)

-- a piece that is the last of its part is so still
last-shift : {Position : Type 0} (f : Position → Position) (group p : ℕ) (place : Placement Position) (places : List (Placement Position)) → is_last (at_position f place) (changed (at_position f) group p places) ≡ is_last place places
last-shift f group p Apart places = refl
last-shift f group p (On t position) places = ap (λ n. if n == 0 then 1 else 0) (count_in-shift f t group p places)

last-kept : {Position : Type 0} (f : Position → Position) (group p : ℕ) (place : Placement Position) (places : List (Placement Position)) → is_last place (changed (at_position f) group p places) ≡ is_last place places
last-kept f group p Apart places = refl
last-kept f group p (On t position) places = ap (λ n. if n == 0 then 1 else 0) (count_in-shift f t group p places)

-- the pieces are in as many parts as before
pub parts-shift : {Position : Type 0} (f : Position → Position) (group p : ℕ) (places : List (Placement Position)) → parts (changed (at_position f) group p places) ≡ parts places
parts-shift f group p [] = refl
parts-shift {Position} f group p (place ∷ places) =
    let rest = changed (at_position f) group (suc p) places in
    let here : is_last (changed_place (at_position f) group p place) rest ≡ is_last place places =
    cond_both (is_left_out group p) place (at_position f place) (λ (x : Placement Position). is_last x rest ≡ is_last place places) (λ out. last-kept f group (suc p) place places) (λ bit. last-shift f group (suc p) place places) in
    ap (λ n. n + parts rest) here ∙ ap (λ n. is_last place places + n) (parts-shift f group (suc p) places)

-- there are as many places
pub length-moved : (group : ℕ) (direction : Direction) (places : List (Placement Cell)) → length (moved_places group direction places) ≡ length places
length-moved group direction places = length-changed (at_position (λ (o : Cell). plus o (along direction (pos 1)))) group 0 places
