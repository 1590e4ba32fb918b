-- Places whose forms are all small: one of them, more of them, and those after a group went aside.
use Rattle.std.proofs.Common.{◌==◌, ℕ, suc, ◌<◌, List, [], ◌∷◌, ◌++◌, length, slice_index_or, Some, None, Option, arith}
use Rattle.std.proofs.lemmas.Bool.{cond_both}
use Rattle.burr_code.specs.declared.placement.Placement.{Placement}
use Rattle.burr_code.specs.declared.placement.Placement.TheVariants.{Apart, On}
use Rattle.burr_code.specs.Places.{changed, to_tray, count_in, parted_in, parted, aside_places}
use Rattle.burr_forms.specs.Rules.Forms.{Form}
use Rattle.burr_container.specs.Rules.Plans.{FormCell}
use Rattle.burr_container.specs.Views.Refs.{placement_view, IsSmallPlace}
use Rattle.burr_frames.specs.Rules.SpaceRules.{AllSmallPlaces}
use Rattle.burr_frames.specs.Rules.States.{AbstractState}
use Rattle.burr_frames.specs.Views.StateViews.{IsSmallState}

-- One and more

pub small_place_at : (places : List (Placement FormCell)) (p : ℕ) (d : Placement FormCell) → AllSmallPlaces places
    → p < length places → AllSmallPlaces (slice_index_or places p d ∷ [])
small_place_at (Apart ∷ places) (suc p) d s l = small_place_at places p d s (omega (arith, l))
small_place_at (On tray c ∷ places) (suc p) d s l = small_place_at places p d s.3 (omega (arith, l))
small_place_at places p d s l = grind (arith, s, l)

pub small_append : (xs ys : List (Placement FormCell)) → AllSmallPlaces xs → AllSmallPlaces ys → AllSmallPlaces (xs ++ ys)
small_append [] ys s t = t
small_append (Apart ∷ xs) ys s t = small_append xs ys s t
small_append (On tray c ∷ xs) ys s t = (s.0, s.1, s.2, small_append xs ys s.3 t)

pub small_after : (xs ys : List (Placement FormCell)) → AllSmallPlaces (xs ++ ys) → AllSmallPlaces ys
small_after [] ys s = s
small_after (Apart ∷ xs) ys s = small_after xs ys s
small_after (On tray c ∷ xs) ys s = small_after xs ys s.3

pub small_first : (place : Placement FormCell) (places : List (Placement FormCell)) → AllSmallPlaces (place ∷ places)
    → AllSmallPlaces (place ∷ [])
small_first Apart places s = tt
small_first (On tray c) places s = (s.0, s.1, s.2, tt)

-- a place that is read
pub small_read : (place : Option (ℕ × Form × Form × Form)) → IsSmallPlace place → AllSmallPlaces (placement_view place ∷ [])
small_read None s = tt
small_read (Some at) s = (s.0, s.1, s.2, tt)

-- A group that went aside

small_changed : (tray group p : ℕ) (places : List (Placement FormCell)) → AllSmallPlaces places
    → AllSmallPlaces (changed (to_tray tray) group p places)
small_changed tray group p [] s = tt
small_changed tray group p (Apart ∷ places) s = grind (arith, small_changed tray group (suc p) places s)
small_changed tray group p (On t c ∷ places) s = grind (arith, small_changed tray group (suc p) places s.3, s)

small_parted_in : (t : ℕ) (places : List (Placement FormCell)) → AllSmallPlaces places → AllSmallPlaces (parted_in t places)
small_parted_in t [] s = tt
small_parted_in t (Apart ∷ places) s = small_parted_in t places s
small_parted_in t (On u c ∷ places) s = grind (arith, small_parted_in t places s.3, s)

small_parted : (t : ℕ) (places : List (Placement FormCell)) → AllSmallPlaces places → AllSmallPlaces (parted t places)
small_parted t places s =
    cond_both (count_in t places == 1) (parted_in t places) places AllSmallPlaces (λ lone. small_parted_in t places s) (λ kept. s)

pub small_aside : (group here there : ℕ) (places : List (Placement FormCell)) → AllSmallPlaces places
    → AllSmallPlaces (aside_places group here there places)
small_aside group here there places s =
    let gone = changed (to_tray there) group 0 places in
    small_parted there (parted here gone) (small_parted here gone (small_changed there group 0 places s))

-- a state with other places, its grip any
pub small_with_places : (s : AbstractState) (places : List (Placement FormCell)) (grip : ℕ) → IsSmallState s → AllSmallPlaces places
    → IsSmallState (record s { places = places; grip = grip })
small_with_places s places grip was small = record {
  ranges = was.ranges;
  guards = was.guards;
  slots = was.slots;
  operands = was.operands;
  places = small;
  cost = was.cost;
}
