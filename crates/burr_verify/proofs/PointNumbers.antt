-- Numbers of a state at a point: a slot more, and places that are small.
use Rattle.std.proofs.Common.{◌≡◌, ◌⊎◌, ◌<◌, ◌+◌, ℕ, zero, suc, ℤ, List, [], ◌∷◌, ◌++◌, length, get_or, Option, Some, None, refl, sym, ap, subst, ◌∙◌, inl, inr, arith}
use Rattle.std.specs.Prelude.{reverse, slice_set, slice_index_or}
use Rattle.std.proofs.lemmas.Bool.{cases_order}
use Rattle.std.proofs.lemmas.List.{get_or-set_same, get_or-set_other, map-append, reverse-append}
use Rattle.burr_code.specs.declared.placement.Placement.{Placement}
use Rattle.burr_code.specs.declared.placement.Placement.TheVariants.{Apart, On}
use Rattle.burr_forms.specs.Rules.Forms.{Form, Point, value, values}
use Rattle.burr_container.specs.Rules.Plans.{FormCell}
use Rattle.burr_container.specs.Views.Refs.{placement_view, IsSmallPlace}
use Rattle.burr_frames.specs.Rules.SpaceRules.{AllSmallPlaces}
use Rattle.burr_frames.specs.Rules.States.{AbstractState}
use Rattle.burr_verify.specs.declared.point_state.PointState.{PointState}
use Rattle.burr_verify.specs.Views.PointNumbers.{AreNumbersAt}

-- the slots as far as v are as wanted, and the next one is set so
pub one_more : (Wanted : ℕ → Option ℤ) (slots : List (Option ℤ)) (v : ℕ) (x : Option ℤ) → v < length slots → ((n : ℕ) → n < v → get_or slots n None ≡ Wanted n)
    → x ≡ Wanted v → (n : ℕ) → n < v + 1 → get_or (slice_set slots v x) n None ≡ Wanted n
one_more Wanted slots v x within first is n below = by_order (cases_order n v)
  where
    by_order : (n ≡ v) ⊎ ((n < v) ⊎ (v < n)) → get_or (slice_set slots v x) n None ≡ Wanted n
    by_order (inl same) = ap (λ (k : ℕ). get_or (slice_set slots v x) k None) same ∙ get_or-set_same slots v x None within ∙ is ∙ ap Wanted (sym same)
    by_order (inr (inl less)) = get_or-set_other slots v n x None (λ same. omega (arith, same, less)) ∙ first n less
    by_order (inr (inr more)) = absurd (omega (arith, more, below))

-- a place among small ones is small
pub small_place_at : (places : List (Placement FormCell)) (p : ℕ) (d : Placement FormCell) → AllSmallPlaces places → p < length places
    → AllSmallPlaces (slice_index_or places p d ∷ [])
small_place_at [] p d s l = absurd (omega (arith, l))
small_place_at (Apart ∷ places) zero d s l = tt
small_place_at (Apart ∷ places) (suc p) d s l = small_place_at places p d s (omega (arith, l))
small_place_at (On tray c ∷ places) zero d s l = (s.0, s.1, s.2, tt)
small_place_at (On tray c ∷ places) (suc p) d s l = small_place_at places p d s.3 (omega (arith, l))

-- a place more that is read
pub small_on : (places : List (Placement FormCell)) (read : Option (ℕ × Form × Form × Form)) → AllSmallPlaces places → IsSmallPlace read
    → AllSmallPlaces (places ++ placement_view read ∷ [])
small_on [] None s t = tt
small_on [] (Some at) s t = (t.0, t.1, t.2, tt)
small_on (Apart ∷ places) read s t = small_on places read s t
small_on (On tray c ∷ places) read s t = (s.0, s.1, s.2, small_on places read s.3 t)

-- values of forms, the other way round
pub reverse_values : (point : Point) (forms : List Form) → reverse (values point forms) ≡ values point (reverse forms)
reverse_values point [] = refl
reverse_values point (f ∷ forms) =
    reverse-append (value point f ∷ []) (values point forms) ∙ ap (λ (xs : List ℤ). xs ++ value point f ∷ []) (reverse_values point forms)
    ∙ sym (map-append (value point) (reverse forms) (f ∷ [])) ∙ sym (ap (λ (fs : List Form). values point fs) (reverse-append (f ∷ []) forms))

-- numbers at a point that is the same
pub at_same : (s : AbstractState) (here there : Point) (n : PointState) → here ≡ there → AreNumbersAt s here n → AreNumbersAt s there n
at_same s here there n same are = subst (λ (p : Point). AreNumbersAt s p n) same are
