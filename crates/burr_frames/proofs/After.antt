-- The state after a call: whether there is room for its symbols, and whether its forms are small.
use Rattle.std.proofs.Common.{◌≡◌, ℕ, ◌<◌, ◌≤◌, ◌+◌, ◌-◌, ◌++◌, ◌∙◌, List, length, take, drop, map, ap, sym, subst, refl, arith}
use Rattle.std.specs.Prelude.{reverse}
use Rattle.std.proofs.lemmas.List.{length-append, length-map, drop_at, reverse-append}
use Rattle.std.proofs.lemmas.List.Elements.{All-append, All-drop, All-take}
use Rattle.burr_code.proofs.Common.Turned.{drop_reverse}
use Rattle.burr_frames.proofs.Offsets.{small_reversed}
use Rattle.burr_forms.specs.Rules.Forms.{Form, IsSmallForm, AllSmallForms, substituted}
use Rattle.burr_frames.specs.Rules.States.{AbstractState}
use Rattle.burr_frames.specs.Rules.FramedPlans.{FramedExit}
use Rattle.burr_frames.specs.Rules.SpaceRules.{AllSmallPlaces}
use Rattle.burr_frames.specs.Rules.ControlRules.{after_call, result_symbols, substituted_places, HasRoomForSymbols}
use Rattle.burr_frames.specs.Views.CallViews.{AreFewRanges, IsSmallAfter}

-- forms that are two small lists, one after the other
pub small_joined : (first second both given : List Form) → AllSmallForms first → AllSmallForms second → both ≡ first ++ second
    → given ≡ both → AllSmallForms given
small_joined first second both given small more is same = subst AllSmallForms (sym (same ∙ is)) (All-append IsSmallForm first second small more)

-- the operands that are left, the top last, and results after them
pub operands_left : (gone : ℕ) (items operands results joined : List Form) → reverse items ≡ operands
    → joined ≡ take (length items - gone) items ++ results → reverse joined ≡ reverse results ++ drop gone operands
operands_left gone items operands results joined same is =
    ap reverse is ∙ reverse-append (take (length items - gone) items) results
    ∙ ap (λ (xs : List Form). reverse results ++ xs) (sym (drop_reverse gone items) ∙ ap (drop gone) same)

pub small_left : (items lent : List Form) (left : ℕ) (results joined : List Form) → AllSmallForms (reverse items) → lent ≡ items
    → AllSmallForms results → joined ≡ take left lent ++ results → AllSmallForms joined
small_left items lent left results joined small same more is =
    subst AllSmallForms (sym is)
    (All-append IsSmallForm (take left lent) results
    (subst (λ (xs : List Form). AllSmallForms (take left xs)) (sym same) (All-take IsSmallForm left items (small_reversed items small))) more)

module _ (s : AbstractState) (arguments below : List Form) (exit : FramedExit) where
  -- the forms of the exit frame's symbols
  abbrev symbols : List Form
  symbols = arguments ++ result_symbols s exit

  abbrev state : AbstractState
  state = after_call s arguments below exit

  pub guards_many : length state.guards ≡ length s.guards + length exit.guards
  guards_many =
      length-append s.guards (map (substituted symbols) exit.guards)
      ∙ ap (λ n. length s.guards + n) (length-map exit.guards (substituted symbols))

  pub too_many_ranges : (¬ AreFewRanges (s.ranges ++ exit.results)) → ¬ HasRoomForSymbols state
  too_many_ranges none room = none (room.0, room.2)

  pub too_many_guards : 8 < length s.guards + length exit.guards → ¬ HasRoomForSymbols state
  too_many_guards more room = let few = room.1 in let many = guards_many in omega (arith, more, few, many)

  pub has_room : AreFewRanges (s.ranges ++ exit.results) → length s.guards + length exit.guards ≤ 8
      → HasRoomForSymbols state
  has_room ranges few = let many = guards_many in (ranges.0, omega (arith, few, many), ranges.1)

  pub large_places : (¬ AllSmallPlaces (substituted_places symbols exit.places)) → ¬ IsSmallAfter state
  large_places large small = large small.0

  pub large_guards : (¬ AllSmallForms (map (substituted symbols) exit.guards)) → ¬ IsSmallAfter state
  large_guards large small =
      large
      (subst AllSmallForms (drop_at s.guards (map (substituted symbols) exit.guards) (length s.guards) refl)
      (All-drop IsSmallForm (length s.guards) state.guards small.1))

  pub small_after : AllSmallForms s.guards → AllSmallPlaces (substituted_places symbols exit.places)
      → AllSmallForms (map (substituted symbols) exit.guards) → IsSmallAfter state
  small_after guards places more = (places, All-append IsSmallForm s.guards (map (substituted symbols) exit.guards) guards more)
