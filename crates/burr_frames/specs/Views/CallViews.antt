-- What the parts of a call say of the verdict.
use Rattle.std.specs.Prelude.{◌≡◌, ◌⊎◌, ◌≤◌, ℕ, ℤ, List, length, map, drop, reverse, Option, Some, None, MatchOption, Result, MatchResult, pos, ◌≤ℤ◌}
use Rattle.arrayvec.specs.ArrayVec.{ArrayVec}
use Rattle.burr_code.specs.Stacks.{top_many}
use Rattle.burr_forms.specs.declared.limits.TheConstants.{MOST_POINTS}
use Rattle.burr_forms.specs.Rules.Forms.{Form, Point, value, one_less, substituted, IsSmallForm, AllSmallForms}
use Rattle.burr_forms.specs.Rules.Points.{AreRanges, box_size}
use Rattle.burr_forms.specs.declared.form.FormTooLarge.{FormTooLarge}
use Rattle.burr_container.specs.Rules.Plans.{Range}
use Rattle.burr_frames.specs.declared.rule.Rule.TheVariants as rules
use Rattle.burr_frames.specs.declared.rule.Break.{Break}
use Rattle.burr_frames.specs.Rules.States.{AbstractState, Everywhere, IsFirstFailing}
use Rattle.burr_frames.specs.Views.Breaks.{broken_of, plain_break, break_at}
use Rattle.burr_frames.specs.Rules.SpaceRules.{AllSmallPlaces}
use Rattle.burr_frames.specs.Rules.ControlRules.{HasRoomForSymbols, left_of, first_forms}

-- Paying for a callee

-- the forms of what is paid are small: the callee's cost, the cost one less, and what is left
pub record IsSmallPrice (s : AbstractState) (callee_cost : Form) : Type 0 where
  pub callee : IsSmallForm callee_cost
  pub less : IsSmallForm (one_less s.cost)
  pub rest : IsSmallForm (left_of s.cost callee_cost)

-- a step and the callee's cost are paid for
pub record IsPaidBeside (s : AbstractState) (callee_cost cost : Form) : Type 0 where
  pub is : cost ≡ left_of s.cost callee_cost
  pub small : IsSmallPrice s callee_cost
  pub enough : Everywhere s (λ point. pos 0 ≤ℤ value point (left_of s.cost callee_cost))

-- they can't be paid for, and the break says why
abbrev pub CannotPayBeside : AbstractState → Form → Break → Type 0
CannotPayBeside s callee_cost b =
    ((¬ IsSmallPrice s callee_cost) × (broken_of b ≡ plain_break rules.FormTooLarge))
    ⊎ (IsSmallPrice s callee_cost × (point : Point)
    × IsFirstFailing s (λ x. pos 0 ≤ℤ value x (left_of s.cost callee_cost)) point
    × (broken_of b ≡ break_at rules.CostTooLow point))

-- Arguments, parameters and results

-- the topmost `count` operands, the bottom first, all of them small; or there are fewer
abbrev pub GivesTopmost : ℕ → List Form → Option (ArrayVec Form) → Type 0
GivesTopmost count operands result =
    MatchOption result (top_many count operands ≡ None)
    (λ forms. (top_many count operands ≡ Some (reverse forms.items, drop count operands))
    × (length forms.items ≡ count) × AllSmallForms forms.items)

-- the forms in the first `count` slots, all of them small; or nothing is known of one of the slots
abbrev pub GivesFirstForms : ℕ → List (Option Form) → Option (ArrayVec Form) → Type 0
GivesFirstForms count slots result =
    MatchOption result (first_forms count slots ≡ None)
    (λ forms. (first_forms count slots ≡ Some forms.items) × (length forms.items ≡ count)
    × AllSmallForms forms.items)

-- After a call

-- the places and the guards after a call are small
abbrev pub IsSmallAfter : AbstractState → Type 0
IsSmallAfter after = AllSmallPlaces after.places × AllSmallForms after.guards

-- there is no state after the call, and the break says why
abbrev pub CannotGoAfter : AbstractState → Break → Type 0
CannotGoAfter after b =
    ((¬ HasRoomForSymbols after) × (broken_of b ≡ plain_break rules.StateTooLarge))
    ⊎ (HasRoomForSymbols after × (¬ IsSmallAfter after) × (broken_of b ≡ plain_break rules.FormTooLarge))

-- the state after a call, which has room for its symbols, places and guards small; or how not
abbrev pub GivesAfter : AbstractState → Result AbstractState Break → Type 0
GivesAfter after result =
    MatchResult result
    (λ state. (state ≡ after) × HasRoomForSymbols after × IsSmallAfter after)
    (CannotGoAfter after)

-- the ranges, where they and their points are few; or they are not
abbrev pub AreFewRanges : List Range → Type 0
AreFewRanges ranges = (length ranges ≤ 8) × (box_size ranges ≤ MOST_POINTS)

abbrev pub GivesRanges : List Range → Option (ArrayVec (ℤ × ℤ)) → Type 0
GivesRanges ranges result =
    MatchOption result (¬ AreFewRanges ranges)
    (λ given. (given.items ≡ ranges) × AreFewRanges ranges × AreRanges ranges)

-- forms with others in place of their symbols, all small; or one of them is not
abbrev pub GivesSubstituted : List Form → List Form → Result (ArrayVec Form) FormTooLarge → Type 0
GivesSubstituted symbols forms result =
    MatchResult result
    (λ given. (given.items ≡ map (substituted symbols) forms) × AllSmallForms given.items)
    (λ _. ¬ AllSmallForms (map (substituted symbols) forms))
