-- The test of the guards at a point is true exactly where none is negative.
use Rattle.std.proofs.Common.{◌≡◌, Bool, true, false, not, List, refl, sym, arith, ◌≤ℤ◌, true≢false}
use Rattle.std.specs.Prelude.{ℤ, pos, int_lt}
use Rattle.std.proofs.lemmas.Int.{ints}
use Rattle.std.proofs.lemmas.List.Elements.{All-weaker}
use Rattle.std.proofs.lemmas.List.Sums.{AllPass-from_list_all, list_all-from_AllPass}
use Rattle.burr_forms.specs.Rules.Forms.{Form, Point, value}
use Rattle.burr_forms.specs.Rules.Points.{GuardsHold, guards_hold}

from_test : (x : ℤ) (b : Bool) → int_lt x (pos 0) ≡ b → not b ≡ true → pos 0 ≤ℤ x
from_test x true e h = absurd (true≢false (sym h))
from_test x false e h = omega (arith, ints)

to_test : (x : ℤ) (b : Bool) → int_lt x (pos 0) ≡ b → pos 0 ≤ℤ x → not b ≡ true
to_test x true e h = absurd (omega (arith, ints))
to_test x false e h = refl

module _ (guards : List Form) (point : Point) where
  pub hold_from_test : guards_hold guards point ≡ true → GuardsHold guards point
  hold_from_test e =
      All-weaker (λ g. not (int_lt (value point g) (pos 0)) ≡ true) (λ g. pos 0 ≤ℤ value point g)
      (λ g h. from_test (value point g) (int_lt (value point g) (pos 0)) refl h) guards
      (AllPass-from_list_all (λ g. not (int_lt (value point g) (pos 0))) guards e)

  pub test_from_hold : GuardsHold guards point → guards_hold guards point ≡ true
  test_from_hold h =
      list_all-from_AllPass (λ g. not (int_lt (value point g) (pos 0))) guards
      (All-weaker (λ g. pos 0 ≤ℤ value point g) (λ g. not (int_lt (value point g) (pos 0)) ≡ true)
      (λ g l. to_test (value point g) (int_lt (value point g) (pos 0)) refl l) guards h)
