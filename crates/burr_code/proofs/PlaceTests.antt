-- What the tests of places come to.
use Rattle.std.proofs.Common.{◌≡◌, ◌↔◌, ◌<◌, ◌≤◌, ◌==◌, ℕ, List, length, Some, slice_get, sym, ap, ◌∙◌, arith, IsTrue}
use Rattle.std.proofs.lemmas.Bool.Decides.{nat_tests}
use Rattle.std.proofs.lemmas.Option.{same_Some, slice_get_within}
use Rattle.burr_text.proofs.Common.Tests.{no_iff}
use Rattle.burr_code.specs.PieceSets.{IsInSet}
use Rattle.burr_code.specs.declared.placement.Placement.{Placement}
use Rattle.burr_code.specs.declared.placement.Placement.TheVariants.{Apart, On}
use Rattle.burr_code.specs.Places.{LiesIn, HasRest, is_in}
use Rattle.burr_code.proofs.Common.Conditions.{apart-on, same_tray, lies_within}

-- One piece

same_trays : (t u : ℕ) → IsTrue (t == u) ↔ (t ≡ u)
same_trays t u = (λ yes. grind (arith, nat_tests), λ e. grind (arith, nat_tests))

-- a piece is in the tray where its place is
pub lies_by_test : {Position : Type 0} (places : List (Placement Position)) (p tray : ℕ) (place : Placement Position)
    → slice_get places p ≡ Some place → IsTrue (is_in tray place) ↔ LiesIn places p tray
lies_by_test places p tray Apart at =
    no_iff (λ lies. apart-on tray lies.0 (same_Some Apart (On tray lies.0) (sym at ∙ lies.1)))
lies_by_test {Position} places p tray (On t x) at = (
  λ yes. (x, at ∙ ap (λ (u : ℕ). Some (On u x)) ((same_trays t tray).0 yes)),
  λ lies. (same_trays t tray).1 (same_tray t tray x lies.0 (same_Some (On t x) (On tray lies.0) (sym at ∙ lies.1))),
)

-- a piece that has no place is in no tray
pub lies_nowhere : {Position : Type 0} (places : List (Placement Position)) (p tray : ℕ) → length places ≤ p
    → ¬ LiesIn places p tray
lies_nowhere places p tray far lies =
    let inside = slice_get_within places p (On tray lies.0) lies.1 in
    absurd (omega (arith, far, inside))

-- All pieces

-- each piece of the tray is in the group where each below the number of places is
pub none_left : {Position : Type 0} (places : List (Placement Position)) (tray group n : ℕ) → length places ≤ n
    → ((p : ℕ) → p < n → LiesIn places p tray → ¬ (¬ IsInSet group p)) → ¬ HasRest places tray group
none_left places tray group n all each (p, lies, rest) =
    let within = lies_within places p tray lies in
    each p (omega (arith, within, all)) lies rest
