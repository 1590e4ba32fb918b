-- Pieces that are alone in their trays.
use Rattle.std.proofs.Common.{◌≡◌, ◌≢◌, ◌≤◌, ◌+◌, ◌==◌, ℕ, suc, List, [], ◌∷◌, Option, Some, None, sym, ap, ◌∙◌, subst, arith}
use Rattle.std.specs.Prelude.{slice_get, IsSomeAnd, if◌then◌else◌}
use Rattle.std.proofs.lemmas.Bool.Decides.{nat_tests}
use Rattle.std.proofs.lemmas.Option.{same_Some}
use Rattle.burr_code.specs.declared.placement.Placement.{Placement}
use Rattle.burr_code.specs.declared.placement.Placement.TheVariants.{Apart, On}
use Rattle.burr_code.specs.Places.{LiesIn, tray_of, count_in}
use Rattle.burr_container.specs.Rules.Plans.{FormCell}
use native.Mathlib.Decide.{ℕ_discrete}

one_elsewhere : (t tray count : ℕ) → ¬ (t ≡ tray) → 1 ≤ (if t == tray then 1 else 0) + count → 1 ≤ count
one_elsewhere t tray count other some = grind (arith, nat_tests)

-- where some are counted, some piece lies there
pub some_lies : (tray : ℕ) (places : List (Placement FormCell)) → 1 ≤ count_in tray places
    → (p : ℕ) × LiesIn places p tray
some_lies tray [] some = absurd (omega (arith, some))
some_lies tray (Apart ∷ places) some =
    let rest = some_lies tray places (omega (arith, some)) in (suc rest.0, rest.1)
some_lies tray (On t c ∷ places) some = elim (ℕ_discrete t tray) [
  | yes same ↦ (0, (c, ap (λ u. Some (On u c)) same))
  | no other ↦
      let rest = some_lies tray places (one_elsewhere t tray (count_in tray places) other some) in (suc rest.0, rest.1)
]

-- the piece that is there, and is not alone, is so in no tray
pub none_lone : (places : List (Placement FormCell)) (p : ℕ) (place : Placement FormCell) (found : Option ℕ)
    → slice_get places p ≡ Some place → found ≡ tray_of place → ¬ (IsSomeAnd found (λ t. count_in t places ≡ 1))
    → (tray : ℕ) → LiesIn places p tray → count_in tray places ≢ 1
none_lone places p place found at same none tray lies one =
    let is : found ≡ Some tray = same ∙ ap tray_of (same_Some place (On tray lies.0) (sym at ∙ lies.1)) in
    none (subst (λ (o : Option ℕ). IsSomeAnd o (λ t. count_in t places ≡ 1)) (sym is) one)
