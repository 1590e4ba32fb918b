-- For crates above: bytes have a given number of values of a part at their front, or fail to.
use Rattle.std.proofs.Common.{◌≡◌, ℕ, zero, suc, ◌+◌, List, [], ◌∷◌, ◌++◌, length, flat_map, inl, inr, refl, sym, ap, ◌∙◌, subst, arith, append_assoc, length-append}
use Rattle.std.specs.List.{list_all}
use Rattle.std.proofs.lemmas.Bool.{and_from}
use Rattle.burr_container.specs.declared.fault.ContainerFault.{ContainerFault}
use Rattle.burr_container.specs.Rules.Faults.{Part, passes, first, each}
use Rattle.burr_container.proofs.Common.Lawful.{OfFirst, OfNothing}
use Rattle.burr_container.proofs.Common.Lists.{OfEach}
use Rattle.burr_container.proofs.Common.Judging.Fronts.{AreSmall, Judged, JudgedPart, first_judged, judged_as, passes_judged}

module _ {A : Type 0} (part : Part A) where
  pub one_more_fails : (count at : ℕ) (bytes : List ℕ) (fault : ContainerFault)
      → first part (λ _. each count part) at bytes fault → each (suc count) part at bytes fault
  one_more_fails count at bytes fault (inl fails) =
      let here : at ≡ at + 0 = omega arith in
      ([], bytes, omega arith, refl, refl, subst (λ (n : ℕ). part.Fails n bytes fault) here fails)
  one_more_fails count at bytes fault (inr (x, rest, fits, e, (xs, more, size, fit, e', fails))) =
      let position : at + length (part.bytes x) + length (flat_map part.bytes xs) ≡ at + length
      (part.bytes x ++ flat_map part.bytes xs) =
      omega (arith, length-append (part.bytes x) (flat_map part.bytes xs)) in (
        x ∷ xs,
        more,
        omega (arith, size),
        and_from (part.fits x) (list_all part.fits xs) fits fit,
        e ∙ ap (λ (rest : List ℕ). part.bytes x ++ rest) e'
            ∙ sym (append_assoc (part.bytes x) (flat_map part.bytes xs) more),
        subst (λ (n : ℕ). part.Fails n more fault) position fails,
      )

  pub one_more : (count : ℕ) (both : A × List A) (bytes r : List ℕ) → AreSmall bytes
      → OfFirst part (λ _. OfEach count part) both bytes r
      → OfEach (suc count) part (both.0 ∷ both.1) bytes r
  one_more count both bytes r small here = (
    omega (arith, here.2.0),
    and_from (part.fits both.0) (list_all part.fits both.1) here.1.0 here.2.1,
    here.1.1 ∙ ap (λ (rest : List ℕ). part.bytes both.0 ++ rest) here.2.2
        ∙ sym (append_assoc (part.bytes both.0) (flat_map part.bytes both.1) r),
  )

  pub each_judged : (count : ℕ) → JudgedPart part → Judged (OfEach count part) (each count part)
  each_judged zero judged =
      judged_as (λ (u : Unit {0}). []) (OfEach 0 part) OfNothing (each 0 part) passes
      (λ u bytes r small here. (refl, refl, here)) (λ at bytes fault fails. absurd fails)
      passes_judged
  each_judged (suc count) judged =
      judged_as (λ (both : A × List A). both.0 ∷ both.1) (OfEach (suc count) part)
      (OfFirst part (λ _. OfEach count part)) (each (suc count) part)
      (first part (λ _. each count part)) (one_more count) (one_more_fails count)
      (first_judged part (λ _. OfEach count part) (λ _. each count part) judged
      (λ a fits. each_judged count judged))
