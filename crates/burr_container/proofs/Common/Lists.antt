-- For crates above: a given number of values of a part, one after the other, are lawful where the
-- part is.
use Rattle.std.proofs.Common.{◌≡◌, ℕ, zero, suc, ◌+◌, IsTrue, List, [], ◌∷◌, ◌++◌, length, flat_map, inl, inr, refl, sym, ◌∙◌, subst, arith, append_assoc, length-append}
use Rattle.std.specs.List.{list_all}
use Rattle.std.proofs.lemmas.Bool.{and_parts}
use Rattle.burr_container.specs.declared.fault.ContainerFault.{ContainerFault}
use Rattle.burr_container.specs.Rules.Faults.{Part, passes, first, each}
use Rattle.burr_container.proofs.Common.Lawful.{Front, Lawful, OfFirst, OfNothing, Sound, first_lawful, lawful_as, passes_lawful}

-- `count` values of the part, one after the other, and the rest of the bytes
abbrev pub OfEach : {A : Type 0} → ℕ → Part A → Front (List A)
OfEach count part xs bytes r =
    (length xs ≡ count) × IsTrue (list_all part.fits xs) × (bytes ≡ flat_map part.bytes xs ++ r)

module _ {A : Type 0} (part : Part A) where
  none_fail : (at : ℕ) (bytes : List ℕ) (fault : ContainerFault) → each 0 part at bytes fault
      → passes at bytes fault
  none_fail at bytes fault (xs, rest, size, fits, e, fails) = omega (arith, size)

  -- `count` + 1 values fail where the first one fails, or where it stands there and the others fail
  one_more_fail : (count at : ℕ) (bytes : List ℕ) (fault : ContainerFault)
      → each (suc count) part at bytes fault → first part (λ _. each count part) at bytes fault
  one_more_fail count at bytes fault ([], rest, size, fits, e, fails) =
      let here : at + 0 ≡ at = omega arith in
      inl (subst (λ (n : ℕ). part.Fails n bytes fault) here
      (subst (λ (rest : List ℕ). part.Fails (at + 0) rest fault) (sym e) fails))
  one_more_fail count at bytes fault (x ∷ xs, rest, size, fits, e, fails) =
      let both = and_parts (part.fits x) (list_all part.fits xs) fits in
      let position : at + length (part.bytes x ++ flat_map part.bytes xs) ≡ at + length
      (part.bytes x) + length (flat_map part.bytes xs) =
      omega (arith, length-append (part.bytes x) (flat_map part.bytes xs)) in
      inr (
        x,
        flat_map part.bytes xs ++ rest,
        both.0,
        e ∙ append_assoc (part.bytes x) (flat_map part.bytes xs) rest,
        (
          xs,
          rest,
          omega (arith, size),
          both.1,
          refl,
          subst (λ (n : ℕ). part.Fails n rest fault)
              position fails,
        ),
      )

  none_made : (xs : List A) (bytes r : List ℕ) → OfEach 0 part xs bytes r → (u : Unit {0})
      × ([] ≡ xs) × OfNothing u bytes r
  none_made [] bytes r here = (tt, refl, here.2)
  none_made (x ∷ xs) bytes r here = absurd (omega (arith, here.0))

  one_more_made : (count : ℕ) (xs : List A) (bytes r : List ℕ) → OfEach (suc count) part xs bytes r
      → (both : A × List A) × (both.0 ∷ both.1 ≡ xs)
      × OfFirst part (λ _. OfEach count part) both bytes r
  one_more_made count [] bytes r here = absurd (omega (arith, here.0))
  one_more_made count (x ∷ xs) bytes r here =
      let both = and_parts (part.fits x) (list_all part.fits xs) here.1 in (
        (x, xs),
        refl,
        (
          flat_map part.bytes xs ++ r,
          (both.0, here.2 ∙ append_assoc (part.bytes x) (flat_map part.bytes xs) r),
          (omega (arith, here.0), both.1, refl),
        ),
      )

  pub each_lawful : (count : ℕ) → Sound part → Lawful (OfEach count part) (each count part)
  each_lawful zero sound =
      lawful_as (λ (u : Unit {0}). []) (OfEach 0 part) OfNothing (each 0 part) passes none_made
      none_fail passes_lawful
  each_lawful (suc count) sound =
      lawful_as (λ (both : A × List A). both.0 ∷ both.1) (OfEach (suc count) part)
      (OfFirst part (λ _. OfEach count part)) (each (suc count) part)
      (first part (λ _. each count part)) (one_more_made count) (one_more_fail count)
      (first_lawful part (λ _. OfEach count part) (λ _. each count part) sound
      (λ a fits. each_lawful count sound))
