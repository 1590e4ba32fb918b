-- For crates above: bytes have a value at their front, or fail to have one. It holds of a part and
-- what follows it where it holds of both.
use Rattle.std.proofs.Common.{ℕ, ◌+◌, ◌<◌, ◌⊎◌, IsTrue, List, [], ◌∷◌, ◌++◌, length, inl, inr, refl}
use Rattle.burr_container.specs.declared.fault.ContainerFault.{ContainerFault}
use Rattle.burr_container.specs.declared.fault.ContainerFault.TheVariants.{C6}
use Rattle.burr_container.specs.Rules.Faults.{Failing, Part, passes, first, IsFollowed}
use Rattle.burr_container.proofs.Common.Lawful.{Front, OfPart, OfFirst, OfNothing, OfEnd}

-- numbers that are bytes
abbrev pub AreSmall : List ℕ → Type 0
AreSmall [] = Unit {0}
AreSmall (b ∷ bytes) = (b < 256) × AreSmall bytes

pub small_parts : (xs ys : List ℕ) → AreSmall (xs ++ ys) → AreSmall xs × AreSmall ys
small_parts [] ys small = (tt, small)
small_parts (x ∷ xs) ys small = let more = small_parts xs ys small.1 in ((small.0, more.0), more.1)

abbrev pub Found : {B : Type 0} → Front B → List ℕ → Type 0
Found {B = B} IsFront bytes = (b : B) × (r : List ℕ) × IsFront b bytes r × AreSmall r

abbrev pub Faulted : Failing → ℕ → List ℕ → Type 0
Faulted Fails at bytes = (fault : ContainerFault) × Fails at bytes fault

pub record Judged {B : Type 0} (IsFront : Front B) (Fails : Failing) : Type 0 where
  pub some : (at : ℕ) (bytes : List ℕ) → AreSmall bytes
      → Found IsFront bytes ⊎ Faulted Fails at bytes

abbrev pub JudgedPart : {A : Type 0} → Part A → Type 0
JudgedPart part = Judged (OfPart part) part.Fails

module _ {A B : Type 0} (part : Part A) (Next : A → Front B) (next : A → Failing) where
  next_found : (at : ℕ) (bytes rest : List ℕ) (a : A) → OfPart part a bytes rest
      → Found (Next a) rest ⊎ Faulted (next a) (at + length (part.bytes a)) rest
      → Found (OfFirst part Next) bytes ⊎ Faulted (first part next) at bytes
  next_found at bytes rest a here (inl (b, r, after, small)) =
      inl ((a, b), r, (rest, here, after), small)
  next_found at bytes rest a here (inr (fault, fails)) =
      inr (fault, inr (a, rest, here.0, here.1, fails))

  first_found : ((a : A) → IsTrue (part.fits a) → Judged (Next a) (next a))
      → (at : ℕ) (bytes : List ℕ) → Found (OfPart part) bytes ⊎ Faulted part.Fails at bytes
      → Found (OfFirst part Next) bytes ⊎ Faulted (first part next) at bytes
  first_found judged at bytes (inl (a, rest, here, small)) =
      next_found at bytes rest a here
      ((judged a here.0).some (at + length (part.bytes a)) rest small)
  first_found judged at bytes (inr (fault, fails)) = inr (fault, inl fails)

  pub first_judged : JudgedPart part → ((a : A) → IsTrue (part.fits a) → Judged (Next a) (next a))
      → Judged (OfFirst part Next) (first part next)
  first_judged here judged =
      record { some = λ at bytes small. first_found judged at bytes (here.some at bytes small) }

module _ {B C : Type 0} (from : C → B) (IsFront : Front B) (Other : Front C)
    (Fails Others : Failing)
    (back : (c : C) (bytes r : List ℕ) → AreSmall bytes → Other c bytes r
    → IsFront (from c) bytes r)
    (fails : (at : ℕ) (bytes : List ℕ) (fault : ContainerFault) → Others at bytes fault
    → Fails at bytes fault) where
  found_as : (at : ℕ) (bytes : List ℕ) → AreSmall bytes
      → Found Other bytes ⊎ Faulted Others at bytes → Found IsFront bytes ⊎ Faulted Fails at bytes
  found_as at bytes small (inl (c, r, here, more)) =
      inl (from c, r, back c bytes r small here, more)
  found_as at bytes small (inr (fault, fail)) = inr (fault, fails at bytes fault fail)

  -- the same, of values made of others
  pub judged_as : Judged Other Others → Judged IsFront Fails
  judged_as judged =
      record { some = λ at bytes small. found_as at bytes small (judged.some at bytes small) }

pub passes_judged : Judged OfNothing passes
passes_judged = record { some = λ at bytes small. inl (tt, bytes, refl, small) }

end_found : (at : ℕ) (bytes : List ℕ) → Found OfEnd bytes ⊎ Faulted IsFollowed at bytes
end_found at [] = inl (tt, [], (refl, refl), tt)
end_found at (b ∷ bytes) = inr (C6 at, (λ e. cc, refl))

pub end_judged : Judged OfEnd IsFollowed
end_judged = record { some = λ at bytes small. end_found at bytes }
