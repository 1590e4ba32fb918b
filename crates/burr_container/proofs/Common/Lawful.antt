-- For crates above: what stands at the front of bytes, against how bytes fail to have it there. At
-- most one thing stands there, bytes that have it don't fail, and they fail in one way at most.
-- Each holds of a part and what follows it where it holds of both.
use Rattle.std.proofs.Common.{◌≡◌, ℕ, ◌+◌, IsTrue, List, [], ◌++◌, length, inl, inr, refl, sym, ap, ◌∙◌, subst₂}
use Rattle.burr_container.specs.declared.fault.ContainerFault.{ContainerFault}
use Rattle.burr_container.specs.Rules.Faults.{Failing, Part, passes, first, IsFollowed}

-- a value, bytes, and what follows the value in them
abbrev pub Front : Type 0 → Type 1
Front B = B → List ℕ → List ℕ → Type 0

pub record Lawful {B : Type 0} (IsFront : Front B) (Fails : Failing) : Type 0 where
  pub one : (a b : B) (bytes r s : List ℕ) → IsFront a bytes r → IsFront b bytes s → (a ≡ b)
      × (r ≡ s)
  pub never : (a : B) (bytes r : List ℕ) (at : ℕ) (fault : ContainerFault) → IsFront a bytes r
      → ¬ Fails at bytes fault
  pub one_fault : (at : ℕ) (bytes : List ℕ) (x y : ContainerFault) → Fails at bytes x
      → Fails at bytes y → x ≡ y

-- a value of the part
abbrev pub OfPart : {A : Type 0} → Part A → Front A
OfPart part a bytes r = IsTrue (part.fits a) × (bytes ≡ part.bytes a ++ r)

abbrev pub Sound : {A : Type 0} → Part A → Type 0
Sound part = Lawful (OfPart part) part.Fails

-- a value of the part, and what follows it
abbrev pub OfFirst : {A B : Type 0} → Part A → (A → Front B) → Front (A × B)
OfFirst part Next both bytes r =
    (rest : List ℕ) × OfPart part both.0 bytes rest × Next both.0 both.1 rest r

module _ {A B : Type 0} (part : Part A) (Next : A → Front B) (next : A → Failing)
    (sound : Sound part) (lawful : (a : A) → IsTrue (part.fits a) → Lawful (Next a) (next a)) where
  first_one : (a b : A × B) (bytes r s : List ℕ) → OfFirst part Next a bytes r
      → OfFirst part Next b bytes s → (a ≡ b) × (r ≡ s)
  first_one a b bytes r s here also =
      let head = sound.one a.0 b.0 bytes here.0 also.0 here.1 also.1 in
      let moved = subst₂ (λ (x : A) (rest : List ℕ). Next x a.1 rest r) head.0 head.1 here.2 in
      let tail = (lawful b.0 also.1.0).one a.1 b.1 also.0 r s moved also.2 in
      (λ i. (head.0 i, tail.0 i), tail.1)

  first_never : (a : A × B) (bytes r : List ℕ) (at : ℕ) (fault : ContainerFault)
      → OfFirst part Next a bytes r → ¬ first part next at bytes fault
  first_never a bytes r at fault here (inl fails) =
      sound.never a.0 bytes here.0 at fault here.1 fails
  first_never a bytes r at fault here (inr (x, rest, fits, e, fails)) =
      let head = sound.one x a.0 bytes rest here.0 (fits, e) here.1 in
      let moved =
      subst₂ (λ (x : A) (rest : List ℕ). next x (at + length (part.bytes x)) rest fault) head.0
      head.1 fails in
      (lawful a.0 here.1.0).never a.1 here.0 r (at + length (part.bytes a.0)) fault here.2 moved

  first_one_fault : (at : ℕ) (bytes : List ℕ) (x y : ContainerFault) → first part next at bytes x
      → first part next at bytes y → x ≡ y
  first_one_fault at bytes x y (inl here) (inl also) = sound.one_fault at bytes x y here also
  first_one_fault at bytes x y (inl here) (inr (b, rest, fits, e, fails)) =
      absurd (sound.never b bytes rest at x (fits, e) here)
  first_one_fault at bytes x y (inr (a, rest, fits, e, fails)) (inl also) =
      absurd (sound.never a bytes rest at y (fits, e) also)
  first_one_fault at bytes x y (inr (a, rest, fits, e, fails)) (inr (b, tail, fit, e', fail)) =
      let head = sound.one a b bytes rest tail (fits, e) (fit, e') in
      let moved =
      subst₂ (λ (a : A) (rest : List ℕ). next a (at + length (part.bytes a)) rest x) head.0
      head.1 fails in
      (lawful b fit).one_fault (at + length (part.bytes b)) tail x y moved fail

  pub first_lawful : Lawful (OfFirst part Next) (first part next)
  first_lawful = record { one = first_one; never = first_never; one_fault = first_one_fault }

-- the same, of values made of others
pub lawful_as : {B C : Type 0} (from : C → B) (IsFront : Front B) (Other : Front C)
    (Fails Others : Failing)
    → ((b : B) (bytes r : List ℕ) → IsFront b bytes r → (c : C) × (from c ≡ b) × Other c bytes r)
    → ((at : ℕ) (bytes : List ℕ) (fault : ContainerFault) → Fails at bytes fault
    → Others at bytes fault)
    → Lawful Other Others → Lawful IsFront Fails
lawful_as {B} {C} from IsFront Other Fails Others made fails lawful = record {
  one = λ a b bytes r s here also.
      let x = made a bytes r here in
      let y = made b bytes s also in
      let both = lawful.one x.0 y.0 bytes r s x.2 y.2 in
      (sym x.1 ∙ ap from both.0 ∙ y.1, both.1);
  never = λ a bytes r at fault here fail.
      let x = made a bytes r here in
      lawful.never x.0 bytes r at fault x.2 (fails at bytes fault fail);
  one_fault =
      λ at bytes x y here also. lawful.one_fault at bytes x y (fails at bytes x here)
      (fails at bytes y also);
}

-- nothing, and nothing is asked
abbrev pub OfNothing : Front (Unit {0})
OfNothing a bytes r = bytes ≡ r

pub passes_lawful : Lawful OfNothing passes
passes_lawful = record {
  one = λ a b bytes r s here also. (refl, sym here ∙ also);
  never = λ a bytes r at fault here fail. fail;
  one_fault = λ at bytes x y here also. absurd here;
}

-- the end of the bytes
abbrev pub OfEnd : Front (Unit {0})
OfEnd a bytes r = (bytes ≡ []) × (r ≡ [])

pub end_lawful : Lawful OfEnd IsFollowed
end_lawful = record {
  one = λ a b bytes r s here also. (refl, here.1 ∙ sym also.1);
  never = λ a bytes r at fault here fail. fail.0 here.0;
  one_fault = λ at bytes x y here also. here.1 ∙ sym also.1;
}
