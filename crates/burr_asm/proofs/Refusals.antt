-- What a check refuses, and what passes it.
use Rattle.std.proofs.Common.{◌≡◌, ℕ, Bool, true, false, Option, Some, inr, refl, ap}
use Rattle.burr_plantext.specs.Rules.Checks.{FaultKind, unless}
use Rattle.burr_asm.specs.Rules.Faults.{fault_at}
use Rattle.burr_asm.specs.Views.Faults.{IsRefusal}

-- the test does not hold
pub failed : (test : Bool) (kind : FaultKind) (more : Option FaultKind) → test ≡ false → unless test kind more ≡ Some kind
failed test kind more e = ap (λ (t : Bool). unless t kind more) e

-- the test holds, and what follows decides
pub passed : (test : Bool) (kind : FaultKind) (more : Option FaultKind) → test ≡ true → unless test kind more ≡ more
passed test kind more e = ap (λ (t : Bool). unless t kind more) e

-- the line is refused
pub refused : (check : Option FaultKind) (kind : FaultKind) (line : ℕ) → check ≡ Some kind → IsRefusal check line (fault_at kind line)
refused check kind line e = inr (kind, e, refl)
