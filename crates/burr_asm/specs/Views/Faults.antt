-- What the code answers where a line is refused, and where memory is wanting.
use Rattle.std.specs.Prelude.{◌≡◌, ◌⊎◌, ℕ, Option, Some, Bool, true}
use Rattle.burr_plantext.specs.Rules.Checks.{FaultKind}
use Rattle.burr_asm.specs.declared.fault.AsmFault.{AsmFault}
use Rattle.burr_asm.specs.Rules.Faults.{fault_at}
use Rattle.burr_asm.specs.declared.fault.AsmFault.TheVariants.{P2, Memory}

-- memory is wanting, or the check refuses the line
abbrev pub IsRefusal : Option FaultKind → ℕ → AsmFault → Type 0
IsRefusal check line fault =
    (fault ≡ Memory)
    ⊎ ((kind : FaultKind) × (check ≡ Some kind) × (fault ≡ fault_at kind line))

-- memory is wanting, or the line that was found has an unknown name
abbrev pub IsUnknown : Option ℕ → AsmFault → Type 0
IsUnknown found fault =
    (fault ≡ Memory) ⊎ ((line : ℕ) × (found ≡ Some line) × (fault ≡ P2 line))

-- memory is wanting, or the line has an unknown name
abbrev pub IsUnknownAt : Bool → ℕ → AsmFault → Type 0
IsUnknownAt unknown line fault =
    (fault ≡ Memory) ⊎ ((unknown ≡ true) × (fault ≡ P2 line))
