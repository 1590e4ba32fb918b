-- What the assembler answers where a text is refused.
use Rattle.std.specs.Prelude.{◌≡◌, ℕ, List}
use Rattle.burr_plantext.specs.Rules.Checks as kinds
use Rattle.burr_plantext.specs.Rules.Checks.{FaultKind}
use Rattle.burr_plantext.specs.Rules.Faults.{HasFault}
use Rattle.burr_asm.specs.declared.fault.AsmFault.{AsmFault}
use Rattle.burr_asm.specs.declared.fault.AsmFault.TheVariants.{P1, P2, P3, P4, P5}

-- the refusal of a line
abbrev pub fault_at : FaultKind → ℕ → AsmFault
fault_at kinds.P1 line = P1 line
fault_at kinds.P2 line = P2 line
fault_at kinds.P3 line = P3 line
fault_at kinds.P4 line = P4 line
fault_at kinds.P5 line = P5 line

-- This is the first fault of the text.
abbrev pub IsFirstFault : List ℕ → AsmFault → Type 0
IsFirstFault text e =
    (kind : FaultKind) × (line : ℕ) × HasFault text kind line × (e ≡ fault_at kind line)
