-- What faults of a plan text are called, and the lines on which they are.
use Rattle.std.specs.Prelude.{ℕ, List, [], codes}
use Rattle.burr_asm.specs.declared.fault.AsmFault.{AsmFault}
use Rattle.burr_asm.specs.declared.fault.AsmFault.TheVariants.{P1, P2, P3, P4, P5, Memory}

-- want of memory is no fault of a text, and has no name
abbrev pub fault_code : AsmFault → List ℕ
fault_code (P1 line) = codes "P1"
fault_code (P2 line) = codes "P2"
fault_code (P3 line) = codes "P3"
fault_code (P4 line) = codes "P4"
fault_code (P5 line) = codes "P5"
fault_code Memory = []

-- counted from 1
abbrev pub fault_line : AsmFault → ℕ
fault_line (P1 line) = line
fault_line (P2 line) = line
fault_line (P3 line) = line
fault_line (P4 line) = line
fault_line (P5 line) = line
fault_line Memory = 0
