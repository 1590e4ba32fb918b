-- What faults of an assembly text are called, and the lines on which they are.
use Rattle.std.specs.Prelude.{ℕ, List, [], codes}
use Rattle.burr_assembly.specs.declared.fault.AssemblyFault.{AssemblyFault}
use Rattle.burr_assembly.specs.declared.fault.AssemblyFault.TheVariants.{A1, A2, A3, A4, A5, A6, A7, A8, Memory}

-- want of memory is no fault of a text, and has no name
abbrev pub fault_code : AssemblyFault → List ℕ
fault_code (A1 line) = codes "A1"
fault_code (A2 line) = codes "A2"
fault_code (A3 line) = codes "A3"
fault_code (A4 line) = codes "A4"
fault_code (A5 line) = codes "A5"
fault_code (A6 line) = codes "A6"
fault_code (A7 line) = codes "A7"
fault_code (A8 line earlier piece) = codes "A8"
fault_code Memory = []

-- counted from 1
abbrev pub fault_line : AssemblyFault → ℕ
fault_line (A1 line) = line
fault_line (A2 line) = line
fault_line (A3 line) = line
fault_line (A4 line) = line
fault_line (A5 line) = line
fault_line (A6 line) = line
fault_line (A7 line) = line
fault_line (A8 line earlier piece) = line
fault_line Memory = 0
