-- What faults of a container are called, and the positions at which they are.
use Rattle.std.specs.Prelude.{ℕ, List, codes}
use Rattle.burr_container.specs.declared.fault.ContainerFault.{ContainerFault}
use Rattle.burr_container.specs.declared.fault.ContainerFault.TheVariants.{C1, C2, C3, C4, C5, C6}

abbrev pub fault_code : ContainerFault → List ℕ
fault_code (C1 at) = codes "C1"
fault_code (C2 at) = codes "C2"
fault_code (C3 at) = codes "C3"
fault_code (C4 at) = codes "C4"
fault_code (C5 at) = codes "C5"
fault_code (C6 at) = codes "C6"

-- counted from 0
abbrev pub fault_position : ContainerFault → ℕ
fault_position (C1 at) = at
fault_position (C2 at) = at
fault_position (C3 at) = at
fault_position (C4 at) = at
fault_position (C5 at) = at
fault_position (C6 at) = at
