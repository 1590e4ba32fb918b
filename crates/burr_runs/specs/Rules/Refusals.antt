-- The lines that say what is refused, and where; those of a plan that is judged are among the verdicts.
use Rattle.std.specs.Prelude.{ℕ, List, [], ◌∷◌, codes, decimal}
use Rattle.burr_text.specs.Words.{text_line}
use Rattle.burr_assembly.specs.declared.fault.AssemblyFault.{AssemblyFault}
use Rattle.burr_assembly.specs.declared.fault.AssemblyFault.TheVariants.{A8, Memory}
use Rattle.burr_assembly.specs.Rules.FaultNames.{fault_code as assembly_code, fault_line}
use Rattle.burr_assembly.specs.Rules.PieceNames.{name_at}
use Rattle.burr_container.specs.declared.fault.ContainerFault.{ContainerFault}
use Rattle.burr_container.specs.Rules.FaultNames.{fault_code as container_code, fault_position}

-- the line of what is refused at a place: on a line, or at a position
abbrev pub place_line : List ℕ → List ℕ → ℕ → List ℕ
place_line subject unit place = text_line (codes "refused" ∷ subject ∷ unit ∷ decimal place ∷ [])

-- the line for two pieces: the second, on the n-th line, shares a cell with the first
abbrev pub clash_line : ℕ → List ℕ → List ℕ → List ℕ
clash_line n first second =
    text_line (codes "refused" ∷ codes "A8" ∷ codes "line" ∷ decimal n ∷ first ∷ second ∷ [])

-- the line for a fault of an assembly's text; want of memory is no fault of a text
abbrev pub assembly_refusal : List ℕ → AssemblyFault → List ℕ
assembly_refusal text (A8 n earlier piece) =
    clash_line n (name_at text earlier) (name_at text piece)
assembly_refusal text Memory = []
assembly_refusal text fault = place_line (assembly_code fault) (codes "line") (fault_line fault)

-- the line for a fault of a container
abbrev pub container_refusal : ContainerFault → List ℕ
container_refusal fault =
    place_line (container_code fault) (codes "at") (fault_position fault)

-- the line for a text of answers whose n-th line is not an answer
abbrev pub answers_refusal : ℕ → List ℕ
answers_refusal n = place_line (codes "answers") (codes "line") n
