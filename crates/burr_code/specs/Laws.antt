-- The laws of the instructions' bytes.
use Rattle.std.specs.Prelude.{◌≡◌, ◌↔◌, ◌++◌, ℕ, List, length}
use Rattle.burr_code.specs.Instruction.{Instruction, IsInRange, Begins, StandsAt, spelled}

-- bytes begin with one instruction at most
abbrev pub OneBegins : Type 0
OneBegins =
    (bytes : List ℕ) (i j : Instruction) → IsInRange i → IsInRange j
    → Begins bytes i → Begins bytes j → i ≡ j

-- one instruction at most stands at a place of the code
abbrev pub OneStandsAt : Type 0
OneStandsAt =
    (code : List ℕ) (pc : ℕ) (i j : Instruction)
    → StandsAt code pc i → StandsAt code pc j → i ≡ j

-- where the bytes of an instruction are, it stands, and no other does
abbrev pub StandsAtItsBytes : Type 0
StandsAtItsBytes =
    (front rest : List ℕ) (i j : Instruction) → IsInRange i
    → StandsAt (front ++ (spelled i ++ rest)) (length front) j ↔ (j ≡ i)
