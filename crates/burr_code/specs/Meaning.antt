-- What the code's instructions stand for, and what bytes make one.
use Rattle.std.specs.Prelude.{◌≡◌, ◌≢◌, ◌++◌, ℕ, List, length, Option, MatchOption}
use Rattle.std.specs.Borrow.{Bor}
use Rattle.burr_code.specs.declared.instr.Instr.{Instr}
use Rattle.burr_code.specs.declared.instr.Instr.TheVariants as instr
use Rattle.burr_code.specs.Instruction.{Instruction, Halt, Push, Load, Store, Add, Sub, Drop, Grip, Step, Aside, Tray, Jump, Down, Ask, Pick, Call, Ret, IsInRange, Begins, StandsAt, spelled}

-- the instruction that a value of the code stands for
abbrev pub meaning : Instr → Instruction
meaning instr.Halt = Halt
meaning (instr.Push n) = Push n
meaning (instr.Load slot) = Load slot
meaning (instr.Store slot) = Store slot
meaning instr.Add = Add
meaning instr.Sub = Sub
meaning instr.Drop = Drop
meaning (instr.Grip set) = Grip set
meaning (instr.Step direction) = Step direction
meaning (instr.Aside direction tray) = Aside direction tray
meaning (instr.Tray tray) = Tray tray
meaning (instr.Jump label) = Jump label
meaning (instr.Down slot label) = Down slot label
meaning (instr.Ask low high) = Ask low high
meaning (instr.Pick labels) = Pick labels
meaning (instr.Call callee) = Call callee
meaning instr.Ret = Ret

-- this instruction stands there, with this many bytes
abbrev pub IsFoundAt : List ℕ → ℕ → Instr × ℕ → Type 0
IsFoundAt code pc found =
    StandsAt code pc (meaning found.0) × (found.1 ≡ length (spelled (meaning found.0)))

-- no instruction stands there
abbrev pub NoneStandsAt : List ℕ → ℕ → Type 0
NoneStandsAt code pc = (i : Instruction) → ¬ StandsAt code pc i

-- the bytes begin with no instruction
abbrev pub NoneBegins : List ℕ → Type 0
NoneBegins bytes = (i : Instruction) → IsInRange i → ¬ Begins bytes i

-- the instruction with which the bytes begin, if they begin with one
abbrev pub IsDecoded : List ℕ → Option Instr → Type 0
IsDecoded bytes found =
    MatchOption found (NoneBegins bytes)
    (λ i. IsInRange (meaning i) × Begins bytes (meaning i))

-- the bytes begin with no operand of this range
abbrev pub NoOperand : {A : Type 0} → (A → Type 0) → (A → List ℕ) → List ℕ → Type 0
NoOperand {A} IsOne bytes_of bytes =
    (operand : A) (rest : List ℕ) → IsOne operand → bytes ≢ bytes_of operand ++ rest

-- the operand with which the bytes begin, and the bytes after it; or none of its range
abbrev pub IsOperand : {A : Type 0} → (A → Type 0) → (A → List ℕ) → List ℕ
    → Option (A × Bor (List ℕ)) → Type 0
IsOperand IsOne bytes_of bytes found =
    MatchOption found (NoOperand IsOne bytes_of bytes)
    (λ front. IsOne front.0 × (bytes ≡ bytes_of front.0 ++ front.1.now))
