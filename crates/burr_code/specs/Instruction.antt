-- Instructions and their bytes.
use Rattle.std.specs.Prelude.{◌≡◌, ◌≢◌, ℕ, ◌<◌, ◌≤◌, ◌^◌, ℤ, pos, neg_ℤ, ◌≤ℤ◌, List, [], ◌∷◌, ◌++◌, length, drop}
use Rattle.std.specs.List.{flat_map, All}
use Rattle.std.specs.Int.{w16, cast_unsigned}
use Rattle.byteorder.specs.Endian.{big_bytes}
use Rattle.burr_voxels.specs.declared.direction.Direction.{Direction}
use Rattle.burr_voxels.specs.Grid.{number_of}
use Rattle.burr_code.specs.declared.limits.TheConstants.{MOST_NUMBER, SLOTS, TRAYS}

-- the seventeen instructions, with their operands
pub data Instruction : Type 0 where
  Halt : Instruction
  Push : (n : ℤ) → Instruction
  Load : (slot : ℕ) → Instruction
  Store : (slot : ℕ) → Instruction
  Add : Instruction
  Sub : Instruction
  Drop : Instruction
  Grip : (set : ℕ) → Instruction
  Step : (direction : Direction) → Instruction
  Aside : (direction : Direction) (tray : ℕ) → Instruction
  Tray : (tray : ℕ) → Instruction
  Jump : (label : ℕ) → Instruction
  Down : (slot label : ℕ) → Instruction
  Ask : (low high : ℤ) → Instruction
  Pick : (labels : List ℕ) → Instruction
  Call : (callee : ℕ) → Instruction
  Ret : Instruction

-- the two bytes of a signed number
abbrev pub signed_word : ℤ → List ℕ
signed_word n = big_bytes 2 (cast_unsigned w16 n)

-- the bytes of labels: two a label
abbrev pub label_bytes : List ℕ → List ℕ
label_bytes labels = flat_map (λ label. big_bytes 2 label) labels

-- the bytes of an instruction: the first tells which it is, and its operands follow
abbrev pub spelled : Instruction → List ℕ
spelled Halt = 0x00 ∷ []
spelled (Push n) = 0x01 ∷ signed_word n
spelled (Load slot) = 0x02 ∷ slot ∷ []
spelled (Store slot) = 0x03 ∷ slot ∷ []
spelled Add = 0x04 ∷ []
spelled Sub = 0x05 ∷ []
spelled Drop = 0x06 ∷ []
spelled (Grip set) = 0x10 ∷ big_bytes 4 set
spelled (Step direction) = 0x11 ∷ number_of direction ∷ []
spelled (Aside direction tray) = 0x12 ∷ number_of direction ∷ tray ∷ []
spelled (Tray tray) = 0x13 ∷ tray ∷ []
spelled (Jump label) = 0x20 ∷ big_bytes 2 label
spelled (Down slot label) = 0x21 ∷ slot ∷ big_bytes 2 label
spelled (Ask low high) = 0x22 ∷ signed_word low ++ signed_word high
spelled (Pick labels) = 0x23 ∷ length labels ∷ label_bytes labels
spelled (Call callee) = 0x24 ∷ callee ∷ []
spelled Ret = 0x25 ∷ []

-- a number that an operand or a slot may be
abbrev pub IsInNumberRange : ℤ → Type 0
IsInNumberRange n = (neg_ℤ (pos MOST_NUMBER) ≤ℤ n) × (n ≤ℤ pos MOST_NUMBER)

-- labels that `pick` may offer
abbrev pub AreLabels : List ℕ → Type 0
AreLabels labels =
    (2 ≤ length labels) × (length labels ≤ 8) × All (λ label. label < 2 ^ 16) labels

-- the operands are in their ranges
abbrev pub IsInRange : Instruction → Type 0
IsInRange Halt = Unit {0}
IsInRange (Push n) = IsInNumberRange n
IsInRange (Load slot) = slot < SLOTS
IsInRange (Store slot) = slot < SLOTS
IsInRange Add = Unit {0}
IsInRange Sub = Unit {0}
IsInRange Drop = Unit {0}
IsInRange (Grip set) = (set ≢ 0) × (set < 2 ^ 32)
IsInRange (Step direction) = Unit {0}
IsInRange (Aside direction tray) = tray < TRAYS
IsInRange (Tray tray) = tray < TRAYS
IsInRange (Jump label) = label < 2 ^ 16
IsInRange (Down slot label) = (slot < SLOTS) × (label < 2 ^ 16)
IsInRange (Ask low high) = IsInNumberRange low × IsInNumberRange high × (low ≤ℤ high)
IsInRange (Pick labels) = AreLabels labels
IsInRange (Call callee) = callee < 256
IsInRange Ret = Unit {0}

-- each instruction but `step` and `aside`
abbrev pub MovesNoPiece : Instruction → Type 0
MovesNoPiece (Step direction) = ⊥
MovesNoPiece (Aside direction tray) = ⊥
MovesNoPiece i = Unit {0}

-- the bytes begin with the instruction's
abbrev pub Begins : List ℕ → Instruction → Type 0
Begins bytes i = (rest : List ℕ) × (bytes ≡ spelled i ++ rest)

-- An instruction stands at pc where its operands are in range and its bytes begin the code at pc.
pub record StandsAt (code : List ℕ) (pc : ℕ) (i : Instruction) : Type 0 where
  pub in_range : IsInRange i
  pub begins : Begins (drop pc code) i
