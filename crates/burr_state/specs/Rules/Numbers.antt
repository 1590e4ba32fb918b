-- Instructions on operands and slots: their traps in the order in which they are tried, and then
-- the effect.
use Rattle.std.specs.Prelude.{ℕ, ◌<◌, ◌≤◌, ℤ, ◌+ℤ◌, ◌-ℤ◌, List, ◌∷◌, length, Some, None, set, get_or}
use Rattle.burr_text.specs.Checks.{needs, finds}
use Rattle.burr_code.specs.Instruction.{Push, Load, Store, Add, Sub, Drop, IsInNumberRange}
use Rattle.burr_code.specs.Stacks.{top, top_two}
use Rattle.burr_state.specs.declared.effect.Trap.TheVariants as traps
use Rattle.burr_state.specs.Rules.Bench.{Activation, BenchState, BenchProcedure}
use Rattle.burr_state.specs.Rules.Next.{Next, Traps, goes, after}

-- the operands have room for one more
abbrev pub HasRoom : Activation → Type 0
HasRoom a = length a.operands < 8

abbrev pub pushed : ℤ → Activation → Activation
pushed n a = record a { operands = n ∷ a.operands }

abbrev pub with_operands : List ℤ → Activation → Activation
with_operands operands a = record a { operands = operands }

abbrev pub with_slot : ℕ → ℤ → Activation → Activation
with_slot v n a = record a { slots = set a.slots v (Some n) }

-- `push`: the number comes on top
abbrev pub pushing : BenchState → ℤ → Next → Type 0
pushing s n =
    needs (HasRoom s.running) (Traps traps.StackFull)
    (goes (after (Push n) (pushed n s.running) s) None)

-- `load`: what the slot holds comes on top
abbrev pub loading : BenchState → ℕ → Next → Type 0
loading s v =
    finds (get_or s.running.slots v None) (Traps traps.EmptySlot) λ x.
    needs (HasRoom s.running) (Traps traps.StackFull)
    (goes (after (Load v) (pushed x s.running) s) None)

-- `store`: the top goes into the slot
abbrev pub storing : BenchProcedure → BenchState → ℕ → Next → Type 0
storing here s v =
    needs (here.parameters ≤ v) (Traps traps.ParamWritten)
    (finds (top s.running.operands) (Traps traps.MissingOperand) λ found.
    goes (after (Store v) (with_slot v found.0 (with_operands found.1 s.running)) s) None)

-- `add`: the two topmost are replaced by their sum
abbrev pub adding : BenchState → Next → Type 0
adding s =
    finds (top_two s.running.operands) (Traps traps.MissingOperand) λ found.
    needs (IsInNumberRange (found.1 +ℤ found.0)) (Traps traps.NumberRange)
    (goes (after Add (with_operands ((found.1 +ℤ found.0) ∷ found.2) s.running) s) None)

-- `sub`: the two topmost are replaced by their difference, the top taken from the one below
abbrev pub subtracting : BenchState → Next → Type 0
subtracting s =
    finds (top_two s.running.operands) (Traps traps.MissingOperand) λ found.
    needs (IsInNumberRange (found.1 -ℤ found.0)) (Traps traps.NumberRange)
    (goes (after Sub (with_operands ((found.1 -ℤ found.0) ∷ found.2) s.running) s) None)

-- `drop`: the top goes
abbrev pub dropping : BenchState → Next → Type 0
dropping s =
    finds (top s.running.operands) (Traps traps.MissingOperand) λ found.
    goes (after Drop (with_operands found.1 s.running) s) None
