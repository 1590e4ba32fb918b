-- What stands next at a running state, and where the run then goes on.
use Rattle.std.specs.Prelude.{◌≡◌, ℕ, ◌+◌, ◌-◌, ◌^◌, min, ℤ, Option, length}
use Rattle.burr_code.specs.Instruction.{Instruction, spelled}
use Rattle.burr_state.specs.declared.effect.Trap.{Trap}
use Rattle.burr_state.specs.declared.effect.Motion.{Motion}
use Rattle.burr_state.specs.Rules.Bench.{Activation, BenchState}

pub data Next : Type 0 where
  Goes : (new : BenchState) (motion : Option Motion) → Next
  Asks : (low high : ℤ) → Next
  Traps : (trap : Trap) → Next

abbrev pub goes : BenchState → Option Motion → Next → Type 0
goes new motion next = next ≡ Goes new motion

-- one step more; the count stays at its greatest value
abbrev pub stepped : BenchState → BenchState
stepped s = record s { steps = min (s.steps + 1) (2 ^ 64 - 1) }

-- the step is made, and the running activation is as given, after the instruction
abbrev pub after : Instruction → Activation → BenchState → BenchState
after i a s = stepped (record s { running = record a { pc = s.running.pc + length (spelled i) } })

-- the step is made, and the running activation is as given, at this position
abbrev pub at_label : ℕ → Activation → BenchState → BenchState
at_label to a s = stepped (record s { running = record a { pc = to } })
