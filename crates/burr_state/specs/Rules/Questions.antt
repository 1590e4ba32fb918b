-- Instructions that ask the operator: their traps, the question, and where a fitting answer leads.
use Rattle.std.specs.Prelude.{◌≡◌, ℕ, ℤ, pos, ◌-ℤ◌, ◌≤ℤ◌, List, length, Some, slice_get}
use Rattle.burr_text.specs.Checks.{needs, finds}
use Rattle.burr_code.specs.Instruction.{Instruction, Ask, Pick}
use Rattle.burr_code.specs.Labels.{labelled}
use Rattle.burr_state.specs.declared.effect.Trap.TheVariants as traps
use Rattle.burr_state.specs.Rules.Bench.{BenchState, BenchProcedure}
use Rattle.burr_state.specs.Rules.Next.{Next, Asks, Traps, after, at_label}
use Rattle.burr_state.specs.Rules.Numbers.{HasRoom, pushed}

-- `ask`: a number of a range
abbrev pub asking : BenchState → ℤ → ℤ → Next → Type 0
asking s low high =
    needs (HasRoom s.running) (Traps traps.StackFull)
    (λ next. next ≡ Asks low high)

-- `pick`: the number of one of the labels, from 0
abbrev pub picking : BenchProcedure → List ℕ → Next → Type 0
picking here labels =
    finds (labelled here.labels labels) (Traps traps.BadJump) λ to.
    λ next. next ≡ Asks (pos 0) (pos (length to) -ℤ pos 1)

abbrev pub Fits : ℤ → ℤ → ℤ → Type 0
Fits low high answer = (low ≤ℤ answer) × (answer ≤ℤ high)

-- where a fitting answer to a question leads: it is pushed, or the run goes on at the label that it
-- numbers
abbrev pub Takes : BenchProcedure → BenchState → Instruction → ℤ → BenchState → Type 0
Takes here s (Ask low high) answer new = new ≡ after (Ask low high) (pushed answer s.running) s
Takes here s (Pick labels) answer new =
    (n label to : ℕ) × (answer ≡ pos n) × (slice_get labels n ≡ Some label)
    × (slice_get here.labels label ≡ Some to) × (new ≡ at_label to s.running s)
Takes here s i answer new = ⊥
