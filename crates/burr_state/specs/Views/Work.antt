-- A program at work: what is run, and where the run stands.
use Rattle.std.specs.Prelude.{◌≡◌, ◌+◌, ◌≤◌, ℕ, [], length}
use Rattle.burr_code.specs.Instruction.{Instruction, IsInRange, spelled}
use Rattle.burr_code.specs.declared.limits.TheConstants.{MOST_CODE}
use Rattle.burr_state.specs.Rules.Bench.{running, BenchProcedure, BenchState, Program}
use Rattle.burr_state.specs.Rules.Step.{IsAt}

pub record Work : Type 0 where
  pub program : Program
  pub state : BenchState

-- this program, at work in this state
abbrev pub work : Program → BenchState → Work
work program state = record { program = program; state = state }

-- the instruction at which the run stands, whatever the homes of the pieces are
abbrev pub StandsBefore : Work → Instruction → Type 0
StandsBefore w i = (here : BenchProcedure) × IsAt (running [] w.program) w.state here i

-- the instruction is the next one, and has `size` bytes
pub record IsNext (w : Work) (i : Instruction) (size : ℕ) : Type 0 where
  pub stands : StandsBefore w i
  pub in_range : IsInRange i
  pub spelled_in : size ≡ length (spelled i)
  pub within : w.state.running.pc + size ≤ MOST_CODE
