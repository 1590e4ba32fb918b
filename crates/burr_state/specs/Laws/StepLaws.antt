-- What holds of each instruction and of each call of the bench.
use Rattle.std.specs.Prelude.{◌≡◌, ℤ, Option, Result, Ok, Err}
use Rattle.burr_code.specs.Instruction.{Instruction}
use Rattle.burr_state.specs.declared.effect.Mode.TheVariants.{Trapped}
use Rattle.burr_state.specs.declared.effect.Trap.{Trap}
use Rattle.burr_state.specs.declared.effect.Progress.{Progress}
use Rattle.burr_state.specs.declared.effect.Progress.TheVariants as progress
use Rattle.burr_state.specs.Rules.Bench.{BenchState, BenchProcedure, Setup}
use Rattle.burr_state.specs.Rules.Next.{Next}
use Rattle.burr_state.specs.Rules.Step.{Executes, Called, IsStepFrom}

-- something stands next where an instruction is carried out, whatever its operands
abbrev pub SomeExecution : Type 0
SomeExecution =
    (setup : Setup) (here : BenchProcedure) (s : BenchState) (i : Instruction)
    → (next : Next) × Executes setup here s i next

-- and one thing at most
abbrev pub OneExecution : Type 0
OneExecution =
    (setup : Setup) (here : BenchProcedure) (s : BenchState) (i : Instruction) (next other : Next)
    → Executes setup here s i next → Executes setup here s i other → next ≡ other

-- what a call that tells this leaves
abbrev pub AfterCall : BenchState → Result Progress Trap → BenchState → Type 0
AfterCall s (Ok (progress.Went motion)) new = IsStepFrom s new
AfterCall s (Ok (progress.Asks low high)) new = new ≡ s
AfterCall s (Ok progress.Again) new = new ≡ s
AfterCall s (Ok progress.Ended) new = new ≡ s
AfterCall s (Err trap) new = new ≡ record s { mode = Trapped trap }

-- a call makes one step, or changes nothing, or nothing but the mode
abbrev pub CallIsOneStep : Type 0
CallIsOneStep =
    (setup : Setup) (s new : BenchState) (answer : Option ℤ) (result : Result Progress Trap)
    → Called setup s answer result new → AfterCall s result new
