-- One step of the bench, and one call of it.
use Rattle.std.specs.Prelude.{◌≡◌, ℤ, Option, Some, None, MatchOption, Result, Ok, Err, slice_get, ◌⊎◌, ◌+◌, ◌-◌, ◌^◌, min}
use Rattle.burr_code.specs.Instruction.{Instruction, Halt, Push, Load, Store, Add, Sub, Drop, Grip, Step, Aside, Tray, Jump, Down, Ask, Pick, Call, Ret, StandsAt}
use Rattle.burr_state.specs.declared.effect.Mode.{Mode}
use Rattle.burr_state.specs.declared.effect.Mode.TheVariants.{Running, Ended, Trapped}
use Rattle.burr_state.specs.declared.effect.Trap.{Trap}
use Rattle.burr_state.specs.declared.effect.Trap.TheVariants as traps
use Rattle.burr_state.specs.declared.effect.Progress.{Progress}
use Rattle.burr_state.specs.declared.effect.Progress.TheVariants as progress
use Rattle.burr_state.specs.Rules.Bench.{BenchState, BenchProcedure, Setup}
use Rattle.burr_state.specs.Rules.Next.{Next, Goes, Asks, Traps}
use Rattle.burr_state.specs.Rules.Space.{gripping, stepping, going_aside, choosing_tray}
use Rattle.burr_state.specs.Rules.Numbers.{pushing, loading, storing, adding, subtracting, dropping}
use Rattle.burr_state.specs.Rules.Control.{halting, jumping, counting_down, calling, returning}
use Rattle.burr_state.specs.Rules.Questions.{asking, picking, Fits, Takes}

-- What stands next where this instruction is carried out.
abbrev pub Executes : Setup → BenchProcedure → BenchState → Instruction → Next → Type 0
Executes setup here s Halt = halting s
Executes setup here s (Push n) = pushing s n
Executes setup here s (Load v) = loading s v
Executes setup here s (Store v) = storing here s v
Executes setup here s Add = adding s
Executes setup here s Sub = subtracting s
Executes setup here s Drop = dropping s
Executes setup here s (Grip set) = gripping s set
Executes setup here s (Step direction) = stepping setup s direction
Executes setup here s (Aside direction tray) = going_aside setup s direction tray
Executes setup here s (Tray tray) = choosing_tray s tray
Executes setup here s (Jump label) = jumping here s label
Executes setup here s (Down v label) = counting_down here s v label
Executes setup here s (Ask low high) = asking s low high
Executes setup here s (Pick labels) = picking here labels
Executes setup here s (Call callee) = calling setup s callee
Executes setup here s Ret = returning here s

-- the procedure that runs
abbrev pub Runs : Setup → BenchState → BenchProcedure → Type 0
Runs setup s here = slice_get setup.procedures s.running.procedure ≡ Some here

-- the instruction at which a state stands, and the procedure
abbrev pub IsAt : Setup → BenchState → BenchProcedure → Instruction → Type 0
IsAt setup s here i = Runs setup s here × StandsAt here.code s.running.pc i

-- what stands next where nothing is answered
abbrev pub NextIs : Setup → BenchState → Next → Type 0
NextIs setup s next =
    ((here : BenchProcedure) × (i : Instruction) × IsAt setup s here i
    × Executes setup here s i next)
    ⊎ (((here : BenchProcedure) (i : Instruction) → ¬ IsAt setup s here i)
    × (next ≡ Traps traps.BadCode))

-- the state asks for a number of this range
abbrev pub AsksFor : Setup → BenchState → ℤ → ℤ → Type 0
AsksFor setup s low high = NextIs setup s (Asks low high)

-- the run goes on, and waits for a number of this range
abbrev pub AsksNow : Setup → BenchState → ℤ → ℤ → Type 0
AsksNow setup s low high = (s.mode ≡ Running) × AsksFor setup s low high

-- the question for which it waits, by its least and its greatest answer; None where it asks nothing
abbrev pub IsQuestionOf : Setup → BenchState → Option (ℤ × ℤ) → Type 0
IsQuestionOf setup s question =
    MatchOption question ((low high : ℤ) → ¬ AsksNow setup s low high)
    (λ range. AsksNow setup s range.0 range.1)

-- the answer is taken, and the run goes on in the new state
abbrev pub TakesAnswer : Setup → BenchState → ℤ → BenchState → Type 0
TakesAnswer setup s answer new =
    (here : BenchProcedure) × (i : Instruction) × (low high : ℤ) × IsAt setup s here i
    × Executes setup here s i (Asks low high) × Fits low high answer × Takes here s i answer new

-- what a call without an answer tells, by what stands next
abbrev pub call_result : Next → Result Progress Trap
call_result (Goes new motion) = Ok (progress.Went motion)
call_result (Asks low high) = Ok (progress.Asks low high)
call_result (Traps trap) = Err trap

-- the state that it leaves
abbrev pub left_by : BenchState → Next → BenchState
left_by s (Goes new motion) = new
left_by s (Asks low high) = s
left_by s (Traps trap) = record s { mode = Trapped trap }

-- no question stands next that the answer fits
abbrev pub IsUnfit : Setup → BenchState → ℤ → Type 0
IsUnfit setup s answer = (low high : ℤ) → AsksFor setup s low high → ¬ Fits low high answer

-- one call, by the mode of the state
abbrev pub CallIn : Mode → Setup → BenchState → Option ℤ → Result Progress Trap → BenchState
    → Type 0
CallIn Running setup s None result new =
    (next : Next) × NextIs setup s next × (result ≡ call_result next) × (new ≡ left_by s next)
CallIn Running setup s (Some answer) result new =
    (TakesAnswer setup s answer new × (result ≡ Ok (progress.Went None)))
    ⊎ (IsUnfit setup s answer × (result ≡ Ok progress.Again) × (new ≡ s))
CallIn Ended setup s answer result new = (result ≡ Ok progress.Ended) × (new ≡ s)
CallIn (Trapped trap) setup s answer result new = (result ≡ Err trap) × (new ≡ s)

-- One call of the bench, with an answer or none: what it tells, and the state that it leaves.
abbrev pub Called : Setup → BenchState → Option ℤ → Result Progress Trap → BenchState → Type 0
Called setup s answer result new = CallIn s.mode setup s answer result new

-- one step was made, and the run goes on or has ended
pub record IsStepFrom (s new : BenchState) : Type 0 where
  pub mode : (new.mode ≡ Running) ⊎ (new.mode ≡ Ended)
  -- one more; the count stays at its greatest value
  pub steps : new.steps ≡ min (s.steps + 1) (2 ^ 64 - 1)
