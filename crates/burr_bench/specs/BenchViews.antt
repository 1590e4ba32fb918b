-- What the instructions of a bench at work ask for.
use Rattle.std.specs.Prelude.{Result, Ok}
use Rattle.burr_code.specs.Instruction.{Instruction}
use Rattle.burr_assembly.specs.Rules.Homes.{homes_of}
use Rattle.burr_state.specs.declared.effect.Trap.{Trap}
use Rattle.burr_bench.specs.declared.checked.Way.{Way}
use Rattle.burr_bench.specs.declared.checked.Way.TheVariants as ways
use Rattle.burr_state.specs.Rules.Bench.{BenchProcedure}
use Rattle.burr_state.specs.declared.effect.Effect.{Effect}
use Rattle.burr_state.specs.Views.Benches.{Benched, setup_of, GoesOn, IsSameRun}
use Rattle.burr_state.specs.Views.Effects.{next_of, motion_made, KeepsUnlessGoes}
use Rattle.burr_state.specs.Views.StateViews.{StaysOnBench}
use Rattle.burr_bench.specs.Ways.{GroupPasses}
use Rattle.burr_state.specs.Rules.Step.{Executes, NextIs, Runs}

-- where the grip goes one unit, the pieces of the current tray are on the bench after it; where it
-- goes all the way out, nothing is required
abbrev pub SetsOut : Benched → Way → Type 0
SetsOut b (ways.Unit direction) = StaysOnBench b.state direction
SetsOut b (ways.Out direction) = Unit {0}

-- the grip goes its way past the rest of its tray
abbrev pub GripPasses : Benched → Way → Type 0
GripPasses b way =
    GroupPasses way (homes_of b.assembly) b.state.places b.state.tray b.state.grip

-- what the rule of an instruction asks for, in the procedure that runs, and no more
abbrev pub Follows : Benched → Benched → Instruction → Result Effect Trap → Type 0
Follows old new i result =
    (here : BenchProcedure) → Runs (setup_of old) old.state here
    → Executes (setup_of old) here old.state i (next_of result new.state)

-- what stands next was carried out, or asks for a number, and no trap was met
pub record CarriesOut (old new : Benched) (effect : Effect) : Type 0 where
  pub next : NextIs (setup_of old) old.state (next_of (Ok effect) new.state)
  pub kept : KeepsUnlessGoes (Ok effect) old new
  pub same : IsSameRun old new
  pub goes_on : GoesOn old new (motion_made (Ok effect))
